use Rattle.std.proofs.Common.{Vec, Global}
use Rattle.std.proofs.lemmas.Result.{err_from_is_err_and}
use Rattle.sky_base.specs.declared.place.Location.{Location}
use Rattle.sky_item.specs.Fields.{location_at, locations_at}
use Rattle.sky_item.proofs.Each.{each_none, each_more, each_refused, pushed}
use Rattle.sky_item.proofs.taking.take_locations.Goals as goal

pub loop-init : goal.loop-init
loop-init c = record {
  taken = rw c.in_ok-items.ensures.items (each_none (λ _. location_at) (λ s at. s) (tt {0}) c.args.reader.now);
}

pub returns-in_err-at : goal.returns-in_err-at
unfolding locations_at
returns-in_err-at c =
    let p = err_from_is_err_and c.from_residual-in_err-at.result c.from_residual-in_err-at.ensures.1 in
    rw (p.1, p.2)
    (each_refused (λ _. location_at) (λ s at. s) (λ (v : Vec Location Global). v.items) c.loop.counter c.args.count (tt {0}) c.args.reader.now c.loop.items.items c.loop.reader c.take_location.new.reader c.in_err-at.field-0.0
    c.loop.invariant.taken c.in_err-at.ensures c.loop-test.true)

pub loop-preserved : goal.loop-preserved
loop-preserved c =
    let items = pushed c.push.result c.push.new.self.items c.loop.items.items c.in_ok-at.at c.in_ok-map_err.ensures.variant c.push.ensures.items in
    record {
      taken = rw items (each_more (λ _. location_at) (λ s at. s) c.loop.counter (tt {0}) c.args.reader.now c.loop.items.items c.loop.reader c.in_ok-at.at c.take_location.new.reader c.loop.invariant.taken c.in_ok-at.ensures);
    }
