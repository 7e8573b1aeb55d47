use Rattle.std.proofs.Common.{◌≡◌, ℕ, Vec, Global, ◌+◌, List, Ok, Err, refl, sym, ap, subst, ◌∙◌}
use Rattle.std.proofs.lemmas.Result.{err_from_is_err_and}
use Rattle.sky_base.specs.declared.place.Location.{Location}
use Rattle.sky_item.specs.declared.lists.NumberedLink.{NumberedLink}
use Rattle.sky_item.specs.Fields.{numbered_at, numbers_behind, all_numbered_at}
use Rattle.sky_item.specs.Taking.{Takes}
use Rattle.sky_item.proofs.Each.{after-push, each_none, each_more, each_refused, pushed}
use Rattle.sky_item.proofs.taking.take_all_numbered.Goals as goal

pub loop-init : goal.loop-init
loop-init c = record {
  taken = rw c.in_ok-items.ensures.items (each_none (numbered_at (c.args.range.1 + 1)) numbers_behind (c.args.range.0, c.args.locations.now) c.args.reader.now);
  state = rw c.in_ok-items.ensures.items refl;
}

pub returns-in_err-item : goal.returns-in_err-item
unfolding all_numbered_at
returns-in_err-item c =
    let p = err_from_is_err_and c.from_residual-in_err-item.result c.from_residual-in_err-item.ensures.1 in
    rw (p.1, p.2)
    (each_refused (numbered_at (c.args.range.1 + 1)) numbers_behind (λ (v : Vec NumberedLink Global). v.items) c.loop.counter c.args.count (c.args.range.0, c.args.locations.now) c.args.reader.now c.loop.items.items c.loop.reader c.take_numbered.new.reader c.in_err-item.field-0.0
    c.loop.invariant.taken (subst (λ (s : ℕ × List Location). Takes (Err c.in_err-item.field-0.0) c.take_numbered.new.reader (numbered_at (c.args.range.1 + 1) s c.loop.reader)) c.loop.invariant.state c.in_err-item.ensures.exact) c.loop-test.true)

pub loop-preserved : goal.loop-preserved
loop-preserved c =
    let items = pushed c.push.result c.push.new.self.items c.loop.items.items c.in_ok-item.item c.in_ok-map_err.ensures.variant c.push.ensures.items in
    record {
      taken = rw items (each_more (numbered_at (c.args.range.1 + 1)) numbers_behind c.loop.counter (c.args.range.0, c.args.locations.now) c.args.reader.now c.loop.items.items c.loop.reader c.in_ok-item.item c.take_numbered.new.reader c.loop.invariant.taken (subst (λ (s : ℕ × List Location). numbered_at (c.args.range.1 + 1) s c.loop.reader ≡ Ok (c.in_ok-item.item, c.take_numbered.new.reader)) c.loop.invariant.state c.in_ok-item.ensures.exact));
      state = rw items (ap (λ (t : List Location). (c.in_ok-item.item.number + 1, t)) c.behind_next-left.ensures ∙ ap (λ (s : ℕ × List Location). numbers_behind s c.in_ok-item.item) c.loop.invariant.state ∙ sym (after-push numbers_behind (c.args.range.0, c.args.locations.now) c.loop.items.items c.in_ok-item.item));
    }
