use Rattle.std.proofs.Common.{◌≤◌, ℕ, Vec, Global, Bor, List, length, arith}
use Rattle.std.proofs.lemmas.Result.{err_from_is_err_and}
use Rattle.sky_item.specs.declared.item.Item.{Item}
use Rattle.sky_segment.proofs.ItemsRead.{items-zero, items_more, items_refused, next_shorter}
use Rattle.sky_segment.proofs.read.take_items.Goals as goal

pub loop-init : goal.loop-init
loop-init c = record { taken = rw c.in-Ok.ensures.items (items-zero c.args.last c.args.bytes.now); within = c.requires }

pub loop-preserved : goal.loop-preserved
loop-preserved c =
    let shorter : length c.in_ok-item.behind.now ≤ length c.loop.rest.now = next_shorter c.args.last c.loop.rest.now c.in_ok-item.item c.in_ok-item.behind.now c.in_ok-item.ensures in
    record {
      taken = rw c.in_ok-push.ensures.ok (items_more c.args.last c.loop.counter c.args.bytes.now c.loop.items.items c.loop.rest.now c.in_ok-item.item c.in_ok-item.behind.now c.loop.invariant.taken c.in_ok-item.ensures);
      within = omega (arith, shorter, c.loop.invariant.within);
    }

pub returns-in_err-item : goal.returns-in_err-item
returns-in_err-item c =
    let p = err_from_is_err_and c.from_residual.result c.from_residual.ensures.1 in
    rw (p.1, p.2)
    (items_refused {X = Item × Bor (List ℕ)} {Y = Vec Item Global × Bor (List ℕ)} (λ x. (x.0, x.1.now)) (λ x. (x.0.items, x.1.now)) c.args.last c.loop.counter c.args.count c.args.bytes.now c.loop.items.items c.loop.rest.now c.in_err-item.field-0.0
    c.loop.invariant.taken c.in_err-item.ensures c.loop-test.true)
