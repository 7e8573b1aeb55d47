use Rattle.std.proofs.lemmas.Result.{err_from_is_err_and}
use Rattle.sky_item.specs.Encoding.{numbered_bytes}
use Rattle.sky_item.proofs.Puts.{appends_stops}
use Rattle.sky_item.proofs.writing.put_each_numbered.Goals as goal

pub returns-in_err-put_numbered : goal.returns-in_err-put_numbered
returns-in_err-put_numbered c =
    let p = err_from_is_err_and c.from_residual.result c.from_residual.ensures.1 in
    rw p.1 (appends_stops numbered_bytes c.args.items.now c.loop-item.item-index _ c.args.out.now c.loop-item.out c.loop-item-test.true c.loop-item.invariant c.in_err-put_numbered.ensures)
