use Rattle.std.proofs.Common.{ℕ, List, ◌<◌, length, subst}
use Rattle.std.proofs.lemmas.Result.{err_from_is_err_and}
use Rattle.sky_item.specs.Encoding.{row_bytes}
use Rattle.sky_item.specs.Writing.{room_of}
use Rattle.sky_item.proofs.Puts.{appends_stops}
use Rattle.sky_item.proofs.writing.put_rows.Goals as goal

pub returns-in_err-put_row : goal.returns-in_err-put_row
returns-in_err-put_row c =
    let p = err_from_is_err_and c.from_residual.result c.from_residual.ensures.1 in
    let short = subst (λ (t : ℕ × List ℕ × ℕ). room_of c.loop-row.out < length (row_bytes t)) c.row-item.is c.in_err-put_row.ensures in
    rw p.1 (appends_stops row_bytes c.args.rows.now c.loop-row.row-index c.row-item.result c.args.out.now c.loop-row.out c.loop-row-test.true c.loop-row.invariant short)
