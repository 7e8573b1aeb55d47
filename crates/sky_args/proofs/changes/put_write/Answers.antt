use Rattle.std.proofs.Common.{Err}
use Rattle.std.proofs.lemmas.Result.{err_from_is_err_and}
use Rattle.sky_xdr.proofs.Puts.{appends_then, puts_then, stops_then}
use Rattle.sky_args.proofs.changes.put_write.Goals as goal

pub returns-clause-puts : goal.returns-clause-puts
returns-clause-puts c =
    let two = appends_then _ _ _ _ _ c.in_ok-put_range.ensures.puts c.in_ok-put_stable_how.ensures.puts in
    puts_then c.put_text.result _ _ _ _ _ two c.put_text.ensures.puts

pub returns-in_err-put_range-clause-puts : goal.returns-in_err-put_range-clause-puts
returns-in_err-put_range-clause-puts c =
    let p = err_from_is_err_and c.from_residual.result c.from_residual.ensures.1 in
    rw p.1 (stops_then _ _ c.args.writer.now (stops_then _ _ c.args.writer.now c.in_err-put_range.ensures.puts))

pub returns-in_err-put_stable_how-clause-puts : goal.returns-in_err-put_stable_how-clause-puts
returns-in_err-put_stable_how-clause-puts c =
    let p = err_from_is_err_and c.from_residual-in_err-put_stable_how.result c.from_residual-in_err-put_stable_how.ensures.1 in
    rw p.1 (stops_then _ _ c.args.writer.now (puts_then {X = Unit {0}} (Err c.in_err-put_stable_how.field-0.0) _ _ c.args.writer.now c.put_range.new.writer c.put_stable_how.new.writer c.in_ok-put_range.ensures.puts c.in_err-put_stable_how.ensures.puts))
