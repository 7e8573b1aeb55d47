use Rattle.std.proofs.Common.{Err}
use Rattle.std.proofs.lemmas.Result.{err_from_is_err_and}
use Rattle.sky_xdr.proofs.Puts.{appends_then, puts_then, stops_then}
use Rattle.sky_entry.proofs.writing.put_head.Goals as goal

pub returns-clause-puts : goal.returns-clause-puts
returns-clause-puts c =
    let two = appends_then _ _ _ _ _ c.in_ok-put_moment.ensures.puts c.in_ok-put_caller.ensures.puts in
    puts_then c.put_u32.result _ _ _ _ _ two c.put_u32.ensures.puts

pub returns-in_err-put_moment-clause-puts : goal.returns-in_err-put_moment-clause-puts
returns-in_err-put_moment-clause-puts c =
    let p = err_from_is_err_and c.from_residual.result c.from_residual.ensures.1 in
    rw p.1 (stops_then _ _ c.args.writer.now (stops_then _ _ c.args.writer.now c.in_err-put_moment.ensures.puts))

pub returns-in_err-put_caller-clause-puts : goal.returns-in_err-put_caller-clause-puts
returns-in_err-put_caller-clause-puts c =
    let p = err_from_is_err_and c.from_residual-in_err-put_caller.result c.from_residual-in_err-put_caller.ensures.1 in
    rw p.1 (stops_then _ _ c.args.writer.now (puts_then {X = Unit {0}} (Err c.in_err-put_caller.field-0.0) _ _ c.args.writer.now c.put_moment.new.writer c.put_caller.new.writer c.in_ok-put_moment.ensures.puts c.in_err-put_caller.ensures.puts))
