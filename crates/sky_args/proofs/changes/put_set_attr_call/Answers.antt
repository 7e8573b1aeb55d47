use Rattle.std.proofs.Common.{Err}
use Rattle.std.proofs.lemmas.Result.{err_from_is_err_and}
use Rattle.sky_xdr.proofs.Puts.{appends_then, puts_then, stops_then}
use Rattle.sky_args.proofs.changes.put_set_attr_call.Goals as goal

pub returns-clause-puts : goal.returns-clause-puts
returns-clause-puts c =
    let two = appends_then _ _ _ _ _ c.in_ok-put_handle.ensures.puts c.in_ok-put_set_attr.ensures.puts in
    puts_then c.put_guard.result _ _ _ _ _ two c.put_guard.ensures.puts

pub returns-in_err-put_handle-clause-puts : goal.returns-in_err-put_handle-clause-puts
returns-in_err-put_handle-clause-puts c =
    let p = err_from_is_err_and c.from_residual.result c.from_residual.ensures.1 in
    rw p.1 (stops_then _ _ c.args.writer.now (stops_then _ _ c.args.writer.now c.in_err-put_handle.ensures.puts))

pub returns-in_err-put_set_attr-clause-puts : goal.returns-in_err-put_set_attr-clause-puts
returns-in_err-put_set_attr-clause-puts c =
    let p = err_from_is_err_and c.from_residual-in_err-put_set_attr.result c.from_residual-in_err-put_set_attr.ensures.1 in
    rw p.1 (stops_then _ _ c.args.writer.now (puts_then {X = Unit {0}} (Err c.in_err-put_set_attr.field-0.0) _ _ c.args.writer.now c.put_handle.new.writer c.put_set_attr.new.writer c.in_ok-put_handle.ensures.puts c.in_err-put_set_attr.ensures.puts))
