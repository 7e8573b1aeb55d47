use Rattle.std.proofs.lemmas.Result.{err_from_is_err_and}
use Rattle.sky_xdr.proofs.Puts.{puts_then, stops_then}
use Rattle.sky_entry.specs.Entry.{body_bytes}
use Rattle.sky_entry.proofs.writing.put_body.Goals as goal

pub returns-clause-puts : goal.returns-clause-puts
unfolding body_bytes
returns-clause-puts c =
    let head = rw c.procedure_number-procedure.ensures at c.in_ok-put_head.ensures.puts in
    puts_then c.put_args.result _ _ _ _ _ head c.put_args.ensures.puts

pub returns-in_err-put_head-clause-puts : goal.returns-in_err-put_head-clause-puts
unfolding body_bytes
returns-in_err-put_head-clause-puts c =
    let p = err_from_is_err_and c.from_residual.result c.from_residual.ensures.1 in
    let head = rw c.procedure_number-procedure.ensures at c.in_err-put_head.ensures.puts in
    rw p.1 (stops_then _ _ c.args.writer.now head)
