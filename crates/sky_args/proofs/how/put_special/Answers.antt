use Rattle.std.proofs.lemmas.Result.{err_from_is_err_and}
use Rattle.sky_xdr.proofs.Puts.{puts_then, stops_then}
use Rattle.sky_args.proofs.how.put_special.Goals as goal

pub returns-clause-puts : goal.returns-clause-puts
returns-clause-puts c = puts_then c.put_device.result _ _ _ _ _ c.in_ok-put_numbered.ensures.puts c.put_device.ensures.puts

pub returns-in_err-put_numbered-clause-puts : goal.returns-in_err-put_numbered-clause-puts
returns-in_err-put_numbered-clause-puts c =
    let p = err_from_is_err_and c.from_residual.result c.from_residual.ensures.1 in
    rw p.1 (stops_then _ _ c.args.writer.now c.in_err-put_numbered.ensures.puts)
