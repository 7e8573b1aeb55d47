use Rattle.std.proofs.lemmas.Result.{err_from_is_err_and}
use Rattle.sky_xdr.proofs.Puts.{puts_then, stops_then}
use Rattle.sky_args.specs.Parts.{device_bytes}
use Rattle.sky_args.proofs.attributes.put_device.Goals as goal

pub returns-clause-puts : goal.returns-clause-puts
unfolding device_bytes
returns-clause-puts c = puts_then c.put_u32-2.result _ _ _ _ _ c.in_ok-put_u32.ensures.puts c.put_u32-2.ensures.puts

pub returns-in_err-put_u32-clause-puts : goal.returns-in_err-put_u32-clause-puts
unfolding device_bytes
returns-in_err-put_u32-clause-puts c =
    let p = err_from_is_err_and c.from_residual.result c.from_residual.ensures.1 in
    rw p.1 (stops_then _ _ c.args.writer.now c.in_err-put_u32.ensures.puts)
