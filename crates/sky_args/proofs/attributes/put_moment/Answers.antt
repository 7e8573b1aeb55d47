use Rattle.std.proofs.lemmas.Result.{err_from_is_err_and}
use Rattle.sky_xdr.proofs.Puts.{puts_then, stops_then}
use Rattle.sky_args.specs.Parts.{moment_bytes}
use Rattle.sky_args.proofs.attributes.put_moment.Goals as goal

pub returns : goal.returns
unfolding moment_bytes
returns c = record { puts = puts_then c.put_u32-2.result _ _ _ _ _ c.in_ok-put_u32.ensures.puts c.put_u32-2.ensures.puts }

pub returns-in_err-put_u32 : goal.returns-in_err-put_u32
unfolding moment_bytes
returns-in_err-put_u32 c =
    let p = err_from_is_err_and c.from_residual.result c.from_residual.ensures.1 in
    rw p.1 (record { puts = stops_then _ _ c.args.writer.now c.in_err-put_u32.ensures.puts })
