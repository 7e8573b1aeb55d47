use Rattle.std.proofs.Common.{length, ap, arith}
use Rattle.sky_xdr.proofs.Opaques.{length-opaque}
use Rattle.sky_results.proofs.Bounds.{readlink_most}
use Rattle.sky_results.proofs.readings.readlink_is_short.Goals as goal

pub readlink_length-requires : goal.readlink_length-requires
readlink_length-requires c = omega (arith, ap length c.as_slice-text.ensures, readlink_most c.args.r.now, length-opaque c.args.r.now.text)

pub overflow_add-result : goal.overflow_add-result
overflow_add-result c = omega (arith, ap length c.as_slice-text.ensures, readlink_most c.args.r.now, length-opaque c.args.r.now.text)
