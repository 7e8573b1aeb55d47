use Rattle.std.proofs.Common.{length, ap, arith}
use Rattle.sky_xdr.proofs.Opaques.{length-opaque}
use Rattle.sky_results.proofs.Bounds.{read_most}
use Rattle.sky_results.proofs.readings.read_is_short.Goals as goal

pub read_length-requires : goal.read_length-requires
read_length-requires c = omega (arith, ap length c.as_slice-data.ensures, read_most c.args.r.now, length-opaque c.args.r.now.«data»)

pub overflow_add-result : goal.overflow_add-result
overflow_add-result c = omega (arith, ap length c.as_slice-data.ensures, read_most c.args.r.now, length-opaque c.args.r.now.«data»)
