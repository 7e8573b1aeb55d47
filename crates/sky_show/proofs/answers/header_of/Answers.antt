use Rattle.std.proofs.Common.{arith}
use Rattle.sky_show.proofs.Headers.{header_is}
use Rattle.sky_show.proofs.answers.header_of.Goals as goal

pub returns : goal.returns
returns c =
    header_is c.args.bytes.now c.read_u32.result c.read_u32-2.result (λ i. omega (arith, c.type_inv.bytes i)) c.requires c.read_u32.ensures c.read_u32-2.ensures
