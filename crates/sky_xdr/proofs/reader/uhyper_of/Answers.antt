use Rattle.std.proofs.Common.{arith}
use Rattle.sky_xdr.proofs.Numbers.{uhyper_prefix}
use Rattle.sky_xdr.proofs.reader.uhyper_of.Goals as goal

pub returns-clause-found : goal.returns-clause-found
returns-clause-found c = uhyper_prefix _ _ _ _ (λ i. omega (arith, c.type_inv.bytes i)) c.if-bytes-lt8.false c.split_at.ensures.front c.split_at.ensures.back c.read_u64.ensures
