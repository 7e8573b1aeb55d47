use Rattle.std.proofs.Common.{arith}
use Rattle.sky_xdr.proofs.Opaques.{opaque_prefix}
use Rattle.sky_xdr.proofs.reader.opaque_of.Goals as goal

pub returns-clause-found : goal.returns-clause-found
returns-clause-found c =
    opaque_prefix c.args.bytes.now c.in_ok-len.rest.now c.in_ok-len.len c.padding_of.result (λ i. omega (arith, c.type_inv.bytes i)) c.in_ok-len.ensures.exact c.padding_of.ensures c.if-rest-whole.false
