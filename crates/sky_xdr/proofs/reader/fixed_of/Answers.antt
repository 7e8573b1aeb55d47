use Rattle.sky_xdr.proofs.FixedData.{fixed_prefix}
use Rattle.sky_xdr.proofs.reader.fixed_of.Goals as goal

pub returns-clause-found : goal.returns-clause-found
returns-clause-found c = fixed_prefix c.args.bytes.now c.args.len c.padding_of.result c.padding_of.ensures c.if-bytes-whole.false
