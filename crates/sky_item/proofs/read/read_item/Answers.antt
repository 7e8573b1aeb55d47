use Rattle.std.proofs.Common.{arith}
use Rattle.sky_item.proofs.ReadLaws.{gives_found, gives_given}
use Rattle.sky_item.proofs.read.read_item.Goals as goal

pub returns-clause-found : goal.returns-clause-found
returns-clause-found c = gives_found c.read_whole.result c.args.bytes.now (λ i. omega (arith, c.type_inv.bytes i)) c.read_whole.ensures

pub returns-clause-given : goal.returns-clause-given
returns-clause-given c = λ item e. gives_given c.read_whole.result c.args.bytes.now item c.read_whole.ensures e
