use Rattle.std.proofs.Common.{arith}
use Rattle.sky_segment.proofs.ObjectLaws.{gives_found, gives_given}
use Rattle.sky_segment.proofs.read.read_segment.Goals as goal

pub returns-clause-found : goal.returns-clause-found
returns-clause-found c = gives_found c.read_whole.result c.args.name c.args.bytes.now c.requires.run c.requires.seq (λ i. omega (arith, c.type_inv.bytes i)) c.read_whole.ensures

pub returns-clause-given : goal.returns-clause-given
returns-clause-given c = λ items e. gives_given c.read_whole.result c.args.name c.args.bytes.now items c.read_whole.ensures e
