use Rattle.std.proofs.Common.{arith}
use Rattle.sky_entry.proofs.ReadLaws.{gives_found, gives_count, gives_within, gives_changes, gives_given, gives_bad}
use Rattle.sky_entry.proofs.reading.read_entry.Goals as goal

pub returns-clause-found : goal.returns-clause-found
returns-clause-found c = gives_found c.read_first.result c.args.bytes.now (λ i. omega (arith, c.type_inv.bytes i)) c.read_first.ensures

pub returns-clause-count : goal.returns-clause-count
returns-clause-count c = gives_count c.read_first.result c.args.bytes.now (λ i. omega (arith, c.type_inv.bytes i)) c.read_first.ensures

pub returns-clause-within : goal.returns-clause-within
returns-clause-within c = gives_within c.read_first.result c.args.bytes.now (λ i. omega (arith, c.type_inv.bytes i)) c.read_first.ensures

pub returns-clause-changes : goal.returns-clause-changes
returns-clause-changes c = gives_changes c.read_first.result c.args.bytes.now (λ i. omega (arith, c.type_inv.bytes i)) c.read_first.ensures

pub returns-clause-given : goal.returns-clause-given
returns-clause-given c = λ change rest. gives_given c.read_first.result c.args.bytes.now change rest c.read_first.ensures

pub returns-clause-bad : goal.returns-clause-bad
returns-clause-bad c = λ e change rest. gives_bad c.read_first.result c.args.bytes.now change rest c.read_first.ensures e
