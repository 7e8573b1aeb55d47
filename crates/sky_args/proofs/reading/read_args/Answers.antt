use Rattle.std.proofs.Common.{arith}
use Rattle.sky_args.proofs.ReadLaws.{gives_called, gives_found, gives_fits, gives_long, gives_given, gives_none, gives_garbage, text_exists}
use Rattle.sky_args.proofs.reading.read_args.Goals as goal

pub returns-clause-called : goal.returns-clause-called
returns-clause-called c = gives_called c.read_whole.result c.args.procedure c.args.bytes.now (λ i. omega (arith, c.type_inv.bytes i)) c.read_whole.ensures.exact

pub returns-clause-found : goal.returns-clause-found
returns-clause-found c = gives_found c.read_whole.result c.args.procedure c.args.bytes.now (λ i. omega (arith, c.type_inv.bytes i)) c.read_whole.ensures.exact

pub returns-clause-fits : goal.returns-clause-fits
returns-clause-fits c = gives_fits c.read_whole.result c.args.procedure c.args.bytes.now (λ i. omega (arith, c.type_inv.bytes i)) c.read_whole.ensures.exact

pub returns-clause-as_long : goal.returns-clause-as_long
returns-clause-as_long c = gives_long c.read_whole.result c.args.procedure c.args.bytes.now (λ i. omega (arith, c.type_inv.bytes i)) c.read_whole.ensures.exact

pub returns-clause-given : goal.returns-clause-given
returns-clause-given c = λ call. gives_given c.read_whole.result c.args.procedure c.args.bytes.now call c.read_whole.ensures.exact

pub returns-clause-no_such_proc : goal.returns-clause-no_such_proc
returns-clause-no_such_proc c = gives_none c.read_whole.result c.args.procedure c.args.bytes.now c.read_whole.ensures.exact (λ e. text_exists c.args.procedure (c.read_whole.ensures.memory e))

pub returns-clause-garbage : goal.returns-clause-garbage
returns-clause-garbage c = gives_garbage c.read_whole.result c.args.procedure c.args.bytes.now c.read_whole.ensures.exact
