use Rattle.std.proofs.Common.{arith}
use Rattle.sky_base.specs.declared.moment.Moment.{Moment}
use Rattle.sky_script.specs.Beginning.{refused_moment}
use Rattle.sky_script.proofs.Headers.{moment_is, in_moment}
use Rattle.sky_script.proofs.reading.moment_in.Goals as goal

pub returns-then-at-lt-SECOND-clause-encoded : goal.returns-then-at-lt-SECOND-clause-encoded
returns-then-at-lt-SECOND-clause-encoded c =
    let at : Moment = record { seconds = c.read_u32.result; nanos = c.read_u32-2.result } in
    in_moment c.args.payload.now at (moment_is c.args.payload.now at.seconds at.nanos (λ i. omega (arith, c.type_inv.payload i)) c.requires c.read_u32.ensures c.read_u32-2.ensures)

pub returns-else-at-lt-SECOND-clause-refused : goal.returns-else-at-lt-SECOND-clause-refused
returns-else-at-lt-SECOND-clause-refused c =
    let at : Moment = record { seconds = c.read_u32.result; nanos = c.read_u32-2.result } in
    let split = moment_is c.args.payload.now at.seconds at.nanos (λ i. omega (arith, c.type_inv.payload i)) c.requires c.read_u32.ensures c.read_u32-2.ensures in
    refused_moment at c.read_u32.type_inv c.read_u32-2.type_inv (in_moment c.args.payload.now at split) c.if-at-lt-SECOND.false
