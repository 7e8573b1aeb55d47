use Rattle.std.proofs.Common.{arith}
use Rattle.sky_journal.proofs.Inside.{pending_known}
use Rattle.sky_journal.proofs.journal.Journal.wanted.Goals as goal

pub returns : goal.returns
returns c =
    let pending = pending_known c.self.inside c.args.self.now c.self.invariant c.self.view_is in
    omega (arith, c.len.ensures, pending.1)
