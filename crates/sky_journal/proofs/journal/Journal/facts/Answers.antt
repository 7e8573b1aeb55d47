use Rattle.sky_journal.proofs.Inside.{journal_known}
use Rattle.sky_journal.proofs.journal.Journal.facts.Goals as goal

pub returns : goal.returns
returns c = journal_known c.self.inside c.args.self.now c.self.invariant c.self.view_is
