use Rattle.std.proofs.Common.{subst}
use Rattle.sky_journal.specs.Journal.{IsJournal}
use Rattle.sky_journal.proofs.EntryPlaces.{entries_lie}
use Rattle.sky_journal.proofs.journal.Journal.first.Goals as goal

pub returns-clause-lie : goal.returns-clause-lie
returns-clause-lie c = λ image older newer stands. entries_lie c.args.self.now image older newer (subst IsJournal c.self.view_is c.self.invariant.0) stands
