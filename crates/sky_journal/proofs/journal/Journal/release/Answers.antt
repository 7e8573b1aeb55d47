use Rattle.std.proofs.Common.{[]}
use Rattle.sky_journal.specs.Journal.{ReadsEntries, without_older}
use Rattle.sky_journal.proofs.Calls.{still_from}
use Rattle.sky_journal.proofs.Inside.{journal_known}
use Rattle.sky_journal.proofs.Rest.{rest_same}
use Rattle.sky_journal.proofs.journal.Journal.release.Goals as goal

pub returns-in-None-clause-any_moment : goal.returns-in-None-clause-any_moment
returns-in-None-clause-any_moment g c =
    still_from g.D.Storage c.args.disk.now c.args.self.now (λ older newer left. ReadsEntries (without_older c.args.self.now) [] newer left)
    (journal_known c.self.inside c.args.self.now c.self.invariant c.self.view_is) c.requires.stands.durable

pub returns-in-None-clause-rest : goal.returns-in-None-clause-rest
returns-in-None-clause-rest g c = rest_same c.args.self.now (g.D.Storage.image c.args.disk.now)
