use Rattle.std.proofs.Common.{ap, subst, OnOk}
use Rattle.sky_journal.specs.Journal.{JournalView}
use Rattle.sky_calls.specs.Durable.{DurableView}
use Rattle.sky_journal.specs.Lasting.{HoldsMore, LeavesOldOrMore}
use Rattle.sky_calls.proofs.durable.DurableTree.commit.Goals as goal

pub returns-clause-holds : goal.returns-clause-holds
returns-clause-holds g c =
    subst (λ (j : JournalView). OnOk c.commit.result (HoldsMore g.D.Storage c.args.disk.now c.commit.new.disk j c.commit.new.self j.pending))
    (ap (λ (v : DurableView). v.journal) c.self.view_is) c.commit.ensures.holds

pub returns-clause-any_moment : goal.returns-clause-any_moment
returns-clause-any_moment g c =
    subst (λ (j : JournalView). LeavesOldOrMore g.D.Storage c.args.disk.now c.commit.new.disk j j.pending)
    (ap (λ (v : DurableView). v.journal) c.self.view_is) c.commit.ensures.any_moment
