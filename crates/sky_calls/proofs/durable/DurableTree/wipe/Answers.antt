use Rattle.std.proofs.Common.{◌⊎◌, ℕ, List, [], OnOk, ap, subst}
use Rattle.sky_outside.specs.Moments.{LeavesOnly, BesideObjects}
use Rattle.sky_outside.specs.Told.{WhereTold, BothTold}
use Rattle.sky_journal.specs.Journal.{JournalView, StandsFor, ReadsEntries, without_newer, wiped}
use Rattle.sky_calls.specs.Durable.{DurableView}
use Rattle.sky_calls.proofs.durable.DurableTree.wipe.Goals as goal

pub returns-clause-holds : goal.returns-clause-holds
returns-clause-holds g c =
    subst (λ (j : JournalView). OnOk c.wipe.result (BothTold (λ old new. (older newer : List (List ℕ)) → StandsFor j old older newer
    → StandsFor c.wipe.new.self new [] []) (g.D.Storage.image c.args.disk.now) (g.D.Storage.image c.wipe.new.disk)))
    (ap (λ (v : DurableView). v.journal) c.self.view_is) c.wipe.ensures.holds

pub returns-clause-any_moment : goal.returns-clause-any_moment
returns-clause-any_moment g c =
    subst (λ (j : JournalView). WhereTold (g.D.Storage.image c.args.disk.now) (λ image. (older newer : List (List ℕ)) → StandsFor j image older newer
    → LeavesOnly g.D.Storage c.args.disk.now c.wipe.new.disk (BesideObjects g.D.Storage c.args.disk.now
    (λ left. ReadsEntries j older newer left ⊎ ReadsEntries (without_newer j) [] older left ⊎ ReadsEntries (wiped j) [] [] left))))
    (ap (λ (v : DurableView). v.journal) c.self.view_is) c.wipe.ensures.any_moment
