use Rattle.std.proofs.Common.{◌+◌, ◌++◌, List, ℕ, Some, length, sym, ◌∙◌, ap}
use Rattle.sky_outside.specs.Told.{BothTold}
use Rattle.sky_journal.specs.Journal.{StandsFor, StandsOn, SameButSpare, after_commit}
use Rattle.sky_journal.proofs.Committing.{nothing_pending, nothing_counted, no_change}
use Rattle.sky_journal.proofs.Disks.{ok_then}
use Rattle.sky_journal.proofs.Idle.{CommitLasts, idle_moments, idle_lasts, idle_holds, commit_lasts}
use Rattle.sky_journal.proofs.Inside.{journal_known, pending_known}
use Rattle.sky_journal.proofs.Rest.{rest_same}
use Rattle.sky_outside.specs.Told.{WhereTold}
use Rattle.sky_journal.specs.Written.{HasBatchUnused}
use Rattle.sky_journal.proofs.Inside.{newer_known}
use Rattle.sky_journal.proofs.Unused.{where_open}
use Rattle.sky_journal.proofs.journal.Journal.commit.Goals as goal

pub returns-in_default-clause-ok : goal.returns-in_default-clause-ok
returns-in_default-clause-ok g c =
    let v = c.args.self.now in
    no_change v (nothing_pending c.self.inside v c.self.invariant c.self.view_is c.in_default.is)

pub returns-in_default-clause-any_moment : goal.returns-in_default-clause-any_moment
returns-in_default-clause-any_moment g c =
    let v = c.args.self.now in
    idle_moments g.D.Storage c.args.disk.now v (journal_known c.self.inside v c.self.invariant c.self.view_is) c.requires.stands

pub returns-in_default-clause-durable : goal.returns-in_default-clause-durable
returns-in_default-clause-durable g c =
    let v = c.args.self.now in
    idle_lasts g.D.Storage c.args.disk.now v (journal_known c.self.inside v c.self.invariant c.self.view_is) c.requires.stands
    (nothing_pending c.self.inside v c.self.invariant c.self.view_is c.in_default.is)

pub returns-then-self-eq0-clause-ok : goal.returns-then-self-eq0-clause-ok
returns-then-self-eq0-clause-ok g c =
    let v = c.args.self.now in
    no_change v (nothing_counted c.self.inside v c.self.invariant c.self.view_is c.if-self-eq0.true)

pub returns-then-self-eq0-clause-any_moment : goal.returns-then-self-eq0-clause-any_moment
returns-then-self-eq0-clause-any_moment g c =
    let v = c.args.self.now in
    idle_moments g.D.Storage c.args.disk.now v (journal_known c.self.inside v c.self.invariant c.self.view_is) c.requires.stands

pub returns-then-self-eq0-clause-durable : goal.returns-then-self-eq0-clause-durable
returns-then-self-eq0-clause-durable g c =
    let v = c.args.self.now in
    idle_lasts g.D.Storage c.args.disk.now v (journal_known c.self.inside v c.self.invariant c.self.view_is) c.requires.stands
    (nothing_counted c.self.inside v c.self.invariant c.self.view_is c.if-self-eq0.true)

pub commit_to-requires-clause-some : goal.commit_to-requires-clause-some
commit_to-requires-clause-some g c none =
    let pending = pending_known c.self.inside c.args.self.now c.self.invariant c.self.view_is in
    c.if-self-eq0.false (sym pending.0 ∙ ap (λ (l : List (List ℕ)). length l) none)

pub returns-clause-durable : goal.returns-clause-durable
returns-clause-durable g c =
    let v = c.args.self.now in
    ok_then c.commit_to.result (SameButSpare (after_commit v) c.commit_to.new.self)
    (BothTold (λ old new. (older newer : List (List ℕ)) → StandsFor v old older newer → StandsFor c.commit_to.new.self new older (newer ++ v.pending)) (g.D.Storage.image c.args.disk.now) (g.D.Storage.image c.commit_to.new.disk))
    (StandsOn g.D.Storage c.commit_to.new.self c.commit_to.new.disk) (CommitLasts g.D.Storage c.args.disk.now c.commit_to.new.disk v)
    c.commit_to.ensures.ok c.commit_to.ensures.holds c.commit_to.ensures.stands
    (λ ok holds stands. commit_lasts g.D.Storage c.args.disk.now v (journal_known c.self.inside v c.self.invariant c.self.view_is) c.requires.stands c.commit_to.new.disk c.commit_to.new.self ok holds stands)

pub returns-clause-quiet : goal.returns-clause-quiet
returns-clause-quiet g c none =
    let pending = pending_known c.self.inside c.args.self.now c.self.invariant c.self.view_is in
    absurd (c.if-self-eq0.false (sym pending.0 ∙ ap (λ (l : List (List ℕ)). length l) none))

pub returns-then-self-eq0-clause-holds : goal.returns-then-self-eq0-clause-holds
returns-then-self-eq0-clause-holds g c =
    let v = c.args.self.now in
    idle_holds v (nothing_counted c.self.inside v c.self.invariant c.self.view_is c.if-self-eq0.true) (g.D.Storage.image c.args.disk.now)

pub returns-in_default-clause-holds : goal.returns-in_default-clause-holds
returns-in_default-clause-holds g c =
    let v = c.args.self.now in
    idle_holds v (nothing_pending c.self.inside v c.self.invariant c.self.view_is c.in_default.is) (g.D.Storage.image c.args.disk.now)

pub returns-in_default-clause-rest : goal.returns-in_default-clause-rest
returns-in_default-clause-rest g c = rest_same c.args.self.now (g.D.Storage.image c.args.disk.now)

pub returns-then-self-eq0-clause-rest : goal.returns-then-self-eq0-clause-rest
returns-then-self-eq0-clause-rest g c = rest_same c.args.self.now (g.D.Storage.image c.args.disk.now)

pub returns-in_default-clause-unused : goal.returns-in_default-clause-unused
returns-in_default-clause-unused g c some =
    let v = c.args.self.now in absurd (some (nothing_pending c.self.inside v c.self.invariant c.self.view_is c.in_default.is))

pub returns-then-self-eq0-clause-unused : goal.returns-then-self-eq0-clause-unused
returns-then-self-eq0-clause-unused g c some =
    let v = c.args.self.now in absurd (some (nothing_counted c.self.inside v c.self.invariant c.self.view_is c.if-self-eq0.true))

pub returns-clause-unused : goal.returns-clause-unused
returns-clause-unused g c =
    let v = c.args.self.now in
    where_open c.commit_to.result v.newer c.in-Some.area (λ a. WhereTold (g.D.Storage.image c.commit_to.new.disk) (HasBatchUnused (a.start + a.end))) _
    (newer_known c.self.inside v (Some c.in-Some.area) c.self.view_is c.in-Some.is) c.commit_to.ensures.unused
