use Rattle.sky_calls.proofs.Moments.{committed_moments, holds_committed, holds_waiting, waiting_moments}
use Rattle.sky_calls.proofs.durable.keep.Goals as goal

pub returns-in_err-commit-clause-any_moment : goal.returns-in_err-commit-clause-any_moment
returns-in_err-commit-clause-any_moment g c =
    committed_moments g.D.Storage c.args.disk.now c.commit.new.disk c.args.journal.now c.args.entry.now c.append.new.self
    (rw c.unwrap.ensures at c.append.ensures.appended) c.commit.ensures.any_moment

pub returns-in_ok-commit-clause-any_moment : goal.returns-in_ok-commit-clause-any_moment
returns-in_ok-commit-clause-any_moment g c =
    committed_moments g.D.Storage c.args.disk.now c.commit.new.disk c.args.journal.now c.args.entry.now c.append.new.self
    (rw c.unwrap.ensures at c.append.ensures.appended) c.commit.ensures.any_moment

pub returns-else-stable-clause-any_moment : goal.returns-else-stable-clause-any_moment
returns-else-stable-clause-any_moment g c =
    waiting_moments g.D.Storage c.args.disk.now c.args.journal.now c.args.entry.now c.facts.ensures c.requires.stands

pub returns-in_ok-commit-clause-holds : goal.returns-in_ok-commit-clause-holds
returns-in_ok-commit-clause-holds g c =
    rw c.if-stable.true
    (holds_committed c.args.journal.now c.append.new.self c.commit.new.self c.args.entry.now (g.D.Storage.image c.args.disk.now) (g.D.Storage.image c.commit.new.disk)
    (rw c.unwrap.ensures at c.append.ensures.appended) c.in_ok-commit.ensures.holds)

pub returns-else-stable-clause-holds : goal.returns-else-stable-clause-holds
returns-else-stable-clause-holds g c =
    rw c.if-stable.false
    (holds_waiting c.args.journal.now c.append.new.self c.args.entry.now (g.D.Storage.image c.args.disk.now) (rw c.unwrap.ensures at c.append.ensures.appended))
