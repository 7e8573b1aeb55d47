use Rattle.sky_recover.proofs.Settled.{low_from, released_leaves, released_then, settled_released, settled_still, still_leaves, stays_released}
use Rattle.sky_recover.proofs.settling.release_covered.Goals as goal

pub returns-in_err-release-clause-any_moment : goal.returns-in_err-release-clause-any_moment
returns-in_err-release-clause-any_moment g c =
    released_leaves c.args.journal.now c.args.covers c.facts.ensures (low_from c.args.journal.now.older c.args.covers (c.older_is_covered.ensures.covered c.if-older_is_covered.true))
    g.D.Storage c.args.disk.now c.release.new.disk c.requires.read c.release.ensures.any_moment

pub returns-in_ok-release-clause-read : goal.returns-in_ok-release-clause-read
returns-in_ok-release-clause-read g c =
    released_then c.args.journal.now c.args.covers c.facts.ensures (low_from c.args.journal.now.older c.args.covers (c.older_is_covered.ensures.covered c.if-older_is_covered.true))
    c.release.new.self c.in_ok-release.ensures.ok g.D.Storage c.args.disk.now c.release.new.disk c.requires.read c.in_ok-release.ensures.holds

pub returns-in_ok-release-clause-above : goal.returns-in_ok-release-clause-above
returns-in_ok-release-clause-above g c =
    stays_released c.args.journal.now c.args.covers c.facts.ensures (low_from c.args.journal.now.older c.args.covers (c.older_is_covered.ensures.covered c.if-older_is_covered.true))
    c.release.new.self c.in_ok-release.ensures.ok g.D.Storage c.args.disk.now c.release.new.disk c.requires.read c.in_ok-release.ensures.holds

pub returns-in_ok-release-clause-any_moment : goal.returns-in_ok-release-clause-any_moment
returns-in_ok-release-clause-any_moment g c =
    released_leaves c.args.journal.now c.args.covers c.facts.ensures (low_from c.args.journal.now.older c.args.covers (c.older_is_covered.ensures.covered c.if-older_is_covered.true))
    g.D.Storage c.args.disk.now c.release.new.disk c.requires.read c.release.ensures.any_moment

pub returns-else-older_is_covered-clause-any_moment : goal.returns-else-older_is_covered-clause-any_moment
returns-else-older_is_covered-clause-any_moment g c = still_leaves g.D.Storage c.args.journal.now c.args.covers c.args.disk.now c.requires.stands.durable

pub returns-in_ok-release-clause-settled : goal.returns-in_ok-release-clause-settled
returns-in_ok-release-clause-settled g c =
    settled_released c.args.journal.now c.args.covers c.facts.ensures (low_from c.args.journal.now.older c.args.covers (c.older_is_covered.ensures.covered c.if-older_is_covered.true))
    c.release.new.self c.in_ok-release.ensures.ok c.requires.above c.requires.pending c.requires.up

pub returns-else-older_is_covered-clause-settled : goal.returns-else-older_is_covered-clause-settled
returns-else-older_is_covered-clause-settled g c =
    settled_still c.args.journal.now c.args.covers c.requires.above c.requires.pending c.requires.up (c.older_is_covered.ensures.uncovered c.if-older_is_covered.false)
