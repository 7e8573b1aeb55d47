use Rattle.sky_recover.proofs.Settled.{wipe_leaves, read_then, settled_anew, stays_anew, anew_leaves}
use Rattle.sky_recover.proofs.settling.begin_anew.Goals as goal

pub returns-in_err-wipe-clause-any_moment : goal.returns-in_err-wipe-clause-any_moment
returns-in_err-wipe-clause-any_moment g c =
    wipe_leaves g.D.Storage c.args.journal.now c.args.covers c.facts.ensures c.requires.covered c.args.disk.now c.wipe.new.disk c.requires.read c.wipe.ensures.any_moment

pub returns-in_err-rotate-clause-any_moment : goal.returns-in_err-rotate-clause-any_moment
returns-in_err-rotate-clause-any_moment g c =
    anew_leaves g.D.Storage c.args.journal.now c.args.covers c.facts.ensures c.requires.covered c.wipe.new.self c.in_ok-wipe.ensures.ok c.args.disk.now c.wipe.new.disk c.rotate.new.disk
    c.requires.read c.in_ok-wipe.ensures.holds c.wipe.ensures.beside c.wipe.ensures.any_moment c.rotate.ensures.any_moment

pub returns-clause-any_moment : goal.returns-clause-any_moment
returns-clause-any_moment g c =
    anew_leaves g.D.Storage c.args.journal.now c.args.covers c.facts.ensures c.requires.covered c.wipe.new.self c.in_ok-wipe.ensures.ok c.args.disk.now c.wipe.new.disk c.rotate.new.disk
    c.requires.read c.in_ok-wipe.ensures.holds c.wipe.ensures.beside c.wipe.ensures.any_moment c.rotate.ensures.any_moment

pub returns-clause-read : goal.returns-clause-read
returns-clause-read g c =
    read_then g.D.Storage c.args.journal.now c.args.covers c.facts.ensures c.requires.covered c.wipe.new.self c.rotate.new.self c.in_ok-wipe.ensures.ok c.in_ok-rotate.ensures.ok c.requires.number
    c.args.disk.now c.wipe.new.disk c.rotate.new.disk c.requires.read c.in_ok-wipe.ensures.holds c.in_ok-rotate.ensures.holds

pub returns-clause-above : goal.returns-clause-above
returns-clause-above g c =
    stays_anew g.D.Storage c.args.journal.now c.args.covers c.facts.ensures c.requires.covered c.wipe.new.self c.rotate.new.self c.in_ok-wipe.ensures.ok c.in_ok-rotate.ensures.ok c.requires.number
    c.args.disk.now c.wipe.new.disk c.rotate.new.disk c.requires.read c.in_ok-wipe.ensures.holds c.in_ok-rotate.ensures.holds

pub returns-clause-settled : goal.returns-clause-settled
returns-clause-settled g c =
    settled_anew g.D.Storage c.args.journal.now c.args.covers c.facts.ensures c.requires.covered c.wipe.new.self c.rotate.new.self c.in_ok-wipe.ensures.ok c.in_ok-rotate.ensures.ok c.requires.number c.requires.up
