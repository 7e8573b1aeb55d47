use Rattle.sky_recover.proofs.Continued.{continued_as}
use Rattle.sky_recover.proofs.Keeps.{keeps_start, keeps_looks, keeps_then}
use Rattle.sky_recover.proofs.opening.continue_from.Goals as goal

pub returns-in_err-tree-clause-any_moment : goal.returns-in_err-tree-clause-any_moment
returns-in_err-tree-clause-any_moment g c = keeps_start g.D.Storage c.args.journal.volume c.args.journal.size c.args.disk.now c.requires.stands.durable

pub returns-in_err-replay-clause-any_moment : goal.returns-in_err-replay-clause-any_moment
returns-in_err-replay-clause-any_moment g c =
    keeps_looks g.D.Storage c.args.journal.volume c.args.journal.size c.args.disk.now c.replay.new.disk c.requires.stands.durable c.replay.ensures.looks

pub returns-in_err-settle-clause-any_moment : goal.returns-in_err-settle-clause-any_moment
returns-in_err-settle-clause-any_moment g c =
    keeps_then g.D.Storage c.args.journal.volume c.args.journal.size c.args.disk.now c.replay.new.disk c.settle.new.disk c.requires.stands.durable c.replay.ensures.looks c.settle.ensures.any_moment

pub returns-clause-any_moment : goal.returns-clause-any_moment
returns-clause-any_moment g c =
    keeps_then g.D.Storage c.args.journal.volume c.args.journal.size c.args.disk.now c.replay.new.disk c.settle.new.disk c.requires.stands.durable c.replay.ensures.looks c.settle.ensures.any_moment

pub returns-clause-continued : goal.returns-clause-continued
returns-clause-continued g c =
    continued_as g.D.Storage c.args.volume c.args.journal c.settle.new.journal c.args.disk.now c.replay.new.disk c.settle.new.disk c.replay.new.tree c.in_ok-tree.tree c.new.result c.in_ok-tree.ensures
    c.new.ensures.tree c.new.ensures.journal c.in_ok-replay.ensures.replayed c.replay.ensures.looks c.facts.ensures c.in_ok-settle.ensures.settled c.in_ok-settle.ensures.stands c.requires.read
    c.in_ok-settle.ensures.read c.in_ok-settle.ensures.above
