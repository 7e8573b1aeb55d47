use Rattle.std.proofs.Common.{arith}
use Rattle.std.proofs.lemmas.Result.{err_from_is_err_and}
use Rattle.sky_recover.proofs.Replays.{fails_there, one_further, replayed, under_way}
use Rattle.sky_recover.proofs.replaying.replay.Goals as goal

pub entries-init : goal.entries-init
entries-init g c = under_way g.D.Storage c.args.journal.now c.args.disk.now c.args.tree.now c.first-place.result c.requires.read c.first-place.ensures.left

pub returns-in_err-replay_next-clause-foreign : goal.returns-in_err-replay_next-clause-foreign
returns-in_err-replay_next-clause-foreign g c = λ at is.
    fails_there g.D.Storage c.args.journal.now c.args.disk.now c.args.tree.now c.facts.ensures c.requires.read c.entries.disk c.entries.tree c.entries.place c.entries._done c.entries.invariant at
    (omega (arith, c.entries-test.true, c.stored-done-end.ensures)) (c.in_err-replay_next.ensures.foreign at (let p = err_from_is_err_and c.from_residual.result c.from_residual.ensures.1 in rw (p.1, p.2) at is))

pub entries-preserved : goal.entries-preserved
entries-preserved g c =
    let r = c.in_ok-replay_next.ensures.redone in
    one_further g.D.Storage c.args.journal.now c.args.disk.now c.args.tree.now c.facts.ensures c.requires.read c.entries.disk c.entries.tree c.entries.place c.entries._done c.entries.invariant
    c.replay_next.new.disk c.replay_next.new.tree c.replay_next.new.place c.replay_next.ensures.looks (c.in_ok-replay_next.ensures.cause.quiet (λ f. absurd cc)) c.replay_next.ensures.cloud
    (omega (arith, c.entries-test.true, c.stored-done-end.ensures)) r.0 r.1 r.2 r.3

pub returns-clause-replayed : goal.returns-clause-replayed
returns-clause-replayed g c =
    replayed g.D.Storage c.args.journal.now c.args.disk.now c.args.tree.now c.facts.ensures c.requires.read c.entries.disk c.entries.tree c.entries.place c.entries._done c.entries.invariant
    (omega (arith, c.entries-test.false, c.entries.auto._done-end, c.stored-done-end.ensures))
