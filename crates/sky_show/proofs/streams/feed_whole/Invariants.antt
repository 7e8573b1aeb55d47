use Rattle.std.proofs.Common.{◌-◌, ◌≤◌, length}
use Rattle.sky_show.specs.Waiting.{HasMore}
use Rattle.sky_show.proofs.streams.feed_whole.Given as goal

abbrev pub invariant-loop-at : goal.invariant-loop-at
invariant-loop-at l = (l.at ≤ length l.piece) × HasMore l.initial.waiting l.waiting

abbrev pub decreases-loop-at : goal.decreases-loop-at
decreases-loop-at l = length l.piece - l.at
