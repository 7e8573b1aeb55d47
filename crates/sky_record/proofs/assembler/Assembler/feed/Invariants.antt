use Rattle.std.proofs.Common.{length, ◌-◌}
use Rattle.sky_record.proofs.Feeding.{GoesOn}
use Rattle.sky_record.proofs.assembler.Assembler.feed.Given as goal

abbrev pub invariant-loop-taken : goal.invariant-loop-taken
invariant-loop-taken l = GoesOn l.initial.self l.self l.taken l.piece

abbrev pub decreases-loop-taken : goal.decreases-loop-taken
decreases-loop-taken l = length l.piece - l.taken
