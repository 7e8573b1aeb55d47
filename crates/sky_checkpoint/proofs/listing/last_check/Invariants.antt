use Rattle.std.proofs.Common.{take}
use Rattle.sky_checkpoint.specs.SoFar.{LastSoFar}
use Rattle.sky_checkpoint.proofs.listing.last_check.Given as goal

abbrev pub invariant-loop-held : goal.invariant-loop-held
invariant-loop-held l = LastSoFar (take l.held-index l.names) l.last
