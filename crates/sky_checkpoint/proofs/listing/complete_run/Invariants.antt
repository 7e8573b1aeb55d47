use Rattle.std.proofs.Common.{take}
use Rattle.sky_checkpoint.specs.SoFar.{LeastSoFar}
use Rattle.sky_checkpoint.proofs.listing.complete_run.Given as goal

abbrev pub invariant-loop-held : goal.invariant-loop-held
invariant-loop-held l = LeastSoFar (take l.held-index l.names) l.above l.least
