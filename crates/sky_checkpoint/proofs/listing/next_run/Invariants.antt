use Rattle.std.proofs.Common.{◌<◌, take}
use Rattle.sky_base.specs.Limits.{max_number}
use Rattle.sky_checkpoint.specs.SoFar.{GreatestSoFar}
use Rattle.sky_checkpoint.proofs.listing.next_run.Given as goal

abbrev pub invariant-loop-held : goal.invariant-loop-held
invariant-loop-held l = record {
  seen : GreatestSoFar (take l.held-index l.names) l.merged l.greatest;
  in_range : l.greatest < max_number;
}
