use Rattle.std.proofs.Common.{◌≡◌, ◌≤◌, drop, length}
use Rattle.sky_memory.specs.Objects.{map_of, pairs_of}
use Rattle.sky_memory.proofs.objects.Objects.of.Given as goal

abbrev pub invariant-loop-left : goal.invariant-loop-left
invariant-loop-left l = record {
  within : l.left ≤ length l.held;
  held : map_of l.objects ≡ map_of (pairs_of (drop l.left l.held));
}

abbrev pub decreases-loop-left : goal.decreases-loop-left
decreases-loop-left l = l.left
