use Rattle.std.proofs.Common.{◌≡◌, ◌++◌}
use Rattle.sky_memory.specs.Objects.{pairs_of}
use Rattle.sky_memory.proofs.objects.Objects.to_pairs.Given as goal

abbrev pub invariant-loop-name : goal.invariant-loop-name
invariant-loop-name l = pairs_of l.pairs.items ++ pairs_of l.name-iterator ≡ l.self
