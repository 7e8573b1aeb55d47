use Rattle.std.proofs.Common.{◌≡◌, ◌++◌, map}
use Rattle.sky_outside.specs.CloudMap.{held_of}
use Rattle.sky_memory.specs.Objects.{pairs_of}
use Rattle.sky_memory.proofs.objects.Objects.list.Given as goal

abbrev pub invariant-loop-name : goal.invariant-loop-name
invariant-loop-name l = l.listed.items ++ map held_of (pairs_of l.name-iterator) ≡ map held_of l.self
