use Rattle.std.proofs.Common.{◌≡◌, ◌++◌, map}
use Rattle.sky_real.specs.Lengths.{held_with}
use Rattle.sky_real.proofs.lengths.Lengths.to_list.Given as goal

-- what is listed, and then what is left of the map, is all of it
abbrev pub invariant-loop-name : goal.invariant-loop-name
invariant-loop-name l = l.listed.items ++ map held_with l.name-iterator ≡ map held_with l.self
