use Rattle.std.proofs.Common.{◌≡◌, map, string_bytes, length}
use Rattle.sky_words.specs.Words.{value_of}
use Rattle.sky_words.proofs.options.find_value.Given as goal

abbrev pub invariant-loop-rest : goal.invariant-loop-rest
invariant-loop-rest l = value_of l.fn.name (map string_bytes l.rest) ≡ value_of l.fn.name (map string_bytes l.fn.options)

abbrev pub decreases-loop-rest : goal.decreases-loop-rest
decreases-loop-rest l = length l.rest
