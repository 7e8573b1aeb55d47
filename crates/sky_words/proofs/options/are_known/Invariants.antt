use Rattle.std.proofs.Common.{◌≡◌, map, string_bytes, length}
use Rattle.sky_words.specs.Words.{are_options, known_to}
use Rattle.sky_words.proofs.options.are_known.Given as goal

abbrev pub invariant-loop-rest : goal.invariant-loop-rest
invariant-loop-rest l = are_options (known_to l.fn.command) (map string_bytes l.rest) ≡ are_options (known_to l.fn.command) (map string_bytes l.fn.options)

abbrev pub decreases-loop-rest : goal.decreases-loop-rest
decreases-loop-rest l = length l.rest
