-- Each line is one line.
use Rattle.std.proofs.Common.{◌≢◌, ℕ, zero, suc, List, [], ◌∷◌, map, refl, arith}
use Rattle.std.specs.Prelude.{slice_index}
use Rattle.sky_show.specs.Line.{in_line, line, IsLine}

-- a byte within a line ends none
within : (x : ℕ) → in_line x ≢ 10
within x = grind arith

no_end : (xs : List ℕ) (i : ℕ) → slice_index (map in_line xs) i ≢ 10
no_end [] i = grind arith
no_end (x ∷ xs) zero = within x
no_end (x ∷ xs) (suc i) = no_end xs i

-- the line of a text is one line
pub each_line : (text : List ℕ) → IsLine (line text)
each_line text = record { text = map in_line text; within = no_end text; ended = refl }
