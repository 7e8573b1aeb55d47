-- Lines of text.
use Rattle.std.specs.Prelude.{◌≡◌, ◌≢◌, ◌==◌, ℕ, List, [], ◌∷◌, ◌++◌, map, slice_index, if◌then◌else◌}

-- a byte within a line: a space in place of a line end
abbrev pub in_line : ℕ → ℕ
in_line byte = if byte == 10 then 32 else byte

-- the line of a text: the text, and then a line end
abbrev pub line : List ℕ → List ℕ
line text = map in_line text ++ 10 ∷ []

-- no byte ends a line (slice_index gives 0 behind the last one)
abbrev pub HasNoLineEnd : List ℕ → Type 0
HasNoLineEnd bytes = (i : ℕ) → slice_index bytes i ≢ 10

-- bytes are one line: a text without a line end, and then one
pub record IsLine (bytes : List ℕ) : Type 0 where
  pub text : List ℕ
  pub within : HasNoLineEnd text
  pub ended : bytes ≡ text ++ 10 ∷ []
