-- Records and their fragments: record marking, RFC 5531, section 11.
use Rattle.std.specs.Prelude.{◌≡◌, ℕ, ◌+◌, ◌^◌, ◌≤◌, Bool, true, false, List, [], ◌∷◌, ◌++◌, length, if◌then◌else◌}
use Rattle.std.specs.List.{flat_map, AllByRecursion}
use Rattle.std.specs.Int.{w32, to_be_bytes}
use Rattle.sky_base.specs.Limits.{max_record_bytes}

-- a fragment: whether it is the last of its record, and its bytes
pub record Fragment : Type 0 where
  pub last : Bool
  pub bytes : List ℕ

-- a header, four bytes, the highest first: the highest bit says "last", the other 31 are the fragment's length
abbrev pub header : Bool → ℕ → List ℕ
header last size = to_be_bytes w32 (if last then 2 ^ 31 + size else size)

-- a fragment on the stream: its header, and then its bytes
abbrev pub fragment : Fragment → List ℕ
fragment f = header f.last (length f.bytes) ++ f.bytes

-- fragments on the stream, one after the other
abbrev pub encoding : List Fragment → List ℕ
encoding fragments = flat_map fragment fragments

-- the bytes of fragments, joined
abbrev pub joined : List Fragment → List ℕ
joined fragments = flat_map (λ f. f.bytes) fragments

-- none of the fragments is the last of its record
abbrev pub NoneLast : List Fragment → Type 0
NoneLast fragments = AllByRecursion (λ f. f.last ≡ false) fragments

-- only the final fragment is the last, so the list is a whole record's
abbrev pub IsWhole : List Fragment → Type 0
IsWhole [] = ⊥
IsWhole (f ∷ []) = f.last ≡ true
IsWhole (f ∷ g ∷ others) = (f.last ≡ false) × IsWhole (g ∷ others)

-- The text is a whole record of these bytes, as some fragments, and within the limit.
pub record IsRecord (text bytes : List ℕ) : Type 0 where
  pub fragments : List Fragment
  pub whole : IsWhole fragments
  pub encoded : text ≡ encoding fragments
  pub joins : bytes ≡ joined fragments
  pub within : length bytes ≤ max_record_bytes

-- The text is fragments of a record that goes on after them, and these bytes are theirs.
pub record IsRecordPrefix (text bytes : List ℕ) : Type 0 where
  pub fragments : List Fragment
  pub none_last : NoneLast fragments
  pub encoded : text ≡ encoding fragments
  pub joins : bytes ≡ joined fragments
  pub within : length bytes ≤ max_record_bytes
