-- Reading fields from left to right: a value and the bytes behind it, or how many bytes are left from the first field on that is
-- not of the format. A field that passes the end is such a field.
use Rattle.std.specs.Prelude.{ℕ, zero, suc, Bool, ◌&&◌, List, [], ◌∷◌, length, take, drop, Result, Ok, Err, nat_lt, nat_le, if◌then◌else◌}
use Rattle.std.specs.Int.{w16, from_be_bytes}
use Rattle.sky_xdr.specs.declared.fault.XdrFault.{XdrFault}
use Rattle.sky_xdr.specs.Reading.{uint_at, uhyper_at}

-- what reads a value
abbrev pub Reader : Type 0 → Type 0
Reader A = List ℕ → Result (A × List ℕ) ℕ

-- the field that begins here is not of the format
abbrev pub refused : {A : Type 0} → List ℕ → Result A ℕ
refused bytes = Err (length bytes)

-- goes on behind what was read
abbrev pub behind : {A : Type 0} {R : Type 0} → (A → List ℕ → Result R ℕ) → Result (A × List ℕ) ℕ → Result R ℕ
behind k (Ok (x, rest)) = k x rest
behind k (Err left) = Err left

-- reads a value with p, and goes on behind it with what k says of the value
unfoldable pub bind : {A B : Type 0} → Reader A → (A → Reader B) → Reader B
bind p k bytes = behind k (p bytes)

infixl 10 ◌>>=◌
abbrev pub ◌>>=◌ : {A B : Type 0} → Reader A → (A → Reader B) → Reader B
p >>= k = bind p k

-- this value, of no bytes
unfoldable pub give : {A : Type 0} → A → Reader A
give x bytes = Ok (x, bytes)

-- ---- numbers and bytes

abbrev pub is_within : ℕ → ℕ → ℕ → Bool
is_within least most n = nat_le least n && nat_le n most

-- the number that was read where these bytes begin, if it is from the least to the most
abbrev pub judged : ℕ → ℕ → List ℕ → Result (ℕ × List ℕ) XdrFault → Result (ℕ × List ℕ) ℕ
judged least most bytes (Ok (n, rest)) = if is_within least most n then Ok (n, rest) else refused bytes
judged least most bytes (Err fault) = refused bytes

-- a number of four bytes, from the least to the most
unfoldable pub uint_within : ℕ → ℕ → Reader ℕ
uint_within least most bytes = judged least most bytes (uint_at bytes)

-- a number of eight bytes
unfoldable pub uhyper_within : ℕ → ℕ → Reader ℕ
uhyper_within least most bytes = judged least most bytes (uhyper_at bytes)

-- so many bytes
unfoldable pub raw_at : ℕ → Reader (List ℕ)
raw_at n bytes = if nat_lt (length bytes) n then refused bytes else Ok (take n bytes, drop n bytes)

-- the number of two bytes
unfoldable pub half_word : List ℕ → ℕ
half_word bytes = from_be_bytes w16 bytes

-- a number of two bytes, at most the most
unfoldable pub ushort_up_to : ℕ → Reader ℕ
ushort_up_to most bytes =
    if nat_lt (length bytes) 2 then refused bytes
    else (if nat_le (half_word (take 2 bytes)) most then Ok (half_word (take 2 bytes), drop 2 bytes) else refused bytes)

-- ---- many values

-- n values, one behind the other: p reads the next where it stands at s, and next says where it stands behind that
unfoldable pub each_at : {S A : Type 0} → (S → Reader A) → (S → A → S) → ℕ → S → Reader (List A)
each_at p next zero s = give []
each_at p next (suc n) s = do
  x ← p s
  xs ← each_at p next n (next s x)
  give (x ∷ xs)

-- ---- the whole

-- the value, where nothing is left behind it; the first of the bytes that are left is no field
abbrev pub ended : {A : Type 0} → Result (A × List ℕ) ℕ → Result A ℕ
ended (Ok (x, [])) = Ok x
ended (Ok (x, b ∷ bytes)) = refused (b ∷ bytes)
ended (Err left) = Err left
