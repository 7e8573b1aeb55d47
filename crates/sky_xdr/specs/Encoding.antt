-- How values are encoded as XDR (RFC 4506). A byte is a number below 256.
use Rattle.std.specs.Prelude.{◌≡◌, ℕ, ◌-◌, ◌%◌, ◌<◌, Bool, true, false, Option, Some, None, List, ◌++◌, length, replicate, slice_index, if◌then◌else◌}
use Rattle.std.specs.Int.{w32, w64, to_be_bytes}

-- each element is a byte (slice_index gives 0 behind the last one)
abbrev pub AreBytes : List ℕ → Type 0
AreBytes bytes = (i : ℕ) → slice_index bytes i < 256

-- how many bytes fill n bytes up to a multiple of four (section 3)
abbrev pub padding : ℕ → ℕ
padding n = (4 - n % 4) % 4

-- an unsigned integer: four bytes, the highest first (section 4.2)
unfoldable pub uint : ℕ → List ℕ
uint n = to_be_bytes w32 n

-- an unsigned hyper integer: eight bytes, the highest first (section 4.5)
unfoldable pub uhyper : ℕ → List ℕ
uhyper n = to_be_bytes w64 n

-- a boolean: the unsigned integer 1 for true and 0 for false (section 4.4)
abbrev pub bool : Bool → List ℕ
bool b = uint (if b then 1 else 0)

-- fixed-length opaque data: the bytes, and zeros as the padding (section 4.9)
abbrev pub fixed : List ℕ → List ℕ
fixed v = v ++ replicate (padding (length v)) 0

-- what is accepted as such data: the same with any bytes as the padding
pub record IsFixed (bytes v : List ℕ) : Type 0 where
  pub fill : List ℕ
  pub fills : length fill ≡ padding (length v)
  pub encoded : bytes ≡ v ++ fill

-- variable-length opaque data: the length, the bytes, and zeros as the padding (section 4.10)
abbrev pub opaque : List ℕ → List ℕ
opaque v = uint (length v) ++ v ++ replicate (padding (length v)) 0

-- what is accepted as such data: the same with any bytes as the padding
pub record IsOpaque (bytes v : List ℕ) : Type 0 where
  pub fill : List ℕ
  pub fills : length fill ≡ padding (length v)
  pub encoded : bytes ≡ uint (length v) ++ v ++ fill

-- optional data: whether it is there, and then the data if it is (section 4.19)
abbrev pub optional : {A : Type 0} → (A → List ℕ) → Option A → List ℕ
optional encoding None = bool false
optional encoding (Some x) = bool true ++ encoding x

-- old begins with what is accepted as the opaque data v, and new is what stands behind it
pub record BeginsWithOpaque (old v new : List ℕ) : Type 0 where
  pub prefix : List ℕ
  pub accepted : IsOpaque prefix v
  pub parts : old ≡ prefix ++ new

-- the same of fixed-length opaque data
pub record BeginsWithFixed (old v new : List ℕ) : Type 0 where
  pub prefix : List ℕ
  pub accepted : IsFixed prefix v
  pub parts : old ≡ prefix ++ new
