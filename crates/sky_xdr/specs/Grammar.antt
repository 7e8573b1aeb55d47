-- Of which bytes a value is read, and how such sets of bytes are put together (RFC 4506).
-- Each definition is what stands there for a value, and then whether bytes are that.
use Rattle.std.specs.Prelude.{◌≡◌, ℕ, ◌^◌, ◌<◌, ◌≤◌, Bool, true, false, List, ◌++◌, length, Option, Some, None}
use Rattle.sky_xdr.specs.Encoding.{uint, uhyper, bool, IsFixed, IsOpaque}

-- bytes are a P and then a Q
pub record Sequence (P Q : List ℕ → Type 0) (bytes : List ℕ) : Type 0 where
  pub first : List ℕ
  pub second : List ℕ
  pub parts : bytes ≡ first ++ second
  pub is_first : P first
  pub is_second : Q second

infixr 6 ◌and_then◌
abbrev pub ◌and_then◌ : (List ℕ → Type 0) → (List ℕ → Type 0) → List ℕ → Type 0
P and_then Q = Sequence P Q

-- bytes are an unsigned integer (section 4.2)
abbrev pub IsUint : ℕ → List ℕ → Type 0
IsUint n bytes = (bytes ≡ uint n) × (n < 2 ^ 32)

-- bytes are an unsigned hyper integer (section 4.5)
abbrev pub IsUhyper : ℕ → List ℕ → Type 0
IsUhyper n bytes = (bytes ≡ uhyper n) × (n < 2 ^ 64)

-- bytes are a boolean (section 4.4)
abbrev pub IsBool : Bool → List ℕ → Type 0
IsBool b bytes = bytes ≡ bool b

-- bytes are fixed-length opaque data of n bytes, with any padding (section 4.9)
abbrev pub IsFixedOf : ℕ → List ℕ → List ℕ → Type 0
IsFixedOf n v bytes = IsFixed bytes v × (length v ≡ n)

-- bytes are variable-length opaque data of at most max bytes, with any padding (section 4.10)
abbrev pub IsOpaqueWithin : ℕ → List ℕ → List ℕ → Type 0
IsOpaqueWithin max v bytes = IsOpaque bytes v × (length v ≤ max)

-- bytes are optional data: whether it is there, and then the data if it is (section 4.19)
abbrev pub IsOptional : {A : Type 0} → (A → List ℕ → Type 0) → Option A → List ℕ → Type 0
IsOptional Is None = IsBool false
IsOptional Is (Some x) = IsBool true and_then Is x
