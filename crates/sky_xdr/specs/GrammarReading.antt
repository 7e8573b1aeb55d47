-- Reading parts one behind the other: each is read from the bytes that the one before it left.
use Rattle.std.specs.Prelude.{ℕ, List, Option, Some, None, Result, Ok, Err, if◌then◌else◌}
use Rattle.sky_xdr.specs.declared.fault.XdrFault.{XdrFault}
use Rattle.sky_xdr.specs.Reading.{Gives, bind, bool_at}

-- reads a value with p, and goes on behind it with what k says of the value
infixl 10 ◌>>=◌
abbrev pub ◌>>=◌ : {A B : Type 0} → (List ℕ → Result (A × List ℕ) XdrFault) → (A → List ℕ → Result (B × List ℕ) XdrFault) → List ℕ → Result (B × List ℕ) XdrFault
p >>= k = bind p k

-- this value, of no bytes
unfoldable pub give : {A : Type 0} → A → List ℕ → Result (A × List ℕ) XdrFault
give x bytes = Ok (x, bytes)

-- no value
unfoldable pub refuse : {A : Type 0} → XdrFault → List ℕ → Result (A × List ℕ) XdrFault
refuse fault bytes = Err fault

-- reads optional data (section 4.19)
unfoldable pub optional_at : {A : Type 0} → (List ℕ → Result (A × List ℕ) XdrFault) → List ℕ → Result (Option A × List ℕ) XdrFault
optional_at p = do
  there ← bool_at
  if there then (do
    x ← p
    give (Some x)) else give None

-- what a call returned is what reading gives, and the reader now stands behind it; where a fault was met nothing is said of the reader
abbrev pub Reads : {X : Type 0} → Result X XdrFault → List ℕ → Result (X × List ℕ) XdrFault → Type 0
Reads result now read = Gives (λ x. (x, now)) result read
