-- Reading XDR (RFC 4506) from left to right: a value and the bytes behind it, or the first fault.
use Rattle.std.specs.Prelude.{◌≡◌, ℕ, ◌+◌, ◌<◌, ◌≤◌, ◌⊎◌, Bool, true, false, List, length, take, drop, Result, Ok, Err, nat_lt, ◌==◌, if◌then◌else◌}
use Rattle.std.specs.Int.{w32, w64, from_be_bytes}
use Rattle.sky_xdr.specs.declared.fault.XdrFault.{XdrFault}
use Rattle.sky_xdr.specs.declared.fault.XdrFault.TheVariants.{TooLong, Short, BadBool, Left}
use Rattle.sky_xdr.specs.Encoding.{padding}

-- go on with what was read, or stay at the fault
infixl 10 ◌>>=◌
abbrev pub ◌>>=◌ : {A B E : Type 0} → Result A E → (A → Result B E) → Result B E
(Ok x) >>= f = f x
(Err e) >>= f = Err e

-- reads a value with p, and goes on behind it with what k says of the value
unfoldable pub bind : {A B : Type 0} → (List ℕ → Result (A × List ℕ) XdrFault) → (A → List ℕ → Result (B × List ℕ) XdrFault) → List ℕ → Result (B × List ℕ) XdrFault
bind p k bytes = p bytes >>= λ x. k x.0 x.1

-- the number that the first four bytes encode, the highest first (section 4.2)
unfoldable pub word : List ℕ → ℕ
word bytes = from_be_bytes w32 (take 4 bytes)

-- the number that the first eight bytes encode, the highest first (section 4.5)
unfoldable pub double_word : List ℕ → ℕ
double_word bytes = from_be_bytes w64 (take 8 bytes)

-- reads an unsigned integer (section 4.2)
unfoldable pub uint_at : List ℕ → Result (ℕ × List ℕ) XdrFault
uint_at bytes = if nat_lt (length bytes) 4 then Err Short else Ok (word bytes, drop 4 bytes)

-- reads an unsigned hyper integer (section 4.5)
unfoldable pub uhyper_at : List ℕ → Result (ℕ × List ℕ) XdrFault
uhyper_at bytes = if nat_lt (length bytes) 8 then Err Short else Ok (double_word bytes, drop 8 bytes)

-- reads a boolean: 0 or 1, and nothing else (section 4.4)
unfoldable pub bool_at : List ℕ → Result (Bool × List ℕ) XdrFault
bool_at bytes = do
  n ← uint_at bytes
  if n.0 == 0 then Ok (false, n.1) else (if n.0 == 1 then Ok (true, n.1) else Err BadBool)

-- reads fixed-length opaque data of n bytes, with any padding (section 4.9)
unfoldable pub fixed_at : ℕ → List ℕ → Result (List ℕ × List ℕ) XdrFault
fixed_at n bytes = if nat_lt (length bytes) (n + padding n) then Err Short else Ok (take n bytes, drop (n + padding n) bytes)

-- reads variable-length opaque data of at most max bytes, with any padding (section 4.10)
unfoldable pub opaque_at : ℕ → List ℕ → Result (List ℕ × List ℕ) XdrFault
opaque_at max bytes = do
  n ← uint_at bytes
  if nat_lt max n.0 then Err TooLong else (if nat_lt (length n.1) (n.0 + padding n.0) then Err Short else Ok (take n.0 n.1, drop (n.0 + padding n.0) n.1))

-- bytes are missing of opaque data of at most max bytes: of its length, or of its bytes and padding where the length is within max
abbrev pub IsCutShort : ℕ → List ℕ → Type 0
IsCutShort max bytes = (length bytes < 4) ⊎ ((word bytes ≤ max) × (length bytes < 4 + word bytes + padding (word bytes)))

-- reads the end: no byte is left
unfoldable pub end_at : List ℕ → Result (Unit {0}) XdrFault
end_at bytes = if length bytes == 0 then Ok tt else Err Left

-- what a call returned, seen by view, is what reading gives
abbrev pub Gives : {X Y E : Type 0} → (X → Y) → Result X E → Result Y E → Type 0
Gives view (Ok x) read = read ≡ Ok (view x)
Gives view (Err e) read = read ≡ Err e

-- the same of a reader that stood at old: it then stands behind what it took, and a refused call leaves it where it was
abbrev pub Takes : {X Y : Type 0} → (X → Y) → Result X XdrFault → (old new : List ℕ) → Result (Y × List ℕ) XdrFault → Type 0
Takes view (Ok x) old new read = read ≡ Ok (view x, new)
Takes view (Err e) old new read = (read ≡ Err e) × (new ≡ old)
