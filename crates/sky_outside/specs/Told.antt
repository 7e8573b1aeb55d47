-- What a device tells: `None` where it tells nothing.
use Rattle.std.specs.Prelude.{◌≡◌, ◌<◌, ℕ, List, ◌++◌, length, take, Option, None, Some, IfSome}
use Rattle.std.specs.Option.{option_map}

-- a fact of what is told, which asks nothing where nothing is
abbrev pub WhereTold : {A : Type 0} → Option A → (A → Type 0) → Type 0
WhereTold told P = IfSome told P

-- two devices, or one at two times, that tell both or neither, where what they tell is related
abbrev pub BothTold : {A : Type 0} → (A → A → Type 0) → Option A → Option A → Type 0
BothTold R None None = Unit {0}
BothTold R (Some old) (Some new) = R old new
BothTold R told other = ⊥

-- A source began with these bytes, and now has what followed them.
abbrev pub Had : Option (List ℕ) → Option (List ℕ) → List ℕ → Type 0
Had before now bytes = before ≡ option_map (λ rest. bytes ++ rest) now

-- It began with a prefix of these bytes that isn't all of them, and now has what followed that.
abbrev pub HadPart : Option (List ℕ) → Option (List ℕ) → List ℕ → Type 0
HadPart before now bytes = (n : ℕ) × (n < length bytes) × Had before now (take n bytes)

-- A sink was given these bytes, after all that it had been given before.
abbrev pub Given : Option (List ℕ) → Option (List ℕ) → List ℕ → Type 0
Given before now bytes = now ≡ option_map (λ written. written ++ bytes) before

-- It was given a prefix of these bytes that isn't all of them.
abbrev pub GivenPart : Option (List ℕ) → Option (List ℕ) → List ℕ → Type 0
GivenPart before now bytes = (n : ℕ) × (n < length bytes) × Given before now (take n bytes)
