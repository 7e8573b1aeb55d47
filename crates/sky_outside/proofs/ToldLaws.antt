-- How what is told of several calls composes. Crates above cite these.
use Rattle.std.proofs.Common.{◌≡◌, ◌+◌, ◌<◌, List, ℕ, [], ◌++◌, length, take, arith, subst, Option, Some, None, refl, sym, ap, ◌∙◌, append_assoc}
use Rattle.std.specs.Option.{option_map}
use Rattle.std.proofs.lemmas.List.{append-nil, length-append, take-append-le}
use Rattle.std.proofs.Math.Seq.{take-append-add, take-append_seam}
use Rattle.sky_outside.specs.Told.{WhereTold, Had, Given, GivenPart}

-- what holds where something is told, at what is told
pub WhereTold-at : {A : Type 0} (told : Option A) (P : A → Type 0) (x : A) → told ≡ Some x → WhereTold told P → P x
WhereTold-at told P x is holds = subst (λ o. WhereTold o P) is holds

-- to show it, show it at what is told
pub WhereTold-from : {A : Type 0} (told : Option A) (P : A → Type 0) → ((x : A) → told ≡ Some x → P x) → WhereTold told P
WhereTold-from None P holds = tt
WhereTold-from (Some x) P holds = holds x refl

-- a source of which nothing was taken
pub Had-none : (told : Option (List ℕ)) → Had told told []
Had-none None = refl
Had-none (Some bytes) = refl

-- what was taken first, and then what was taken next
pub Had-then : (a b c : Option (List ℕ)) (x y : List ℕ) → Had a b x → Had b c y → Had a c (x ++ y)
Had-then a b None x y first second = first ∙ ap (option_map (λ rest. x ++ rest)) second
Had-then a b (Some rest) x y first second =
    first ∙ ap (option_map (λ rest. x ++ rest)) second ∙ ap Some (sym (append_assoc x y rest))

-- a sink that was given nothing
pub Given-none : (told : Option (List ℕ)) → Given told told []
Given-none None = refl
Given-none (Some bytes) = ap Some (sym (append-nil bytes))

-- what was given first, and then what was given next
pub Given-then : (a b c : Option (List ℕ)) (x y : List ℕ) → Given a b x → Given b c y → Given a c (x ++ y)
Given-then None b c x y first second = second ∙ ap (option_map (λ written. written ++ y)) first
Given-then (Some bytes) b c x y first second =
    second ∙ ap (option_map (λ written. written ++ y)) first ∙ ap Some (append_assoc bytes x y)

-- what a source that tells has left, after what was taken of it
pub Had-told : (a b : Option (List ℕ)) (x bytes : List ℕ) → Had a b x → a ≡ Some bytes → (rest : List ℕ) × (b ≡ Some rest) × (bytes ≡ x ++ rest)
Had-told a None x bytes had told = absurd cc
Had-told a (Some rest) x bytes had told = let e : Some bytes ≡ Some (x ++ rest) = sym told ∙ had in (rest, refl, cc)

-- a prefix of a piece is a prefix of a longer one
pub GivenPart-first : (a b : Option (List ℕ)) (x y : List ℕ) → GivenPart a b x → GivenPart a b (x ++ y)
GivenPart-first a b x y part =
    (part.0, omega (arith, part.1, length-append x y), subst (λ (bytes : List ℕ). Given a b bytes) (sym (take-append-le part.0 x y (omega (arith, part.1)))) part.2)

-- a whole piece, and then a prefix of the next
pub GivenPart-then : (a b c : Option (List ℕ)) (x y : List ℕ) → Given a b x → GivenPart b c y → GivenPart a c (x ++ y)
GivenPart-then a b c x y whole part =
    (length x + part.0, omega (arith, part.1, length-append x y), subst (λ (bytes : List ℕ). Given a c bytes) (sym (take-append-add x y part.0)) (Given-then a b c x (take part.0 y) whole part.2))

-- the whole of the first of two pieces is a prefix of both, where the second has a byte
pub GivenPart-whole : (a b : Option (List ℕ)) (x y : List ℕ) → 0 < length y → Given a b x → GivenPart a b (x ++ y)
GivenPart-whole a b x y some whole =
    (length x, omega (arith, some, length-append x y), subst (λ (bytes : List ℕ). Given a b bytes) (sym (take-append_seam x y)) whole)
