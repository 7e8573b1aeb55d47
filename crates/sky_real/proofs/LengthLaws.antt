-- The names that a folder's listing has are those of the map that they were noted in.
use Rattle.std.proofs.Common.{◌≡◌, ℕ, List, [], ◌∷◌, map, All, Ordering, refl, ◌∙◌, ap, subst, arith}
use Rattle.std.proofs.lemmas.List.{get_or-map, length-map}
use Rattle.std.specs.Map.{keys_of}
use Rattle.std.specs.List.Sorted.{IsStrictlySortedBy}
use Rattle.sky_base.specs.declared.object.SegName.{SegName}
use Rattle.sky_base.specs.Order.{name_order}
use Rattle.sky_base.proofs.OrderLaws.{name_cmp, name_cmp_is}
use Rattle.sky_outside.specs.declared.site.Held.{Held}
use Rattle.sky_real.specs.Lengths.{held_with}

names_listed : (es : List (SegName × ℕ)) → map (λ (h : Held). h.name) (map held_with es) ≡ keys_of es
names_listed [] = refl
names_listed (e ∷ es) = ap (λ (l : List SegName). e.0 ∷ l) (names_listed es)

-- the names that are listed
pub names_of : (held : List Held) (es : List (SegName × ℕ)) → held ≡ map held_with es → map (λ (h : Held). h.name) held ≡ keys_of es
names_of held es listed = ap (λ (l : List Held). map (λ (h : Held). h.name) l) listed ∙ names_listed es

-- names that ascend as the map compares them
pub ascend : (names : List SegName) → IsStrictlySortedBy name_cmp names → IsStrictlySortedBy name_order names
ascend names sorted = subst (λ (cmp : SegName → SegName → Ordering). IsStrictlySortedBy cmp names) name_cmp_is sorted

-- what holds of the names that are listed
pub All-names : (P : SegName → Type 0) (held : List Held) → All P (map (λ (h : Held). h.name) held) → All (λ h. P h.name) held
All-names P held all =
    λ k d below. subst P (get_or-map (λ (h : Held). h.name) held k d d.name below) (all k d.name (omega (arith, below, length-map held (λ (h : Held). h.name))))
