-- The first area of a journal is based on an entry up to covers, where its disk is not foreign. Crates above cite this.
use Rattle.std.specs.Prelude.{IfSome, nat_lt, if◌then◌else◌}
use Rattle.std.proofs.Common.{◌≡◌, ◌⊎◌, inl, inr, ⊎_elim, ℕ, ◌*◌, ◌≤◌, Bool, true, false, List, [], ◌∷◌, length, Option, Some, None, Ok, refl, sym, ap, ◌∙◌, arith}
use Rattle.std.proofs.lemmas.Bool.{cases_eq, true≢false, ltb-false}
use Rattle.sky_outside.specs.Image.{bytes_at}
use Rattle.sky_journal.specs.Layout.{is_open, number_8, base_place}
use Rattle.sky_journal.specs.Text.{foreign_where, Area, base_of, area_entries, second_is_older, in_order, open_areas, first_area, second_area, areas_entries, entries_of}
use Rattle.sky_journal.specs.Laid.{IsArea, IsLaid, BeginsAt, IsFree}
use Rattle.sky_journal.specs.Journal.{JournalView, IsOpenArea, AreInOrder, IsJournal, StandsFor, base_in, first_base}
use Rattle.sky_journal.specs.declared.open_area.OpenArea.{OpenArea}
use Rattle.sky_journal.proofs.Halves.{IsHalf}
use Rattle.sky_sound.proofs.Texts.{bound, area_of}

module _ (is_entry : List ℕ → Bool) (volume covers : ℕ) where
  -- the area that is read first is based on an entry up to covers
  first_covered : (a : Area) (more : List Area) (list : List (ℕ × List ℕ)) → areas_entries is_entry volume covers (a ∷ more) ≡ Ok list → base_of a ≤ covers
  unfolding areas_entries
  first_covered a [] list e = ltb-false covers (base_of a) (area_of is_entry volume a (nat_lt covers (base_of a)) list e).fine
  first_covered a (b ∷ more) list e =
      let first = bound (area_entries is_entry volume a (nat_lt covers (base_of a))) _ list e in
      ltb-false covers (base_of a) (area_of is_entry volume a (nat_lt covers (base_of a)) first.0 first.1).fine

  by_order : (a b : Area) (low : ℕ) (o : Bool) (list : List (ℕ × List ℕ)) → low ≤ base_of a → low ≤ base_of b → areas_entries is_entry volume covers (if o then b ∷ a ∷ [] else a ∷ b ∷ []) ≡ Ok list → low ≤ covers
  by_order a b low true list first second e = omega (arith, first_covered b (a ∷ []) list e)
  by_order a b low false list first second e = omega (arith, first_covered a (b ∷ []) list e)

  by_gates : (a b : Area) (low : ℕ) (p q : Bool) (list : List (ℕ × List ℕ)) → (p ≡ true → low ≤ base_of a) → (q ≡ true → low ≤ base_of b) → (p ≡ true) ⊎ (q ≡ true)
      → areas_entries is_entry volume covers (if p then (if q then in_order a b else a ∷ []) else (if q then b ∷ [] else [])) ≡ Ok list → low ≤ covers
  by_gates a b low true true list first second some e = by_order a b low (second_is_older a b) list (first refl) (second refl) e
  by_gates a b low true false list first second some e = omega (arith, first refl, first_covered a [] list e)
  by_gates a b low false true list first second some e = omega (arith, second refl, first_covered b [] list e)
  by_gates a b low false false list first second some e = absurd (⊎_elim (λ x. true≢false (sym x)) (λ x. true≢false (sym x)) some)

  -- a number up to which no open area begins is up to covers, where an area is open
  covered : (a b : Area) (low : ℕ) (list : List (ℕ × List ℕ)) → (is_open 0 a.bytes ≡ true → low ≤ base_of a) → (is_open 0 b.bytes ≡ true → low ≤ base_of b)
      → (is_open 0 a.bytes ≡ true) ⊎ (is_open 0 b.bytes ≡ true) → areas_entries is_entry volume covers (open_areas a b) ≡ Ok list → low ≤ covers
  unfolding open_areas
  covered a b low list first second some e = by_gates a b low (is_open 0 a.bytes) (is_open 0 b.bytes) list first second some e

-- ---- a journal's areas

-- an area that is known begins with its base
base_is : (volume size : ℕ) (image : List ℕ) (a : OpenArea) (es : List (List ℕ)) (start : ℕ) → IsArea volume (bytes_at image a.start size) a es → a.start ≡ start
    → number_8 base_place (bytes_at image start size) ≡ a.base
base_is volume size image a es start is same = ap (λ (n : ℕ). number_8 base_place (bytes_at image n size)) (sym same) ∙ is.base

-- no open area begins below the first base
low_at : (volume size : ℕ) (image : List ℕ) (o n : Option OpenArea) (older newer : List (List ℕ)) (start : ℕ) → AreInOrder size o n → IfSome o (IsOpenArea size)
    → IsLaid volume size image o older → IsLaid volume size image n newer → ((BeginsAt start o → ⊥) → (BeginsAt start n → ⊥) → IsFree size start image)
    → is_open 0 (bytes_at image start size) ≡ true → base_in o n ≤ number_8 base_place (bytes_at image start size)
low_at volume size image None None older newer start order opens first second others opened = omega arith
low_at volume size image None (Some a) older newer start order opens first second others opened =
    ⊎_elim (λ (same : a.start ≡ start). omega (arith, base_is volume size image a newer start second same))
    (λ (apart : a.start ≡ start → ⊥). absurd (true≢false (sym opened ∙ others (λ x. x) apart)))
    (cases_eq a.start start)
low_at volume size image (Some b) None older newer start order opens first second others opened = absurd order
low_at volume size image (Some b) (Some a) older newer start order opens first second others opened =
    ⊎_elim (λ (same : b.start ≡ start). omega (arith, base_is volume size image b older start first same))
    (λ (apart : b.start ≡ start → ⊥).
    ⊎_elim (λ (same : a.start ≡ start). omega (arith, base_is volume size image a newer start second same, order.number, opens.order))
    (λ (away : a.start ≡ start → ⊥). absurd (true≢false (sym opened ∙ others apart away)))
    (cases_eq a.start start))
    (cases_eq b.start start)

-- one of the areas is open, or there is no base
some_open : (volume size : ℕ) (image : List ℕ) (o n : Option OpenArea) (newer : List (List ℕ)) → AreInOrder size o n → IfSome n (IsOpenArea size) → IsLaid volume size image n newer
    → (base_in o n ≡ 0) ⊎ ((is_open 0 (bytes_at image 0 size) ≡ true) ⊎ (is_open 0 (bytes_at image size size) ≡ true))
some_open volume size image None None newer order opens laid = inl refl
some_open volume size image (Some b) None newer order opens laid = absurd order
some_open volume size image o (Some a) newer order opens laid =
    inr (⊎_elim (λ (at : a.start ≡ 0). inl (ap (λ (s : ℕ). is_open 0 (bytes_at image s size)) (sym at) ∙ laid.gate))
    (λ (at : a.start ≡ size). inr (ap (λ (s : ℕ). is_open 0 (bytes_at image s size)) (sym at) ∙ laid.gate)) opens.start)

areas_of : (is_entry : List ℕ → Bool) (volume size covers : ℕ) (image : List ℕ) (list : List (ℕ × List ℕ)) → entries_of is_entry volume size covers image ≡ Ok list
    → areas_entries is_entry volume covers (open_areas (first_area size image) (second_area size image)) ≡ Ok list
unfolding entries_of
areas_of is_entry volume size covers image list e =
    (bound (foreign_where (nat_lt (length image) (2 * size)) (length image)) (λ _. areas_entries is_entry volume covers (open_areas (first_area size image) (second_area size image))) list e).2

-- the first base is up to covers
pub first_based : (is_entry : List ℕ → Bool) (covers : ℕ) (j : JournalView) (image : List ℕ) (older newer : List (List ℕ)) (list : List (ℕ × List ℕ)) → IsJournal j → StandsFor j image older newer
    → entries_of is_entry j.volume j.size covers image ≡ Ok list → first_base j ≤ covers
first_based is_entry covers j image older newer list is stands e =
    let low : (start : ℕ) → IsHalf j.size start → is_open 0 (bytes_at image start j.size) ≡ true → first_base j ≤ number_8 base_place (bytes_at image start j.size) =
    λ start half opened. low_at j.volume j.size image j.older j.newer older newer start is.in_order is.older stands.older_is stands.newer_is (stands.others start half) opened in
    ⊎_elim (λ (none : first_base j ≡ 0). omega (arith, none))
    (λ some. covered is_entry j.volume covers (first_area j.size image) (second_area j.size image) (first_base j) list (low 0 (inl refl)) (low j.size (inr refl)) some
    (areas_of is_entry j.volume j.size covers image list e))
    (some_open j.volume j.size image j.older j.newer newer is.in_order is.newer stands.newer_is)
