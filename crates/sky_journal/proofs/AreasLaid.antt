-- What was read of the areas of a disk is as it is known.
use Rattle.std.specs.Prelude.{if◌then◌else◌}
use Rattle.std.proofs.Common.{◌≡◌, ◌⊎◌, ⊎_elim, inl, inr, ℕ, ◌<◌, Bool, true, false, List, [], ◌∷◌, ◌++◌, Some, None, Ok, refl, sym, ap, ◌∙◌, subst, arith}
use Rattle.sky_outside.specs.Image.{bytes_at}
use Rattle.sky_journal.specs.Layout.{is_open}
use Rattle.sky_journal.specs.Text.{Area, areas_entries, first_area, second_area, in_order, second_is_older, open_areas, numbered}
use Rattle.sky_journal.specs.Laid.{IsArea, IsLaid, IsFree}
use Rattle.sky_journal.specs.Journal.{IsOpenArea}
use Rattle.sky_journal.specs.Looking.{area_in}
use Rattle.sky_journal.specs.AreasRead.{IsInSpan, IsReadArea, AreRead, AreLaid, AreKnown, IsHalf, AreBeside, AreOpen, IsOnlyOpen}
use Rattle.sky_journal.specs.declared.open_area.OpenArea.{OpenArea}
use Rattle.sky_journal.specs.declared.span.Span.{Span}
use Rattle.sky_journal.proofs.AreaWords.{read_is_area}

-- an area of a span is laid there
laid_there : (volume size : ℕ) (span : Span) (image : List ℕ) (a : OpenArea) (list : List (ℕ × List ℕ)) (read : IsReadArea volume (area_in span image) a list) → IsInSpan span a → span.size ≡ size
    → is_open 0 (area_in span image).bytes ≡ true → IsLaid volume size image (Some a) read.entries
laid_there volume size span image a list read known is gate =
    subst (λ (n : ℕ). IsArea volume (bytes_at image a.start n) a read.entries) is
    (subst (λ (n : ℕ). IsArea volume (bytes_at image n span.size) a read.entries) (sym known.start) (read_is_area volume (area_in span image) a list read gate))

open_there : (size : ℕ) (span : Span) (a : OpenArea) → IsInSpan span a → IsHalf span → span.size ≡ size → IsOpenArea size a
open_there size span a known half is = record {
  start = ⊎_elim (λ e. inl (known.start ∙ e)) (λ e. inr (known.start ∙ e ∙ is)) half;
  header = known.header;
  within = subst (λ (n : ℕ). a.end < n) is known.within;
  order = known.order;
  number = known.number;
}

-- the only open area
pub only_laid : (volume : ℕ) (span : Span) (image : List ℕ) (a : OpenArea) (list : List (ℕ × List ℕ)) → IsReadArea volume (area_in span image) a list → IsInSpan span a → IsOnlyOpen span image
    → AreLaid volume span.size image (record { older = None; newer = Some a }) list
only_laid volume span image a list read known only = record {
  older = [];
  newer = read.entries;
  listed = read.listed;
  older_is = refl;
  newer_is = laid_there volume span.size span image a list read known refl only.gate;
  others = λ start half older newer. only.others start half (λ e. newer (known.start ∙ sym e));
}

pub only_known : (span : Span) (a : OpenArea) → IsInSpan span a → IsHalf span → AreKnown span.size (record { older = None; newer = Some a })
only_known span a known half = record { older = tt; newer = open_there span.size span a known half refl; in_order = tt }

no_other : (spans : Span × Span) (start : ℕ) → AreBeside spans → (start ≡ 0) ⊎ (start ≡ spans.0.size) → (spans.0.start ≡ start → ⊥) → (spans.1.start ≡ start → ⊥) → ⊥
no_other spans start beside half older newer =
    ⊎_elim
    (λ zero_there. ⊎_elim (λ e. older (e ∙ sym zero_there)) (λ e. newer (let n : spans.1.start ≡ start = omega (arith, e, beside.sum, zero_there) in n)) beside.older)
    (λ size_there. ⊎_elim (λ e. newer (let n : spans.1.start ≡ start = omega (arith, e, beside.sum, size_there) in n)) (λ e. older (e ∙ sym size_there)) beside.older) half

-- two open areas
pub both_laid : (volume : ℕ) (spans : Span × Span) (image : List ℕ) (areas : OpenArea × OpenArea) (list : List (ℕ × List ℕ)) → AreRead volume (area_in spans.0 image) (area_in spans.1 image) areas list
    → IsInSpan spans.0 areas.0 → IsInSpan spans.1 areas.1 → AreBeside spans → AreOpen spans image → AreLaid volume spans.0.size image (record { older = Some areas.0; newer = Some areas.1 }) list
both_laid volume spans image areas list read older newer beside gates = record {
  older = read.older_is.entries;
  newer = read.newer_is.entries;
  listed = read.listed ∙ ap (λ (l : List (ℕ × List ℕ)). l ++ read.second) read.older_is.listed ∙ ap (λ (l : List (ℕ × List ℕ)). numbered areas.0.base read.older_is.entries ++ l) read.newer_is.listed;
  older_is = laid_there volume spans.0.size spans.0 image areas.0 read.first read.older_is older refl gates.0;
  newer_is = laid_there volume spans.0.size spans.1 image areas.1 read.second read.newer_is newer beside.same gates.1;
  others = λ start half older_not newer_not. absurd (no_other spans start beside half (λ e. older_not (older.start ∙ e)) (λ e. newer_not (newer.start ∙ e)));
}

pub both_known : (spans : Span × Span) (areas : OpenArea × OpenArea) → IsInSpan spans.0 areas.0 → IsInSpan spans.1 areas.1 → AreBeside spans → areas.1.base ≡ areas.0.last
    → AreKnown spans.0.size (record { older = Some areas.0; newer = Some areas.1 })
both_known spans areas older newer beside number = record {
  older = open_there spans.0.size spans.0 areas.0 older beside.older refl;
  newer = open_there spans.0.size spans.1 areas.1 newer beside.newer beside.same;
  in_order = record { beside = omega (arith, older.start, newer.start, beside.sum); number = number };
}

-- the halves of a disk, either first
pub halves : (first second : Span) → first.start ≡ 0 → second.start ≡ first.size → second.size ≡ first.size → AreBeside (first, second)
halves first second at behind same = record { same = same; sum = omega arith; older = inl at; newer = inr (behind ∙ sym same) }

pub halves_turned : (first second : Span) → first.start ≡ 0 → second.start ≡ first.size → second.size ≡ first.size → AreBeside (second, first)
halves_turned first second at behind same = record { same = sym same; sum = omega arith; older = inr (behind ∙ sym same); newer = inl at }

-- the order in which they are read
pub turned : (a b : Area) (r : Bool) → r ≡ second_is_older a b → r ≡ true → in_order a b ≡ (b ∷ a ∷ [])
turned a b r is first = ap (λ (t : Bool). if t then b ∷ a ∷ [] else (a ∷ b ∷ [])) (sym is ∙ first)

pub straight : (a b : Area) (r : Bool) → r ≡ second_is_older a b → r ≡ false → in_order a b ≡ (a ∷ b ∷ [])
straight a b r is yet = ap (λ (t : Bool). if t then b ∷ a ∷ [] else (a ∷ b ∷ [])) (sym is ∙ yet)

-- which of them are open
pub open_both : (a b : Area) → is_open 0 a.bytes ≡ true → is_open 0 b.bytes ≡ true → open_areas a b ≡ in_order a b
unfolding open_areas
open_both a b one two = rw (one, two) refl

pub open_first : (a b : Area) → is_open 0 a.bytes ≡ true → is_open 0 b.bytes ≡ false → open_areas a b ≡ (a ∷ [])
unfolding open_areas
open_first a b one two = rw (one, two) refl

pub open_second : (a b : Area) → is_open 0 a.bytes ≡ false → is_open 0 b.bytes ≡ true → open_areas a b ≡ (b ∷ [])
unfolding open_areas
open_second a b one two = rw (one, two) refl

pub open_none : (a b : Area) → is_open 0 a.bytes ≡ false → is_open 0 b.bytes ≡ false → open_areas a b ≡ []
unfolding open_areas
open_none a b one two = rw (one, two) refl

-- the halves that are closed
pub first_free : (size : ℕ) (image : List ℕ) (start : ℕ) → is_open 0 (first_area size image).bytes ≡ false → start ≡ 0 → IsFree size start image
first_free size image start gate there = subst (λ (n : ℕ). IsFree size n image) (sym there) gate

pub second_free : (size : ℕ) (image : List ℕ) (start : ℕ) → is_open 0 (second_area size image).bytes ≡ false → start ≡ size → IsFree size start image
second_free size image start gate there = subst (λ (n : ℕ). IsFree size n image) (sym there) gate

-- all halves but the first are closed, or all but the second
pub but_first : (size : ℕ) (image : List ℕ) (start : ℕ) → is_open 0 (second_area size image).bytes ≡ false → (start ≡ 0) ⊎ (start ≡ size) → (start ≡ 0 → ⊥) → IsFree size start image
but_first size image start gate half other = ⊎_elim (λ e. absurd (other e)) (second_free size image start gate) half

pub but_second : (size : ℕ) (image : List ℕ) (start : ℕ) → is_open 0 (first_area size image).bytes ≡ false → (start ≡ 0) ⊎ (start ≡ size) → (start ≡ size → ⊥) → IsFree size start image
but_second size image start gate half other = ⊎_elim (first_free size image start gate) (λ e. absurd (other e)) half

-- no area is open
pub none_laid : (is_entry : List ℕ → Bool) (volume covers size : ℕ) (image : List ℕ) → is_open 0 (first_area size image).bytes ≡ false → is_open 0 (second_area size image).bytes ≡ false
    → (list : List (ℕ × List ℕ)) × (areas_entries is_entry volume covers (open_areas (first_area size image) (second_area size image)) ≡ Ok list)
    × AreLaid volume size image (record { older = None; newer = None }) list
unfolding areas_entries
none_laid is_entry volume covers size image one two = (
  [],
  ap (λ (l : List Area). areas_entries is_entry volume covers l) (open_none (first_area size image) (second_area size image) one two),
  record {
    older = [];
    newer = [];
    listed = refl;
    older_is = refl;
    newer_is = refl;
    others = λ start half older newer. ⊎_elim (first_free size image start one) (second_free size image start two) half;
  },
)
