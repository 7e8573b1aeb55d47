-- Laws of how an opening leaves the areas of a journal. Crates above cite this.
use Rattle.std.specs.Prelude.{max, nat_lt, IfSome, IsSome, if◌then◌else◌}
use Rattle.std.specs.Option.{option_map}
use Rattle.std.proofs.Common.{◌≡◌, ⊎_elim, ℕ, ◌+◌, ◌<◌, ◌≤◌, Bool, true, false, Option, Some, None, List, [], length, refl, sym, ap, subst, ◌∙◌, arith}
use Rattle.std.proofs.lemmas.Bool.{cases_lt, lt-ltb, le-ltb}
use Rattle.sky_journal.specs.Journal.{JournalView, AreInOrder, IsJournal, SameButSpare, StandsFor, base_in, first_base, new_area, number_behind}
use Rattle.sky_journal.specs.Laid.{IsLaid}
use Rattle.sky_journal.specs.declared.open_area.OpenArea.{OpenArea}
use Rattle.sky_sound.specs.Kept.{area_state, journal_state, left_open}
use Rattle.sky_sound.specs.Settled.{has_above, settled, settled_newer, settled_older, unless_covered}
use Rattle.sky_sound.proofs.Once.{journal_once}

-- ---- one area

-- the number of an area's last entry
abbrev last_of : OpenArea → ℕ
last_of a = a.last

module _ (covers : ℕ) where
  -- what is left has an entry above covers
  unless_above : (o : Option OpenArea) → IfSome (unless_covered last_of covers o) (λ a. covers < a.last)
  unless_above None = tt
  unless_above (Some a) =
      ⊎_elim
      (λ (lt : covers < a.last). subst (λ (b : Bool). IfSome (if b then Some a else None) (λ a. covers < a.last)) (sym (lt-ltb covers a.last lt)) lt)
      (λ (le : a.last ≤ covers). subst (λ (b : Bool). IfSome (if b then Some a else None) (λ a. covers < a.last)) (sym (le-ltb covers a.last le)) tt)
      (cases_lt covers a.last)

  -- an area that has one stays
  pub unless_stays : (o : Option OpenArea) → IfSome o (λ a. covers < a.last) → unless_covered last_of covers o ≡ o
  unless_stays None lt = refl
  unless_stays (Some a) lt = ap (λ (b : Bool). let o : Option OpenArea = if b then Some a else None in o) (lt-ltb covers a.last lt)

  -- one that has none does not
  pub unless_goes : (o : Option OpenArea) → number_behind o 0 ≤ covers → unless_covered last_of covers o ≡ None
  unless_goes None le = refl
  unless_goes (Some a) le = let low : a.last ≤ covers = omega (arith, le) in ap (λ (b : Bool). let o : Option OpenArea = if b then Some a else None in o) (le-ltb covers a.last low)

  -- whether it has one
  above_is : (o : Option OpenArea) → covers < number_behind o 0 → has_above last_of covers o ≡ true
  above_is None lt = absurd (omega (arith, lt))
  above_is (Some a) lt = lt-ltb covers a.last (omega (arith, lt))

  above_not : (o : Option OpenArea) → number_behind o 0 ≤ covers → has_above last_of covers o ≡ false
  above_not None le = refl
  above_not (Some a) le = le-ltb covers a.last (omega (arith, le))

-- ---- the areas of a journal

module _ (covers : ℕ) (j : JournalView) where
  -- an entry is above covers
  pub settled_goes_on : covers < number_behind j.newer 0 → ((settled covers j).older ≡ unless_covered last_of covers j.older) × ((settled covers j).newer ≡ j.newer)
  settled_goes_on lt =
      let is : has_above last_of covers j.newer ≡ true = above_is covers j.newer lt in
      (ap (λ (b : Bool). if b then unless_covered last_of covers j.older else None) is, ap (λ (b : Bool). if b then j.newer else Some (new_area 0 covers)) is)

  -- no entry is
  pub settled_begins : number_behind j.newer 0 ≤ covers → ((settled covers j).older ≡ None) × ((settled covers j).newer ≡ Some (new_area 0 covers))
  settled_begins le =
      let is : has_above last_of covers j.newer ≡ false = above_not covers j.newer le in
      (ap (λ (b : Bool). if b then unless_covered last_of covers j.older else None) is, ap (λ (b : Bool). if b then j.newer else Some (new_area 0 covers)) is)

  -- an area is open
  pub settled_area : IsSome (settled covers j).newer
  settled_area =
      ⊎_elim (λ (lt : covers < number_behind j.newer 0). subst (λ (o : Option OpenArea). IsSome o) (sym (settled_goes_on lt).1) (open_one j.newer lt))
      (λ (le : number_behind j.newer 0 ≤ covers). subst (λ (o : Option OpenArea). IsSome o) (sym (settled_begins le).1) refl) (cases_lt covers (number_behind j.newer 0))
    where
      open_one : (o : Option OpenArea) → covers < number_behind o 0 → IsSome o
      open_one None lt = absurd (omega (arith, lt))
      open_one (Some a) lt = refl

  -- the number of its last entry
  pub settled_last : number_behind (settled covers j).newer 0 ≡ max covers (number_behind j.newer 0)
  settled_last =
      ⊎_elim (λ (lt : covers < number_behind j.newer 0). ap (λ (o : Option OpenArea). number_behind o 0) (settled_goes_on lt).1 ∙ omega (arith, lt))
      (λ (le : number_behind j.newer 0 ≤ covers). ap (λ (o : Option OpenArea). number_behind o 0) (settled_begins le).1 ∙ omega (arith, le)) (cases_lt covers (number_behind j.newer 0))

  -- of two open areas the older has an entry above covers
  pub settled_above : IfSome (settled covers j).older (λ a. covers < a.last)
  settled_above =
      ⊎_elim
      (λ (lt : covers < number_behind j.newer 0). subst (λ (o : Option OpenArea). IfSome o (λ a. covers < a.last)) (sym (settled_goes_on lt).0) (unless_above covers j.older))
      (λ (le : number_behind j.newer 0 ≤ covers). subst (λ (o : Option OpenArea). IfSome o (λ a. covers < a.last)) (sym (settled_begins le).0) tt)
      (cases_lt covers (number_behind j.newer 0))

-- the areas alone decide, with the volume and the sizes
pub settled_alike : (covers : ℕ) (j k : JournalView) → k.volume ≡ j.volume → k.size ≡ j.size → k.disk ≡ j.disk → (settled covers k).older ≡ (settled covers j).older
    → (settled covers k).newer ≡ (settled covers j).newer → settled covers k ≡ settled covers j
settled_alike covers j k volume size disk older newer =
    λ i. record { volume = volume i; size = size i; disk = disk i; older = older i; newer = newer i; pending = []; spare = 0; down = false }

-- what is settled stays
pub settled_twice : (covers : ℕ) (j : JournalView) → settled covers (settled covers j) ≡ settled covers j
settled_twice covers j =
    let s = settled covers j in
    settled_alike covers j s refl refl refl
    (⊎_elim
    (λ (lt : covers < number_behind j.newer 0).
    let there : covers < number_behind s.newer 0 = omega (arith, lt, settled_last covers j) in (settled_goes_on covers s there).0 ∙ unless_stays covers s.older (settled_above covers j))
    (λ (le : number_behind j.newer 0 ≤ covers).
    let there : number_behind s.newer 0 ≤ covers = omega (arith, le, settled_last covers j) in (settled_begins covers s there).0 ∙ sym (settled_begins covers j le).0)
    (cases_lt covers (number_behind j.newer 0)))
    (⊎_elim
    (λ (lt : covers < number_behind j.newer 0).
    let there : covers < number_behind s.newer 0 = omega (arith, lt, settled_last covers j) in (settled_goes_on covers s there).1)
    (λ (le : number_behind j.newer 0 ≤ covers).
    let there : number_behind s.newer 0 ≤ covers = omega (arith, le, settled_last covers j) in (settled_begins covers s there).1 ∙ sym (settled_begins covers j le).1)
    (cases_lt covers (number_behind j.newer 0)))

-- ---- a journal that was left so, but for its memory

-- to show it, show each part
pub settled_from : (covers : ℕ) (j k : JournalView) → k.volume ≡ j.volume → k.size ≡ j.size → k.disk ≡ j.disk → k.older ≡ (settled covers j).older → k.newer ≡ (settled covers j).newer
    → k.pending ≡ [] → k.down ≡ false → SameButSpare (settled covers j) k
settled_from covers j k volume size disk older newer pending down =
    λ i. record { volume = volume i; size = size i; disk = disk i; older = older i; newer = newer i; pending = pending i; spare = k.spare; down = down i }

-- it is left as it is by another opening
pub settled_stays : (covers : ℕ) (j k : JournalView) → SameButSpare (settled covers j) k → SameButSpare (settled covers k) k
settled_stays covers j k same =
    let x : ℕ = k.spare in
    let there : SameButSpare (settled covers (record (settled covers j) { spare = x })) (record (settled covers j) { spare = x }) =
    ap (λ (v : JournalView). record v { spare = x }) (sym (settled_twice covers j)) in
    subst (λ (v : JournalView). SameButSpare (settled covers v) v) (sym same) there

-- ---- one image

-- where its areas have no entry, none is above the number with which they begin
none_above : (volume size : ℕ) (image : List ℕ) (o n : Option OpenArea) (es fs : List (List ℕ)) → AreInOrder size o n → IsLaid volume size image o es → IsLaid volume size image n fs
    → length es + length fs ≤ 0 → number_behind n 0 ≤ base_in o n
none_above volume size image None None es fs order older newer none = omega arith
none_above volume size image None (Some a) es fs order older newer none = omega (arith, newer.numbers, none)
none_above volume size image (Some a) None es fs order older newer none = absurd order
none_above volume size image (Some a) (Some b) es fs order older newer none = omega (arith, order.number, older.numbers, newer.numbers, none)

-- Two journals of one volume that stand over one image, and begin with a number up to covers, are left alike.
module _ (covers : ℕ) (j k : JournalView) (image : List ℕ) (es fs gs hs : List (List ℕ)) (volume : k.volume ≡ j.volume) (size : k.size ≡ j.size) (is_j : IsJournal j) (is_k : IsJournal k)
    (stands_j : StandsFor j image es fs) (stands_k : StandsFor k image gs hs) where
  -- they have the same areas
  settled_areas : (k.older ≡ j.older) × (k.newer ≡ j.newer) → settled covers k ≡ settled covers j
  settled_areas same =
      let disk : k.disk ≡ j.disk = sym stands_k.size ∙ stands_j.size in
      λ i. settled covers (record {
        volume = volume i;
        size = size i;
        disk = disk i;
        older = same.0 i;
        newer = same.1 i;
        pending = [];
        spare = 0;
        down = false;
      })

  -- neither has an entry
  settled_empty : first_base j ≤ covers → first_base k ≤ covers → length es + length fs ≤ 0 → length gs + length hs ≤ 0 → settled covers k ≡ settled covers j
  settled_empty low_j low_k none_j none_k =
      let first : number_behind j.newer 0 ≤ covers =
      omega (arith, none_above j.volume j.size image j.older j.newer es fs is_j.in_order stands_j.older_is stands_j.newer_is none_j, low_j) in
      let second : number_behind k.newer 0 ≤ covers =
      omega (arith, none_above k.volume k.size image k.older k.newer gs hs is_k.in_order stands_k.older_is stands_k.newer_is none_k, low_k) in
      let one = settled_begins covers j first in
      let two = settled_begins covers k second in
      settled_alike covers j k volume size (sym stands_k.size ∙ stands_j.size) (two.0 ∙ sym one.0) (two.1 ∙ sym one.1)

  pub settled_one : first_base j ≤ covers → first_base k ≤ covers → settled covers k ≡ settled covers j
  settled_one low_j low_k =
      ⊎_elim (λ (some : 0 < length es + length fs). settled_areas (journal_once j k image es fs gs hs volume size is_j is_k stands_j stands_k some))
      (λ (none_j : length es + length fs ≤ 0).
      ⊎_elim
      (λ (some : 0 < length gs + length hs).
      let same = journal_once k j image gs hs es fs (sym volume) (sym size) is_k is_j stands_k stands_j some in settled_areas (sym same.0, sym same.1))
      (λ (none_k : length gs + length hs ≤ 0). settled_empty low_j low_k none_j none_k)
      (cases_lt 0 (length gs + length hs)))
      (cases_lt 0 (length es + length fs))

-- ---- as it is kept

one_is : (b : Bool) (a : OpenArea) → option_map area_state (if b then Some a else None) ≡ (if b then Some (area_state a) else None)
one_is true a = refl
one_is false a = refl

unless_is : (covers : ℕ) (o : Option OpenArea) → option_map area_state (unless_covered last_of covers o) ≡ unless_covered (λ a. a.last) covers (option_map area_state o)
unless_is covers None = refl
unless_is covers (Some a) = one_is (nat_lt covers a.last) a

older_by : (covers : ℕ) (b : Bool) (o : Option OpenArea)
    → option_map area_state (if b then unless_covered last_of covers o else None) ≡ (if b then unless_covered (λ a. a.last) covers (option_map area_state o) else None)
older_by covers true o = unless_is covers o
older_by covers false o = refl

older_is : (covers : ℕ) (o n : Option OpenArea) → option_map area_state (settled_older last_of covers o n) ≡ settled_older (λ a. a.last) covers (option_map area_state o) (option_map area_state n)
older_is covers o None = refl
older_is covers o (Some a) = older_by covers (nat_lt covers a.last) o

newer_by : (b : Bool) (a : OpenArea) (fresh : OpenArea) → option_map area_state (if b then Some a else Some fresh) ≡ (if b then Some (area_state a) else Some (area_state fresh))
newer_by true a fresh = refl
newer_by false a fresh = refl

newer_is : (covers : ℕ) (n : Option OpenArea)
    → option_map area_state (settled_newer last_of (new_area 0 covers) covers n) ≡ settled_newer (λ a. a.last) (area_state (new_area 0 covers)) covers (option_map area_state n)
newer_is covers None = refl
newer_is covers (Some a) = newer_by (nat_lt covers a.last) a (new_area 0 covers)

-- what is kept of a journal as an opening leaves it is what an opening leaves of what is kept of it
pub left_open_is : (covers : ℕ) (j : JournalView) → journal_state (settled covers j) ≡ left_open covers (journal_state j)
left_open_is covers j = λ i. record { size = j.size; older = older_is covers j.older j.newer i; newer = newer_is covers j.newer i; waiting = 0 }
