-- An image over which a journal stands reads as the entries for which it stands.
use Rattle.std.specs.Prelude.{nat_lt, nat_le, ◌==◌, IfSome, IsTrue}
use Rattle.std.specs.List.{AllByRecursion}
use Rattle.std.specs.Option.{option_map}
use Rattle.std.proofs.Common.{◌≡◌, ◌⊎◌, inl, inr, ⊎_elim, ℕ, zero, suc, ◌+◌, ◌*◌, ◌<◌, ◌≤◌, Bool, true, false, List, [], ◌∷◌, ◌++◌, length, take, drop, Option, Some, None, Ok, refl, sym, ap, ◌∙◌, subst, arith, length-append}
use Rattle.std.proofs.lemmas.Bool.{le-ltb, lt-leb, eq-eqb, ne_eqb, cases_Bool, cases_lt, cases_eq, lt-ltb}
use Rattle.std.proofs.lemmas.List.{append-nil}
use Rattle.sky_base.specs.Limits.{max_number}
use Rattle.sky_outside.specs.Image.{bytes_at}
use Rattle.sky_journal.specs.Layout.{is_open, number_8, volume_place, area_header, batch_header, count_at, body_at, next_batch}
use Rattle.sky_journal.specs.Text.{all_of_grammar, Area, batch_at, batches_from, base_of, numbered, area_entries, second_is_older, in_order, open_areas, first_area, second_area, areas_entries, entries_of}
use Rattle.sky_journal.specs.Laid.{joined, IsBatch, HasBatches, IsArea, IsLaid, BeginsAt, IsFree}
use Rattle.sky_journal.specs.Journal.{JournalView, IsOpenArea, GoesOn, AreInOrder, IsJournal, StandsFor, numbered_in, base_in, ReadsAs, ReadsEntries, entries, first_base, area_with, after_commit, after_rotation}
use Rattle.sky_journal.specs.declared.open_area.OpenArea.{OpenArea}
use Rattle.sky_journal.proofs.Entries.{entries_in-length}
use Rattle.sky_journal.proofs.Halves.{IsHalf}

-- each of these entries is of the grammar
abbrev AreOfGrammar : (List ℕ → Bool) → List (List ℕ) → Type 0
AreOfGrammar is_entry es = AllByRecursion (λ e. IsTrue (is_entry e)) es

-- ---- a batch

all_true : (is_entry : List ℕ → Bool) (place : ℕ) (es : List (List ℕ)) → AreOfGrammar is_entry es → all_of_grammar is_entry place es ≡ Ok tt
unfolding all_of_grammar
all_true is_entry place [] all = refl
all_true is_entry place (e ∷ es) all =
    let first : is_entry e ≡ true = all.0 in
    rw first (all_true is_entry (place + length e) es all.1)

batch_reads : (is_entry : List ℕ → Bool) (area : Area) (p last : ℕ) (es : List (List ℕ)) → IsBatch area.bytes p es → last + length es < max_number → AreOfGrammar is_entry es
    → batch_at is_entry area p last ≡ Ok es
unfolding batch_at
batch_reads is_entry area p last es is few all =
    let some : (count_at p area.bytes == 0) ≡ false = ne_eqb _ _ (λ e. omega (arith, is.some)) in
    let within : nat_le (length area.bytes) (next_batch p area.bytes) ≡ false = lt-leb _ _ is.within in
    let number : nat_le max_number (last + length es) ≡ false = lt-leb _ _ few in
    rw (some, within, is.holds, number, all_true is_entry (area.start + p + batch_header) es all) refl

-- ---- an area

all_left : (is_entry : List ℕ → Bool) (es fs : List (List ℕ)) → AreOfGrammar is_entry (es ++ fs) → AreOfGrammar is_entry es
all_left is_entry [] fs all = tt
all_left is_entry (e ∷ es) fs all = (all.0, all_left is_entry es fs all.1)

all_right : (is_entry : List ℕ → Bool) (es fs : List (List ℕ)) → AreOfGrammar is_entry (es ++ fs) → AreOfGrammar is_entry fs
all_right is_entry [] fs all = all
all_right is_entry (e ∷ es) fs all = all_right is_entry es fs all.1

-- the batches from a place on, where the bound is not below the number of bytes that are left
batches_read : (is_entry : List ℕ → Bool) (area : Area) (bound p last : ℕ) (bs : List (List (List ℕ))) (end : ℕ) → HasBatches area.bytes p bs end
    → is_open end area.bytes ≡ false → length area.bytes ≤ p + bound → last + length (joined bs) < max_number → AreOfGrammar is_entry (joined bs)
    → batches_from is_entry area bound p last ≡ Ok (joined bs)
unfolding batches_from HasBatches joined
batches_read is_entry area zero p last [] end has closed long few all = refl
batches_read is_entry area (suc n) p last [] end has closed long few all =
    let gate : is_open p area.bytes ≡ false = ap (λ (q : ℕ). is_open q area.bytes) has.0 ∙ closed in
    rw gate refl
batches_read is_entry area zero p last (b ∷ bs) end has closed long few all = absurd (omega (arith, has.0.within))
batches_read is_entry area (suc n) p last (b ∷ bs) end has closed long few all =
    let both : length (b ++ joined bs) ≡ length b + length (joined bs) = length-append b (joined bs) in
    let first : batch_at is_entry area p last ≡ Ok b = batch_reads is_entry area p last b has.0 (omega (arith, both)) (all_left is_entry b (joined bs) all) in
    let others : batches_from is_entry area n (next_batch p area.bytes) (last + length b) ≡ Ok (joined bs) =
    batches_read is_entry area n (next_batch p area.bytes) (last + length b) bs end has.1 closed (omega arith) (omega (arith, both)) (all_right is_entry b (joined bs) all) in
    rw (has.0.gate, first, others) refl

-- an open area has its entries
area_reads : (is_entry : List ℕ → Bool) (volume : ℕ) (area : Area) (a : OpenArea) (es : List (List ℕ)) → IsArea volume area.bytes a es → a.last < max_number
    → AreOfGrammar is_entry es → area_entries is_entry volume area false ≡ Ok (numbered a.base es)
unfolding area_entries
area_reads is_entry volume area a es is few all =
    let same_volume : (number_8 volume_place area.bytes == volume) ≡ true = eq-eqb _ _ is.volume_is in
    let low : base_of area ≡ a.base = is.base in
    let number : nat_le max_number (base_of area) ≡ false = lt-leb _ _ (omega (arith, is.numbers)) in
    let count : length (joined is.batches) ≡ length es = ap (λ (l : List (List ℕ)). length l) is.entries_are in
    let read : batches_from is_entry area (length area.bytes) area_header (base_of area) ≡ Ok (joined is.batches) =
    batches_read is_entry area (length area.bytes) area_header (base_of area) is.batches a.end is.has is.closed (omega arith) (omega (arith, is.numbers))
    (subst (λ (l : List (List ℕ)). AreOfGrammar is_entry l) (sym is.entries_are) all) in
    rw (same_volume, number, read) (cc (is.entries_are, low))

-- ---- areas without entries

-- a batch has an entry
batch_some : (area : List ℕ) (p : ℕ) (es : List (List ℕ)) → IsBatch area p es → 0 < length es
batch_some area p es is = omega (arith, is.some, entries_in-length (count_at p area) (body_at p area) es is.holds)

first_closed : (area : List ℕ) (p : ℕ) (bs : List (List (List ℕ))) (end : ℕ) → HasBatches area p bs end → is_open end area ≡ false → length (joined bs) ≡ 0 → is_open p area ≡ false
unfolding HasBatches joined
first_closed area p [] end has closed none = ap (λ (q : ℕ). is_open q area) has.0 ∙ closed
first_closed area p (b ∷ bs) end has closed none = absurd (omega (arith, batch_some area p b has.0, length-append b (joined bs)))

first_none : (area : List ℕ) (p : ℕ) (bs : List (List (List ℕ))) (end : ℕ) → HasBatches area p bs end → is_open p area ≡ false → joined bs ≡ []
unfolding HasBatches joined
first_none area p [] end has closed = refl
first_none area p (b ∷ bs) end has closed = let opened = has.0.gate in absurd cc

-- an area without entries has its first batch's gate closed
area_closed : (volume : ℕ) (area : List ℕ) (a : OpenArea) (es : List (List ℕ)) → IsArea volume area a es → a.base ≡ a.last → is_open area_header area ≡ false
area_closed volume area a es is none =
    first_closed area area_header is.batches a.end is.has is.closed (omega (arith, is.numbers, ap (λ (l : List (List ℕ)). length l) is.entries_are))

-- and one whose first gate is closed has none
area_none : (volume : ℕ) (area : List ℕ) (a : OpenArea) (es : List (List ℕ)) → IsArea volume area a es → is_open area_header area ≡ false → es ≡ []
area_none volume area a es is closed = sym is.entries_are ∙ first_none area area_header is.batches a.end is.has closed

nothing : (es : List (List ℕ)) → length es ≡ 0 → es ≡ []
nothing [] none = refl
nothing (e ∷ es) none = absurd (omega arith)

-- ---- which areas are read

pub open_first : (a b : Area) → is_open 0 a.bytes ≡ true → is_open 0 b.bytes ≡ false → open_areas a b ≡ a ∷ []
unfolding open_areas
open_first a b opened closed = rw (opened, closed) refl

pub open_second : (a b : Area) → is_open 0 a.bytes ≡ false → is_open 0 b.bytes ≡ true → open_areas a b ≡ b ∷ []
unfolding open_areas
open_second a b closed opened = rw (closed, opened) refl

pub open_none : (a b : Area) → is_open 0 a.bytes ≡ false → is_open 0 b.bytes ≡ false → open_areas a b ≡ []
unfolding open_areas
open_none a b first second = rw (first, second) refl

pub open_both : (a b : Area) → is_open 0 a.bytes ≡ true → is_open 0 b.bytes ≡ true → open_areas a b ≡ in_order a b
unfolding open_areas
open_both a b first second = rw (first, second) refl

-- an open area of the disk: it has these entries, and its numbers are below the limit
pub record IsOpen (volume : ℕ) (area : Area) (a : OpenArea) (es : List (List ℕ)) : Type 0 where
  pub is : IsArea volume area.bytes a es
  pub few : a.last < max_number

-- the first of two is the older, where the second goes on from it
pub first_is_older : (volume : ℕ) (a b : Area) (x y : OpenArea) (es fs : List (List ℕ)) → IsOpen volume a x es → IsOpen volume b y fs → y.base ≡ x.last → second_is_older a b ≡ false
first_is_older volume a b x y es fs first second goes_on =
    let low_a : base_of a ≡ x.base = first.is.base in
    let low_b : base_of b ≡ y.base = second.is.base in
    let not_below : nat_lt (base_of b) (base_of a) ≡ false = le-ltb _ _ (omega (arith, first.is.numbers)) in
    ⊎_elim
    (λ (e : base_of a ≡ base_of b). rw (not_below, eq-eqb _ _ e, area_closed volume a.bytes x es first.is (omega arith)) refl)
    (λ (apart : base_of a ≡ base_of b → ⊥). rw (not_below, ne_eqb _ _ apart) refl)
    (cases_eq (base_of a) (base_of b))

-- The second of two is the older, where the first goes on from it; or neither has entries.
pub record HaveNone (a b : Area) (es fs : List (List ℕ)) : Type 0 where
  pub first_read : second_is_older a b ≡ false
  pub first_none : es ≡ []
  pub second_none : fs ≡ []

pub second_is_older_if : (volume : ℕ) (a b : Area) (x y : OpenArea) (es fs : List (List ℕ)) → IsOpen volume a x es → IsOpen volume b y fs → x.base ≡ y.last
    → (second_is_older a b ≡ true) ⊎ HaveNone a b es fs
second_is_older_if volume a b x y es fs first second goes_on =
    let low_a : base_of a ≡ x.base = first.is.base in
    let low_b : base_of b ≡ y.base = second.is.base in
    let numbers : y.last ≡ y.base + length fs = second.is.numbers in
    ⊎_elim
    (λ (below : base_of b < base_of a). inl (rw (lt-ltb _ _ below) refl))
    (λ (not_below : base_of a ≤ base_of b).
    let same : base_of a ≡ base_of b = omega arith in
    let lt : nat_lt (base_of b) (base_of a) ≡ false = le-ltb _ _ (omega arith) in
    let eq : (base_of a == base_of b) ≡ true = eq-eqb _ _ same in
    let closed : is_open area_header b.bytes ≡ false = area_closed volume b.bytes y fs second.is (omega arith) in
    ⊎_elim
    (λ (opened : is_open area_header a.bytes ≡ true). inl (rw (lt, eq, opened, closed) refl))
    (λ (shut : is_open area_header a.bytes ≡ false). inr (record {
      first_read = rw (lt, eq, shut) refl;
      first_none = area_none volume a.bytes x es first.is shut;
      second_none = nothing fs (omega arith);
    }))
    (cases_Bool (is_open area_header a.bytes)))
    (cases_lt (base_of b) (base_of a))

-- ---- what they say

length-numbered : (n : ℕ) (es : List (List ℕ)) → length (numbered n es) ≡ length es
unfolding numbered
length-numbered n [] = refl
length-numbered n (e ∷ es) = ap suc (length-numbered (n + 1) es)

one_read : (is_entry : List ℕ → Bool) (volume covers : ℕ) (area : Area) (a : OpenArea) (es : List (List ℕ)) → IsOpen volume area a es → a.base ≤ covers
    → AreOfGrammar is_entry es → areas_entries is_entry volume covers (area ∷ []) ≡ Ok (numbered a.base es)
unfolding areas_entries
one_read is_entry volume covers area a es opens le all =
    let low : base_of area ≡ a.base = opens.is.base in
    let covered : nat_lt covers (base_of area) ≡ false = le-ltb _ _ (omega arith) in
    rw covered (area_reads is_entry volume area a es opens.is opens.few all)

two_read : (is_entry : List ℕ → Bool) (volume covers : ℕ) (a b : Area) (x y : OpenArea) (es fs : List (List ℕ)) → IsOpen volume a x es → IsOpen volume b y fs → y.base ≡ x.last
    → x.base ≤ covers → AreOfGrammar is_entry es → AreOfGrammar is_entry fs
    → areas_entries is_entry volume covers (a ∷ b ∷ []) ≡ Ok (numbered x.base es ++ numbered y.base fs)
unfolding areas_entries
two_read is_entry volume covers a b x y es fs first second goes_on le all_es all_fs =
    let low_a : base_of a ≡ x.base = first.is.base in
    let low_b : base_of b ≡ y.base = second.is.base in
    let covered : nat_lt covers (base_of a) ≡ false = le-ltb _ _ (omega arith) in
    let older : area_entries is_entry volume a false ≡ Ok (numbered x.base es) = area_reads is_entry volume a x es first.is first.few all_es in
    let newer : area_entries is_entry volume b false ≡ Ok (numbered y.base fs) = area_reads is_entry volume b y fs second.is second.few all_fs in
    let from : (base_of b == base_of a + length (numbered x.base es)) ≡ true = eq-eqb _ _ (omega (arith, length-numbered x.base es, first.is.numbers)) in
    rw (covered, older, from, newer) refl

-- ---- the disk

numbered_grammar : (is_entry : List ℕ → Bool) (n : ℕ) (es : List (List ℕ)) → AllByRecursion (λ e. IsTrue (is_entry e.1)) (numbered n es) → AreOfGrammar is_entry es
unfolding numbered
numbered_grammar is_entry n [] all = tt
numbered_grammar is_entry n (e ∷ es) all = (all.0, numbered_grammar is_entry (n + 1) es all.1)

both_left : (is_entry : List ℕ → Bool) (es fs : List (ℕ × List ℕ)) → AllByRecursion (λ e. IsTrue (is_entry e.1)) (es ++ fs) → AllByRecursion (λ e. IsTrue (is_entry e.1)) es
both_left is_entry [] fs all = tt
both_left is_entry (e ∷ es) fs all = (all.0, both_left is_entry es fs all.1)

both_right : (is_entry : List ℕ → Bool) (es fs : List (ℕ × List ℕ)) → AllByRecursion (λ e. IsTrue (is_entry e.1)) (es ++ fs) → AllByRecursion (λ e. IsTrue (is_entry e.1)) fs
both_right is_entry [] fs all = all
both_right is_entry (e ∷ es) fs all = both_right is_entry es fs all.1

-- an area that is known is one of the disk's two
pub in_first : (volume size : ℕ) (image : List ℕ) (a : OpenArea) (es : List (List ℕ)) → IsArea volume (bytes_at image a.start size) a es → IsOpenArea size a → a.start ≡ 0
    → IsOpen volume (first_area size image) a es
in_first volume size image a es is opens at = record { is = subst (λ (s : ℕ). IsArea volume (take size (drop s image)) a es) at is; few = opens.number }

pub in_second : (volume size : ℕ) (image : List ℕ) (a : OpenArea) (es : List (List ℕ)) → IsArea volume (bytes_at image a.start size) a es → IsOpenArea size a → a.start ≡ size
    → IsOpen volume (second_area size image) a es
in_second volume size image a es is opens at = record { is = subst (λ (s : ℕ). IsArea volume (take size (drop s image)) a es) at is; few = opens.number }

none_read : (is_entry : List ℕ → Bool) (volume covers : ℕ) → areas_entries is_entry volume covers [] ≡ Ok []
unfolding areas_entries
none_read is_entry volume covers = refl

-- one area
one_at : (is_entry : List ℕ → Bool) (volume size covers : ℕ) (image : List ℕ) (a : OpenArea) (es : List (List ℕ)) → 0 < size → IsOpenArea size a → IsHalf size a.start
    → IsArea volume (bytes_at image a.start size) a es → ((start : ℕ) → IsHalf size start → (a.start ≡ start → ⊥) → IsFree size start image) → a.base ≤ covers
    → AreOfGrammar is_entry es → areas_entries is_entry volume covers (open_areas (first_area size image) (second_area size image)) ≡ Ok (numbered a.base es)
one_at is_entry volume size covers image a es some opens (inl at) is others le all =
    let known = in_first volume size image a es is opens at in
    let free : is_open 0 (second_area size image).bytes ≡ false = others size (inr refl) (λ e. omega arith) in
    rw (open_first (first_area size image) (second_area size image) known.is.gate free) (one_read is_entry volume covers (first_area size image) a es known le all)
one_at is_entry volume size covers image a es some opens (inr at) is others le all =
    let known = in_second volume size image a es is opens at in
    let free : is_open 0 (first_area size image).bytes ≡ false = others 0 (inl refl) (λ e. omega arith) in
    rw (open_second (first_area size image) (second_area size image) free known.is.gate) (one_read is_entry volume covers (second_area size image) a es known le all)

-- two areas, the older first
older_first : (is_entry : List ℕ → Bool) (volume covers : ℕ) (a b : Area) (x y : OpenArea) (es fs : List (List ℕ)) → IsOpen volume a x es → IsOpen volume b y fs → y.base ≡ x.last
    → x.base ≤ covers → AreOfGrammar is_entry es → AreOfGrammar is_entry fs
    → areas_entries is_entry volume covers (open_areas a b) ≡ Ok (numbered x.base es ++ numbered y.base fs)
older_first is_entry volume covers a b x y es fs first second goes_on le all_es all_fs =
    rw (open_both a b first.is.gate second.is.gate, first_is_older volume a b x y es fs first second goes_on)
    (two_read is_entry volume covers a b x y es fs first second goes_on le all_es all_fs)

-- where neither has entries, either order says that there are none
turned_none : (is_entry : List ℕ → Bool) (volume covers : ℕ) (a b : Area) (x y : OpenArea) (es fs : List (List ℕ)) → IsOpen volume a x es → IsOpen volume b y fs → x.base ≡ y.last
    → y.base ≤ covers → HaveNone a b es fs → areas_entries is_entry volume covers (open_areas a b) ≡ Ok (numbered y.base fs ++ numbered x.base es)
unfolding numbered
turned_none is_entry volume covers a b x y es fs first second goes_on le none =
    let es_none : length es ≡ 0 = ap (λ (l : List (List ℕ)). length l) none.first_none in
    let fs_none : length fs ≡ 0 = ap (λ (l : List (List ℕ)). length l) none.second_none in
    let all_es : AreOfGrammar is_entry es = subst (λ (l : List (List ℕ)). AreOfGrammar is_entry l) (sym none.first_none) tt in
    let all_fs : AreOfGrammar is_entry fs = subst (λ (l : List (List ℕ)). AreOfGrammar is_entry l) (sym none.second_none) tt in
    let read : areas_entries is_entry volume covers (a ∷ b ∷ []) ≡ Ok (numbered x.base es ++ numbered y.base fs) =
    two_read is_entry volume covers a b x y es fs first second (omega (arith, goes_on, first.is.numbers, second.is.numbers))
    (omega (arith, goes_on, second.is.numbers)) all_es all_fs in
    let left : numbered x.base es ≡ [] = ap (λ (l : List (List ℕ)). numbered x.base l) none.first_none in
    let right : numbered y.base fs ≡ [] = ap (λ (l : List (List ℕ)). numbered y.base l) none.second_none in
    rw (open_both a b first.is.gate second.is.gate, none.first_read) (read ∙ cc (left, right))

-- two areas, the older second
older_second : (is_entry : List ℕ → Bool) (volume covers : ℕ) (a b : Area) (x y : OpenArea) (es fs : List (List ℕ)) → IsOpen volume a x es → IsOpen volume b y fs → x.base ≡ y.last
    → y.base ≤ covers → AreOfGrammar is_entry es → AreOfGrammar is_entry fs
    → areas_entries is_entry volume covers (open_areas a b) ≡ Ok (numbered y.base fs ++ numbered x.base es)
older_second is_entry volume covers a b x y es fs first second goes_on le all_es all_fs = ⊎_elim
    (λ (turned : second_is_older a b ≡ true).
    rw (open_both a b first.is.gate second.is.gate, turned) (two_read is_entry volume covers b a y x fs es second first goes_on le all_fs all_es))
    (λ (none : HaveNone a b es fs). turned_none is_entry volume covers a b x y es fs first second goes_on le none)
    (second_is_older_if volume a b x y es fs first second goes_on)

two_at : (is_entry : List ℕ → Bool) (volume size covers : ℕ) (image : List ℕ) (x y : OpenArea) (es fs : List (List ℕ)) → IsOpenArea size x → IsOpenArea size y → GoesOn size x y
    → IsHalf size x.start → IsArea volume (bytes_at image x.start size) x es → IsArea volume (bytes_at image y.start size) y fs → x.base ≤ covers
    → AreOfGrammar is_entry es → AreOfGrammar is_entry fs
    → areas_entries is_entry volume covers (open_areas (first_area size image) (second_area size image)) ≡ Ok (numbered x.base es ++ numbered y.base fs)
two_at is_entry volume size covers image x y es fs x_opens y_opens order (inl at) is_x is_y le all_es all_fs =
    older_first is_entry volume covers (first_area size image) (second_area size image) x y es fs (in_first volume size image x es is_x x_opens at)
    (in_second volume size image y fs is_y y_opens (omega (arith, order.beside))) order.number le all_es all_fs
two_at is_entry volume size covers image x y es fs x_opens y_opens order (inr at) is_x is_y le all_es all_fs =
    older_second is_entry volume covers (first_area size image) (second_area size image) y x fs es (in_first volume size image y fs is_y y_opens (omega (arith, order.beside)))
    (in_second volume size image x es is_x x_opens at) order.number le all_fs all_es

disk_reads : (is_entry : List ℕ → Bool) (volume size covers : ℕ) (image : List ℕ) (o n : Option OpenArea) (es fs : List (List ℕ)) → 0 < size → IfSome o (IsOpenArea size)
    → IfSome n (IsOpenArea size) → AreInOrder size o n → IsLaid volume size image o es → IsLaid volume size image n fs
    → ((start : ℕ) → IsHalf size start → (BeginsAt start o → ⊥) → (BeginsAt start n → ⊥) → IsFree size start image)
    → AllByRecursion (λ e. IsTrue (is_entry e.1)) (numbered_in o es ++ numbered_in n fs) → base_in o n ≤ covers
    → areas_entries is_entry volume covers (open_areas (first_area size image) (second_area size image)) ≡ Ok (numbered_in o es ++ numbered_in n fs)
disk_reads is_entry volume size covers image None None es fs some o_open n_open order o_laid n_laid others all le =
    let first : is_open 0 (first_area size image).bytes ≡ false = others 0 (inl refl) (λ e. e) (λ e. e) in
    let second : is_open 0 (second_area size image).bytes ≡ false = others size (inr refl) (λ e. e) (λ e. e) in
    rw (open_none (first_area size image) (second_area size image) first second) (none_read is_entry volume covers)
disk_reads is_entry volume size covers image None (Some a) es fs some o_open n_open order o_laid n_laid others all le =
    one_at is_entry volume size covers image a fs some n_open n_open.start n_laid (λ start half apart. others start half (λ e. e) apart) le (numbered_grammar is_entry a.base fs all)
disk_reads is_entry volume size covers image (Some a) None es fs some o_open n_open order o_laid n_laid others all le = absurd order
disk_reads is_entry volume size covers image (Some a) (Some b) es fs some o_open n_open order o_laid n_laid others all le =
    two_at is_entry volume size covers image a b es fs o_open n_open order o_open.start o_laid n_laid le
    (numbered_grammar is_entry a.base es (both_left is_entry (numbered a.base es) (numbered b.base fs) all))
    (numbered_grammar is_entry b.base fs (both_right is_entry (numbered a.base es) (numbered b.base fs) all))

of_areas : (is_entry : List ℕ → Bool) (volume size covers : ℕ) (image : List ℕ) → 2 * size ≤ length image
    → entries_of is_entry volume size covers image ≡ areas_entries is_entry volume covers (open_areas (first_area size image) (second_area size image))
unfolding entries_of
of_areas is_entry volume size covers image fits =
    let large : nat_lt (length image) (2 * size) ≡ false = le-ltb _ _ fits in
    rw large refl

-- An image reads as the entries for which a journal stands over it.
pub reads : (j : JournalView) (image : List ℕ) (older newer : List (List ℕ)) → IsJournal j → StandsFor j image older newer → ReadsEntries j older newer image
reads j image older newer is stands = λ is_entry covers all le.
    of_areas is_entry j.volume j.size covers image (omega (arith, is.fits, stands.size))
    ∙ disk_reads is_entry j.volume j.size covers image j.older j.newer older newer (omega (arith, is.least)) is.older is.newer is.in_order stands.older_is stands.newer_is stands.others all le

-- It reads so behind any later number too.
pub reads-later : (volume size base later : ℕ) (list : List (ℕ × List ℕ)) (image : List ℕ) → ReadsAs volume size base list image → base ≤ later → ReadsAs volume size later list image
reads-later volume size base later list image read le = λ is_entry covers all covered. read is_entry covers all (omega arith)

-- ---- as the journal before a call

committed_same : (j : JournalView) (o n : Option OpenArea) (older es : List (List ℕ))
    → (base_in o (option_map (area_with j.pending) n) ≡ base_in o n) × (numbered_in o older ++ numbered_in (option_map (area_with j.pending) n) es ≡ numbered_in o older ++ numbered_in n es)
committed_same j None None older es = (refl, refl)
committed_same j None (Some a) older es = (refl, refl)
committed_same j (Some b) None older es = (refl, refl)
committed_same j (Some b) (Some a) older es = (refl, refl)

-- what reads as the journal's entries after a commit reads so as the journal's before it
pub ReadsEntries-after_commit : (j : JournalView) (image : List ℕ) (older es : List (List ℕ)) → ReadsEntries (after_commit j) older es image → ReadsEntries j older es image
ReadsEntries-after_commit j image older es read =
    let same = committed_same j j.older j.newer older es in
    subst (λ (base : ℕ). ReadsAs j.volume j.size base (entries j older es) image) same.0
    (subst (λ (list : List (ℕ × List ℕ)). ReadsAs j.volume j.size (first_base (after_commit j)) list image) same.1 read)

rotated_same : (o : Option OpenArea) (older newer : List (List ℕ)) (n : Option OpenArea) (base : ℕ) → o ≡ None
    → numbered_in n newer ++ numbered base [] ≡ numbered_in o older ++ numbered_in n newer
unfolding numbered
rotated_same o older newer n base e = append-nil (numbered_in n newer) ∙ ap (λ (o : Option OpenArea). numbered_in o older ++ numbered_in n newer) (sym e)

-- what reads as its entries after a rotation reads so as those before it, behind the first base after it
pub ReadsEntries-after_rotation : (j : JournalView) (base : ℕ) (image : List ℕ) (older newer : List (List ℕ)) → j.older ≡ None → ReadsEntries (after_rotation j base) newer [] image
    → ReadsAs j.volume j.size (first_base (after_rotation j base)) (entries j older newer) image
ReadsEntries-after_rotation j base image older newer e read =
    subst (λ (list : List (ℕ × List ℕ)). ReadsAs j.volume j.size (first_base (after_rotation j base)) list image) (rotated_same j.older older newer j.newer base e) read
