-- What is read of a disk that is not foreign: entries that are numbered one after the other, from a number up to covers on, and are
-- each of the grammar. Crates above cite this.
use Rattle.std.specs.Prelude.{◌≡◌, ◌⊎◌, ℕ, zero, suc, ◌+◌, ◌*◌, ◌≤◌, Bool, true, false, not, ◌||◌, ◌==◌, nat_lt, nat_le, IsTrue, List, [], ◌∷◌, ◌++◌, length, Result, Ok, Err, ok_or, if◌then◌else◌}
use Rattle.std.specs.List.{AllByRecursion}
use Rattle.std.proofs.Common.{inl, inr, ⊎_elim, refl, sym, ap, ◌∙◌, subst, arith}
use Rattle.std.proofs.lemmas.Bool.{not-false, eqb-true, ltb-false}
use Rattle.sky_base.specs.Limits.{max_number}
use Rattle.sky_journal.specs.Layout.{is_open, number_8, volume_place, base_place, area_header, batch_header, count_at, body_at, next_batch}
use Rattle.sky_journal.specs.Text.{Read, ◌>>=◌, foreign_where, entries_in, all_of_grammar, Area, batch_at, batches_from, base_of, numbered, area_entries, open_areas, first_area, second_area, areas_entries, entries_of}
use Rattle.sky_journal.proofs.AreaWords.{numbered-length}

-- entries are of a grammar
abbrev pub AreOfGrammar : (List ℕ → Bool) → List (List ℕ) → Type 0
AreOfGrammar is_entry es = AllByRecursion (λ e. IsTrue (is_entry e)) es

-- ---- steps of a reading

-- where a reading goes on from a first one and gives something, so does the first
pub bound : {A B : Type 0} (first : Read A) (next : A → Read B) (y : B) → (first >>= next) ≡ Ok y → (x : A) × (first ≡ Ok x) × (next x ≡ Ok y)
bound (Ok x) next y e = (x, refl, e)
bound (Err place) next y e = absurd cc

pub ok_same : {A E : Type 0} (x y : A) (f : Result A E) → f ≡ Ok x → f ≡ Ok y → x ≡ y
ok_same x y f e d = cc

not_foreign : (holds : Bool) (place : ℕ) (u : Unit {0}) → foreign_where holds place ≡ Ok u → holds ≡ false
not_foreign true place u e = absurd cc
not_foreign false place u e = refl

or_right : (a b : Bool) → (a || b) ≡ false → b ≡ false
or_right true b e = absurd cc
or_right false b e = e

not_below : (m n : ℕ) (b : Bool) → nat_lt m n ≡ b → b ≡ false → n ≤ m
not_below m n b e isnt = ltb-false m n (e ∙ isnt)

-- ---- a batch

first_of : (b : Bool) (rest : Read (Unit {0})) (place : ℕ) → (if b then rest else Err place) ≡ Ok tt → (b ≡ true) × (rest ≡ Ok tt)
first_of true rest place e = (refl, e)
first_of false rest place e = absurd cc

grammar_of : (is_entry : List ℕ → Bool) (place : ℕ) (es : List (List ℕ)) → all_of_grammar is_entry place es ≡ Ok tt → AreOfGrammar is_entry es
unfolding all_of_grammar
grammar_of is_entry place [] e = tt
grammar_of is_entry place (x ∷ es) e =
    let both = first_of (is_entry x) (all_of_grammar is_entry (place + length x) es) place e in (both.0, grammar_of is_entry (place + length x) es both.1)

batch_of : (is_entry : List ℕ → Bool) (area : Area) (p last : ℕ) (es : List (List ℕ)) → batch_at is_entry area p last ≡ Ok es → AreOfGrammar is_entry es
unfolding batch_at
batch_of is_entry area p last es e =
    let grammar : List (List ℕ) → Read (List (List ℕ)) = λ found. all_of_grammar is_entry (area.start + p + batch_header) found >>= λ _. Ok found in
    let numbers : List (List ℕ) → Read (List (List ℕ)) = λ found. foreign_where (nat_le max_number (last + length found)) (area.start + p) >>= λ _. grammar found in
    let framed : Read (List (List ℕ)) = ok_or (entries_in (count_at p area.bytes) (body_at p area.bytes)) (area.start + p) >>= numbers in
    let within : Read (List (List ℕ)) = foreign_where (nat_le (length area.bytes) (next_batch p area.bytes)) (area.start + p) >>= λ _. framed in
    let first = bound (foreign_where (count_at p area.bytes == 0) (area.start + p)) (λ _. within) es e in
    let second = bound (foreign_where (nat_le (length area.bytes) (next_batch p area.bytes)) (area.start + p)) (λ _. framed) es first.2 in
    let third = bound (ok_or (entries_in (count_at p area.bytes) (body_at p area.bytes)) (area.start + p)) numbers es second.2 in
    let fourth = bound (foreign_where (nat_le max_number (last + length third.0)) (area.start + p)) (λ _. grammar third.0) es third.2 in
    let fifth = bound (all_of_grammar is_entry (area.start + p + batch_header) third.0) (λ _. Ok third.0) es fourth.2 in
    let same : third.0 ≡ es = ok_same third.0 es (Ok third.0) refl fifth.2 in
    subst (AreOfGrammar is_entry) same (grammar_of is_entry (area.start + p + batch_header) third.0 fifth.1)

-- ---- an area

open_or : (b : Bool) (rest : Read (List (List ℕ))) (es : List (List ℕ)) → (if b then rest else Ok []) ≡ Ok es → (rest ≡ Ok es) ⊎ ([] ≡ es)
open_or true rest es e = inl e
open_or false rest es e = inr (ok_same [] es (Ok []) refl e)

all_append : (is_entry : List ℕ → Bool) (es fs : List (List ℕ)) → AreOfGrammar is_entry es → AreOfGrammar is_entry fs → AreOfGrammar is_entry (es ++ fs)
all_append is_entry [] fs first second = second
all_append is_entry (e ∷ es) fs first second = (first.0, all_append is_entry es fs first.1 second)

batches_of : (is_entry : List ℕ → Bool) (area : Area) (bound_is p last : ℕ) (es : List (List ℕ)) → batches_from is_entry area bound_is p last ≡ Ok es → AreOfGrammar is_entry es
unfolding batches_from
batches_of is_entry area zero p last es e = let none : [] ≡ es = ok_same [] es (Ok []) refl e in subst (AreOfGrammar is_entry) none tt
batches_of is_entry area (suc n) p last es e =
    let others : List (List ℕ) → Read (List (List ℕ)) = λ found. batches_from is_entry area n (next_batch p area.bytes) (last + length found) >>= λ more. Ok (found ++ more) in
    let rest : Read (List (List ℕ)) = batch_at is_entry area p last >>= others in
    ⊎_elim
    (λ (opened : rest ≡ Ok es).
    let first = bound (batch_at is_entry area p last) others es opened in
    let second = bound (batches_from is_entry area n (next_batch p area.bytes) (last + length first.0)) (λ more. Ok (first.0 ++ more)) es first.2 in
    let same : first.0 ++ second.0 ≡ es = ok_same (first.0 ++ second.0) es (Ok (first.0 ++ second.0)) refl second.2 in
    subst (AreOfGrammar is_entry) same
    (all_append is_entry first.0 second.0 (batch_of is_entry area p last first.0 first.1) (batches_of is_entry area n (next_batch p area.bytes) (last + length first.0) second.0 second.1)))
    (λ (none : [] ≡ es). subst (AreOfGrammar is_entry) none tt)
    (open_or (is_open p area.bytes) rest es e)

-- what an area gives
pub record IsAreaText (is_entry : List ℕ → Bool) (area : Area) (foreign : Bool) (list : List (ℕ × List ℕ)) : Type 0 where
  pub entries : List (List ℕ)
  pub listed : list ≡ numbered (base_of area) entries
  pub fine : foreign ≡ false
  pub grammar : AreOfGrammar is_entry entries

pub area_of : (is_entry : List ℕ → Bool) (volume : ℕ) (area : Area) (foreign : Bool) (list : List (ℕ × List ℕ)) → area_entries is_entry volume area foreign ≡ Ok list
    → IsAreaText is_entry area foreign list
unfolding area_entries
area_of is_entry volume area foreign list e =
    let read : Read (List (List ℕ)) = batches_from is_entry area (length area.bytes) area_header (base_of area) in
    let batches : Read (List (ℕ × List ℕ)) = read >>= λ entries. Ok (numbered (base_of area) entries) in
    let based : Read (List (ℕ × List ℕ)) = foreign_where (nat_le max_number (base_of area) || foreign) (area.start + base_place) >>= λ _. batches in
    let first = bound (foreign_where (not (number_8 volume_place area.bytes == volume)) (area.start + volume_place)) (λ _. based) list e in
    let second = bound (foreign_where (nat_le max_number (base_of area) || foreign) (area.start + base_place)) (λ _. batches) list first.2 in
    let third = bound read (λ entries. Ok (numbered (base_of area) entries)) list second.2 in
    record {
      entries = third.0;
      listed = sym (ok_same (numbered (base_of area) third.0) list (Ok (numbered (base_of area) third.0)) refl third.2);
      fine = or_right (nat_le max_number (base_of area)) foreign (not_foreign (nat_le max_number (base_of area) || foreign) (area.start + base_place) second.0 second.1);
      grammar = batches_of is_entry area (length area.bytes) area_header (base_of area) third.0 third.1;
    }

-- ---- the disk

-- entries from a number up to covers on, each of the grammar
pub record IsText (is_entry : List ℕ → Bool) (covers : ℕ) (list : List (ℕ × List ℕ)) : Type 0 where
  pub base : ℕ
  pub entries : List (List ℕ)
  pub listed : list ≡ numbered base entries
  pub based : base ≤ covers
  pub grammar : AreOfGrammar is_entry entries

-- entries are numbered on
pub numbered-append : (base : ℕ) (es fs : List (List ℕ)) → numbered base (es ++ fs) ≡ numbered base es ++ numbered (base + length es) fs
unfolding numbered
numbered-append base [] fs = ap (λ (n : ℕ). numbered n fs) (omega arith)
numbered-append base (e ∷ es) fs =
    ap (λ (l : List (ℕ × List ℕ)). (base + 1, e) ∷ l) (numbered-append (base + 1) es fs ∙ ap (λ (n : ℕ). numbered (base + 1) es ++ numbered n fs) (omega arith))

no_text : (is_entry : List ℕ → Bool) (covers : ℕ) (list : List (ℕ × List ℕ)) → [] ≡ list → IsText is_entry covers list
unfolding numbered
no_text is_entry covers list e = record { base = 0; entries = []; listed = sym e; based = omega arith; grammar = tt }

areas_text : (is_entry : List ℕ → Bool) (volume covers : ℕ) (areas : List Area) (list : List (ℕ × List ℕ)) → areas_entries is_entry volume covers areas ≡ Ok list → IsText is_entry covers list
unfolding areas_entries
areas_text is_entry volume covers [] list e = no_text is_entry covers list (ok_same [] list (Ok []) refl e)
areas_text is_entry volume covers (a ∷ []) list e =
    let one = area_of is_entry volume a (nat_lt covers (base_of a)) list e in
    record { base = base_of a; entries = one.entries; listed = one.listed; based = not_below covers (base_of a) (nat_lt covers (base_of a)) refl one.fine; grammar = one.grammar }
areas_text is_entry volume covers (a ∷ b ∷ more) list e =
    let newer_read : List (ℕ × List ℕ) → Read (List (ℕ × List ℕ)) = λ older. area_entries is_entry volume b (not (base_of b == base_of a + length older)) >>= λ newer. Ok (older ++ newer) in
    let first = bound (area_entries is_entry volume a (nat_lt covers (base_of a))) newer_read list e in
    let second = bound (area_entries is_entry volume b (not (base_of b == base_of a + length first.0))) (λ newer. Ok (first.0 ++ newer)) list first.2 in
    let one = area_of is_entry volume a (nat_lt covers (base_of a)) first.0 first.1 in
    let two = area_of is_entry volume b (not (base_of b == base_of a + length first.0)) second.0 second.1 in
    let whole : first.0 ++ second.0 ≡ list = ok_same (first.0 ++ second.0) list (Ok (first.0 ++ second.0)) refl second.2 in
    let goes_on : base_of b ≡ base_of a + length first.0 = eqb-true (base_of b) (base_of a + length first.0) (not-false (base_of b == base_of a + length first.0) two.fine) in
    let count : length first.0 ≡ length one.entries = ap length one.listed ∙ numbered-length (base_of a) one.entries in
    let from : base_of b ≡ base_of a + length one.entries = omega (arith, goes_on, count) in
    record {
      base = base_of a;
      entries = one.entries ++ two.entries;
      listed = sym whole ∙ ap (λ (l : List (ℕ × List ℕ)). l ++ second.0) one.listed ∙ ap (λ (l : List (ℕ × List ℕ)). numbered (base_of a) one.entries ++ l) two.listed
          ∙ ap (λ (n : ℕ). numbered (base_of a) one.entries ++ numbered n two.entries) from ∙ sym (numbered-append (base_of a) one.entries two.entries);
      based = not_below covers (base_of a) (nat_lt covers (base_of a)) refl one.fine;
      grammar = all_append is_entry one.entries two.entries one.grammar two.grammar;
    }

pub text_of : (is_entry : List ℕ → Bool) (volume size covers : ℕ) (image : List ℕ) (list : List (ℕ × List ℕ)) → entries_of is_entry volume size covers image ≡ Ok list
    → IsText is_entry covers list
unfolding entries_of
text_of is_entry volume size covers image list e =
    let areas : Read (List (ℕ × List ℕ)) = areas_entries is_entry volume covers (open_areas (first_area size image) (second_area size image)) in
    let first = bound (foreign_where (nat_lt (length image) (2 * size)) (length image)) (λ _. areas) list e in
    areas_text is_entry volume covers (open_areas (first_area size image) (second_area size image)) list first.2

-- each of the entries is of the grammar, with its number
numbered_all : (is_entry : List ℕ → Bool) (base : ℕ) (es : List (List ℕ)) → AreOfGrammar is_entry es → AllByRecursion (λ (e : ℕ × List ℕ). IsTrue (is_entry e.1)) (numbered base es)
unfolding numbered
numbered_all is_entry base [] all = tt
numbered_all is_entry base (e ∷ es) all = (all.0, numbered_all is_entry (base + 1) es all.1)

pub text_grammar : (is_entry : List ℕ → Bool) (covers : ℕ) (list : List (ℕ × List ℕ)) → IsText is_entry covers list → AllByRecursion (λ (e : ℕ × List ℕ). IsTrue (is_entry e.1)) list
text_grammar is_entry covers list text =
    subst (λ (l : List (ℕ × List ℕ)). AllByRecursion (λ (e : ℕ × List ℕ). IsTrue (is_entry e.1)) l) (sym text.listed) (numbered_all is_entry text.base text.entries text.grammar)
