-- The entries above a number. Crates above cite this.
use Rattle.std.specs.Prelude.{nat_lt, IsTrue, is_some}
use Rattle.std.proofs.Common.{◌≡◌, ⊎_elim, ℕ, ◌+◌, ◌<◌, ◌≤◌, true, false, List, [], ◌∷◌, ◌++◌, length, Option, Some, None, Result, Ok, Err, refl, sym, ap, ◌∙◌, subst, arith}
use Rattle.std.proofs.lemmas.Bool.{lt-ltb, le-ltb, cases_lt}
use Rattle.std.specs.Result.{result_map_both}
use Rattle.sky_base.specs.declared.object.SegName.{SegName}
use Rattle.sky_base.specs.declared.place.Damage.TheVariants.{Form}
use Rattle.sky_nfs.specs.declared.call.Change.{Change}
use Rattle.sky_nfs.specs.History.{History, history_length, last_tree}
use Rattle.sky_outside.specs.CloudMap.{CloudMap}
use Rattle.sky_journal.specs.Text.{Read, numbered}
use Rattle.sky_sound.specs.Cloud.{HasNoCheckpoint, checkpoint_in, covers_of, cloud_tree}
use Rattle.sky_sound.specs.Entries.{change_of, is_of_change, journal_of, entries_above, changes_in, last_number}
use Rattle.sky_sound.specs.Recovery.{IsSound, Recovered, found_from, history_from, recovered, history_of, unless_checkpoint}
use Rattle.sky_sound.specs.Refusal.{Refusal, Damaged, Foreign}
use Rattle.sky_sound.proofs.Texts.{AreOfGrammar, text_of}

-- an entry above the number, and one that is not
pub above_yes : (covers : ℕ) (e : ℕ × List ℕ) (more : List (ℕ × List ℕ)) → covers < e.0 → entries_above covers (e ∷ more) ≡ e ∷ entries_above covers more
above_yes covers e more lt = let t : nat_lt covers e.0 ≡ true = lt-ltb _ _ lt in rw t refl

pub above_no : (covers : ℕ) (e : ℕ × List ℕ) (more : List (ℕ × List ℕ)) → e.0 ≤ covers → entries_above covers (e ∷ more) ≡ entries_above covers more
above_no covers e more le = let t : nat_lt covers e.0 ≡ false = le-ltb _ _ le in rw t refl

pub above_append : (covers : ℕ) (xs ys : List (ℕ × List ℕ)) → entries_above covers (xs ++ ys) ≡ entries_above covers xs ++ entries_above covers ys
above_append covers [] ys = refl
above_append covers (x ∷ xs) ys =
    ⊎_elim
    (λ (lt : covers < x.0).
    above_yes covers x (xs ++ ys) lt ∙ ap (λ (l : List (ℕ × List ℕ)). x ∷ l) (above_append covers xs ys) ∙ ap (λ (l : List (ℕ × List ℕ)). l ++ entries_above covers ys) (sym (above_yes covers x xs lt)))
    (λ (le : x.0 ≤ covers).
    above_no covers x (xs ++ ys) le ∙ above_append covers xs ys ∙ ap (λ (l : List (ℕ × List ℕ)). l ++ entries_above covers ys) (sym (above_no covers x xs le)))
    (cases_lt covers x.0)

-- entries up to the number
pub above_none : (covers base : ℕ) (es : List (List ℕ)) → base + length es ≤ covers → entries_above covers (numbered base es) ≡ []
unfolding numbered
above_none covers base [] le = refl
above_none covers base (e ∷ es) le = above_no covers (base + 1, e) (numbered (base + 1) es) (omega arith) ∙ above_none covers (base + 1) es (omega arith)

-- the last number is above where there is an entry above
last_is_above : (covers n : ℕ) (xs : List (ℕ × List ℕ)) → covers < n → covers < last_number n (entries_above covers xs)
last_is_above covers n [] lt = lt
last_is_above covers n (x ∷ xs) lt =
    ⊎_elim (λ (more : covers < x.0). subst (λ (l : List (ℕ × List ℕ)). covers < last_number n l) (sym (above_yes covers x xs more)) (last_is_above covers x.0 xs more))
    (λ (le : x.0 ≤ covers). subst (λ (l : List (ℕ × List ℕ)). covers < last_number n l) (sym (above_no covers x xs le)) (last_is_above covers n xs lt))
    (cases_lt covers x.0)

pub none_above : (covers : ℕ) (xs : List (ℕ × List ℕ)) → last_number covers (entries_above covers xs) ≤ covers → entries_above covers xs ≡ []
none_above covers [] le = refl
none_above covers (x ∷ xs) le =
    ⊎_elim
    (λ (more : covers < x.0).
    let here : last_number x.0 (entries_above covers xs) ≤ covers = subst (λ (l : List (ℕ × List ℕ)). last_number covers l ≤ covers) (above_yes covers x xs more) le in
    absurd (omega (arith, here, last_is_above covers x.0 xs more)))
    (λ (no : x.0 ≤ covers). above_no covers x xs no ∙ none_above covers xs (subst (λ (l : List (ℕ × List ℕ)). last_number covers l ≤ covers) (above_no covers x xs no) le))
    (cases_lt covers x.0)

first_nil : (xs ys : List (ℕ × List ℕ)) → xs ++ ys ≡ [] → xs ≡ []
first_nil [] ys e = refl
first_nil (x ∷ xs) ys e = absurd cc

-- where none of all is above, none of the first is
pub none_of_first : (covers : ℕ) (xs ys : List (ℕ × List ℕ)) → entries_above covers (xs ++ ys) ≡ [] → entries_above covers xs ≡ []
none_of_first covers xs ys e = first_nil (entries_above covers xs) (entries_above covers ys) (sym (above_append covers xs ys) ∙ e)

-- ---- how many changes there are

some_change : (o : Option Change) → IsTrue (is_some o) → (change : Change) × (o ≡ Some change)
some_change None is = absurd cc
some_change (Some change) is = (change, refl)

one_more : (e : ℕ × List ℕ) (more : List (ℕ × List ℕ)) → IsTrue (is_of_change e.1) → length (changes_in (e ∷ more)) ≡ 1 + length (changes_in more)
one_more e more is = let found = some_change (change_of e.1) is in let same : change_of e.1 ≡ Some found.0 = found.1 in rw same (omega arith)

counted_on : (covers base : ℕ) (es : List (List ℕ)) → covers ≤ base → AreOfGrammar is_of_change es
    → last_number base (entries_above covers (numbered base es)) ≡ base + length (changes_in (entries_above covers (numbered base es)))
unfolding numbered
counted_on covers base [] le all = omega arith
counted_on covers base (e ∷ es) le all =
    let rest = entries_above covers (numbered (base + 1) es) in
    let first : entries_above covers ((base + 1, e) ∷ numbered (base + 1) es) ≡ (base + 1, e) ∷ rest = above_yes covers (base + 1, e) (numbered (base + 1) es) (omega arith) in
    let one : length (changes_in ((base + 1, e) ∷ rest)) ≡ 1 + length (changes_in rest) = one_more (base + 1, e) rest all.0 in
    let on : last_number (base + 1) rest ≡ base + 1 + length (changes_in rest) = counted_on covers (base + 1) es (omega arith) all.1 in
    subst (λ (l : List (ℕ × List ℕ)). last_number base l ≡ base + length (changes_in l)) (sym first) (on ∙ omega (arith, one))

pub counted : (covers base : ℕ) (es : List (List ℕ)) → base ≤ covers → AreOfGrammar is_of_change es
    → last_number covers (entries_above covers (numbered base es)) ≡ covers + length (changes_in (entries_above covers (numbered base es)))
unfolding numbered
counted covers base [] le all = omega arith
counted covers base (e ∷ es) le all =
    ⊎_elim
    (λ (lt : base < covers).
    subst (λ (l : List (ℕ × List ℕ)). last_number covers l ≡ covers + length (changes_in l)) (sym (above_no covers (base + 1, e) (numbered (base + 1) es) (omega arith)))
    (counted covers (base + 1) es (omega arith) all.1))
    (λ (ge : covers ≤ base).
    let same : base ≡ covers = omega arith in
    subst (λ (n : ℕ). last_number n (entries_above covers (numbered base (e ∷ es))) ≡ n + length (changes_in (entries_above covers (numbered base (e ∷ es))))) same (counted_on covers base (e ∷ es) ge all))
    (cases_lt base covers)

-- the last number of what is read is covers and the number of changes
pub number_counts : (volume size covers : ℕ) (image : List ℕ) (list : List (ℕ × List ℕ)) → journal_of volume size covers image ≡ Ok list
    → last_number covers (entries_above covers list) ≡ covers + length (changes_in (entries_above covers list))
number_counts volume size covers image list e =
    let text = text_of is_of_change volume size covers image list e in
    subst (λ (l : List (ℕ × List ℕ)). last_number covers (entries_above covers l) ≡ covers + length (changes_in (entries_above covers l))) (sym text.listed)
    (counted covers text.base text.entries text.based text.grammar)

-- ---- what is recovered

-- what is made of the entries that are read, where no checkpoint is listed
made_from : {A : Type 0} (f : List (ℕ × List ℕ) → A) (o : Option SegName) (r : Read (List (ℕ × List ℕ))) (x : A) → unless_checkpoint o (result_map_both f Foreign r) ≡ Ok x
    → (o ≡ None) × ((list : List (ℕ × List ℕ)) × (r ≡ Ok list) × (f list ≡ x))
made_from f None (Ok list) x e = (refl, (list, refl, cc))
made_from f None (Err at) x e = absurd cc
made_from f (Some name) r x e = absurd cc

module _ (volume size : ℕ) (image : List ℕ) (objects : CloudMap) where
  -- by the journal's entries, where no checkpoint is listed
  pub recovered_is : (list : List (ℕ × List ℕ)) → HasNoCheckpoint objects → journal_of volume size (covers_of objects) image ≡ Ok list
      → recovered volume size image objects ≡ Ok (found_from (covers_of objects) (cloud_tree volume objects) list)
  unfolding recovered
  recovered_is list none says = rw (none, says) refl

  pub history_is : (list : List (ℕ × List ℕ)) → HasNoCheckpoint objects → journal_of volume size (covers_of objects) image ≡ Ok list
      → history_of volume size image objects ≡ Ok (history_from (covers_of objects) (cloud_tree volume objects) list)
  unfolding history_of
  history_is list none says = rw (none, says) refl

  -- the entries of which a history is
  pub history_from_entries : (history : History) → history_of volume size image objects ≡ Ok history
      → (list : List (ℕ × List ℕ)) × (journal_of volume size (covers_of objects) image ≡ Ok list) × (history_from (covers_of objects) (cloud_tree volume objects) list ≡ history)
  unfolding history_of
  history_from_entries history e =
      let made = made_from (history_from (covers_of objects) (cloud_tree volume objects)) (checkpoint_in objects) (journal_of volume size (covers_of objects) image) history e in made.1

  -- it has no checkpoint
  pub history_unchecked : (history : History) → history_of volume size image objects ≡ Ok history → HasNoCheckpoint objects
  unfolding history_of
  history_unchecked history e =
      (made_from (history_from (covers_of objects) (cloud_tree volume objects)) (checkpoint_in objects) (journal_of volume size (covers_of objects) image) history e).0

  -- nor has a sound site
  pub sound_has_no_checkpoint : IsSound volume size image objects → HasNoCheckpoint objects
  sound_has_no_checkpoint is = history_unchecked is.history is.stands_for

  -- it is the history's length and its last tree
  pub history_recovered : (history : History) → history_of volume size image objects ≡ Ok history
      → recovered volume size image objects ≡ Ok (record { length = history_length history; tree = last_tree history })
  history_recovered history e =
      let found = history_from_entries history e in
      let list = found.0 in
      let covers = covers_of objects in
      let h : History = history_from covers (cloud_tree volume objects) list in
      let length_is : last_number covers (entries_above covers list) ≡ history_length h = number_counts volume size covers image list found.1 in
      recovered_is list (history_unchecked history e) found.1
      ∙ ap (λ (n : ℕ). let r : Result Recovered Refusal = Ok (record { length = n; tree = last_tree h }) in r) length_is
      ∙ ap (λ (k : History). let r : Result Recovered Refusal = Ok (record { length = history_length k; tree = last_tree k }) in r) found.2

  -- ---- why nothing is

  -- the disk is foreign
  pub foreign_refused : (at : ℕ) → HasNoCheckpoint objects → journal_of volume size (covers_of objects) image ≡ Err at → recovered volume size image objects ≡ Err (Foreign at)
  unfolding recovered
  foreign_refused at none says = rw (none, says) refl

  -- a checkpoint is listed
  pub checkpoint_refused : (name : SegName) → checkpoint_in objects ≡ Some name → recovered volume size image objects ≡ Err (Damaged name (Form 0))
  unfolding recovered
  checkpoint_refused name is = rw is refl
