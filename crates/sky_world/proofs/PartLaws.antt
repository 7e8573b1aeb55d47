-- Laws of parts of a history: the changes behind a number, their entries, and the tree that they lead to.
use Rattle.std.specs.Prelude.{drop, max, is_some, IsTrue, ◌&&◌}
use Rattle.std.specs.List.{AllByRecursion}
use Rattle.std.proofs.Common.{◌≡◌, ℕ, ◌+◌, ◌-◌, ◌<◌, ◌≤◌, zero, suc, Bool, true, false, Option, Some, List, [], ◌∷◌, ◌++◌, map, take, ⊎_elim, refl, sym, ap, ◌∙◌, arith}
use Rattle.std.proofs.lemmas.Bool.{cases_lt}
use Rattle.std.proofs.lemmas.List.{append-nil, drop_all, length-drop, length-take, take-append-drop, take-take}
use Rattle.sky_entry.specs.Entry.{entry_bytes}
use Rattle.sky_journal.specs.Text.{numbered}
use Rattle.sky_nfs.specs.History.{History, IsLegalHistory, are_done, history_length, is_done, last_tree, tree_after_change, tree_after_changes, tree_at_length}
use Rattle.sky_nfs.specs.Tree.{Tree}
use Rattle.sky_nfs.specs.Validity.{IsValidTree}
use Rattle.sky_nfs.specs.declared.call.Change.{Change}
use Rattle.sky_sound.specs.Entries.{change_of, changes_in, entries_above, is_of_change, with_change}
use Rattle.sky_sound.specs.Invariant.{AreStorable}
use Rattle.sky_sound.proofs.Above.{above_no, above_yes}

-- ---- the entries of changes

-- the changes of these entries are the changes that they were made of
pub changes_of : (base : ℕ) (cs : List Change) → AreStorable cs → changes_in (numbered base (map entry_bytes cs)) ≡ cs
unfolding numbered
changes_of base [] all = refl
changes_of base (c ∷ cs) all =
    let first : change_of (entry_bytes c) ≡ Some c = all.0 in
    ap (λ (o : Option Change). with_change o (changes_in (numbered (base + 1) (map entry_bytes cs)))) first ∙ ap (λ (l : List Change). c ∷ l) (changes_of (base + 1) cs all.1)

-- each of them is that of a change
pub of_changes : (base : ℕ) (cs : List Change) → AreStorable cs → AllByRecursion (λ (e : ℕ × List ℕ). IsTrue (is_of_change e.1)) (numbered base (map entry_bytes cs))
unfolding numbered
of_changes base [] all = tt
of_changes base (c ∷ cs) all =
    let first : change_of (entry_bytes c) ≡ Some c = all.0 in
    let is : is_of_change (entry_bytes c) ≡ true = ap (λ (o : Option Change). is_some o) first in
    (is, of_changes (base + 1) cs all.1)

-- all of them are above what came before
above_all : (covers base : ℕ) (es : List (List ℕ)) → covers ≤ base → entries_above covers (numbered base es) ≡ numbered base es
unfolding numbered
above_all covers base [] le = refl
above_all covers base (e ∷ es) le =
    above_yes covers (base + 1, e) (numbered (base + 1) es) (omega arith) ∙ ap (λ (l : List (ℕ × List ℕ)). (base + 1, e) ∷ l) (above_all covers (base + 1) es (omega arith))

drop_none : {A : Type 0} (n : ℕ) → (let none : List A = [] in drop n none ≡ none)
drop_none zero = refl
drop_none (suc n) = refl

-- those above a number are those behind the first ones
pub above_drop : (covers base : ℕ) (es : List (List ℕ)) → base ≤ covers → entries_above covers (numbered base es) ≡ numbered covers (drop (covers - base) es)
unfolding numbered
above_drop covers base [] le = sym (ap (λ (l : List (List ℕ)). numbered covers l) (drop_none {A = List ℕ} (covers - base)))
above_drop covers base (e ∷ es) le =
    ⊎_elim
    (λ (lt : base < covers).
    let count : covers - base ≡ suc (covers - (base + 1)) = omega (arith, lt) in
    above_no covers (base + 1, e) (numbered (base + 1) es) (omega (arith, lt)) ∙ above_drop covers (base + 1) es (omega (arith, lt))
    ∙ sym (ap (λ (n : ℕ). numbered covers (drop n (e ∷ es))) count))
    (λ (ge : covers ≤ base).
    let same : base ≡ covers = omega (arith, le, ge) in
    let none : covers - base ≡ 0 = omega (arith, le, ge) in
    above_all covers base (e ∷ es) ge ∙ ap (λ (n : ℕ). numbered n (e ∷ es)) same ∙ sym (ap (λ (n : ℕ). numbered covers (drop n (e ∷ es))) none))
    (cases_lt base covers)

-- ---- the changes behind a number

pub storable_take : (k : ℕ) (cs : List Change) → AreStorable cs → AreStorable (take k cs)
storable_take zero cs all = tt
storable_take (suc k) [] all = tt
storable_take (suc k) (c ∷ cs) all = (all.0, storable_take k cs all.1)

pub storable_drop : (k : ℕ) (cs : List Change) → AreStorable cs → AreStorable (drop k cs)
storable_drop zero cs all = all
storable_drop (suc k) [] all = tt
storable_drop (suc k) (c ∷ cs) all = storable_drop k cs all.1

pub drop_twice : {A : Type 0} (k m : ℕ) (xs : List A) → drop m (drop k xs) ≡ drop (k + m) xs
drop_twice zero m xs = ap (λ (n : ℕ). drop n xs) (omega arith)
drop_twice {A} (suc k) m [] = drop_none {A = A} m ∙ sym (drop_none {A = A} (suc k + m))
drop_twice (suc k) m (x ∷ xs) = let e : suc (k + m) ≡ suc k + m = omega arith in drop_twice k m xs ∙ ap (λ (n : ℕ). drop n (x ∷ xs)) e

both_of : (a b : Bool) → (a && b) ≡ true → (a ≡ true) × (b ≡ true)
both_of true b e = (refl, e)
both_of false b e = absurd cc

both_are : (a b : Bool) → a ≡ true → b ≡ true → (a && b) ≡ true
both_are true b e f = f
both_are false b e f = absurd cc

done_take : (k : ℕ) (t : Tree) (cs : List Change) → are_done t cs ≡ true → are_done t (take k cs) ≡ true
done_take zero t cs all = refl
done_take (suc k) t [] all = refl
done_take (suc k) t (c ∷ cs) all =
    let both = both_of (is_done t c) (are_done (tree_after_change t c) cs) all in
    both_are (is_done t c) (are_done (tree_after_change t c) (take k cs)) both.0 (done_take k (tree_after_change t c) cs both.1)

-- changes, and those behind them
after_both : (t : Tree) (xs ys : List Change) → tree_after_changes t (xs ++ ys) ≡ tree_after_changes (tree_after_changes t xs) ys
after_both t [] ys = refl
after_both t (x ∷ xs) ys = after_both (tree_after_change t x) xs ys

done_behind : (t : Tree) (xs ys : List Change) → are_done t (xs ++ ys) ≡ true → are_done (tree_after_changes t xs) ys ≡ true
done_behind t [] ys all = all
done_behind t (x ∷ xs) ys all = done_behind (tree_after_change t x) xs ys (both_of (is_done t x) (are_done (tree_after_change t x) (xs ++ ys)) all).1

-- of a history, what comes behind a number, up to another
abbrev pub history_between : History → (covers n : ℕ) → History
history_between h covers n = record {
  before = covers;
  tree = tree_at_length h covers;
  changes = drop (covers - h.before) (take (n - h.before) h.changes);
}

module _ (h : History) (covers n : ℕ) (least : h.before ≤ covers) where
  -- the first changes, up to the greater of both numbers
  first_parts : take (max n covers - h.before) h.changes ≡ take (covers - h.before) h.changes ++ drop (covers - h.before) (take (n - h.before) h.changes)
  first_parts =
      let cs = h.changes in
      let k : ℕ = covers - h.before in
      let m : ℕ = n - h.before in
      ⊎_elim
      (λ (lt : n < covers).
      let count : max n covers - h.before ≡ k = omega (arith, lt) in
      let none : drop k (take m cs) ≡ [] = drop_all k (take m cs) (omega (arith, lt, length-take m cs)) in
      ap (λ (x : ℕ). take x cs) count ∙ sym (append-nil (take k cs)) ∙ ap (λ (x : List Change). take k cs ++ x) (sym none))
      (λ (ge : covers ≤ n).
      let count : max n covers - h.before ≡ m = omega (arith, ge) in
      ap (λ (x : ℕ). take x cs) count ∙ sym (take-append-drop k (take m cs)) ∙ ap (λ (x : List Change). x ++ drop k (take m cs)) (take-take k m cs (omega (arith, ge, least))))
      (cases_lt n covers)

  -- lead to the tree that those behind it lead to
  pub between_tree : last_tree (history_between h covers n) ≡ tree_at_length h (max n covers)
  between_tree =
      sym (after_both h.tree (take (covers - h.before) h.changes) (drop (covers - h.before) (take (n - h.before) h.changes)))
      ∙ ap (λ (cs : List Change). tree_after_changes h.tree cs) (sym first_parts)

  pub between_length : covers ≤ history_length h → n ≤ history_length h → history_length (history_between h covers n) ≡ max n covers
  between_length within most =
      omega (arith, length-drop (covers - h.before) (take (n - h.before) h.changes), length-take (n - h.before) h.changes, least, within, most)

  pub between_legal : IsValidTree (tree_at_length h covers) → IsLegalHistory h → IsLegalHistory (history_between h covers n)
  between_legal valid legal =
      let first : are_done h.tree (take (max n covers - h.before) h.changes) ≡ true = done_take (max n covers - h.before) h.tree h.changes legal.done in
      record {
        valid = valid;
        done = done_behind h.tree (take (covers - h.before) h.changes) (drop (covers - h.before) (take (n - h.before) h.changes)) (ap (λ (cs : List Change). are_done h.tree cs) (sym first_parts) ∙ first);
      }
