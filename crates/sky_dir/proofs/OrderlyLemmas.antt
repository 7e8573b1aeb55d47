-- Lemmas on entries whose cookies ascend and whose names differ.
use Rattle.std.proofs.Common.{◌≡◌, ℕ, ◌+◌, ◌<◌, ◌≤◌, Bool, true, false, cond, List, [], ◌∷◌, ◌++◌, length, Option, Some, None, refl, ap, sym, ◌∙◌, subst, arith}
use Rattle.std.specs.Prelude.{find, option_map, sum_by}
use Rattle.std.specs.Option.{option_or}
use Rattle.std.specs.List.{AllByRecursion}
use Rattle.std.specs.Map.{update}
use Rattle.std.specs.Str.{bytes_eq}
use Rattle.std.specs.Cmp.Lexicographic.{nat_list_eq_equiv}
use Rattle.std.proofs.lemmas.List.Folds.{find-append}
use Rattle.std.proofs.lemmas.List.Sums.{sum_by-cons}
use Rattle.std.proofs.lemmas.Option.{same_Some}
use Rattle.std.proofs.lemmas.Slice.Eq.{bytes_eq-Decides}
use Rattle.sky_base.specs.Listing.{Entry, without_name, size_of_name}
use Rattle.sky_dir.specs.Orderly.{AscendsBelow, NamesDiffer, Indexes}
use Rattle.sky_dir.specs.Rows.{has_name}

-- ---- a fact of each entry

pub all_push : (P : Entry → Type 0) (es : List Entry) (e : Entry) → AllByRecursion P es → P e → AllByRecursion P (es ++ e ∷ [])
all_push P [] e h p = (p, tt)
all_push P (d ∷ es) e h p = (h.0, all_push P es e h.1 p)

pub all_without : (P : Entry → Type 0) (name : List ℕ) (es : List Entry) → AllByRecursion P es → AllByRecursion P (without_name es name)
all_without P name [] h = tt
all_without P name (e ∷ es) h =
    elim (bytes_eq e.name name) as (λ b. AllByRecursion P (cond b es (e ∷ without_name es name))) [ true ↦ h.1 | false ↦ (h.0, all_without P name es h.1) ]

pub all_weaker : (P Q : Entry → Type 0) → ((e : Entry) → P e → Q e) → (es : List Entry) → AllByRecursion P es → AllByRecursion Q es
all_weaker P Q f [] h = tt
all_weaker P Q f (e ∷ es) h = (f e h.0, all_weaker P Q f es h.1)

-- what holds of each entry holds of the one that is found
pub all_found : (P : Entry → Type 0) (test : Entry → Bool) (es : List Entry) (e : Entry) → AllByRecursion P es → find test es ≡ Some e → P e
all_found P test [] e h f = cc
all_found P test (d ∷ es) e h f =
    (elim (test d) as (λ b. cond b (Some d) (find test es) ≡ Some e → P e) [ true ↦ λ g. subst P (same_Some d e g) h.0 | false ↦ λ g. all_found P test es e h.1 g ]) f

-- ---- names

pub none_from_all : (name : List ℕ) (es : List Entry) → AllByRecursion (λ f. bytes_eq f.name name ≡ false) es → find (has_name name) es ≡ None
none_from_all name [] h = refl
none_from_all name (e ∷ es) h = let first : bytes_eq e.name name ≡ false = h.0 in rw first (none_from_all name es h.1)

pub all_from_none : (name : List ℕ) (es : List Entry) → find (has_name name) es ≡ None → AllByRecursion (λ f. bytes_eq f.name name ≡ false) es
all_from_none name [] h = tt
all_from_none name (e ∷ es) h =
    (elim (bytes_eq e.name name) as (λ b. cond b (Some e) (find (has_name name) es) ≡ None → (b ≡ false) × AllByRecursion (λ f. bytes_eq f.name name ≡ false) es)
    [ true ↦ λ g. cc | false ↦ λ g. (refl, all_from_none name es g) ]) h

same_name : (xs ys : List ℕ) → bytes_eq xs ys ≡ true → xs ≡ ys
same_name xs ys h = (bytes_eq-Decides xs ys).0 h

pub differ_push : (es : List Entry) (e : Entry) → NamesDiffer es → AllByRecursion (λ f. bytes_eq f.name e.name ≡ false) es → NamesDiffer (es ++ e ∷ [])
differ_push [] e h new = (tt, tt)
differ_push (d ∷ es) e h new =
    (all_push (λ f. bytes_eq f.name d.name ≡ false) es e h.0 (nat_list_eq_equiv.symm e.name d.name ∙ new.0), differ_push es e h.1 new.1)

pub differ_without : (name : List ℕ) (es : List Entry) → NamesDiffer es → NamesDiffer (without_name es name)
differ_without name [] h = tt
differ_without name (e ∷ es) h =
    elim (bytes_eq e.name name) as (λ b. NamesDiffer (cond b es (e ∷ without_name es name)))
    [ true ↦ h.1 | false ↦ (all_without (λ f. bytes_eq f.name e.name ≡ false) name es h.0, differ_without name es h.1) ]

-- another name is found as before
pub find_other : (name other : List ℕ) (es : List Entry) → bytes_eq name other ≡ false → find (has_name other) (without_name es name) ≡ find (has_name other) es
find_other name other [] h = refl
find_other name other (e ∷ es) h =
    (elim (bytes_eq e.name name) as (λ b. bytes_eq e.name name ≡ b → find (has_name other) (cond b es (e ∷ without_name es name)) ≡ cond (bytes_eq e.name other) (Some e) (find (has_name other) es)) [
      | true ↦ λ w. let f : bytes_eq e.name other ≡ false = ap (λ n. bytes_eq n other) (same_name e.name name w) ∙ h in rw f refl
      | false ↦ λ w. ap (cond (bytes_eq e.name other) (Some e)) (find_other name other es h)
    ]) refl

-- the name itself is found no more
pub find_gone : (name : List ℕ) (es : List Entry) → NamesDiffer es → find (has_name name) (without_name es name) ≡ None
find_gone name [] h = refl
find_gone name (e ∷ es) h =
    (elim (bytes_eq e.name name) as (λ b. bytes_eq e.name name ≡ b → find (has_name name) (cond b es (e ∷ without_name es name)) ≡ None) [
      | true ↦ λ w. none_from_all name es (subst (λ n. AllByRecursion (λ f. bytes_eq f.name n ≡ false) es) (same_name e.name name w) h.0)
      | false ↦ λ w. rw w (find_gone name es h.1)
    ]) refl

-- ---- cookies

pub ascends_push : (n m : ℕ) (es : List Entry) (e : Entry) → AscendsBelow n es → n ≤ e.cookie → e.cookie < m → AscendsBelow m (es ++ e ∷ [])
ascends_push n m [] e h low high = (tt, high, tt)
ascends_push n m (d ∷ es) e h low high =
    let first : d.cookie < n = h.1 in
    (all_push (λ f. d.cookie < f.cookie) es e h.0 (omega arith), omega arith, ascends_push n m es e h.2 low high)

pub ascends_without : (n : ℕ) (name : List ℕ) (es : List Entry) → AscendsBelow n es → AscendsBelow n (without_name es name)
ascends_without n name [] h = tt
ascends_without n name (e ∷ es) h =
    elim (bytes_eq e.name name) as (λ b. AscendsBelow n (cond b es (e ∷ without_name es name)))
    [ true ↦ h.2 | false ↦ (all_without (λ f. e.cookie < f.cookie) name es h.0, h.1, ascends_without n name es h.2) ]

pub below_from_ascends : (n : ℕ) (es : List Entry) → AscendsBelow n es → AllByRecursion (λ e. e.cookie < n) es
below_from_ascends n [] h = tt
below_from_ascends n (e ∷ es) h = (h.1, below_from_ascends n es h.2)

-- ---- sizes

pub size_without : (name : List ℕ) (es : List Entry) (e : Entry) → find (has_name name) es ≡ Some e
    → sum_by (λ f. size_of_name f.name) (without_name es name) + size_of_name name ≡ sum_by (λ f. size_of_name f.name) es
size_without name [] e h = cc
size_without name (d ∷ es) e h =
    (elim (bytes_eq d.name name) as (λ b. bytes_eq d.name name ≡ b → cond b (Some d) (find (has_name name) es) ≡ Some e → sum_by (λ f. size_of_name f.name) (cond b es (d ∷ without_name es name)) + size_of_name name ≡ sum_by (λ f. size_of_name f.name) (d ∷ es)) [
      | true ↦ λ w g. let long : length d.name ≡ length name = ap length (same_name d.name name w) in omega (arith, sum_by-cons (λ (f : Entry). size_of_name f.name) d es)
      | false ↦ λ w g. let rest : sum_by (λ (f : Entry). size_of_name f.name) (without_name es name) + size_of_name name ≡ sum_by (λ (f : Entry). size_of_name f.name) es = size_without name es e g in
          omega (arith, sum_by-cons (λ (f : Entry). size_of_name f.name) d es, sum_by-cons (λ (f : Entry). size_of_name f.name) d (without_name es name))
    ]) refl h

-- ---- the index

pub indexes_push : (at : List ℕ → Option ℕ) (es : List Entry) (e : Entry) → Indexes at es → find (has_name e.name) es ≡ None
    → Indexes (update bytes_eq at e.name (Some e.cookie)) (es ++ e ∷ [])
indexes_push at es e h new q =
    (elim (bytes_eq e.name q) as (λ b. bytes_eq e.name q ≡ b → cond b (Some e.cookie) (at q) ≡ option_map (λ (f : Entry). f.cookie) (find (has_name q) (es ++ e ∷ []))) [
      | true ↦ λ w.
          let none : find (has_name q) es ≡ None = subst (λ n. find (has_name n) es ≡ None) (same_name e.name q w) new in
          rw (find-append (has_name q) es (e ∷ []), none, w) refl
      | false ↦ λ w. rw (find-append (has_name q) es (e ∷ []), w) (h q ∙ kept (find (has_name q) es))
    ]) refl
  where
    kept : (o : Option Entry) → option_map (λ (f : Entry). f.cookie) o ≡ option_map (λ (f : Entry). f.cookie) (option_or o None)
    kept None = refl
    kept (Some f) = refl

pub indexes_without : (at : List ℕ → Option ℕ) (es : List Entry) (name : List ℕ) → Indexes at es → NamesDiffer es → Indexes (update bytes_eq at name None) (without_name es name)
indexes_without at es name h differ q =
    (elim (bytes_eq name q) as (λ b. bytes_eq name q ≡ b → cond b None (at q) ≡ option_map (λ (f : Entry). f.cookie) (find (has_name q) (without_name es name))) [
      | true ↦ λ w. subst (λ n. None ≡ option_map (λ (f : Entry). f.cookie) (find (has_name n) (without_name es name))) (same_name name q w) (rw (find_gone name es differ) refl)
      | false ↦ λ w. h q ∙ ap (option_map (λ (f : Entry). f.cookie)) (sym (find_other name q es w))
    ]) refl

pub indexes_same : (at other : List ℕ → Option ℕ) (es : List Entry) → ((q : List ℕ) → other q ≡ at q) → Indexes at es → Indexes other es
indexes_same at other es same h q = same q ∙ h q

pub ascends_wider : (n m : ℕ) (es : List Entry) → n ≤ m → AscendsBelow n es → AscendsBelow m es
ascends_wider n m [] le h = tt
ascends_wider n m (e ∷ es) le h = let first : e.cookie < n = h.1 in (h.0, omega arith, ascends_wider n m es le h.2)

-- what stands behind an entry has greater cookies
pub above_behind : (n : ℕ) (es : List Entry) (e : Entry) (later : List Entry) → AscendsBelow n (es ++ e ∷ later) → AllByRecursion (λ f. e.cookie < f.cookie) later
above_behind n [] e later h = h.0
above_behind n (d ∷ es) e later h = above_behind n es e later h.2

-- what holds of each entry holds of one in the middle
pub all_middle : (P : Entry → Type 0) (es : List Entry) (e : Entry) (later : List Entry) → AllByRecursion P (es ++ e ∷ later) → P e
all_middle P [] e later h = h.0
all_middle P (d ∷ es) e later h = all_middle P es e later h.1

-- no entry before one in the middle has its name
pub differ_before : (es : List Entry) (e : Entry) (later : List Entry) → NamesDiffer (es ++ e ∷ later) → AllByRecursion (λ f. bytes_eq f.name e.name ≡ false) es
differ_before [] e later h = tt
differ_before (d ∷ es) e later h =
    (nat_list_eq_equiv.symm d.name e.name ∙ all_middle (λ f. bytes_eq f.name d.name ≡ false) es e later h.0, differ_before es e later h.1)

pub all_from_zero : (es : List Entry) → AllByRecursion (λ e. 0 ≤ e.cookie) es
all_from_zero [] = tt
all_from_zero (e ∷ es) = (omega arith, all_from_zero es)
