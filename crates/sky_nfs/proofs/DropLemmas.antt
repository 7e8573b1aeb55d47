-- A tree stays valid where a directory loses an entry.
use Rattle.std.proofs.Common.{◌≡◌, ℕ, zero, suc, ◌+◌, ◌<◌, ◌≤◌, List, [], ◌∷◌, Option, Some, None, refl, true, false, sym, ap, subst, ◌∙◌, length, arith, inl, inr}
use Rattle.std.specs.Prelude.{Bool, cond, not, ◌&&◌, ◌||◌, ◌==◌, ◌⊎◌, eqb, nat_lt, nat_le, map, filter, is_some, unwrap_or, sum_by, option_map, find}
use Rattle.std.specs.List.{list_all, list_any}
use Rattle.std.specs.Str.{bytes_eq}
use Rattle.std.proofs.lemmas.Bool.{and_parts, and_from, eqb-true, eqb-false, eq-eqb, ne_eqb, leb-true, le-leb, or_cases, or_left, or_right, not-true, false≢true, cases_Bool}
use Rattle.std.proofs.lemmas.List.Sums.{length-filter, sum_by-append}
use Rattle.sky_base.specs.Limits.{max_links, max_nodes}
use Rattle.sky_base.specs.Listing.{Listing, Entry, without_entry, without_name, size_of_name}
use Rattle.sky_nfs.specs.Tree.{Tree, Node, Content, node_at, the_node, no_node, root, is_directory, directory_test, directory_listing, listing_of, parent_of, all_entries, names_of, links_of, subdirectories, ancestors, is_at_or_below}
use Rattle.sky_nfs.specs.Validity.{IsValidTree, ascends_below, are_distinct, is_within, each_node}
use Rattle.sky_nfs.proofs.ValidityLemmas.{each-node_at, agree}
use Rattle.sky_nfs.proofs.GrowLemmas.{keys, entries, cnt, total, total_lem, each-of, each_entry, entries_weaken, cnt-agree, directory_of, there_of, some_of}
use Rattle.sky_nfs.proofs.CreateLemmas.{found_in}
use Rattle.sky_nfs.proofs.WayLemmas.{short_way}

-- the fileid that a name is found with
abbrev pub found_id : List Entry → List ℕ → Option ℕ
found_id xs name = option_map (λ e. e.fileid) (find (λ e. bytes_eq e.name name) xs)

-- what holds of entries holds of those that stay
pub all-without : (p : Entry → Bool) (xs : List Entry) (name : List ℕ) → list_all p xs ≡ true → list_all p (without_name xs name) ≡ true
all-without p [] name h = refl
all-without p (x ∷ xs) name h = go (bytes_eq x.name name) (and_parts _ _ h) (all-without p xs name)
  where
    go : (b : Bool) → (p x ≡ true) × (list_all p xs ≡ true) → (list_all p xs ≡ true → list_all p (without_name xs name) ≡ true) → list_all p (cond b xs (x ∷ without_name xs name)) ≡ true
    go true parts ih = parts.1
    go false parts ih = and_from _ _ parts.0 (ih parts.1)

-- a test of a part of each entry is one of the list of these parts
pub all_map : {A : Type 0} (p : A → Bool) (f : Entry → A) (xs : List Entry) → list_all p (map f xs) ≡ list_all (λ x. p (f x)) xs
all_map p f [] = refl
all_map p f (x ∷ xs) = ap (λ (b : Bool). p (f x) && b) (all_map p f xs)

pub ascends-without : (bound : ℕ) (xs : List Entry) (name : List ℕ) → ascends_below bound (map (λ e. e.cookie) xs) ≡ true → ascends_below bound (map (λ e. e.cookie) (without_name xs name)) ≡ true
ascends-without bound [] name h = refl
ascends-without bound (x ∷ xs) name h = go (bytes_eq x.name name) (ascends-without bound xs name outer.1)
  where
    outer : ((list_all (nat_lt x.cookie) (map (λ e. e.cookie) xs) && nat_lt x.cookie bound) ≡ true) × (ascends_below bound (map (λ e. e.cookie) xs) ≡ true)
    outer = and_parts _ _ h

    inner : (list_all (nat_lt x.cookie) (map (λ e. e.cookie) xs) ≡ true) × (nat_lt x.cookie bound ≡ true)
    inner = and_parts _ _ outer.0

    above : list_all (nat_lt x.cookie) (map (λ e. e.cookie) (without_name xs name)) ≡ true
    above = all_map (nat_lt x.cookie) (λ e. e.cookie) (without_name xs name) ∙ all-without (λ e. nat_lt x.cookie e.cookie) xs name (sym (all_map (nat_lt x.cookie) (λ e. e.cookie) xs) ∙ inner.0)

    go : (b : Bool) → ascends_below bound (map (λ e. e.cookie) (without_name xs name)) ≡ true → ascends_below bound (map (λ e. e.cookie) (cond b xs (x ∷ without_name xs name))) ≡ true
    go true ih = outer.1
    go false ih = and_from _ _ (and_from _ _ above inner.1) ih

pub none_all : {A : Type 0} (p : A → Bool) (xs : List A) → not (list_any p xs) ≡ list_all (λ x. not (p x)) xs
none_all p [] = refl
none_all p (x ∷ xs) = go (p x) (none_all p xs)
  where
    go : (b : Bool) → not (list_any p xs) ≡ list_all (λ x. not (p x)) xs → not (b || list_any p xs) ≡ (not b && list_all (λ x. not (p x)) xs)
    go true e = refl
    go false e = e

pub distinct-without : (xs : List Entry) (name : List ℕ) → are_distinct (map (λ e. e.name) xs) ≡ true → are_distinct (map (λ e. e.name) (without_name xs name)) ≡ true
distinct-without [] name h = refl
distinct-without (x ∷ xs) name h = go (bytes_eq x.name name) (distinct-without xs name parts.1)
  where
    parts : (not (list_any (bytes_eq x.name) (map (λ e. e.name) xs)) ≡ true) × (are_distinct (map (λ e. e.name) xs) ≡ true)
    parts = and_parts _ _ h

    new : not (list_any (bytes_eq x.name) (map (λ e. e.name) (without_name xs name))) ≡ true
    new = none_all (bytes_eq x.name) (map (λ e. e.name) (without_name xs name)) ∙ all_map (λ y. not (bytes_eq x.name y)) (λ e. e.name) (without_name xs name) ∙ all-without (λ e. not (bytes_eq x.name e.name)) xs name (sym (none_all (bytes_eq x.name) (map (λ e. e.name) xs) ∙ all_map (λ y. not (bytes_eq x.name y)) (λ e. e.name) xs) ∙ parts.0)

    go : (b : Bool) → are_distinct (map (λ e. e.name) (without_name xs name)) ≡ true → are_distinct (map (λ e. e.name) (cond b xs (x ∷ without_name xs name))) ≡ true
    go true ih = parts.1
    go false ih = and_from _ _ new ih

-- one entry fewer of the fileid that was found
pub cnt-without : (q : ℕ → Bool) (xs : List Entry) (name : List ℕ) (f : ℕ) → found_id xs name ≡ Some f → cnt (λ e. q e.fileid) (without_name xs name) + cond (q f) 1 0 ≡ cnt (λ e. q e.fileid) xs
cnt-without q [] name f h = absurd (cc)
cnt-without q (x ∷ xs) name f h = go (bytes_eq x.name name) refl (λ rest. cnt-without q xs name f rest)
  where
    one : (b : Bool) → cnt (λ e. q e.fileid) xs + cond b 1 0 ≡ length (cond b (x ∷ filter (λ e. q e.fileid) xs) (filter (λ e. q e.fileid) xs))
    one true = omega arith
    one false = omega arith

    more : (b : Bool) (m : ℕ) → cnt (λ e. q e.fileid) (without_name xs name) + m ≡ cnt (λ e. q e.fileid) xs → length (cond b (x ∷ filter (λ e. q e.fileid) (without_name xs name)) (filter (λ e. q e.fileid) (without_name xs name))) + m ≡ length (cond b (x ∷ filter (λ e. q e.fileid) xs) (filter (λ e. q e.fileid) xs))
    more true m e = omega arith
    more false m e = e

    go : (b : Bool) → bytes_eq x.name name ≡ b → (found_id xs name ≡ Some f → cnt (λ e. q e.fileid) (without_name xs name) + cond (q f) 1 0 ≡ cnt (λ e. q e.fileid) xs) → cnt (λ e. q e.fileid) (cond (bytes_eq x.name name) xs (x ∷ without_name xs name)) + cond (q f) 1 0 ≡ cnt (λ e. q e.fileid) (x ∷ xs)
    go true e ih =
        let found : Some x.fileid ≡ Some f = rw e at h in
        let same : x.fileid ≡ f = cc in
        rw (e, ← same) (one (q x.fileid))
    go false e ih =
        let rest : found_id xs name ≡ Some f = rw e at h in
        rw e (more (q x.fileid) (cond (q f) 1 0) (ih rest))

-- another fileid's entry stays
pub any-without : (xs : List Entry) (name : List ℕ) (f k : ℕ) → found_id xs name ≡ Some f → (f == k) ≡ false → list_any (λ e. e.fileid == k) xs ≡ true → list_any (λ e. e.fileid == k) (without_name xs name) ≡ true
any-without [] name f k h a e = absurd (cc)
any-without (x ∷ xs) name f k h a e = go (bytes_eq x.name name) refl (or_cases (x.fileid == k) _ e) (λ rest left. any-without xs name f k rest a left)
  where
    go : (b : Bool) → bytes_eq x.name name ≡ b → ((x.fileid == k) ≡ true) ⊎ (list_any (λ e. e.fileid == k) xs ≡ true) → (found_id xs name ≡ Some f → list_any (λ e. e.fileid == k) xs ≡ true → list_any (λ e. e.fileid == k) (without_name xs name) ≡ true) → list_any (λ e. e.fileid == k) (cond (bytes_eq x.name name) xs (x ∷ without_name xs name)) ≡ true
    go true b (inl here) ih =
        let found : Some x.fileid ≡ Some f = rw b at h in
        let same : x.fileid ≡ f = cc in
        let clash : (f == k) ≡ true = subst (λ (j : ℕ). (j == k) ≡ true) same here in
        absurd (false≢true (sym a ∙ clash))
    go true b (inr rest) ih = rw b rest
    go false b (inl here) ih = rw b (or_left _ _ here)
    go false b (inr rest) ih =
        let found : found_id xs name ≡ Some f = rw b at h in
        rw b (or_right _ _ (ih found rest))

sum-cons : (x : Entry) (xs : List Entry) → sum_by (λ (e : Entry). size_of_name e.name) (x ∷ xs) ≡ size_of_name x.name + sum_by (λ (e : Entry). size_of_name e.name) xs
sum-cons x xs = let e = sum_by-append (λ (e : Entry). size_of_name e.name) (x ∷ []) xs in omega arith

pub sum-without : (xs : List Entry) (name : List ℕ) → sum_by (λ (e : Entry). size_of_name e.name) (without_name xs name) ≤ sum_by (λ (e : Entry). size_of_name e.name) xs
sum-without [] name = omega arith
sum-without (x ∷ xs) name = go (bytes_eq x.name name) (sum-without xs name)
  where
    go : (b : Bool) → sum_by (λ (e : Entry). size_of_name e.name) (without_name xs name) ≤ sum_by (λ (e : Entry). size_of_name e.name) xs → sum_by (λ (e : Entry). size_of_name e.name) (cond b xs (x ∷ without_name xs name)) ≤ sum_by (λ (e : Entry). size_of_name e.name) (x ∷ xs)
    go true l = omega (arith, sum-cons x xs)
    go false l = omega (arith, sum-cons x xs, sum-cons x (without_name xs name))

-- what is counted nowhere stands nowhere
none_counted : (p : Entry → Bool) (xs : List Entry) → cnt p xs ≡ 0 → list_all (λ e. not (p e)) xs ≡ true
none_counted p [] h = refl
none_counted p (x ∷ xs) h = go (p x) h (none_counted p xs)
  where
    go : (b : Bool) → length (cond b (x ∷ filter p xs) (filter p xs)) ≡ 0 → (cnt p xs ≡ 0 → list_all (λ e. not (p e)) xs ≡ true) → (not b && list_all (λ e. not (p e)) xs) ≡ true
    go true e ih = absurd (omega arith)
    go false e ih = ih e

-- what becomes of the node whose entry went: it goes, or it is no directory and has a link less
pub data Fate (t : Tree) (f : ℕ) (a : Node) : Option Node → Type 0 where
  gone : names_of t f ≡ 1 → Fate t f a None
  less : {b : Node} → b.content ≡ a.content → is_directory a ≡ false → b.nlink + 1 ≡ a.nlink → 1 < a.nlink → b.mode ≡ a.mode → Fate t f a (Some b)

-- a directory loses the entry of a node that has no entries of its own
pub record Dropping (t : Tree) (dir f : ℕ) (name : List ℕ) (d d' a : Node) (o : Option Node) (ms : List (ℕ × Node)) : Type 0 where
  pub order : ascends_below t.next_fileid (keys ms) ≡ true
  pub at_ms : (k : ℕ) → node_at ms k ≡ cond (dir == k) (Some d') (cond (f == k) o (node_at t.nodes k))
  pub counts : (p : Entry → Bool) → total p ms + cnt p (entries d) ≡ total p t.nodes + cnt p (entries d')
  pub size : length ms ≤ length t.nodes
  pub at : node_at t.nodes dir ≡ Some d
  pub directory : is_directory d ≡ true
  pub directory' : is_directory d' ≡ true
  pub parent' : parent_of d' ≡ parent_of d
  pub listing' : listing_of d' ≡ without_entry (listing_of d) name
  pub found : found_id (entries d) name ≡ Some f
  pub there : node_at t.nodes f ≡ Some a
  pub empty : entries a ≡ []
  pub apart : (dir == f) ≡ false
  pub nlink' : d'.nlink + cond (is_directory a) 1 0 ≡ d.nlink
  pub mode' : nat_lt d'.mode 0o10000 ≡ true
  pub within' : is_within d'.content ≡ true
  pub fate : Fate t f a o

module _ (t : Tree) (dir f : ℕ) (name : List ℕ) (d d' a : Node) (o : Option Node) (ms : List (ℕ × Node)) (v : IsValidTree t) (g : Dropping t dir f name d d' a o ms) where
  abbrev less_tree : Tree
  less_tree = record t { nodes = ms }

  abbrev there : ℕ → Bool
  there k = is_some (node_at t.nodes k)

  entries' : entries d' ≡ without_name (entries d) name
  entries' = ap (λ (l : Listing). l.entries) g.listing'

  entries_there : (k : ℕ) (n : Node) → node_at t.nodes k ≡ Some n → list_all (λ e. there e.fileid) (entries n) ≡ true
  entries_there k n at = each-node_at (λ k n. list_all (λ e. there e.fileid) (entries n)) t.nodes k n (sym (each_entry (λ e. there e.fileid) t.nodes) ∙ v.entries_name_nodes) at

  none_root : (k : ℕ) (n : Node) → node_at t.nodes k ≡ Some n → list_all (λ e. not (e.fileid == root)) (entries n) ≡ true
  none_root k n at = each-node_at (λ k n. list_all (λ e. not (e.fileid == root)) (entries n)) t.nodes k n (sym (each_entry (λ e. not (e.fileid == root)) t.nodes) ∙ v.none_names_root) at

  f_not_root : (f == root) ≡ false
  f_not_root = not-true _ (found_in (λ k. not (k == root)) name (entries d) f g.found (none_root dir d g.at))

  fate_plain : (o : Option Node) → Fate t f a o → is_directory (unwrap_or o no_node) ≡ false
  fate_plain None x = refl
  fate_plain (Some b) (less content plain links many mode) = ap directory_test content ∙ plain

  fate_empty : (b : Node) → Fate t f a (Some b) → entries b ≡ []
  fate_empty b (less content plain links many mode) = ap (λ (c : Content). (directory_listing c).entries) content ∙ g.empty

  -- the directory, the other node where it stays, and every other one
  cases : (P : ℕ → Node → Type 0) → P dir d' → ((b : Node) → Fate t f a (Some b) → P f b) → ((k : ℕ) (n : Node) → node_at t.nodes k ≡ Some n → (dir == k) ≡ false → (f == k) ≡ false → P k n) → (k : ℕ) (n : Node) → node_at ms k ≡ Some n → P k n
  cases P here new old k n at = go (dir == k) refl (f == k) refl
    where
      go : (b : Bool) → (dir == k) ≡ b → (c : Bool) → (f == k) ≡ c → P k n
      go true e c i =
          let found : Some d' ≡ Some n = rw (g.at_ms k, e) at at in
          let same : d' ≡ n = cc in
          subst (λ (m : Node). P k m) same (subst (λ (j : ℕ). P j d') (eqb-true dir k e) here)
      go false e true i =
          let found : o ≡ Some n = rw (g.at_ms k, e, i) at at in
          subst (λ (j : ℕ). P j n) (eqb-true f k i) (new n (subst (λ (x : Option Node). Fate t f a x) found g.fate))
      go false e false i = old k n (rw (g.at_ms k, e, i) at at) e i

  -- a fact of what stands at a fileid other than that node's
  same_at : {A : Type 0} (h : Option Node → A) → h (Some d') ≡ h (Some d) → (k : ℕ) → (f == k) ≡ false → h (node_at ms k) ≡ h (node_at t.nodes k)
  same_at h here k i = ap h (g.at_ms k) ∙ go (dir == k) refl
    where
      go : (b : Bool) → (dir == k) ≡ b → h (cond b (Some d') (cond (f == k) o (node_at t.nodes k))) ≡ h (node_at t.nodes k)
      go true e = here ∙ ap h (sym (subst (λ (j : ℕ). node_at t.nodes j ≡ Some d) (eqb-true dir k e) g.at))
      go false e = ap (λ (b : Bool). h (cond b o (node_at t.nodes k))) i

  directory_same : (k : ℕ) → (f == k) ≡ false → is_directory (the_node less_tree k) ≡ is_directory (the_node t k)
  directory_same = same_at (λ x. is_directory (unwrap_or x no_node)) (g.directory' ∙ sym g.directory)

  parent_same : (k : ℕ) → (f == k) ≡ false → parent_of (the_node less_tree k) ≡ parent_of (the_node t k)
  parent_same = same_at (λ x. parent_of (unwrap_or x no_node)) g.parent'

  there_same : (k : ℕ) → (f == k) ≡ false → is_some (node_at ms k) ≡ there k
  there_same = same_at is_some refl

  names_less : (k : ℕ) → names_of less_tree k + cond (f == k) 1 0 ≡ names_of t k
  names_less k =
      let p : Entry → Bool = λ e. e.fileid == k in
      let new : names_of less_tree k ≡ total p ms = total_lem p ms in
      let old : names_of t k ≡ total p t.nodes = total_lem p t.nodes in
      let lost : cnt p (without_name (entries d) name) + cond (f == k) 1 0 ≡ cnt p (entries d) = cnt-without (λ j. j == k) (entries d) name f g.found in
      let now : cnt p (entries d') ≡ cnt p (without_name (entries d) name) = ap (cnt p) entries' in
      omega (arith, g.counts p)

  names_kept : (k : ℕ) → (f == k) ≡ false → names_of less_tree k ≡ names_of t k
  names_kept k i = let e : names_of less_tree k + 0 ≡ names_of t k = rw i at (names_less k) in omega arith

  names_f : names_of less_tree f + 1 ≡ names_of t f
  names_f = let e : names_of less_tree f + 1 ≡ names_of t f = rw (eq-eqb f f refl) at (names_less f) in e

  each_less : (p : ℕ → Node → Bool) → p dir d' ≡ true → ((b : Node) → Fate t f a (Some b) → p f b ≡ true) → ((k : ℕ) (n : Node) → node_at t.nodes k ≡ Some n → (dir == k) ≡ false → (f == k) ≡ false → p k n ≡ true) → list_all (λ n. p n.0 n.1) ms ≡ true
  each_less p here new old = each-of p t.next_fileid ms g.order (cases (λ k n. p k n ≡ true) here new old)

  each_again : (p : ℕ → Node → Bool) → each_node p t ≡ true → p dir d' ≡ true → ((b : Node) → Fate t f a (Some b) → p f b ≡ true) → each_node p less_tree ≡ true
  each_again p before here new = each_less p here new (λ k n at e i. each-node_at p t.nodes k n before at)

  -- the entries that are left are of those before
  entries_keep : (q : Entry → Bool) → list_all q (all_entries t) ≡ true → list_all q (all_entries less_tree) ≡ true
  entries_keep q before =
      let each : each_node (λ k n. list_all q (entries n)) t ≡ true = sym (each_entry q t.nodes) ∙ before in
      let of_dir : list_all q (entries d) ≡ true = each-node_at (λ k n. list_all q (entries n)) t.nodes dir d each g.at in
      each_entry q ms ∙ each_again (λ k n. list_all q (entries n)) each (ap (list_all q) entries' ∙ all-without q (entries d) name of_dir) (λ b x. ap (list_all q) (fate_empty b x))

  -- where the node goes, no entry that is left names it
  left_apart : names_of t f ≡ 1 → list_all (λ e. not (e.fileid == f)) (all_entries less_tree) ≡ true
  left_apart one =
      let counted : names_of less_tree f ≡ cnt (λ e. e.fileid == f) (all_entries less_tree) = sym (length-filter (λ (e : Entry). e.fileid == f) (all_entries less_tree)) in
      none_counted (λ e. e.fileid == f) (all_entries less_tree) (omega (arith, names_f))

  both : (p q r : Entry → Bool) → ((e : Entry) → p e ≡ true → q e ≡ true → r e ≡ true) → (xs : List Entry) → list_all p xs ≡ true → list_all q xs ≡ true → list_all r xs ≡ true
  both p q r h [] x y = refl
  both p q r h (e ∷ es) x y = let i = and_parts _ _ x in let j = and_parts _ _ y in and_from _ _ (h e i.0 j.0) (both p q r h es i.1 j.1)

  flip_apart : (k : ℕ) → not (k == f) ≡ true → (f == k) ≡ false
  flip_apart k h = ne_eqb f k (λ e. eqb-false k f (not-true _ h) (sym e))

  abbrev has : Node → ℕ → Bool
  has n k = list_any (λ e. e.fileid == k) (entries n)

  -- a directory that stays has a parent that stays
  parent_stays : (k : ℕ) → is_directory (the_node t k) ≡ true → (is_directory (the_node t (parent_of (the_node t k))) ≡ true) × ((f == parent_of (the_node t k)) ≡ false)
  parent_stays k i =
      let n = some_of (node_at t.nodes k) (there_of (node_at t.nodes k) i) in
      let node_is : the_node t k ≡ n.0 = ap (λ (x : Option Node). unwrap_or x no_node) n.1 in
      let directory : is_directory n.0 ≡ true = subst (λ (m : Node). is_directory m ≡ true) node_is i in
      subst (λ (m : Node). (is_directory (the_node t (parent_of m)) ≡ true) × ((f == parent_of m) ≡ false)) (sym node_is)
      (go n.0 node_is directory (cases_Bool (k == root)) (each-node_at (λ k n. not (is_directory n) || k == root || has (the_node t (parent_of n)) k) t.nodes k n.0 v.directories_stand_in_parents n.1))
    where
      go : (n : Node) → the_node t k ≡ n → is_directory n ≡ true → ((k == root) ≡ true) ⊎ ((k == root) ≡ false) → (not (is_directory n) || k == root || has (the_node t (parent_of n)) k) ≡ true → (is_directory (the_node t (parent_of n)) ≡ true) × ((f == parent_of n) ≡ false)
      go n same directory (inl top) stands =
          let is_root : k ≡ root = eqb-true k root top in
          let up : parent_of (the_node t root) ≡ root = eqb-true _ root v.root_is_top in
          let here : parent_of n ≡ root = ap parent_of (sym same) ∙ subst (λ (j : ℕ). parent_of (the_node t j) ≡ root) (sym is_root) up in
          subst (λ (j : ℕ). (is_directory (the_node t j) ≡ true) × ((f == j) ≡ false)) (sym here) (v.root_is_directory, f_not_root)
      go n same directory (inr lower) stands =
          let holds : has (the_node t (parent_of n)) k ≡ true = rw (directory, lower) at stands in
          (directory_of (λ e. e.fileid == k) (the_node t (parent_of n)) holds, ne_eqb f (parent_of n) (λ e. empty_at (parent_of n) e holds))
        where
          empty_at : (p : ℕ) → f ≡ p → has (the_node t p) k ≡ true → ⊥
          empty_at p e holds =
              let here : the_node t p ≡ a = ap (λ (x : Option Node). unwrap_or x no_node) (subst (λ (j : ℕ). node_at t.nodes j ≡ Some a) e g.there) in
              let none : entries (the_node t p) ≡ [] = ap entries here ∙ g.empty in
              let no : has (the_node t p) k ≡ false = ap (list_any (λ (x : Entry). x.fileid == k)) none in
              false≢true (sym no ∙ holds)

  way_kept : (m k : ℕ) → is_directory (the_node t k) ≡ true → (f == k) ≡ false → ancestors less_tree m k ≡ ancestors t m k
  way_kept zero k i e = refl
  way_kept (suc m) k i e =
      let up : parent_of (the_node less_tree k) ≡ parent_of (the_node t k) = parent_same k e in
      let p = parent_stays k i in
      ap (λ (r : List ℕ). k ∷ r) (ap (ancestors less_tree m) up ∙ way_kept m (parent_of (the_node t k)) p.0 p.1)

  members_stay : (m k q : ℕ) → is_directory (the_node t k) ≡ true → (f == k) ≡ false → list_any (eqb q) (ancestors less_tree m k) ≡ true → is_some (node_at ms q) ≡ true
  members_stay zero k q i e h = absurd (cc)
  members_stay (suc m) k q i e h =
      let p = parent_stays k i in
      go (or_cases (eqb q k) _ h) (members_stay m (parent_of (the_node t k)) q p.0 p.1)
    where
      go : (eqb q k ≡ true) ⊎ (list_any (eqb q) (ancestors less_tree m (parent_of (the_node less_tree k))) ≡ true) → (list_any (eqb q) (ancestors less_tree m (parent_of (the_node t k))) ≡ true → is_some (node_at ms q) ≡ true) → is_some (node_at ms q) ≡ true
      go (inl same) ih =
          let here : is_some (node_at ms k) ≡ true = there_same k e ∙ there_of (node_at t.nodes k) i in
          subst (λ (j : ℕ). is_some (node_at ms j) ≡ true) (sym (eqb-true q k same)) here
      go (inr rest) ih = ih (subst (λ (j : ℕ). list_any (eqb q) (ancestors less_tree m j) ≡ true) (parent_same k e) rest)

  way_up_kept : (k : ℕ) → is_directory (the_node t k) ≡ true → (f == k) ≡ false → is_at_or_below t k root ≡ true → is_at_or_below less_tree k root ≡ true
  way_up_kept k i e h = short_way less_tree (length t.nodes) k (λ n q x in'. members_stay n k q i e in') (ap (list_any (λ x. x == root)) (way_kept (length t.nodes) k i e) ∙ h)

  has_kept : (p k : ℕ) → (f == k) ≡ false → has (the_node t p) k ≡ true → has (the_node less_tree p) k ≡ true
  has_kept p k i h = go (dir == p) refl (cases_Bool (f == p))
    where
      go : (b : Bool) → (dir == p) ≡ b → ((f == p) ≡ true) ⊎ ((f == p) ≡ false) → has (the_node less_tree p) k ≡ true
      go true e c =
          let here : node_at t.nodes p ≡ Some d = subst (λ (j : ℕ). node_at t.nodes j ≡ Some d) (eqb-true dir p e) g.at in
          let before : has d k ≡ true = rw here at h in
          rw (g.at_ms p, e, entries') (any-without (entries d) name f k g.found i before)
      go false e (inl c) =
          let here : the_node t p ≡ a = ap (λ (x : Option Node). unwrap_or x no_node) (subst (λ (j : ℕ). node_at t.nodes j ≡ Some a) (eqb-true f p c) g.there) in
          let no : has (the_node t p) k ≡ false = ap (list_any (λ (x : Entry). x.fileid == k)) (ap entries here ∙ g.empty) in
          absurd (false≢true (sym no ∙ h))
      go false e (inr c) = rw (g.at_ms p, e, c) h

  abbrev lower : (ℕ → Node → Bool) → ℕ → Node → Bool
  lower p k n = not (is_directory n) || k == root || p k n

  plain_lower : (p : ℕ → Node → Bool) (b : Node) → Fate t f a (Some b) → lower p f b ≡ true
  plain_lower p b x = let plain : is_directory b ≡ false = fate_plain (Some b) x in or_left (not (is_directory b) || f == root) (p f b) (or_left (not (is_directory b)) (f == root) (rw plain))

  lower_from : (p q : ℕ → Node → Bool) (k : ℕ) (n m : Node) → is_directory m ≡ is_directory n → (is_directory n ≡ true → p k n ≡ true → q k m ≡ true) → lower p k n ≡ true → lower q k m ≡ true
  lower_from p q k n m same imp h = go (is_directory n) refl (or_cases (not (is_directory n) || k == root) (p k n) h)
    where
      go : (b : Bool) → is_directory n ≡ b → ((not (is_directory n) || k == root) ≡ true) ⊎ (p k n ≡ true) → lower q k m ≡ true
      go b e (inl first) = or_left (not (is_directory m) || k == root) (q k m) (ap (λ (b : Bool). not b || k == root) same ∙ first)
      go true e (inr second) = or_right (not (is_directory m) || k == root) (q k m) (imp e second)
      go false e (inr second) = or_left (not (is_directory m) || k == root) (q k m) (or_left (not (is_directory m)) (k == root) (ap not (same ∙ e)))

  dir_apart : (f == dir) ≡ false
  dir_apart = ne_eqb f dir (λ e. eqb-false dir f g.apart (sym e))

  same_directory : is_directory d' ≡ is_directory d
  same_directory = g.directory' ∙ sym g.directory

  named_one : (k : ℕ) (n m : Node) → is_directory m ≡ is_directory n → (f == k) ≡ false → node_at t.nodes k ≡ Some n → lower (λ k n. names_of less_tree k == 1) k m ≡ true
  named_one k n m same i at = lower_from (λ k n. names_of t k == 1) (λ k n. names_of less_tree k == 1) k n m same (λ y h. ap (λ (x : ℕ). x == 1) (names_kept k i) ∙ h) (each-node_at (lower (λ k n. names_of t k == 1)) t.nodes k n v.directories_have_one at)

  stands : (k : ℕ) (n m : Node) → is_directory m ≡ is_directory n → parent_of m ≡ parent_of n → (f == k) ≡ false → node_at t.nodes k ≡ Some n → lower (λ k n. has (the_node less_tree (parent_of n)) k) k m ≡ true
  stands k n m same up i at = lower_from (λ k n. has (the_node t (parent_of n)) k) (λ k n. has (the_node less_tree (parent_of n)) k) k n m same (λ y h. subst (λ (p : ℕ). has (the_node less_tree p) k ≡ true) (sym up) (has_kept (parent_of n) k i h)) (each-node_at (lower (λ k n. has (the_node t (parent_of n)) k)) t.nodes k n v.directories_stand_in_parents at)

  leads_up : (k : ℕ) (n m : Node) → is_directory m ≡ is_directory n → (f == k) ≡ false → node_at t.nodes k ≡ Some n → lower (λ k n. is_at_or_below less_tree k root) k m ≡ true
  leads_up k n m same i at = lower_from (λ k n. is_at_or_below t k root) (λ k n. is_at_or_below less_tree k root) k n m same (λ y h. way_up_kept k (ap (λ (x : Option Node). is_directory (unwrap_or x no_node)) at ∙ y) i h) (each-node_at (lower (λ k n. is_at_or_below t k root)) t.nodes k n v.ways_lead_up at)

  node_named : (k : ℕ) (n : Node) → node_at t.nodes k ≡ Some n → (f == k) ≡ false → (k == root || nat_le 1 (names_of less_tree k)) ≡ true
  node_named k n at i = ap (λ (m : ℕ). k == root || nat_le 1 m) (names_kept k i) ∙ each-node_at (λ k n. k == root || nat_le 1 (names_of t k)) t.nodes k n v.nodes_have_names at

  links_before : (k : ℕ) (n : Node) → node_at t.nodes k ≡ Some n → n.nlink ≡ links_of t k n
  links_before k n at = eqb-true _ _ (each-node_at (λ k n. n.nlink == links_of t k n) t.nodes k n v.links at)

  at_f : the_node t f ≡ a
  at_f = ap (λ (x : Option Node). unwrap_or x no_node) g.there

  -- the node goes with its only name, or is no directory
  one_or_plain : (x : Option Node) → Fate t f a x → (names_of t f ≡ 1) ⊎ (is_directory a ≡ false)
  one_or_plain None (gone one) = inl one
  one_or_plain (Some b) (less content plain links many mode) = inr plain

  all_same : is_directory a ≡ false → (k : ℕ) → is_directory (the_node less_tree k) ≡ is_directory (the_node t k)
  all_same plain k = go (f == k) refl
    where
      go : (b : Bool) → (f == k) ≡ b → is_directory (the_node less_tree k) ≡ is_directory (the_node t k)
      go true e =
          let here : is_directory (the_node less_tree f) ≡ false = rw (g.at_ms f, g.apart, eq-eqb f f refl) (fate_plain o g.fate) in
          let before : is_directory (the_node t f) ≡ false = ap is_directory at_f ∙ plain in
          subst (λ (j : ℕ). is_directory (the_node less_tree j) ≡ is_directory (the_node t j)) (eqb-true f k e) (here ∙ sym before)
      go false e = directory_same k e

  -- the entries that are left name directories as before
  subdirectories_kept : (k : ℕ) (n : Node) → node_at ms k ≡ Some n → cnt (λ e. is_directory (the_node less_tree e.fileid)) (entries n) ≡ cnt (λ e. is_directory (the_node t e.fileid)) (entries n)
  subdirectories_kept k n at = go (one_or_plain o g.fate)
    where
      go : (names_of t f ≡ 1) ⊎ (is_directory a ≡ false) → cnt (λ e. is_directory (the_node less_tree e.fileid)) (entries n) ≡ cnt (λ e. is_directory (the_node t e.fileid)) (entries n)
      go (inl one) = cnt-agree (λ e. not (e.fileid == f)) (λ e. is_directory (the_node less_tree e.fileid)) (λ e. is_directory (the_node t e.fileid)) (λ e h. directory_same e.fileid (flip_apart e.fileid h)) (entries n) (each-node_at (λ k n. list_all (λ e. not (e.fileid == f)) (entries n)) ms k n (sym (each_entry (λ e. not (e.fileid == f)) ms) ∙ left_apart one) at)
      go (inr plain) = ap (λ (test : Entry → Bool). cnt test (entries n)) (agree (λ (e : Entry). all_same plain e.fileid))

  subdirectories_same : (k : ℕ) (n : Node) → node_at ms k ≡ Some n → subdirectories less_tree n ≡ subdirectories t n
  subdirectories_same k n at = sym (length-filter (λ (e : Entry). is_directory (the_node less_tree e.fileid)) (entries n)) ∙ subdirectories_kept k n at ∙ length-filter (λ (e : Entry). is_directory (the_node t e.fileid)) (entries n)

  links_kept : (k : ℕ) (n : Node) → node_at ms k ≡ Some n → (f == k) ≡ false → links_of less_tree k n ≡ links_of t k n
  links_kept k n at i = cc (names_kept k i, subdirectories_same k n at)

  at_dir : node_at ms dir ≡ Some d'
  at_dir = rw (g.at_ms dir, eq-eqb dir dir refl)

  links_of_dir : d'.nlink ≡ links_of less_tree dir d'
  links_of_dir =
      let q : ℕ → Bool = λ j. is_directory (the_node t j) in
      let counted : links_of t dir d ≡ 2 + subdirectories t d = rw g.directory in
      let before : cnt (λ e. q e.fileid) (entries d) ≡ subdirectories t d = length-filter (λ (e : Entry). q e.fileid) (entries d) in
      let now : links_of less_tree dir d' ≡ 2 + subdirectories less_tree d' = rw g.directory' in
      let same : subdirectories less_tree d' ≡ subdirectories t d' = subdirectories_same dir d' at_dir in
      let after : cnt (λ e. q e.fileid) (entries d') ≡ subdirectories t d' = length-filter (λ (e : Entry). q e.fileid) (entries d') in
      let left : cnt (λ e. q e.fileid) (entries d') ≡ cnt (λ e. q e.fileid) (without_name (entries d) name) = ap (cnt (λ e. q e.fileid)) entries' in
      let lost : cnt (λ e. q e.fileid) (without_name (entries d) name) + cond (q f) 1 0 ≡ cnt (λ e. q e.fileid) (entries d) = cnt-without q (entries d) name f g.found in
      let kind : ◌≡◌ {A = ℕ} (cond (q f) 1 0) (cond (is_directory a) 1 0) = ap (λ (n : Node). cond (is_directory n) 1 0) at_f in
      omega (arith, links_before dir d g.at, g.nlink')

  links_of_file : (b : Node) → Fate t f a (Some b) → b.nlink ≡ links_of less_tree f b
  links_of_file b (less content plain links many mode) =
      let before : links_of t f a ≡ names_of t f = rw plain in
      let plain' : is_directory b ≡ false = ap directory_test content ∙ plain in
      let now : links_of less_tree f b ≡ names_of less_tree f = rw plain' in
      omega (arith, links_before f a g.there, names_f)

  file_named : (b : Node) → Fate t f a (Some b) → nat_le 1 (names_of less_tree f) ≡ true
  file_named b (less content plain links many mode) =
      let before : links_of t f a ≡ names_of t f = rw plain in
      le-leb 1 (names_of less_tree f) (omega (arith, links_before f a g.there, names_f))

  abbrev cookies_test : Listing → Bool
  cookies_test l = ascends_below l.next_cookie (map (λ e. e.cookie) l.entries)

  abbrev names_test : Listing → Bool
  names_test l = are_distinct (map (λ e. e.name) l.entries)

  -- a test of a node that its shape decides, of the other node
  of_fate : (p : Content → Bool) → p a.content ≡ true → (b : Node) → Fate t f a (Some b) → p b.content ≡ true
  of_fate p h b (less content plain links many mode) = ap p content ∙ h

  mode_of_fate : (b : Node) → Fate t f a (Some b) → nat_lt b.mode 0o10000 ≡ true
  mode_of_fate b (less content plain links many mode) = ap (λ (m : ℕ). nat_lt m 0o10000) mode ∙ each-node_at (λ k n. nat_lt n.mode 0o10000) t.nodes f a v.modes g.there

  links_of_fate : (b : Node) → Fate t f a (Some b) → (is_directory b || nat_le b.nlink max_links) ≡ true
  links_of_fate b (less content plain links many mode) =
      let before : (is_directory a || nat_le a.nlink max_links) ≡ true = each-node_at (λ k n. is_directory n || nat_le n.nlink max_links) t.nodes f a v.links_within g.there in
      let low : nat_le a.nlink max_links ≡ true = rw plain at before in
      let most : a.nlink ≤ max_links = leb-true a.nlink max_links low in
      or_right (is_directory b) (nat_le b.nlink max_links) (le-leb b.nlink max_links (omega arith))

  -- each entry that is left names a node that is left
  left_there : (x : Option Node) → Fate t f a x → o ≡ x → list_all (λ e. is_some (node_at ms e.fileid)) (all_entries less_tree) ≡ true
  left_there None (gone one) same = both (λ e. there e.fileid) (λ e. not (e.fileid == f)) (λ e. is_some (node_at ms e.fileid)) (λ e h i. there_same e.fileid (flip_apart e.fileid i) ∙ h) (all_entries less_tree) (entries_keep (λ e. there e.fileid) v.entries_name_nodes) (left_apart one)
  left_there (Some b) (less content plain links many mode) same = entries_weaken (λ e. there e.fileid) (λ e. is_some (node_at ms e.fileid)) (λ e h. stays e.fileid h) (all_entries less_tree) (entries_keep (λ e. there e.fileid) v.entries_name_nodes)
    where
      stays : (k : ℕ) → there k ≡ true → is_some (node_at ms k) ≡ true
      stays k h = go (f == k) refl
        where
          go : (c : Bool) → (f == k) ≡ c → is_some (node_at ms k) ≡ true
          go true e =
              let here : node_at ms f ≡ Some b = rw (g.at_ms f, g.apart, eq-eqb f f refl) same in
              subst (λ (j : ℕ). is_some (node_at ms j) ≡ true) (eqb-true f k e) (ap is_some here)
          go false e = there_same k e ∙ h

  -- the tree without the entry is valid
  pub dropped_valid : IsValidTree less_tree
  dropped_valid = record {
    fileids = g.order;
    root_is_directory = directory_same root f_not_root ∙ v.root_is_directory;
    root_is_top = ap (λ (x : ℕ). x == root) (parent_same root f_not_root) ∙ v.root_is_top;
    entries_name_nodes = left_there o g.fate refl;
    none_names_root = entries_keep (λ e. not (e.fileid == root)) v.none_names_root;
    nodes_have_names = each_less (λ k n. k == root || nat_le 1 (names_of less_tree k)) (node_named dir d g.at dir_apart) (λ b x. or_right (f == root) _ (file_named b x)) (λ k n at e i. node_named k n at i);
    directories_have_one = each_less (lower (λ k n. names_of less_tree k == 1)) (named_one dir d d' same_directory dir_apart g.at) (plain_lower (λ k n. names_of less_tree k == 1)) (λ k n at e i. named_one k n n refl i at);
    directories_stand_in_parents = each_less (lower (λ k n. has (the_node less_tree (parent_of n)) k)) (stands dir d d' same_directory g.parent' dir_apart g.at) (plain_lower (λ k n. has (the_node less_tree (parent_of n)) k)) (λ k n at e i. stands k n n refl refl i at);
    ways_lead_up = each_less (lower (λ k n. is_at_or_below less_tree k root)) (leads_up dir d d' same_directory dir_apart g.at) (plain_lower (λ k n. is_at_or_below less_tree k root)) (λ k n at e i. leads_up k n n refl i at);
    names_differ = each_again (λ k n. names_test (listing_of n)) v.names_differ (ap names_test g.listing' ∙ distinct-without (entries d) name (each-node_at (λ k n. names_test (listing_of n)) t.nodes dir d v.names_differ g.at)) (of_fate (λ c. names_test (directory_listing c)) (each-node_at (λ k n. names_test (listing_of n)) t.nodes f a v.names_differ g.there));
    cookies = each_again (λ k n. cookies_test (listing_of n)) v.cookies (ap cookies_test g.listing' ∙ ascends-without (listing_of d).next_cookie (entries d) name (each-node_at (λ k n. cookies_test (listing_of n)) t.nodes dir d v.cookies g.at)) (of_fate (λ c. cookies_test (directory_listing c)) (each-node_at (λ k n. cookies_test (listing_of n)) t.nodes f a v.cookies g.there));
    links = each_less (λ k n. n.nlink == links_of less_tree k n) (eq-eqb _ _ links_of_dir) (λ b x. eq-eqb _ _ (links_of_file b x)) (λ k n at e i. eq-eqb _ _ (links_before k n at ∙ sym (links_kept k n (rw (g.at_ms k, e, i) at) i)));
    modes = each_again (λ k n. nat_lt n.mode 0o10000) v.modes g.mode' mode_of_fate;
    contents_within = each_again (λ k n. is_within n.content) v.contents_within g.within' (of_fate is_within (each-node_at (λ k n. is_within n.content) t.nodes f a v.contents_within g.there));
    links_within = each_again (λ k n. is_directory n || nat_le n.nlink max_links) v.links_within (or_left _ _ g.directory') links_of_fate;
    nodes_within = le-leb (length ms) max_nodes (omega (arith, g.size, leb-true (length t.nodes) max_nodes v.nodes_within));
    fileid_within = v.fileid_within;
    volume_within = v.volume_within;
  }
