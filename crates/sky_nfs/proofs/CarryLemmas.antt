-- A tree stays valid where the entry of a node moves from one directory to another, or to another name.
use Rattle.std.proofs.Common.{◌≡◌, ℕ, zero, suc, ◌+◌, List, ◌∷◌, Option, Some, None, refl, true, false, sym, ap, subst, ◌∙◌, length, arith, inl, inr}
use Rattle.std.specs.Prelude.{Bool, not, ◌||◌, ◌==◌, ◌⊎◌, eqb, nat_lt, nat_le, map, count_by, is_some, unwrap_or, option_map}
use Rattle.std.specs.List.{list_all, list_any}
use Rattle.std.proofs.lemmas.Bool.{eqb-true, eqb-false, eq-eqb, ne_eqb, or_cases, or_parts, or_left, or_right, not_from_false, cases_Bool}
use Rattle.std.proofs.lemmas.List.Sums.{length-filter}
use Rattle.sky_base.specs.Limits.{max_links, max_nodes}
use Rattle.sky_base.specs.Listing.{Listing, Entry}
use Rattle.sky_nfs.specs.Tree.{Tree, Node, node_at, the_node, no_node, root, is_directory, listing_of, parent_of, all_entries, names_of, links_of, subdirectories, ancestors, is_at_or_below}
use Rattle.sky_nfs.specs.Validity.{IsValidTree, ascends_below, are_distinct, is_within, each_node}
use Rattle.sky_nfs.proofs.ValidityLemmas.{each-node_at, agree}
use Rattle.sky_nfs.proofs.GrowLemmas.{keys, entries, cnt, total, total_lem, each-of, each_entry, entries_weaken, directory_of, there_of, some_of}
use Rattle.sky_nfs.proofs.WayLemmas.{short_way}

-- the same places, with each node changed by its fileid
pub record Mapped (bound : ℕ) (ns ms : List (ℕ × Node)) (F : ℕ → Node → Node) : Type 0 where
  pub order : ascends_below bound (keys ms) ≡ true
  pub size : length ms ≡ length ns
  pub at : (k : ℕ) → node_at ms k ≡ option_map (F k) (node_at ns k)

abbrev pub has : Node → ℕ → Bool
has n k = list_any (λ e. e.fileid == k) (entries n)

abbrev pub cookies_test : Listing → Bool
cookies_test l = ascends_below l.next_cookie (map (λ e. e.cookie) l.entries)

abbrev pub names_test : Listing → Bool
names_test l = are_distinct (map (λ e. e.name) l.entries)

-- what a node of a valid tree keeps where the entry of one node moves
pub record Part (f : ℕ) (n m : Node) : Type 0 where
  pub directory : is_directory m ≡ is_directory n
  pub mode : m.mode ≡ n.mode
  pub keeps : (p : ℕ → Bool) → p f ≡ true → list_all (λ e. p e.fileid) (entries n) ≡ true → list_all (λ e. p e.fileid) (entries m) ≡ true
  pub has : (j : ℕ) → (f == j) ≡ false → has n j ≡ true → has m j ≡ true
  pub names : names_test (listing_of n) ≡ true → names_test (listing_of m) ≡ true
  pub cookies : cookies_test (listing_of n) ≡ true → cookies_test (listing_of m) ≡ true
  pub within : is_within n.content ≡ true → is_within m.content ≡ true

-- and what its parent and its links become
pub record Carried (c : Tree) (f to k : ℕ) (n m : Node) : Type 0 where
  pub part : Part f n m
  pub parent : (f == k) ≡ false → parent_of m ≡ parent_of n
  pub parent_f : (f == k) ≡ true → is_directory n ≡ true → parent_of m ≡ to
  pub directory_links : is_directory n ≡ true → m.nlink + cnt (λ e. is_directory (the_node c e.fileid)) (entries n) ≡ n.nlink + cnt (λ e. is_directory (the_node c e.fileid)) (entries m)
  pub plain_links : is_directory n ≡ false → m.nlink ≡ n.nlink

-- a way to the root that doesn't pass a node
pub record Avoids (c : Tree) (f to : ℕ) : Type 0 where
  pub steps : ℕ
  pub up : list_any (λ d. d == root) (ancestors c steps to) ≡ true
  pub apart : list_any (λ d. d == f) (ancestors c steps to) ≡ false

pub the_parent_is_directory : (t : Tree) → IsValidTree t → (k : ℕ) → is_directory (the_node t k) ≡ true → is_directory (the_node t (parent_of (the_node t k))) ≡ true
the_parent_is_directory t v k h =
    let n = some_of (node_at t.nodes k) (there_of (node_at t.nodes k) h) in
    let node_is : the_node t k ≡ n.0 = ap (λ (o : Option Node). unwrap_or o no_node) n.1 in
    let directory : is_directory n.0 ≡ true = subst (λ (m : Node). is_directory m ≡ true) node_is h in
    go n.0 node_is directory (cases_Bool (k == root)) (each-node_at (λ k n. not (is_directory n) || k == root || list_any (λ e. e.fileid == k) (entries (the_node t (parent_of n)))) t.nodes k n.0 v.directories_stand_in_parents n.1)
  where
    go : (n : Node) → the_node t k ≡ n → is_directory n ≡ true → ((k == root) ≡ true) ⊎ ((k == root) ≡ false) → (not (is_directory n) || k == root || list_any (λ e. e.fileid == k) (entries (the_node t (parent_of n)))) ≡ true → is_directory (the_node t (parent_of (the_node t k))) ≡ true
    go n same directory (inl top) stands =
        let is_root : k ≡ root = eqb-true k root top in
        let up : parent_of (the_node t root) ≡ root = eqb-true _ root v.root_is_top in
        let here : parent_of (the_node t k) ≡ root = subst (λ (j : ℕ). parent_of (the_node t j) ≡ root) (sym is_root) up in
        rw here v.root_is_directory
    go n same directory (inr lower) stands =
        let holds : list_any (λ e. e.fileid == k) (entries (the_node t (parent_of n))) ≡ true = rw (directory, lower) at stands in
        rw same (directory_of (λ e. e.fileid == k) (the_node t (parent_of n)) holds)

module _ (c : Tree) (ms : List (ℕ × Node)) (F : ℕ → Node → Node) (f to : ℕ) (v : IsValidTree c) (s : Mapped c.next_fileid c.nodes ms F) (totals : (p : ℕ → Bool) → total (λ e. p e.fileid) ms ≡ total (λ e. p e.fileid) c.nodes) (each : (k : ℕ) (n : Node) → node_at c.nodes k ≡ Some n → Carried c f to k n (F k n)) (f_not_root : (f == root) ≡ false) (f_there : is_some (node_at c.nodes f) ≡ true) (to_directory : is_directory (the_node c to) ≡ true) (holds : list_any (λ e. e.fileid == f) (entries (unwrap_or (node_at ms to) no_node)) ≡ true) (avoids : is_directory (the_node c f) ≡ true → Avoids c f to) where
  abbrev carried : Tree
  carried = record c { nodes = ms }

  -- a fact of what stands at a fileid
  same_at : {A : Type 0} (h : Option Node → A) (k : ℕ) → ((n : Node) → node_at c.nodes k ≡ Some n → h (Some (F k n)) ≡ h (Some n)) → h (node_at ms k) ≡ h (node_at c.nodes k)
  same_at h k one = ap h (s.at k) ∙ go (node_at c.nodes k) refl
    where
      go : (o : Option Node) → node_at c.nodes k ≡ o → h (option_map (F k) o) ≡ h o
      go None e = refl
      go (Some n) e = one n e

  directory_same : (k : ℕ) → is_directory (the_node carried k) ≡ is_directory (the_node c k)
  directory_same k = same_at (λ o. is_directory (unwrap_or o no_node)) k (λ n at. (each k n at).part.directory)

  parent_same : (k : ℕ) → (f == k) ≡ false → parent_of (the_node carried k) ≡ parent_of (the_node c k)
  parent_same k e = same_at (λ o. parent_of (unwrap_or o no_node)) k (λ n at. (each k n at).parent e)

  there_same : (k : ℕ) → is_some (node_at ms k) ≡ is_some (node_at c.nodes k)
  there_same k = same_at is_some k (λ n at. refl)

  parent_moved : is_directory (the_node c f) ≡ true → parent_of (the_node carried f) ≡ to
  parent_moved h =
      let n = some_of (node_at c.nodes f) f_there in
      let is : is_directory n.0 ≡ true = subst (λ (o : Option Node). is_directory (unwrap_or o no_node) ≡ true) n.1 h in
      let here : node_at ms f ≡ Some (F f n.0) = s.at f ∙ ap (option_map (F f)) n.1 in
      ap (λ (o : Option Node). parent_of (unwrap_or o no_node)) here ∙ (each f n.0 n.1).parent_f (eq-eqb f f refl) is

  cases : (P : ℕ → Node → Type 0) → ((k : ℕ) (n : Node) → node_at c.nodes k ≡ Some n → P k (F k n)) → (k : ℕ) (m : Node) → node_at ms k ≡ Some m → P k m
  cases P h k m at = go (node_at c.nodes k) refl
    where
      go : (o : Option Node) → node_at c.nodes k ≡ o → P k m
      go None e =
          let found : ◌≡◌ {A = Option Node} None (Some m) = sym (s.at k ∙ ap (option_map (F k)) e) ∙ at in
          absurd (cc)
      go (Some n) e =
          let found : Some (F k n) ≡ Some m = sym (s.at k ∙ ap (option_map (F k)) e) ∙ at in
          let same : F k n ≡ m = cc in
          subst (λ (m : Node). P k m) same (h k n e)

  each_x : (p : ℕ → Node → Bool) → ((k : ℕ) (n : Node) → node_at c.nodes k ≡ Some n → p k (F k n) ≡ true) → list_all (λ n. p n.0 n.1) ms ≡ true
  each_x p h = each-of p c.next_fileid ms s.order (cases (λ k n. p k n ≡ true) h)

  names_same : (k : ℕ) → names_of carried k ≡ names_of c k
  names_same k = total_lem (λ e. e.fileid == k) ms ∙ totals (λ j. j == k) ∙ sym (total_lem (λ e. e.fileid == k) c.nodes)

  entries_keep : (p : ℕ → Bool) → p f ≡ true → list_all (λ e. p e.fileid) (all_entries c) ≡ true → list_all (λ e. p e.fileid) (all_entries carried) ≡ true
  entries_keep p pf before =
      let all : each_node (λ k n. list_all (λ e. p e.fileid) (entries n)) c ≡ true = sym (each_entry (λ e. p e.fileid) c.nodes) ∙ before in
      each_entry (λ e. p e.fileid) ms ∙ each_x (λ k n. list_all (λ e. p e.fileid) (entries n)) (λ k n at. (each k n at).part.keeps p pf (each-node_at (λ k n. list_all (λ e. p e.fileid) (entries n)) c.nodes k n all at))

  has_kept : (p k : ℕ) → (f == k) ≡ false → has (the_node c p) k ≡ true → has (the_node carried p) k ≡ true
  has_kept p k e h = subst (λ (o : Option Node). has (unwrap_or o no_node) k ≡ true) (sym (s.at p)) (go (node_at c.nodes p) refl h)
    where
      go : (o : Option Node) → node_at c.nodes p ≡ o → has (unwrap_or o no_node) k ≡ true → has (unwrap_or (option_map (F p) o) no_node) k ≡ true
      go None i h = h
      go (Some n) i h = (each p n i).part.has k e h

  abbrev lower : (ℕ → Node → Bool) → ℕ → Node → Bool
  lower p k n = not (is_directory n) || k == root || p k n

  lower_from : (p q : ℕ → Node → Bool) (k : ℕ) (n m : Node) → is_directory m ≡ is_directory n → (is_directory n ≡ true → p k n ≡ true → q k m ≡ true) → lower p k n ≡ true → lower q k m ≡ true
  lower_from p q k n m same imp h = go (is_directory n) refl (or_cases (not (is_directory n) || k == root) (p k n) h)
    where
      go : (b : Bool) → is_directory n ≡ b → ((not (is_directory n) || k == root) ≡ true) ⊎ (p k n ≡ true) → lower q k m ≡ true
      go b e (inl first) = or_left (not (is_directory m) || k == root) (q k m) (ap (λ (b : Bool). not b || k == root) same ∙ first)
      go true e (inr second) = or_right (not (is_directory m) || k == root) (q k m) (imp e second)
      go false e (inr second) = or_left (not (is_directory m) || k == root) (q k m) (or_left (not (is_directory m)) (k == root) (ap not (same ∙ e)))

  -- a way that doesn't pass the node is as before
  way_apart : (m k : ℕ) → list_any (λ d. d == f) (ancestors c m k) ≡ false → ancestors carried m k ≡ ancestors c m k
  way_apart zero k h = refl
  way_apart (suc m) k h =
      let parts = or_parts (k == f) _ h in
      let apart : (f == k) ≡ false = ne_eqb f k (λ e. eqb-false k f parts.0 (sym e)) in
      ap (λ (r : List ℕ). k ∷ r) (ap (ancestors carried m) (parent_same k apart) ∙ way_apart m (parent_of (the_node c k)) parts.1)

  -- a way of before leads up now, in as many steps as it takes
  way_up : (m k : ℕ) → is_directory (the_node c k) ≡ true → list_any (λ d. d == root) (ancestors c m k) ≡ true → (n : ℕ) × (list_any (λ d. d == root) (ancestors carried n k) ≡ true)
  way_up zero k i h = absurd (cc)
  way_up (suc m) k i h = go (or_cases (k == root) _ h) (cases_Bool (f == k)) (way_up m (parent_of (the_node c k)) (the_parent_is_directory c v k i))
    where
      go : ((k == root) ≡ true) ⊎ (list_any (λ d. d == root) (ancestors c m (parent_of (the_node c k))) ≡ true) → ((f == k) ≡ true) ⊎ ((f == k) ≡ false) → (list_any (λ d. d == root) (ancestors c m (parent_of (the_node c k))) ≡ true → (n : ℕ) × (list_any (λ d. d == root) (ancestors carried n (parent_of (the_node c k))) ≡ true)) → (n : ℕ) × (list_any (λ d. d == root) (ancestors carried n k) ≡ true)
      go (inl e) b ih = (1, or_left _ _ e)
      go (inr e) (inl b) ih =
          let same : f ≡ k = eqb-true f k b in
          let is : is_directory (the_node c f) ≡ true = subst (λ (j : ℕ). is_directory (the_node c j) ≡ true) (sym same) i in
          let a = avoids is in
          let up : list_any (λ d. d == root) (ancestors carried a.steps to) ≡ true = ap (list_any (λ d. d == root)) (way_apart a.steps to a.apart) ∙ a.up in
          let here : parent_of (the_node carried k) ≡ to = subst (λ (j : ℕ). parent_of (the_node carried j) ≡ to) same (parent_moved is) in
          (suc a.steps, or_right (k == root) _ (subst (λ (j : ℕ). list_any (λ d. d == root) (ancestors carried a.steps j) ≡ true) (sym here) up))
      go (inr e) (inr b) ih =
          let r = ih e in
          (suc r.0, or_right (k == root) _ (subst (λ (j : ℕ). list_any (λ d. d == root) (ancestors carried r.0 j) ≡ true) (sym (parent_same k b)) r.1))

  parent_directory : (k : ℕ) → is_directory (the_node carried k) ≡ true → is_directory (the_node carried (parent_of (the_node carried k))) ≡ true
  parent_directory k i = go (cases_Bool (f == k))
    where
      before : is_directory (the_node c k) ≡ true
      before = sym (directory_same k) ∙ i

      go : ((f == k) ≡ true) ⊎ ((f == k) ≡ false) → is_directory (the_node carried (parent_of (the_node carried k))) ≡ true
      go (inl b) =
          let same : f ≡ k = eqb-true f k b in
          let here : parent_of (the_node carried k) ≡ to = subst (λ (j : ℕ). parent_of (the_node carried j) ≡ to) same (parent_moved (subst (λ (j : ℕ). is_directory (the_node c j) ≡ true) (sym same) before)) in
          subst (λ (j : ℕ). is_directory (the_node carried j) ≡ true) (sym here) (directory_same to ∙ to_directory)
      go (inr b) = subst (λ (j : ℕ). is_directory (the_node carried j) ≡ true) (sym (parent_same k b)) (directory_same (parent_of (the_node c k)) ∙ the_parent_is_directory c v k before)

  members_there : (n k q : ℕ) → is_directory (the_node carried k) ≡ true → list_any (eqb q) (ancestors carried n k) ≡ true → is_some (node_at ms q) ≡ true
  members_there zero k q i h = absurd (cc)
  members_there (suc n) k q i h = go (or_cases (eqb q k) _ h) (members_there n (parent_of (the_node carried k)) q (parent_directory k i))
    where
      go : (eqb q k ≡ true) ⊎ (list_any (eqb q) (ancestors carried n (parent_of (the_node carried k))) ≡ true) → (list_any (eqb q) (ancestors carried n (parent_of (the_node carried k))) ≡ true → is_some (node_at ms q) ≡ true) → is_some (node_at ms q) ≡ true
      go (inl e) ih = subst (λ (j : ℕ). is_some (node_at ms j) ≡ true) (sym (eqb-true q k e)) (there_of (node_at ms k) i)
      go (inr e) ih = ih e

  leads_up : (k : ℕ) → is_directory (the_node c k) ≡ true → is_at_or_below c k root ≡ true → is_at_or_below carried k root ≡ true
  leads_up k i h =
      let r = way_up (length c.nodes) k i h in
      short_way carried r.0 k (λ n q y in'. members_there n k q (directory_same k ∙ i) in') r.1

  at_is : (k : ℕ) (n : Node) → node_at c.nodes k ≡ Some n → the_node c k ≡ n
  at_is k n at = ap (λ (o : Option Node). unwrap_or o no_node) at

  stands : (k : ℕ) (n : Node) → node_at c.nodes k ≡ Some n → lower (λ k n. has (the_node carried (parent_of n)) k) k (F k n) ≡ true
  stands k n at = lower_from (λ k n. has (the_node c (parent_of n)) k) (λ k n. has (the_node carried (parent_of n)) k) k n (F k n) g.part.directory (λ i h. go i h (f == k) refl) (each-node_at (lower (λ k n. has (the_node c (parent_of n)) k)) c.nodes k n v.directories_stand_in_parents at)
    where
      g : Carried c f to k n (F k n)
      g = each k n at

      go : is_directory n ≡ true → has (the_node c (parent_of n)) k ≡ true → (b : Bool) → (f == k) ≡ b → has (the_node carried (parent_of (F k n))) k ≡ true
      go i h true b = subst (λ (p : ℕ). has (the_node carried p) k ≡ true) (sym (g.parent_f b i)) (subst (λ (j : ℕ). has (the_node carried to) j ≡ true) (eqb-true f k b) holds)
      go i h false b = subst (λ (p : ℕ). has (the_node carried p) k ≡ true) (sym (g.parent b)) (has_kept (parent_of n) k b h)

  links_before : (k : ℕ) (n : Node) → node_at c.nodes k ≡ Some n → n.nlink ≡ links_of c k n
  links_before k n at = eqb-true _ _ (each-node_at (λ k n. n.nlink == links_of c k n) c.nodes k n v.links at)

  links_now : (k : ℕ) (n : Node) → node_at c.nodes k ≡ Some n → (F k n).nlink ≡ links_of carried k (F k n)
  links_now k n at = go (is_directory n) refl
    where
      g : Carried c f to k n (F k n)
      g = each k n at

      q : Entry → Bool
      q = λ e. is_directory (the_node c e.fileid)

      go : (b : Bool) → is_directory n ≡ b → (F k n).nlink ≡ links_of carried k (F k n)
      go true i =
          let old : links_of c k n ≡ 2 + subdirectories c n = rw i in
          let is : is_directory (F k n) ≡ true = g.part.directory ∙ i in
          let new : links_of carried k (F k n) ≡ 2 + subdirectories carried (F k n) = rw is in
          let tests : (λ (e : Entry). is_directory (the_node carried e.fileid)) ≡ q = agree (λ e. directory_same e.fileid) in
          let same : subdirectories carried (F k n) ≡ subdirectories c (F k n) = ap (λ (test : Entry → Bool). count_by test (entries (F k n))) tests in
          let one : cnt q (entries n) ≡ subdirectories c n = length-filter q (entries n) in
          let two : cnt q (entries (F k n)) ≡ subdirectories c (F k n) = length-filter q (entries (F k n)) in
          let bal : (F k n).nlink + cnt q (entries n) ≡ n.nlink + cnt q (entries (F k n)) = g.directory_links i in
          omega (arith, links_before k n at)
      go false i =
          let old : links_of c k n ≡ names_of c k = rw i in
          let is : is_directory (F k n) ≡ false = g.part.directory ∙ i in
          let new : links_of carried k (F k n) ≡ names_of carried k = rw is in
          omega (arith, links_before k n at, g.plain_links i, names_same k)

  most_links : (k : ℕ) (n : Node) → node_at c.nodes k ≡ Some n → (is_directory (F k n) || nat_le (F k n).nlink max_links) ≡ true
  most_links k n at = go (is_directory n) refl (each-node_at (λ k n. is_directory n || nat_le n.nlink max_links) c.nodes k n v.links_within at)
    where
      go : (b : Bool) → is_directory n ≡ b → (is_directory n || nat_le n.nlink max_links) ≡ true → (is_directory (F k n) || nat_le (F k n).nlink max_links) ≡ true
      go true i h = or_left _ _ ((each k n at).part.directory ∙ i)
      go false i h =
          let low : nat_le n.nlink max_links ≡ true = rw i at h in
          or_right (is_directory (F k n)) _ (ap (λ (m : ℕ). nat_le m max_links) ((each k n at).plain_links i) ∙ low)

  -- the tree in which the entry has moved is valid
  pub carried_valid : IsValidTree carried
  carried_valid = record {
    fileids = s.order;
    root_is_directory = directory_same root ∙ v.root_is_directory;
    root_is_top = ap (λ (y : ℕ). y == root) (parent_same root f_not_root) ∙ v.root_is_top;
    entries_name_nodes = entries_keep (λ j. is_some (node_at ms j)) (there_same f ∙ f_there) (entries_weaken (λ e. is_some (node_at c.nodes e.fileid)) (λ e. is_some (node_at ms e.fileid)) (λ e h. there_same e.fileid ∙ h) (all_entries c) v.entries_name_nodes);
    none_names_root = entries_keep (λ j. not (j == root)) (not_from_false _ f_not_root) v.none_names_root;
    nodes_have_names = each_x (λ k n. k == root || nat_le 1 (names_of carried k)) (λ k n at. ap (λ (m : ℕ). k == root || nat_le 1 m) (names_same k) ∙ each-node_at (λ k n. k == root || nat_le 1 (names_of c k)) c.nodes k n v.nodes_have_names at);
    directories_have_one = each_x (lower (λ k n. names_of carried k == 1)) (λ k n at. lower_from (λ k n. names_of c k == 1) (λ k n. names_of carried k == 1) k n (F k n) (each k n at).part.directory (λ i h. ap (λ (m : ℕ). m == 1) (names_same k) ∙ h) (each-node_at (lower (λ k n. names_of c k == 1)) c.nodes k n v.directories_have_one at));
    directories_stand_in_parents = each_x (lower (λ k n. has (the_node carried (parent_of n)) k)) stands;
    ways_lead_up = each_x (lower (λ k n. is_at_or_below carried k root)) (λ k n at. lower_from (λ k n. is_at_or_below c k root) (λ k n. is_at_or_below carried k root) k n (F k n) (each k n at).part.directory (λ i h. leads_up k (ap is_directory (at_is k n at) ∙ i) h) (each-node_at (lower (λ k n. is_at_or_below c k root)) c.nodes k n v.ways_lead_up at));
    names_differ = each_x (λ k n. names_test (listing_of n)) (λ k n at. (each k n at).part.names (each-node_at (λ k n. names_test (listing_of n)) c.nodes k n v.names_differ at));
    cookies = each_x (λ k n. cookies_test (listing_of n)) (λ k n at. (each k n at).part.cookies (each-node_at (λ k n. cookies_test (listing_of n)) c.nodes k n v.cookies at));
    links = each_x (λ k n. n.nlink == links_of carried k n) (λ k n at. eq-eqb _ _ (links_now k n at));
    modes = each_x (λ k n. nat_lt n.mode 0o10000) (λ k n at. ap (λ (m : ℕ). nat_lt m 0o10000) (each k n at).part.mode ∙ each-node_at (λ k n. nat_lt n.mode 0o10000) c.nodes k n v.modes at);
    contents_within = each_x (λ k n. is_within n.content) (λ k n at. (each k n at).part.within (each-node_at (λ k n. is_within n.content) c.nodes k n v.contents_within at));
    links_within = each_x (λ k n. is_directory n || nat_le n.nlink max_links) most_links;
    nodes_within = ap (λ (m : ℕ). nat_le m max_nodes) s.size ∙ v.nodes_within;
    fileid_within = v.fileid_within;
    volume_within = v.volume_within;
  }
