-- A tree stays valid where a node gets other attributes or bytes.
use Rattle.std.proofs.Common.{◌≡◌, ℕ, zero, suc, ◌<◌, List, [], ◌∷◌, Some, refl, true, false, sym, ap, ◌∙◌, length, arith, subst}
use Rattle.std.specs.Prelude.{Bool, cond, not, ◌&&◌, ◌||◌, ◌==◌, nat_lt, nat_le, IsTrue, map, flat_map, count_by, is_some, unwrap_or}
use Rattle.std.specs.List.{list_all, list_any}
use Rattle.std.proofs.lemmas.Bool.{and_parts, and_from, eqb-true, ltb-true, le-ltb}
use Rattle.sky_base.specs.Listing.{Listing, Entry}
use Rattle.sky_nfs.specs.Tree.{Tree, Node, node_at, with_node, the_node, no_node, root, is_directory, listing_of, parent_of, all_entries, names_of, links_of, subdirectories, ancestors, is_at_or_below}
use Rattle.sky_base.specs.Limits.{max_links}
use Rattle.sky_nfs.specs.Changes.{put}
use Rattle.sky_nfs.specs.Validity.{IsValidTree, ascends_below, are_distinct, is_within, each_node, each_lower_directory}

Nodes : Type 0
Nodes = List (ℕ × Node)

-- two nodes that differ at most in what the shape of a tree doesn't show
pub record SameShape (a b : Node) : Type 0 where
  pub directory : is_directory a ≡ is_directory b
  pub parent : parent_of a ≡ parent_of b
  pub listing : listing_of a ≡ listing_of b
  pub nlink : a.nlink ≡ b.nlink

pub SameShape_refl : (a : Node) → SameShape a a
SameShape_refl a = record { directory = refl; parent = refl; listing = refl; nlink = refl }

-- the same nodes but for that
pub data SameShapes : List (ℕ × Node) → List (ℕ × Node) → Type 0 where
  none : SameShapes [] []
  one : {k : ℕ} {a b : Node} {ns ms : List (ℕ × Node)} → SameShape a b → SameShapes ns ms → SameShapes ((k, a) ∷ ns) ((k, b) ∷ ms)

pub SameShapes_refl : (ns : List (ℕ × Node)) → SameShapes ns ns
SameShapes_refl [] = none
SameShapes_refl (n ∷ ns) = one (SameShape_refl n.1) (SameShapes_refl ns)

-- what holds of each node holds of the one at a fileid
pub each-node_at : (test : ℕ → Node → Bool) (ns : List (ℕ × Node)) (k : ℕ) (n : Node) → list_all (λ e. test e.0 e.1) ns ≡ true → node_at ns k ≡ Some n → test k n ≡ true
each-node_at test [] k n all at = absurd (cc)
each-node_at test (e ∷ es) k n all at = go (e.0 == k) refl (each-node_at test es k n parts.1)
  where
    parts : (test e.0 e.1 ≡ true) × (list_all (λ e. test e.0 e.1) es ≡ true)
    parts = and_parts _ _ all

    go : (b : Bool) → (e.0 == k) ≡ b → (node_at es k ≡ Some n → test k n ≡ true) → test k n ≡ true
    go true h ih =
        let same : e.0 ≡ k = eqb-true e.0 k h in
        let found : Some e.1 ≡ Some n = rw h at at in
        cc parts.0
    go false h ih = ih (rw h at at)

-- a replaced node, and all the others
pub each-with_node : (test : ℕ → Node → Bool) (ns : List (ℕ × Node)) (k : ℕ) (n : Node) → list_all (λ e. test e.0 e.1) ns ≡ true → test k n ≡ true → list_all (λ e. test e.0 e.1) (with_node ns k n) ≡ true
each-with_node test [] k n all h = and_from _ _ h refl
each-with_node test (e ∷ es) k n all h = go (e.0 == k) (nat_lt k e.0) (each-with_node test es k n parts.1 h)
  where
    parts : (test e.0 e.1 ≡ true) × (list_all (λ e. test e.0 e.1) es ≡ true)
    parts = and_parts _ _ all

    go : (b c : Bool) → list_all (λ e. test e.0 e.1) (with_node es k n) ≡ true → list_all (λ e. test e.0 e.1) (cond b ((k, n) ∷ es) (cond c ((k, n) ∷ e ∷ es) (e ∷ with_node es k n))) ≡ true
    go true c rest = and_from _ _ h parts.1
    go false true rest = and_from _ _ h all
    go false false rest = and_from _ _ parts.0 rest

some_same : (a b : Node) → Some a ≡ Some b → a ≡ b
some_same a b e = cc

-- a fileid that is found behind others is above each of them
pub above_all : (ns : List (ℕ × Node)) (low k : ℕ) (n : Node) → list_all (nat_lt low) (map (λ e. e.0) ns) ≡ true → node_at ns k ≡ Some n → low < k
above_all [] low k n all at = absurd (cc)
above_all (e ∷ es) low k n all at = go (e.0 == k) refl (above_all es low k n parts.1)
  where
    parts : (nat_lt low e.0 ≡ true) × (list_all (nat_lt low) (map (λ e. e.0) es) ≡ true)
    parts = and_parts _ _ all

    go : (b : Bool) → (e.0 == k) ≡ b → (node_at es k ≡ Some n → low < k) → low < k
    go true h ih =
        let same : e.0 ≡ k = eqb-true e.0 k h in
        let below : low < e.0 = ltb-true low e.0 parts.0 in
        omega arith
    go false h ih = ih (rw h at at)

-- a node that is replaced by one of the same shape
pub SameShapes-with_node : (bound : ℕ) (ns : List (ℕ × Node)) (k : ℕ) (a b : Node) → ascends_below bound (map (λ e. e.0) ns) ≡ true → node_at ns k ≡ Some a → SameShape a b → SameShapes ns (with_node ns k b)
SameShapes-with_node bound [] k a b order at same = absurd (cc)
SameShapes-with_node bound (e ∷ es) k a b order at same = go (e.0 == k) refl (λ found. SameShapes-with_node bound es k a b outer.1 found same)
  where
    outer : ((list_all (nat_lt e.0) (map (λ e. e.0) es) && nat_lt e.0 bound) ≡ true) × (ascends_below bound (map (λ e. e.0) es) ≡ true)
    outer = and_parts _ _ order

    inner : (list_all (nat_lt e.0) (map (λ e. e.0) es) ≡ true) × (nat_lt e.0 bound ≡ true)
    inner = and_parts _ _ outer.0

    go : (c : Bool) → (e.0 == k) ≡ c → (node_at es k ≡ Some a → SameShapes es (with_node es k b)) → SameShapes (e ∷ es) (with_node (e ∷ es) k b)
    go true h ih =
        let key : e.0 ≡ k = eqb-true e.0 k h in
        let found : Some e.1 ≡ Some a = rw h at at in
        let shape : SameShape e.1 b = subst (λ (n : Node). SameShape n b) (sym (some_same e.1 a found)) same in
        rw h (subst (λ (j : ℕ). SameShapes (e ∷ es) ((j, b) ∷ es)) key (one shape (SameShapes_refl es)))
    go false h ih =
        let found : node_at es k ≡ Some a = rw h at at in
        let above : e.0 < k = above_all es e.0 k a inner.0 found in
        let later : nat_lt k e.0 ≡ false = le-ltb k e.0 (omega arith) in
        rw (h, later) (one (SameShape_refl e.1) (ih found))

-- nodes of one shape stand at the same fileids
pub is_some-node_at : {ns ms : List (ℕ × Node)} → SameShapes ns ms → (k : ℕ) → is_some (node_at ns k) ≡ is_some (node_at ms k)
is_some-node_at none k = refl
is_some-node_at (one {k = j} {a = a} {b = b} {ns = ns} {ms = ms} s r) k = go (j == k) (is_some-node_at r k)
  where
    go : (c : Bool) → is_some (node_at ns k) ≡ is_some (node_at ms k) → is_some (cond c (Some a) (node_at ns k)) ≡ is_some (cond c (Some b) (node_at ms k))
    go true e = refl
    go false e = e

pub shape_at : {ns ms : List (ℕ × Node)} → SameShapes ns ms → (k : ℕ) → SameShape (unwrap_or (node_at ns k) no_node) (unwrap_or (node_at ms k) no_node)
shape_at none k = SameShape_refl no_node
shape_at (one {k = j} {a = a} {b = b} {ns = ns} {ms = ms} s r) k = go (j == k) (shape_at r k)
  where
    go : (c : Bool) → SameShape (unwrap_or (node_at ns k) no_node) (unwrap_or (node_at ms k) no_node) → SameShape (unwrap_or (cond c (Some a) (node_at ns k)) no_node) (unwrap_or (cond c (Some b) (node_at ms k)) no_node)
    go true e = s
    go false e = e

pub same_entries : {ns ms : List (ℕ × Node)} → SameShapes ns ms → flat_map (λ n. (listing_of n.1).entries) ns ≡ flat_map (λ n. (listing_of n.1).entries) ms
same_entries none = refl
same_entries (one {a = a} {b = b} s r) = cc (same_entries r, s.listing)

pub same_keys : {ns ms : List (ℕ × Node)} → SameShapes ns ms → map (λ n. n.0) ns ≡ map (λ n. n.0) ms
same_keys none = refl
same_keys (one s r) = cc (same_keys r)

pub same_count : {ns ms : List (ℕ × Node)} → SameShapes ns ms → length ns ≡ length ms
same_count none = refl
same_count (one s r) = ap suc (same_count r)

-- a test that looks at shapes alone
pub same_test : (p q : ℕ → Node → Bool) → ((k : ℕ) (a b : Node) → SameShape a b → p k a ≡ q k b) → {ns ms : List (ℕ × Node)} → SameShapes ns ms → list_all (λ n. p n.0 n.1) ns ≡ list_all (λ n. q n.0 n.1) ms
same_test p q each none = refl
same_test p q each (one {k = k} {a = a} {b = b} s r) = cc (each k a b s, same_test p q each r)

-- functions that agree everywhere are equal
pub agree : {A B : Type 0} {f g : A → B} → ((x : A) → f x ≡ g x) → f ≡ g
agree h = λ i x. h x i

module _ (t : Tree) (ms : List (ℕ × Node)) (same : SameShapes t.nodes ms) where
  -- the tree with those nodes
  abbrev pub with_nodes : Tree
  with_nodes = record t { nodes = ms }

  same_ancestors : (n dir : ℕ) → ancestors t n dir ≡ ancestors with_nodes n dir
  same_ancestors zero dir = refl
  same_ancestors (suc n) dir = cc ((shape_at same dir).parent, same_ancestors n (parent_of (the_node t dir)))

  same_way : (dir above : ℕ) → is_at_or_below t dir above ≡ is_at_or_below with_nodes dir above
  same_way dir above =
      let lists : ancestors t (length t.nodes) dir ≡ ancestors with_nodes (length ms) dir = rw (← same_count same) (same_ancestors (length t.nodes) dir) in
      ap (list_any (λ d. d == above)) lists

  same_names : (fileid : ℕ) → names_of t fileid ≡ names_of with_nodes fileid
  same_names fileid = ap (count_by (λ (e : Entry). e.fileid == fileid)) (same_entries same)

  same_subdirectories : (a b : Node) → SameShape a b → subdirectories t a ≡ subdirectories with_nodes b
  same_subdirectories a b s =
      let tests : (λ (e : Entry). is_directory (the_node t e.fileid)) ≡ (λ (e : Entry). is_directory (the_node with_nodes e.fileid)) = agree (λ e. (shape_at same e.fileid).directory) in
      ap (λ (l : Listing). count_by (λ e. is_directory (the_node t e.fileid)) l.entries) s.listing ∙ ap (λ (test : Entry → Bool). count_by test (listing_of b).entries) tests

  same_lower : (p q : ℕ → Node → Bool) → ((k : ℕ) (a b : Node) → SameShape a b → p k a ≡ q k b) → each_lower_directory p t ≡ each_lower_directory q with_nodes
  same_lower p q each = same_test (λ k n. not (is_directory n) || k == root || p k n) (λ k n. not (is_directory n) || k == root || q k n) (λ k a b s. cc (s.directory, each k a b s)) same

  same_links : (k : ℕ) (a b : Node) → SameShape a b → links_of t k a ≡ links_of with_nodes k b
  same_links k a b s = cc (s.directory, same_names k, same_subdirectories a b s)

  -- where also the new modes and contents are within the limits
  pub same_valid : IsValidTree t → IsTrue (each_node (λ fileid node. nat_lt node.mode 0o10000) with_nodes) → IsTrue (each_node (λ fileid node. is_within node.content) with_nodes) → IsValidTree with_nodes
  same_valid v modes contents = record {
    fileids = rw (← same_keys same) v.fileids;
    root_is_directory = sym (shape_at same root).directory ∙ v.root_is_directory;
    root_is_top = rw (← (shape_at same root).parent) v.root_is_top;
    entries_name_nodes =
        let tests : (λ (e : Entry). is_some (node_at t.nodes e.fileid)) ≡ (λ (e : Entry). is_some (node_at ms e.fileid)) = agree (λ e. is_some-node_at same e.fileid) in
        sym (ap (list_all (λ (e : Entry). is_some (node_at t.nodes e.fileid))) (same_entries same) ∙ ap (λ (test : Entry → Bool). list_all test (all_entries with_nodes)) tests) ∙ v.entries_name_nodes;
    none_names_root = rw (← same_entries same) v.none_names_root;
    nodes_have_names = sym (same_test (λ k n. k == root || nat_le 1 (names_of t k)) (λ k n. k == root || nat_le 1 (names_of with_nodes k)) (λ k a b s. cc (same_names k)) same) ∙ v.nodes_have_names;
    directories_have_one = sym (same_lower (λ k n. names_of t k == 1) (λ k n. names_of with_nodes k == 1) (λ k a b s. cc (same_names k))) ∙ v.directories_have_one;
    directories_stand_in_parents = sym (same_lower (λ k n. list_any (λ e. e.fileid == k) (listing_of (the_node t (parent_of n))).entries) (λ k n. list_any (λ e. e.fileid == k) (listing_of (the_node with_nodes (parent_of n))).entries) (λ k a b s. ap (λ (p : ℕ). list_any (λ e. e.fileid == k) (listing_of (the_node t p)).entries) s.parent ∙ ap (λ (l : Listing). list_any (λ e. e.fileid == k) l.entries) (shape_at same (parent_of b)).listing)) ∙ v.directories_stand_in_parents;
    ways_lead_up = sym (same_lower (λ k n. is_at_or_below t k root) (λ k n. is_at_or_below with_nodes k root) (λ k a b s. same_way k root)) ∙ v.ways_lead_up;
    names_differ = sym (same_test (λ k n. are_distinct (map (λ e. e.name) (listing_of n).entries)) (λ k n. are_distinct (map (λ e. e.name) (listing_of n).entries)) (λ k a b s. ap (λ (l : Listing). are_distinct (map (λ e. e.name) l.entries)) s.listing) same) ∙ v.names_differ;
    cookies = sym (same_test (λ k n. ascends_below (listing_of n).next_cookie (map (λ e. e.cookie) (listing_of n).entries)) (λ k n. ascends_below (listing_of n).next_cookie (map (λ e. e.cookie) (listing_of n).entries)) (λ k a b s. ap (λ (l : Listing). ascends_below l.next_cookie (map (λ e. e.cookie) l.entries)) s.listing) same) ∙ v.cookies;
    links = sym (same_test (λ k n. n.nlink == links_of t k n) (λ k n. n.nlink == links_of with_nodes k n) (λ k a b s. cc (s.nlink, same_links k a b s)) same) ∙ v.links;
    modes = modes;
    contents_within = contents;
    links_within = sym (same_test (λ k n. is_directory n || nat_le n.nlink max_links) (λ k n. is_directory n || nat_le n.nlink max_links) (λ k a b s. cc (s.directory, s.nlink)) same) ∙ v.links_within;
    nodes_within = rw (← same_count same) v.nodes_within;
    fileid_within = v.fileid_within;
    volume_within = v.volume_within;
  }

-- a valid tree stays valid where a node gives way to one of its shape, within the limits
pub put_valid : (t : Tree) (k : ℕ) (a b : Node) → IsValidTree t → node_at t.nodes k ≡ Some a → SameShape a b → nat_lt b.mode 0o10000 ≡ true → is_within b.content ≡ true → IsValidTree (put t k b)
put_valid t k a b v at same mode content =
    same_valid t (with_node t.nodes k b) (SameShapes-with_node t.next_fileid t.nodes k a b v.fileids at same) v
    (each-with_node (λ k n. nat_lt n.mode 0o10000) t.nodes k b v.modes mode)
    (each-with_node (λ k n. is_within n.content) t.nodes k b v.contents_within content)
