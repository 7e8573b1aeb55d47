-- A tree stays valid where a directory gets an entry of a new node.
use Rattle.std.proofs.Common.{◌≡◌, ℕ, zero, suc, ◌+◌, ◌<◌, List, [], ◌∷◌, ◌++◌, Option, Some, None, refl, true, false, sym, ap, subst, ◌∙◌, length, arith, length-append}
use Rattle.std.specs.Prelude.{Bool, cond, not, ◌&&◌, ◌||◌, ◌==◌, ◌⊎◌, nat_lt, nat_le, map, flat_map, count_by, filter, is_some, unwrap_or, option_map, find}
use Rattle.std.specs.List.{list_all, list_any}
use Rattle.std.proofs.Common.{inl, inr}
use Rattle.std.proofs.lemmas.Bool.{and_parts, and_from, eqb-true, eqb-false, eq-eqb, ne_eqb, ltb-true, lt-ltb, le-ltb, le-leb, or_cases, or_parts, or_from, not-true, not_from_false, or_left, or_right, cases_Bool, false≢true}
use Rattle.std.proofs.lemmas.List.Folds.{list_all-append, list_any-append}
use Rattle.std.proofs.lemmas.List.{map-append}
use Rattle.std.proofs.lemmas.List.Sums.{length-filter}
use Rattle.std.specs.Str.{bytes_eq}
use Rattle.sky_base.specs.Limits.{max_nodes, max_fileid, max_links}
use Rattle.sky_base.specs.Listing.{Listing, Entry, with_entry, fileid_at, new_listing}
use Rattle.sky_nfs.specs.Tree.{Tree, Node, Content, File, Directory, Link, directory_test, directory_listing, node_at, with_node, the_node, no_node, root, is_directory, listing_of, parent_of, all_entries, names_of, links_of, subdirectories, ancestors, is_at_or_below}
use Rattle.sky_nfs.specs.Validity.{IsValidTree, ascends_below, are_distinct, is_within, each_node}
use Rattle.sky_nfs.proofs.ValidityLemmas.{each-node_at, above_all}

abbrev pub keys : List (ℕ × Node) → List ℕ
keys ns = map (λ n. n.0) ns

abbrev pub entries : Node → List Entry
entries n = (listing_of n).entries

-- how many entries pass a test
abbrev pub cnt : (Entry → Bool) → List Entry → ℕ
cnt p xs = length (filter p xs)

pub cnt-append : (p : Entry → Bool) (xs ys : List Entry) → cnt p (xs ++ ys) ≡ cnt p xs + cnt p ys
cnt-append p [] ys = omega arith
cnt-append p (x ∷ xs) ys = go (p x) (cnt-append p xs ys)
  where
    go : (b : Bool) → cnt p (xs ++ ys) ≡ cnt p xs + cnt p ys → length (cond b (x ∷ filter p (xs ++ ys)) (filter p (xs ++ ys))) ≡ length (cond b (x ∷ filter p xs) (filter p xs)) + cnt p ys
    go true e = omega arith
    go false e = e

-- how many entries of all nodes do
abbrev pub total : (Entry → Bool) → List (ℕ × Node) → ℕ
total p [] = 0
total p (n ∷ ns) = cnt p (entries n.1) + total p ns

pub total_lem : (p : Entry → Bool) (ns : List (ℕ × Node)) → count_by p (flat_map (λ n. entries n.1) ns) ≡ total p ns
total_lem p ns = sym (length-filter p (flat_map (λ n. entries n.1) ns)) ∙ go ns
  where
    go : (ns : List (ℕ × Node)) → cnt p (flat_map (λ n. entries n.1) ns) ≡ total p ns
    go [] = refl
    go (n ∷ ns) = cnt-append p (entries n.1) (flat_map (λ n. entries n.1) ns) ∙ ap (λ (m : ℕ). cnt p (entries n.1) + m) (go ns)

-- what stands where after a node is put somewhere
pub node_at-with_node : (ns : List (ℕ × Node)) (k : ℕ) (n : Node) (j : ℕ) → node_at (with_node ns k n) j ≡ cond (k == j) (Some n) (node_at ns j)
node_at-with_node [] k n j = refl
node_at-with_node (e ∷ es) k n j = go (e.0 == k) refl (nat_lt k e.0) (node_at-with_node es k n j)
  where
    go : (b : Bool) → (e.0 == k) ≡ b → (c : Bool) → node_at (with_node es k n) j ≡ cond (k == j) (Some n) (node_at es j) → node_at (cond b ((k, n) ∷ es) (cond c ((k, n) ∷ e ∷ es) (e ∷ with_node es k n))) j ≡ cond (k == j) (Some n) (cond (e.0 == j) (Some e.1) (node_at es j))
    go true h c ih = let same : e.0 ≡ k = eqb-true e.0 k h in rw same (twice (k == j) (Some n) (Some e.1) (node_at es j))
      where
        twice : (b : Bool) (x y z : Option Node) → cond b x z ≡ cond b x (cond b y z)
        twice true x y z = refl
        twice false x y z = refl
    go false h true ih = refl
    go false h false ih = rw ih (swap (e.0 == j) refl (k == j) refl)
      where
        swap : (b : Bool) → (e.0 == j) ≡ b → (c : Bool) → (k == j) ≡ c → cond b (Some e.1) (cond c (Some n) (node_at es j)) ≡ cond c (Some n) (cond b (Some e.1) (node_at es j))
        swap true p true q =
            let one : e.0 ≡ j = eqb-true e.0 j p in
            let two : k ≡ j = eqb-true k j q in
            let no : e.0 ≡ k → ⊥ = eqb-false e.0 k h in
            absurd (no (one ∙ sym two))
        swap true p false q = refl
        swap false p true q = refl
        swap false p false q = refl

-- keys that ascend are all below the bound
pub keys_below : (bound : ℕ) (ks : List ℕ) → ascends_below bound ks ≡ true → list_all (λ k. nat_lt k bound) ks ≡ true
keys_below bound [] e = refl
keys_below bound (k ∷ ks) e =
    let outer : ((list_all (nat_lt k) ks && nat_lt k bound) ≡ true) × (ascends_below bound ks ≡ true) = and_parts _ _ e in
    let inner : (list_all (nat_lt k) ks ≡ true) × (nat_lt k bound ≡ true) = and_parts _ _ outer.0 in
    and_from _ _ inner.1 (keys_below bound ks outer.1)

-- a node above all others comes last
pub with_node-last : (ns : List (ℕ × Node)) (k : ℕ) (n : Node) → list_all (λ j. nat_lt j k) (keys ns) ≡ true → with_node ns k n ≡ ns ++ (k, n) ∷ []
with_node-last [] k n h = refl
with_node-last (e ∷ es) k n h =
    let parts : (nat_lt e.0 k ≡ true) × (list_all (λ j. nat_lt j k) (keys es) ≡ true) = and_parts _ _ h in
    let below : e.0 < k = ltb-true e.0 k parts.0 in
    let apart : (e.0 == k) ≡ false = ne_eqb e.0 k (λ e. omega arith) in
    let after : nat_lt k e.0 ≡ false = le-ltb k e.0 (omega arith) in
    rw (apart, after) (ap (λ (r : List (ℕ × Node)). e ∷ r) (with_node-last es k n parts.1))

-- what holds at each fileid holds of each node
pub each-of : (test : ℕ → Node → Bool) (bound : ℕ) (ns : List (ℕ × Node)) → ascends_below bound (keys ns) ≡ true → ((k : ℕ) (n : Node) → node_at ns k ≡ Some n → test k n ≡ true) → list_all (λ n. test n.0 n.1) ns ≡ true
each-of test bound [] order each = refl
each-of test bound (e ∷ es) order each =
    let outer : ((list_all (nat_lt e.0) (keys es) && nat_lt e.0 bound) ≡ true) × (ascends_below bound (keys es) ≡ true) = and_parts _ _ order in
    let inner : (list_all (nat_lt e.0) (keys es) ≡ true) × (nat_lt e.0 bound ≡ true) = and_parts _ _ outer.0 in
    let here : (e.0 == e.0) ≡ true = eq-eqb e.0 e.0 refl in
    and_from _ _ (each e.0 e.1 (rw here)) (each-of test bound es outer.1 (λ k n at. let above : e.0 < k = above_all es e.0 k n inner.0 at in let apart : (e.0 == k) ≡ false = ne_eqb e.0 k (λ e. omega arith) in each k n (rw apart at)))

-- a node among others, and what stands there when it gives way
pub record Split (ns : List (ℕ × Node)) (k : ℕ) (a : Node) : Type 0 where
  pub before : List (ℕ × Node)
  pub after : List (ℕ × Node)
  pub was : ns ≡ before ++ (k, a) ∷ after
  pub becomes : (n : Node) → with_node ns k n ≡ before ++ (k, n) ∷ after

pub split_at : (bound : ℕ) (ns : List (ℕ × Node)) (k : ℕ) (a : Node) → ascends_below bound (keys ns) ≡ true → node_at ns k ≡ Some a → Split ns k a
split_at bound [] k a order at = absurd (cc)
split_at bound (e ∷ es) k a order at = go (e.0 == k) refl (λ found. split_at bound es k a outer.1 found)
  where
    outer : ((list_all (nat_lt e.0) (keys es) && nat_lt e.0 bound) ≡ true) × (ascends_below bound (keys es) ≡ true)
    outer = and_parts _ _ order

    inner : (list_all (nat_lt e.0) (keys es) ≡ true) × (nat_lt e.0 bound ≡ true)
    inner = and_parts _ _ outer.0

    go : (c : Bool) → (e.0 == k) ≡ c → (node_at es k ≡ Some a → Split es k a) → Split (e ∷ es) k a
    go true h ih =
        let key : e.0 ≡ k = eqb-true e.0 k h in
        let found : Some e.1 ≡ Some a = rw h at at in
        let value : e.1 ≡ a = cc in
        record { before = []; after = es; was = λ i. (key i, value i) ∷ es; becomes = λ n. rw h }
    go false h ih =
        let found : node_at es k ≡ Some a = rw h at at in
        let above : e.0 < k = above_all es e.0 k a inner.0 found in
        let later : nat_lt k e.0 ≡ false = le-ltb k e.0 (omega arith) in
        let rest = ih found in
        record {
          before = e ∷ rest.before;
          after = rest.after;
          was = ap (λ (r : List (ℕ × Node)). e ∷ r) rest.was;
          becomes = λ n. rw (h, later) (ap (λ (r : List (ℕ × Node)). e ∷ r) (rest.becomes n));
        }

pub keys-append : (xs ys : List (ℕ × Node)) → keys (xs ++ ys) ≡ keys xs ++ keys ys
keys-append [] ys = refl
keys-append (x ∷ xs) ys = ap (λ (r : List ℕ). x.0 ∷ r) (keys-append xs ys)

pub total-append : (p : Entry → Bool) (xs ys : List (ℕ × Node)) → total p (xs ++ ys) ≡ total p xs + total p ys
total-append p [] ys = omega arith
total-append p (x ∷ xs) ys = omega (arith, total-append p xs ys)

-- a replaced node keeps its place
pub keys-put : (bound : ℕ) (ns : List (ℕ × Node)) (k : ℕ) (a n : Node) → ascends_below bound (keys ns) ≡ true → node_at ns k ≡ Some a → keys (with_node ns k n) ≡ keys ns
keys-put bound ns k a n order at =
    let s = split_at bound ns k a order at in
    ap keys (s.becomes n) ∙ keys-append s.before ((k, n) ∷ s.after) ∙ sym (keys-append s.before ((k, a) ∷ s.after)) ∙ sym (ap keys s.was)

pub length-put : (bound : ℕ) (ns : List (ℕ × Node)) (k : ℕ) (a n : Node) → ascends_below bound (keys ns) ≡ true → node_at ns k ≡ Some a → length (with_node ns k n) ≡ length ns
length-put bound ns k a n order at =
    let s = split_at bound ns k a order at in
    let f : length (with_node ns k n) ≡ length (s.before ++ (k, n) ∷ s.after) = ap length (s.becomes n) in
    let g : length ns ≡ length (s.before ++ (k, a) ∷ s.after) = ap length s.was in
    omega (arith, length-append s.before ((k, n) ∷ s.after), length-append s.before ((k, a) ∷ s.after))

-- entries are counted anew
pub total-put : (p : Entry → Bool) (bound : ℕ) (ns : List (ℕ × Node)) (k : ℕ) (a n : Node) → ascends_below bound (keys ns) ≡ true → node_at ns k ≡ Some a → total p (with_node ns k n) + cnt p (entries a) ≡ total p ns + cnt p (entries n)
total-put p bound ns k a n order at =
    let s = split_at bound ns k a order at in
    let f : total p (with_node ns k n) ≡ total p (s.before ++ (k, n) ∷ s.after) = ap (total p) (s.becomes n) in
    let g : total p ns ≡ total p (s.before ++ (k, a) ∷ s.after) = ap (total p) s.was in
    omega (arith, total-append p s.before ((k, n) ∷ s.after), total-append p s.before ((k, a) ∷ s.after))

-- a greatest number comes last
all_lt-more : (low : ℕ) (ks : List ℕ) (k : ℕ) → list_all (nat_lt low) ks ≡ true → low < k → list_all (nat_lt low) (ks ++ k ∷ []) ≡ true
all_lt-more low ks k h l = rw list_all-append (and_from _ _ h (and_from _ _ (lt-ltb low k l) refl))

pub ascends-push : (bound : ℕ) (ks : List ℕ) → ascends_below bound ks ≡ true → ascends_below (bound + 1) (ks ++ bound ∷ []) ≡ true
ascends-push bound [] e = and_from _ _ (and_from _ _ refl (lt-ltb bound (bound + 1) (omega arith))) refl
ascends-push bound (k ∷ ks) e =
    let outer : ((list_all (nat_lt k) ks && nat_lt k bound) ≡ true) × (ascends_below bound ks ≡ true) = and_parts _ _ e in
    let inner : (list_all (nat_lt k) ks ≡ true) × (nat_lt k bound ≡ true) = and_parts _ _ outer.0 in
    let below : k < bound = ltb-true k bound inner.1 in
    and_from _ _ (and_from _ _ (all_lt-more k ks bound inner.0 below) (lt-ltb k (bound + 1) (omega arith))) (ascends-push bound ks outer.1)

-- a name that isn't found is a new one
pub distinct-push : (xs : List Entry) (e : Entry) → are_distinct (map (λ x. x.name) xs) ≡ true → list_any (λ x. bytes_eq x.name e.name) xs ≡ false → are_distinct (map (λ x. x.name) (xs ++ e ∷ [])) ≡ true
distinct-push [] e h f = refl
distinct-push (x ∷ xs) e h f =
    let old : (not (list_any (bytes_eq x.name) (map (λ x. x.name) xs)) ≡ true) × (are_distinct (map (λ x. x.name) xs) ≡ true) = and_parts _ _ h in
    let new : (bytes_eq x.name e.name ≡ false) × (list_any (λ x. bytes_eq x.name e.name) xs ≡ false) = or_parts _ _ f in
    let none : list_any (bytes_eq x.name) (map (λ x. x.name) xs) ≡ false = not-true _ old.0 in
    let names : map (λ x. x.name) (xs ++ e ∷ []) ≡ map (λ x. x.name) xs ++ e.name ∷ [] = map-append (λ x. x.name) xs (e ∷ []) in
    let first : list_any (bytes_eq x.name) (map (λ x. x.name) (xs ++ e ∷ [])) ≡ false =
    rw (names, list_any-append) (or_from _ _ none (or_from _ _ new.0 refl)) in
    and_from _ _ (not_from_false _ first) (distinct-push xs e old.1 new.1)

-- a name that stands for nothing stands in no entry
pub not_found : (xs : List Entry) (name : List ℕ) → option_map (λ e. e.fileid) (find (λ e. bytes_eq e.name name) xs) ≡ None → list_any (λ x. bytes_eq x.name name) xs ≡ false
not_found [] name e = refl
not_found (x ∷ xs) name e = go (bytes_eq x.name name) refl (not_found xs name)
  where
    go : (b : Bool) → bytes_eq x.name name ≡ b → (option_map (λ e. e.fileid) (find (λ e. bytes_eq e.name name) xs) ≡ None → list_any (λ x. bytes_eq x.name name) xs ≡ false) → (bytes_eq x.name name || list_any (λ x. bytes_eq x.name name) xs) ≡ false
    go true h ih =
        let found : Some x.fileid ≡ None = rw h at e in
        absurd (cc)
    go false h ih = let rest : option_map (λ e. e.fileid) (find (λ e. bytes_eq e.name name) xs) ≡ None = rw h at e in or_from _ _ h (ih rest)

-- a test of every entry is one of the entries of every node
pub each_entry : (p : Entry → Bool) (ns : List (ℕ × Node)) → list_all p (flat_map (λ n. entries n.1) ns) ≡ list_all (λ n. list_all p (entries n.1)) ns
each_entry p [] = refl
each_entry p (n ∷ ns) = list_all-append p (entries n.1) (flat_map (λ n. entries n.1) ns) ∙ ap (λ (b : Bool). list_all p (entries n.1) && b) (each_entry p ns)

-- what holds of each entry may be weakened
pub entries_weaken : (p q : Entry → Bool) → ((e : Entry) → p e ≡ true → q e ≡ true) → (xs : List Entry) → list_all p xs ≡ true → list_all q xs ≡ true
entries_weaken p q f [] h = refl
entries_weaken p q f (x ∷ xs) h = let parts : (p x ≡ true) × (list_all p xs ≡ true) = and_parts _ _ h in and_from _ _ (f x parts.0) (entries_weaken p q f xs parts.1)

-- tests that agree on the entries that are there count the same
pub cnt-agree : (there p q : Entry → Bool) → ((e : Entry) → there e ≡ true → p e ≡ q e) → (xs : List Entry) → list_all there xs ≡ true → cnt p xs ≡ cnt q xs
cnt-agree there p q f [] h = refl
cnt-agree there p q f (x ∷ xs) h =
    let parts : (there x ≡ true) × (list_all there xs ≡ true) = and_parts _ _ h in
    go (q x) (f x parts.0) (cnt-agree there p q f xs parts.1)
  where
    go : (b : Bool) → p x ≡ b → cnt p xs ≡ cnt q xs → length (cond (p x) (x ∷ filter p xs) (filter p xs)) ≡ length (cond b (x ∷ filter q xs) (filter q xs))
    go true e r = rw e (ap suc r)
    go false e r = rw e r

-- each fileid is below the next one
pub nodes_below : (bound : ℕ) (ns : List (ℕ × Node)) → ascends_below bound (keys ns) ≡ true → list_all (λ n. nat_lt n.0 bound) ns ≡ true
nodes_below bound [] e = refl
nodes_below bound (n ∷ ns) e =
    let outer : ((list_all (nat_lt n.0) (keys ns) && nat_lt n.0 bound) ≡ true) × (ascends_below bound (keys ns) ≡ true) = and_parts _ _ e in
    let inner : (list_all (nat_lt n.0) (keys ns) ≡ true) × (nat_lt n.0 bound ≡ true) = and_parts _ _ outer.0 in
    and_from _ _ inner.1 (nodes_below bound ns outer.1)

-- a test that finds nothing
pub cnt_none : (xs : List Entry) → cnt (λ e. false) xs ≡ 0
cnt_none [] = refl
cnt_none (x ∷ xs) = cnt_none xs

-- only a directory has entries
pub directory_of : (q : Entry → Bool) (n : Node) → list_any q (entries n) ≡ true → is_directory n ≡ true
directory_of q n h = go n.content h
  where
    go : (c : Content) → list_any q (directory_listing c).entries ≡ true → directory_test c ≡ true
    go (File bytes) e = absurd (cc)
    go (Directory parent listing) e = refl
    go (Link text) e = absurd (cc)

-- only a node is a directory
pub there_of : (o : Option Node) → is_directory (unwrap_or o no_node) ≡ true → is_some o ≡ true
there_of None e = absurd (cc)
there_of (Some n) e = refl

pub some_of : (o : Option Node) → is_some o ≡ true → (n : Node) × (o ≡ Some n)
some_of None e = absurd (cc)
some_of (Some n) e = (n, refl)

-- a longer way passes what a shorter one does
longer_way : (t : Tree) (m k : ℕ) → list_any (λ d. d == root) (ancestors t m k) ≡ true → list_any (λ d. d == root) (ancestors t (suc m) k) ≡ true
longer_way t zero k h = absurd (cc)
longer_way t (suc m) k h = go (or_cases (k == root) _ h) (longer_way t m (parent_of (the_node t k)))
  where
    go : ((k == root) ≡ true) ⊎ (list_any (λ d. d == root) (ancestors t m (parent_of (the_node t k))) ≡ true) → (list_any (λ d. d == root) (ancestors t m (parent_of (the_node t k))) ≡ true → list_any (λ d. d == root) (ancestors t (suc m) (parent_of (the_node t k))) ≡ true) → list_any (λ d. d == root) (ancestors t (suc (suc m)) k) ≡ true
    go (inl e) ih = or_left _ _ e
    go (inr e) ih = or_right _ _ (ih e)

-- a directory gets an entry of a new node: what the directory and the node are like then
pub record Entering (t : Tree) (dir : ℕ) (name : List ℕ) (d d' node : Node) : Type 0 where
  pub at : node_at t.nodes dir ≡ Some d
  pub directory : is_directory d ≡ true
  pub directory' : is_directory d' ≡ true
  pub parent' : parent_of d' ≡ parent_of d
  pub listing' : listing_of d' ≡ with_entry (listing_of d) name t.next_fileid
  pub nlink' : d'.nlink ≡ d.nlink + cond (is_directory node) 1 0
  pub mode' : nat_lt d'.mode 0o10000 ≡ true
  pub within' : is_within d'.content ≡ true
  pub free : fileid_at (listing_of d) name ≡ None
  pub listing : listing_of node ≡ new_listing
  pub parent : is_directory node ≡ true → parent_of node ≡ dir
  pub nlink : node.nlink ≡ cond (is_directory node) 2 1
  pub mode : nat_lt node.mode 0o10000 ≡ true
  pub within : is_within node.content ≡ true
  pub room : length t.nodes < max_nodes
  pub fileids : t.next_fileid < max_fileid

module _ (t : Tree) (dir : ℕ) (name : List ℕ) (d d' node : Node) (v : IsValidTree t) (g : Entering t dir name d d' node) where
  abbrev pub next : ℕ
  next = t.next_fileid

  abbrev pub mid : List (ℕ × Node)
  mid = with_node t.nodes next node

  abbrev pub grown : Tree
  grown = record t { nodes = with_node mid dir d'; next_fileid = t.next_fileid + 1 }

  abbrev there : ℕ → Bool
  there k = is_some (node_at t.nodes k)

  low : (k : ℕ) (n : Node) → node_at t.nodes k ≡ Some n → k < next
  low k n at = ltb-true k next (each-node_at (λ k n. nat_lt k next) t.nodes k n (nodes_below next t.nodes v.fileids) at)

  next_apart : (k : ℕ) → there k ≡ true → (next == k) ≡ false
  next_apart k h =
      let n = some_of (node_at t.nodes k) h in
      let l : k < next = low k n.0 n.1 in
      ne_eqb next k (λ e. omega arith)

  there_dir : there dir ≡ true
  there_dir = rw g.at

  mid_is : mid ≡ t.nodes ++ (next, node) ∷ []
  mid_is = with_node-last t.nodes next node (keys_below next (keys t.nodes) v.fileids)

  mid_order : ascends_below (next + 1) (keys mid) ≡ true
  mid_order = rw (mid_is, keys-append) (ascends-push next (keys t.nodes) v.fileids)

  pub mid_at : node_at mid dir ≡ Some d
  mid_at = rw (node_at-with_node t.nodes next node dir, next_apart dir there_dir) g.at

  order : ascends_below (next + 1) (keys grown.nodes) ≡ true
  order = rw (keys-put (next + 1) mid dir d d' mid_order mid_at) mid_order

  at_grown : (k : ℕ) → node_at grown.nodes k ≡ cond (dir == k) (Some d') (cond (next == k) (Some node) (node_at t.nodes k))
  at_grown k = node_at-with_node mid dir d' k ∙ ap (λ (o : Option Node). cond (dir == k) (Some d') o) (node_at-with_node t.nodes next node k)

  -- the directory, the new node, and every other one
  cases : (P : ℕ → Node → Type 0) → P dir d' → P next node → ((k : ℕ) (n : Node) → node_at t.nodes k ≡ Some n → (dir == k) ≡ false → P k n) → (k : ℕ) (n : Node) → node_at grown.nodes k ≡ Some n → P k n
  cases P here new old k n at = go (dir == k) refl (next == k) refl
    where
      go : (b : Bool) → (dir == k) ≡ b → (c : Bool) → (next == k) ≡ c → P k n
      go true e c f =
          let found : Some d' ≡ Some n = rw (at_grown k, e) at at in
          let same : d' ≡ n = cc in
          subst (λ (m : Node). P k m) same (subst (λ (j : ℕ). P j d') (eqb-true dir k e) here)
      go false e true f =
          let found : Some node ≡ Some n = rw (at_grown k, e, f) at at in
          let same : node ≡ n = cc in
          subst (λ (m : Node). P k m) same (subst (λ (j : ℕ). P j node) (eqb-true next k f) new)
      go false e false f = old k n (rw (at_grown k, e, f) at at) e

  -- what is at a fileid that isn't the new one
  directory_same : (k : ℕ) → (next == k) ≡ false → is_directory (the_node grown k) ≡ is_directory (the_node t k)
  directory_same k f = go (dir == k) refl
    where
      go : (b : Bool) → (dir == k) ≡ b → is_directory (the_node grown k) ≡ is_directory (the_node t k)
      go true e =
          let key : dir ≡ k = eqb-true dir k e in
          let here : node_at t.nodes k ≡ Some d = subst (λ (j : ℕ). node_at t.nodes j ≡ Some d) key g.at in
          rw (at_grown k, e, here) (g.directory' ∙ sym g.directory)
      go false e = rw (at_grown k, e, f)

  parent_same : (k : ℕ) → (next == k) ≡ false → parent_of (the_node grown k) ≡ parent_of (the_node t k)
  parent_same k f = go (dir == k) refl
    where
      go : (b : Bool) → (dir == k) ≡ b → parent_of (the_node grown k) ≡ parent_of (the_node t k)
      go true e =
          let key : dir ≡ k = eqb-true dir k e in
          let here : node_at t.nodes k ≡ Some d = subst (λ (j : ℕ). node_at t.nodes j ≡ Some d) key g.at in
          rw (at_grown k, e, here) g.parent'
      go false e = rw (at_grown k, e, f)

  grown_there : (k : ℕ) → there k ≡ true → is_some (node_at grown.nodes k) ≡ true
  grown_there k h = rw (at_grown k) (go (dir == k) (next == k))
    where
      go : (b c : Bool) → is_some (cond b (Some d') (cond c (Some node) (node_at t.nodes k))) ≡ true
      go true c = refl
      go false true = refl
      go false false = h

  next_there : is_some (node_at grown.nodes next) ≡ true
  next_there = rw (at_grown next, eq-eqb next next refl) (go (dir == next))
    where
      go : (b : Bool) → is_some (cond b (Some d') (Some node)) ≡ true
      go true = refl
      go false = refl

  -- the entry
  abbrev entered : Entry
  entered = record { cookie = (listing_of d).next_cookie; name = name; fileid = next }

  entries' : entries d' ≡ entries d ++ entered ∷ []
  entries' = ap (λ (l : Listing). l.entries) g.listing'

  no_entries : entries node ≡ []
  no_entries = ap (λ (l : Listing). l.entries) g.listing

  -- the new node is named once more, and no other
  names_grown : (k : ℕ) → names_of grown k ≡ names_of t k + cond (next == k) 1 0
  names_grown k =
      let p : Entry → Bool = λ e. e.fileid == k in
      let new : names_of grown k ≡ total p grown.nodes = total_lem p grown.nodes in
      let old : names_of t k ≡ total p t.nodes = total_lem p t.nodes in
      let put = total-put p (next + 1) mid dir d d' mid_order mid_at in
      let middle : total p mid ≡ total p (t.nodes ++ (next, node) ∷ []) = ap (total p) mid_is in
      let split = total-append p t.nodes ((next, node) ∷ []) in
      let none : cnt p (entries node) ≡ 0 = rw no_entries in
      let more : cnt p (entries d') ≡ cnt p (entries d) + cnt p (entered ∷ []) = rw entries' (cnt-append p (entries d) (entered ∷ [])) in
      let one : cnt p (entered ∷ []) ≡ cond (next == k) 1 0 = single (next == k) in
      omega arith
    where
      single : (b : Bool) → length (cond b (entered ∷ []) []) ≡ cond b 1 0
      single true = refl
      single false = refl

  names_kept : (k : ℕ) → (next == k) ≡ false → names_of grown k ≡ names_of t k
  names_kept k f = let e : names_of grown k ≡ names_of t k + 0 = rw (names_grown k, f) in omega arith

  -- it had no name before
  nameless : names_of t next ≡ 0
  nameless =
      let p : Entry → Bool = λ e. e.fileid == next in
      let apart : (e : Entry) → there e.fileid ≡ true → p e ≡ false = λ e h. ne_eqb e.fileid next (λ same. eqb-false next e.fileid (next_apart e.fileid h) (sym same)) in
      sym (length-filter p (all_entries t)) ∙ cnt-agree (λ e. there e.fileid) p (λ e. false) apart (all_entries t) v.entries_name_nodes ∙ cnt_none (all_entries t)

  named_once : names_of grown next ≡ 1
  named_once = let e : names_of grown next ≡ names_of t next + 1 = rw (names_grown next, eq-eqb next next refl) in omega (arith, nameless)

  -- the entries of a node of before name nodes
  entries_there : (k : ℕ) (n : Node) → node_at t.nodes k ≡ Some n → list_all (λ e. there e.fileid) (entries n) ≡ true
  entries_there k n at = each-node_at (λ k n. list_all (λ e. there e.fileid) (entries n)) t.nodes k n (sym (each_entry (λ e. there e.fileid) t.nodes) ∙ v.entries_name_nodes) at

  subdirectories_kept : (k : ℕ) (n : Node) → node_at t.nodes k ≡ Some n → cnt (λ e. is_directory (the_node grown e.fileid)) (entries n) ≡ cnt (λ e. is_directory (the_node t e.fileid)) (entries n)
  subdirectories_kept k n at = cnt-agree (λ e. there e.fileid) (λ e. is_directory (the_node grown e.fileid)) (λ e. is_directory (the_node t e.fileid)) (λ e h. directory_same e.fileid (next_apart e.fileid h)) (entries n) (entries_there k n at)

  links_kept : (k : ℕ) (n : Node) → node_at t.nodes k ≡ Some n → links_of grown k n ≡ links_of t k n
  links_kept k n at =
      let directories : subdirectories grown n ≡ subdirectories t n = sym (length-filter _ (entries n)) ∙ subdirectories_kept k n at ∙ length-filter _ (entries n) in
      let names : names_of grown k ≡ names_of t k = names_kept k (next_apart k (rw at)) in
      cc

  -- a directory of before, and its parent, are directories
  parent_is_directory : (k : ℕ) → is_directory (the_node t k) ≡ true → is_directory (the_node t (parent_of (the_node t k))) ≡ true
  parent_is_directory k f =
      let n = some_of (node_at t.nodes k) (there_of (node_at t.nodes k) f) in
      let node_is : the_node t k ≡ n.0 = ap (λ (o : Option Node). unwrap_or o no_node) n.1 in
      let directory : is_directory n.0 ≡ true = subst (λ (m : Node). is_directory m ≡ true) node_is f in
      go n.0 node_is directory (cases_Bool (k == root)) (each-node_at (λ k n. not (is_directory n) || k == root || list_any (λ e. e.fileid == k) (entries (the_node t (parent_of n)))) t.nodes k n.0 v.directories_stand_in_parents n.1)
    where
      go : (n : Node) → the_node t k ≡ n → is_directory n ≡ true → ((k == root) ≡ true) ⊎ ((k == root) ≡ false) → (not (is_directory n) || k == root || list_any (λ e. e.fileid == k) (entries (the_node t (parent_of n)))) ≡ true → is_directory (the_node t (parent_of (the_node t k))) ≡ true
      go n same directory (inl top) stands =
          let is_root : k ≡ root = eqb-true k root top in
          let up : parent_of (the_node t root) ≡ root = eqb-true _ root v.root_is_top in
          let here : parent_of (the_node t k) ≡ root = subst (λ (j : ℕ). parent_of (the_node t j) ≡ root) (sym is_root) up in
          rw here v.root_is_directory
      go n same directory (inr lower) stands =
          let holds : list_any (λ e. e.fileid == k) (entries (the_node t (parent_of n))) ≡ true = rw (directory, lower) at stands in
          rw same (directory_of (λ e. e.fileid == k) (the_node t (parent_of n)) holds)

  way_kept : (m k : ℕ) → is_directory (the_node t k) ≡ true → ancestors grown m k ≡ ancestors t m k
  way_kept zero k f = refl
  way_kept (suc m) k f =
      let up : parent_of (the_node grown k) ≡ parent_of (the_node t k) = parent_same k (next_apart k (there_of (node_at t.nodes k) f)) in
      rw up (ap (λ (r : List ℕ). k ∷ r) (way_kept m (parent_of (the_node t k)) (parent_is_directory k f)))

  count_grown : length grown.nodes ≡ suc (length t.nodes)
  count_grown =
      let put = length-put (next + 1) mid dir d d' mid_order mid_at in
      let middle : length mid ≡ length (t.nodes ++ (next, node) ∷ []) = ap length mid_is in
      omega (arith, length-append t.nodes ((next, node) ∷ []))

  -- whether a directory has an entry of a node
  abbrev has : Node → ℕ → Bool
  has n k = list_any (λ e. e.fileid == k) (entries n)

  has_kept : (p k : ℕ) → has (the_node t p) k ≡ true → has (the_node grown p) k ≡ true
  has_kept p k h = go (dir == p) refl (cases_Bool (next == p))
    where
      go : (b : Bool) → (dir == p) ≡ b → ((next == p) ≡ true) ⊎ ((next == p) ≡ false) → has (the_node grown p) k ≡ true
      go true e c =
          let key : dir ≡ p = eqb-true dir p e in
          let here : node_at t.nodes p ≡ Some d = subst (λ (j : ℕ). node_at t.nodes j ≡ Some d) key g.at in
          let before : has d k ≡ true = rw here at h in
          rw (at_grown p, e, entries', list_any-append) (or_left _ _ before)
      go false e (inl f) =
          let directory : is_directory (the_node t p) ≡ true = directory_of (λ e. e.fileid == k) (the_node t p) h in
          absurd (false≢true (sym (next_apart p (there_of (node_at t.nodes p) directory)) ∙ f))
      go false e (inr f) = rw (at_grown p, e, f) h

  -- a node of before whose test for directories below the root holds in the tree of before
  abbrev lower : (ℕ → Node → Bool) → ℕ → Node → Bool
  lower p k n = not (is_directory n) || k == root || p k n

  lower_from : (p q : ℕ → Node → Bool) (k : ℕ) (n m : Node) → is_directory n ≡ is_directory m → (is_directory n ≡ true → p k n ≡ true → q k m ≡ true) → lower p k n ≡ true → lower q k m ≡ true
  lower_from p q k n m same imp h = go (is_directory n) refl (or_cases _ (p k n) h)
    where
      go : (b : Bool) → is_directory n ≡ b → ((not (is_directory n) || k == root) ≡ true) ⊎ (p k n ≡ true) → lower q k m ≡ true
      go b e (inl first) = or_left _ _ (rw same at first)
      go true e (inr second) = or_right _ _ (imp e second)
      go false e (inr second) = let out : is_directory m ≡ false = sym same ∙ e in or_left (not (is_directory m) || k == root) (q k m) (or_left (not (is_directory m)) (k == root) (rw out))

  way_up_kept : (k : ℕ) (n : Node) → node_at t.nodes k ≡ Some n → is_directory n ≡ true → is_at_or_below t k root ≡ true → is_at_or_below grown k root ≡ true
  way_up_kept k n at f h =
      let node_is : the_node t k ≡ n = ap (λ (o : Option Node). unwrap_or o no_node) at in
      let directory : is_directory (the_node t k) ≡ true = ap is_directory node_is ∙ f in
      let long : list_any (λ x. x == root) (ancestors grown (suc (length t.nodes)) k) ≡ true = ap (list_any (λ x. x == root)) (way_kept (suc (length t.nodes)) k directory) ∙ longer_way t (length t.nodes) k h in
      subst (λ (m : ℕ). list_any (λ x. x == root) (ancestors grown m k) ≡ true) (sym count_grown) long

  -- the directory's own way up
  way_of_dir : list_any (λ d. d == root) (ancestors t (length t.nodes) dir) ≡ true
  way_of_dir = go (cases_Bool (dir == root)) (each-node_at (lower (λ k n. is_at_or_below t k root)) t.nodes dir d v.ways_lead_up g.at)
    where
      some_node : (ns : List (ℕ × Node)) → node_at ns dir ≡ Some d → (dir == root) ≡ true → list_any (λ d. d == root) (ancestors t (length ns) dir) ≡ true
      some_node [] at e = absurd (cc)
      some_node (n ∷ ns) at e = or_left _ _ e

      go : ((dir == root) ≡ true) ⊎ ((dir == root) ≡ false) → lower (λ k n. is_at_or_below t k root) dir d ≡ true → list_any (λ d. d == root) (ancestors t (length t.nodes) dir) ≡ true
      go (inl e) h = some_node t.nodes g.at e
      go (inr e) h = rw (g.directory, e) at h

  -- a test of fileids and nodes holds of each node of the grown tree
  each_grown : (p : ℕ → Node → Bool) → p dir d' ≡ true → p next node ≡ true → ((k : ℕ) (n : Node) → node_at t.nodes k ≡ Some n → (dir == k) ≡ false → p k n ≡ true) → list_all (λ n. p n.0 n.1) grown.nodes ≡ true
  each_grown p here new old = each-of p (next + 1) grown.nodes order (cases (λ k n. p k n ≡ true) here new old)

  -- the same where it held of each node before, and looks at nothing else
  each_again : (p : ℕ → Node → Bool) → each_node p t ≡ true → p dir d' ≡ true → p next node ≡ true → each_node p grown ≡ true
  each_again p before here new = each_grown p here new (λ k n at apart. each-node_at p t.nodes k n before at)

  -- the links of the directory and of the new node
  links_of_dir : d'.nlink ≡ links_of grown dir d'
  links_of_dir =
      let q : Entry → Bool = λ e. is_directory (the_node grown e.fileid) in
      let before : d.nlink ≡ links_of t dir d = eqb-true _ _ (each-node_at (λ k n. n.nlink == links_of t k n) t.nodes dir d v.links g.at) in
      let counted : links_of t dir d ≡ 2 + subdirectories t d = rw g.directory in
      let kept : subdirectories t d ≡ cnt q (entries d) = sym (length-filter _ (entries d)) ∙ sym (subdirectories_kept dir d g.at) in
      let now : links_of grown dir d' ≡ 2 + subdirectories grown d' = rw g.directory' in
      let all : subdirectories grown d' ≡ cnt q (entries d') = sym (length-filter q (entries d')) in
      let more : cnt q (entries d') ≡ cnt q (entries d) + cnt q (entered ∷ []) = rw entries' (cnt-append q (entries d) (entered ∷ [])) in
      let new : the_node grown next ≡ node = new_node_at in
      let one : cnt q (entered ∷ []) ≡ cond (is_directory node) 1 0 = rw new (single (is_directory node)) in
      omega (arith, g.nlink')
    where
      single : (b : Bool) → length (cond b (entered ∷ []) []) ≡ cond b 1 0
      single true = refl
      single false = refl

      dir_apart : (dir == next) ≡ false
      dir_apart = ne_eqb dir next (λ e. eqb-false next dir (next_apart dir there_dir) (sym e))

      new_node_at : the_node grown next ≡ node
      new_node_at = rw (at_grown next, dir_apart, eq-eqb next next refl)

  links_of_new : node.nlink ≡ links_of grown next node
  links_of_new = go (is_directory node) refl
    where
      none : subdirectories grown node ≡ 0
      none = sym (length-filter _ (entries node)) ∙ ap (cnt (λ e. is_directory (the_node grown e.fileid))) no_entries

      go : (b : Bool) → is_directory node ≡ b → node.nlink ≡ links_of grown next node
      go true e =
          let left : node.nlink ≡ 2 = g.nlink ∙ ap (λ (b : Bool). cond b 2 1) e in
          let right : links_of grown next node ≡ 2 + subdirectories grown node = rw e in
          omega (arith, none)
      go false e =
          let left : node.nlink ≡ 1 = g.nlink ∙ ap (λ (b : Bool). cond b 2 1) e in
          let right : links_of grown next node ≡ names_of grown next = rw e in
          omega (arith, named_once)

  same_directory : is_directory d ≡ is_directory d'
  same_directory = g.directory ∙ sym g.directory'

  root_there : there root ≡ true
  root_there = there_of (node_at t.nodes root) v.root_is_directory

  node_named : (k : ℕ) (n : Node) → node_at t.nodes k ≡ Some n → (k == root || nat_le 1 (names_of grown k)) ≡ true
  node_named k n at = ap (λ (m : ℕ). k == root || nat_le 1 m) (names_kept k (next_apart k (rw at))) ∙ each-node_at (λ k n. k == root || nat_le 1 (names_of t k)) t.nodes k n v.nodes_have_names at

  none_root : (k : ℕ) (n : Node) → node_at t.nodes k ≡ Some n → list_all (λ e. not (e.fileid == root)) (entries n) ≡ true
  none_root k n at = each-node_at (λ k n. list_all (λ e. not (e.fileid == root)) (entries n)) t.nodes k n (sym (each_entry (λ e. not (e.fileid == root)) t.nodes) ∙ v.none_names_root) at

  named_one : (k : ℕ) (n m : Node) → is_directory n ≡ is_directory m → node_at t.nodes k ≡ Some n → lower (λ k n. names_of grown k == 1) k m ≡ true
  named_one k n m same at = lower_from (λ k n. names_of t k == 1) (λ k n. names_of grown k == 1) k n m same (λ f h. ap (λ (x : ℕ). x == 1) (names_kept k (next_apart k (rw at))) ∙ h) (each-node_at (lower (λ k n. names_of t k == 1)) t.nodes k n v.directories_have_one at)

  stands : (k : ℕ) (n m : Node) → is_directory n ≡ is_directory m → parent_of m ≡ parent_of n → node_at t.nodes k ≡ Some n → lower (λ k n. has (the_node grown (parent_of n)) k) k m ≡ true
  stands k n m same up at = lower_from (λ k n. has (the_node t (parent_of n)) k) (λ k n. has (the_node grown (parent_of n)) k) k n m same (λ f h. subst (λ (p : ℕ). has (the_node grown p) k ≡ true) (sym up) (has_kept (parent_of n) k h)) (each-node_at (lower (λ k n. has (the_node t (parent_of n)) k)) t.nodes k n v.directories_stand_in_parents at)

  leads_up : (k : ℕ) (n m : Node) → is_directory n ≡ is_directory m → node_at t.nodes k ≡ Some n → lower (λ k n. is_at_or_below grown k root) k m ≡ true
  leads_up k n m same at = lower_from (λ k n. is_at_or_below t k root) (λ k n. is_at_or_below grown k root) k n m same (λ f h. way_up_kept k n at f h) (each-node_at (lower (λ k n. is_at_or_below t k root)) t.nodes k n v.ways_lead_up at)

  -- of the new node, a test that concerns directories
  new_lower : (p : ℕ → Node → Bool) → (is_directory node ≡ true → p next node ≡ true) → lower p next node ≡ true
  new_lower p h = go (is_directory node) refl
    where
      go : (b : Bool) → is_directory node ≡ b → lower p next node ≡ true
      go true e = or_right _ _ (h e)
      go false e = or_left (not (is_directory node) || next == root) (p next node) (or_left (not (is_directory node)) (next == root) (rw e))

  new_stands : is_directory node ≡ true → has (the_node grown (parent_of node)) next ≡ true
  new_stands f = rw (g.parent f, at_grown dir, eq-eqb dir dir refl, entries', list_any-append) (or_right _ _ (or_left _ _ (eq-eqb next next refl)))

  new_leads_up : is_directory node ≡ true → is_at_or_below grown next root ≡ true
  new_leads_up f =
      let apart : (dir == next) ≡ false = ne_eqb dir next (λ e. eqb-false next dir (next_apart dir there_dir) (sym e)) in
      let at : the_node grown next ≡ node = rw (at_grown next, apart, eq-eqb next next refl) in
      let up : parent_of (the_node grown next) ≡ dir = ap parent_of at ∙ g.parent f in
      let directory : is_directory (the_node t dir) ≡ true = ap is_directory (ap (λ (o : Option Node). unwrap_or o no_node) g.at) ∙ g.directory in
      let way : list_any (λ x. x == root) (ancestors grown (length t.nodes) dir) ≡ true = ap (list_any (λ x. x == root)) (way_kept (length t.nodes) dir directory) ∙ way_of_dir in
      let above : list_any (λ x. x == root) (ancestors grown (length t.nodes) (parent_of (the_node grown next))) ≡ true = subst (λ (j : ℕ). list_any (λ x. x == root) (ancestors grown (length t.nodes) j) ≡ true) (sym up) way in
      subst (λ (m : ℕ). list_any (λ x. x == root) (ancestors grown m next) ≡ true) (sym count_grown) (or_right (next == root) _ above)

  new_links : (is_directory node || nat_le node.nlink max_links) ≡ true
  new_links = go (is_directory node) refl
    where
      go : (b : Bool) → is_directory node ≡ b → (is_directory node || nat_le node.nlink max_links) ≡ true
      go true e = or_left _ _ e
      go false e =
          let one : node.nlink ≡ 1 = g.nlink ∙ ap (λ (b : Bool). cond b 2 1) e in
          or_right (is_directory node) (nat_le node.nlink max_links) (le-leb node.nlink max_links (omega arith))

  cookies_of_dir : ascends_below (listing_of d').next_cookie (map (λ e. e.cookie) (entries d')) ≡ true
  cookies_of_dir =
      let before : ascends_below (listing_of d).next_cookie (map (λ e. e.cookie) (entries d)) ≡ true = each-node_at (λ k n. ascends_below (listing_of n).next_cookie (map (λ e. e.cookie) (entries n))) t.nodes dir d v.cookies g.at in
      let more : ascends_below ((listing_of d).next_cookie + 1) (map (λ e. e.cookie) (entries d ++ entered ∷ [])) ≡ true = rw map-append (ascends-push (listing_of d).next_cookie (map (λ e. e.cookie) (entries d)) before) in
      subst (λ (l : Listing). ascends_below l.next_cookie (map (λ e. e.cookie) l.entries) ≡ true) (sym g.listing') more

  names_of_dir : are_distinct (map (λ e. e.name) (entries d')) ≡ true
  names_of_dir =
      let before : are_distinct (map (λ e. e.name) (entries d)) ≡ true = each-node_at (λ k n. are_distinct (map (λ e. e.name) (entries n))) t.nodes dir d v.names_differ g.at in
      rw entries' (distinct-push (entries d) entered before (not_found (entries d) name g.free))

  entries_of_dir : list_all (λ e. is_some (node_at grown.nodes e.fileid)) (entries d') ≡ true
  entries_of_dir = rw (entries', list_all-append) (and_from _ _ (entries_weaken (λ e. there e.fileid) (λ e. is_some (node_at grown.nodes e.fileid)) (λ e h. grown_there e.fileid h) (entries d) (entries_there dir d g.at)) (and_from _ _ next_there refl))

  none_root_of_dir : list_all (λ e. not (e.fileid == root)) (entries d') ≡ true
  none_root_of_dir = rw (entries', list_all-append) (and_from _ _ (none_root dir d g.at) (and_from _ _ (not_from_false _ (next_apart root root_there)) refl))

  -- the tree with the new node and its entry is valid
  pub grown_valid : IsValidTree grown
  grown_valid = record {
    fileids = order;
    root_is_directory = directory_same root (next_apart root root_there) ∙ v.root_is_directory;
    root_is_top = rw (parent_same root (next_apart root root_there)) v.root_is_top;
    entries_name_nodes = each_entry (λ e. is_some (node_at grown.nodes e.fileid)) grown.nodes ∙ each_grown (λ k n. list_all (λ e. is_some (node_at grown.nodes e.fileid)) (entries n)) entries_of_dir (rw no_entries) (λ k n at apart. entries_weaken (λ e. there e.fileid) (λ e. is_some (node_at grown.nodes e.fileid)) (λ e h. grown_there e.fileid h) (entries n) (entries_there k n at));
    none_names_root = each_entry (λ e. not (e.fileid == root)) grown.nodes ∙ each_grown (λ k n. list_all (λ e. not (e.fileid == root)) (entries n)) none_root_of_dir (rw no_entries) (λ k n at apart. none_root k n at);
    nodes_have_names = each_grown (λ k n. k == root || nat_le 1 (names_of grown k)) (node_named dir d g.at) (or_right _ _ (ap (nat_le 1) named_once)) (λ k n at apart. node_named k n at);
    directories_have_one = each_grown (lower (λ k n. names_of grown k == 1)) (named_one dir d d' same_directory g.at) (or_right _ _ (eq-eqb _ _ named_once)) (λ k n at apart. named_one k n n refl at);
    directories_stand_in_parents = each_grown (lower (λ k n. has (the_node grown (parent_of n)) k)) (stands dir d d' same_directory g.parent' g.at) (new_lower (λ k n. has (the_node grown (parent_of n)) k) new_stands) (λ k n at apart. stands k n n refl refl at);
    ways_lead_up = each_grown (lower (λ k n. is_at_or_below grown k root)) (leads_up dir d d' same_directory g.at) (new_lower (λ k n. is_at_or_below grown k root) new_leads_up) (λ k n at apart. leads_up k n n refl at);
    names_differ = each_again (λ k n. are_distinct (map (λ e. e.name) (entries n))) v.names_differ names_of_dir (rw no_entries);
    cookies = each_again (λ k n. ascends_below (listing_of n).next_cookie (map (λ e. e.cookie) (entries n))) v.cookies cookies_of_dir (subst (λ (l : Listing). ascends_below l.next_cookie (map (λ e. e.cookie) l.entries) ≡ true) (sym g.listing) refl);
    links = each_grown (λ k n. n.nlink == links_of grown k n) (eq-eqb _ _ links_of_dir) (eq-eqb _ _ links_of_new) (λ k n at apart. eq-eqb _ _ (eqb-true _ _ (each-node_at (λ k n. n.nlink == links_of t k n) t.nodes k n v.links at) ∙ sym (links_kept k n at)));
    modes = each_again (λ k n. nat_lt n.mode 0o10000) v.modes g.mode' g.mode;
    contents_within = each_again (λ k n. is_within n.content) v.contents_within g.within' g.within;
    links_within = each_again (λ k n. is_directory n || nat_le n.nlink max_links) v.links_within (or_left _ _ g.directory') new_links;
    nodes_within = le-leb _ _ (omega (arith, count_grown, g.room));
    fileid_within = le-leb _ _ (omega (arith, g.fileids));
    volume_within = v.volume_within;
  }
