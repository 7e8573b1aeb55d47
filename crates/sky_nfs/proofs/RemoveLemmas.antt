-- REMOVE and RMDIR keep a tree valid.
use Rattle.std.proofs.Common.{◌≡◌, ℕ, ◌+◌, ◌<◌, ◌≤◌, List, [], ◌∷◌, Option, Some, None, refl, true, false, sym, ap, subst, ◌∙◌, length, arith, inl, inr}
use Rattle.std.specs.Prelude.{Bool, cond, not, ◌&&◌, ◌||◌, ◌==◌, ◌⊎◌, nat_lt, nat_le, is_none, unwrap_or, sum_by}
use Rattle.std.specs.List.{list_all}
use Rattle.std.proofs.lemmas.Bool.{and_parts, and_from, eqb-true, eqb-false, eq-eqb, ne_eqb, ltb-true, leb-true, leb-false, le-leb, or_cases, false≢true, not-true, not-false, cond_both}
use Rattle.sky_base.specs.Limits.{max_directory_bytes, max_cookie}
use Rattle.sky_base.specs.Listing.{Listing, Entry, without_entry, without_name, fileid_at, size_of_name}
use Rattle.sky_base.specs.declared.cred.Cred.{Cred}
use Rattle.sky_base.specs.declared.moment.Moment.{Moment}
use Rattle.sky_nfs.specs.declared.call.DirOpArgs.{DirOpArgs}
use Rattle.sky_nfs.specs.declared.call.Call.{Call}
use Rattle.sky_nfs.specs.Changes.{put, edit, erase, stamp, drop_link, leave, release, remove_name, with_listing}
use Rattle.sky_nfs.specs.Handles.{fileid_in}
use Rattle.sky_nfs.specs.Laws.{KeepsValid}
use Rattle.sky_nfs.specs.Procedure.{refusal_of, rules_of, changed_tree}
use Rattle.sky_nfs.specs.Procedures.Remove.{has_entries, remove_rules, rmdir_rules, removed_tree}
use Rattle.sky_nfs.specs.Tree.{Tree, Node, Content, File, Directory, Link, node_at, with_node, without_node, the_node, no_node, root, is_directory, directory_test, directory_listing, listing_of, named, names_of, links_of}
use Rattle.sky_nfs.specs.Validity.{IsValidTree, ascends_below, is_within}
use Rattle.sky_nfs.proofs.ValidityLemmas.{each-node_at}
use Rattle.sky_nfs.proofs.KeptLemmas.{AllPassed, passed, is_there, kept}
use Rattle.sky_nfs.proofs.GrowLemmas.{each_entry, keys, entries, cnt, total, keys-put, length-put, total-put, node_at-with_node, some_of}
use Rattle.sky_nfs.proofs.CreateLemmas.{found_in, directory-with_listing, parent-with_listing, listing-with_listing, directory_there, named_there}
use Rattle.sky_nfs.proofs.DropLemmas.{found_id, Dropping, Fate, gone, less, dropped_valid, all-without, sum-without}

-- what stands where after a node is gone
pub node_at-without_node : (ns : List (ℕ × Node)) (f j : ℕ) → node_at (without_node ns f) j ≡ cond (f == j) None (node_at ns j)
node_at-without_node [] f j = go (f == j)
  where
    go : (b : Bool) → None ≡ cond {A = Option Node} b None None
    go true = refl
    go false = refl
node_at-without_node (e ∷ es) f j = go (e.0 == f) refl (node_at-without_node es f j)
  where
    go : (b : Bool) → (e.0 == f) ≡ b → node_at (without_node es f) j ≡ cond (f == j) None (node_at es j) → node_at (cond (not b) (e ∷ without_node es f) (without_node es f)) j ≡ cond (f == j) None (cond (e.0 == j) (Some e.1) (node_at es j))
    go true h ih = ih ∙ gone_too (f == j) refl (e.0 == j) refl
      where
        gone_too : (b : Bool) → (f == j) ≡ b → (c : Bool) → (e.0 == j) ≡ c → cond b None (node_at es j) ≡ cond b None (cond c (Some e.1) (node_at es j))
        gone_too true p c q = refl
        gone_too false p true q = absurd (eqb-false f j p (sym (eqb-true e.0 f h) ∙ eqb-true e.0 j q))
        gone_too false p false q = refl
    go false h ih = swap (e.0 == j) refl (f == j) refl ih
      where
        swap : (b : Bool) → (e.0 == j) ≡ b → (c : Bool) → (f == j) ≡ c → node_at (without_node es f) j ≡ cond c None (node_at es j) → cond b (Some e.1) (node_at (without_node es f) j) ≡ cond c None (cond b (Some e.1) (node_at es j))
        swap true p true q r = absurd (eqb-false e.0 f h (eqb-true e.0 j p ∙ sym (eqb-true f j q)))
        swap true p false q r = refl
        swap false p true q r = r
        swap false p false q r = r

-- a fileid above which all others stand is none of theirs
without_above : (ns : List (ℕ × Node)) (f : ℕ) → list_all (nat_lt f) (keys ns) ≡ true → without_node ns f ≡ ns
without_above [] f h = refl
without_above (e ∷ es) f h =
    let parts : (nat_lt f e.0 ≡ true) × (list_all (nat_lt f) (keys es) ≡ true) = and_parts _ _ h in
    let above : f < e.0 = ltb-true f e.0 parts.0 in
    let apart : (e.0 == f) ≡ false = ne_eqb e.0 f (λ x. omega arith) in
    rw apart (ap (λ (r : List (ℕ × Node)). e ∷ r) (without_above es f parts.1))

keys_all-without : (p : ℕ → Bool) (ns : List (ℕ × Node)) (f : ℕ) → list_all p (keys ns) ≡ true → list_all p (keys (without_node ns f)) ≡ true
keys_all-without p [] f h = refl
keys_all-without p (e ∷ es) f h = go (e.0 == f) (and_parts _ _ h) (keys_all-without p es f)
  where
    go : (b : Bool) → (p e.0 ≡ true) × (list_all p (keys es) ≡ true) → (list_all p (keys es) ≡ true → list_all p (keys (without_node es f)) ≡ true) → list_all p (keys (cond (not b) (e ∷ without_node es f) (without_node es f))) ≡ true
    go true parts ih = ih parts.1
    go false parts ih = and_from _ _ parts.0 (ih parts.1)

ascends-without_node : (bound : ℕ) (ns : List (ℕ × Node)) (f : ℕ) → ascends_below bound (keys ns) ≡ true → ascends_below bound (keys (without_node ns f)) ≡ true
ascends-without_node bound [] f h = refl
ascends-without_node bound (e ∷ es) f h = go (e.0 == f) (ascends-without_node bound es f outer.1)
  where
    outer : ((list_all (nat_lt e.0) (keys es) && nat_lt e.0 bound) ≡ true) × (ascends_below bound (keys es) ≡ true)
    outer = and_parts _ _ h

    inner : (list_all (nat_lt e.0) (keys es) ≡ true) × (nat_lt e.0 bound ≡ true)
    inner = and_parts _ _ outer.0

    go : (b : Bool) → ascends_below bound (keys (without_node es f)) ≡ true → ascends_below bound (keys (cond (not b) (e ∷ without_node es f) (without_node es f))) ≡ true
    go true ih = ih
    go false ih = and_from _ _ (and_from _ _ (keys_all-without (nat_lt e.0) es f inner.0) inner.1) ih

length-without_node : (ns : List (ℕ × Node)) (f : ℕ) → length (without_node ns f) ≤ length ns
length-without_node [] f = omega arith
length-without_node (e ∷ es) f = go (e.0 == f) (length-without_node es f)
  where
    go : (b : Bool) → length (without_node es f) ≤ length es → length (cond (not b) (e ∷ without_node es f) (without_node es f)) ≤ length (e ∷ es)
    go true l = omega arith
    go false l = omega arith

-- a node without entries takes none with it
total-without_node : (p : Entry → Bool) (bound : ℕ) (ns : List (ℕ × Node)) (f : ℕ) (a : Node) → ascends_below bound (keys ns) ≡ true → node_at ns f ≡ Some a → entries a ≡ [] → total p (without_node ns f) ≡ total p ns
total-without_node p bound [] f a order at none = refl
total-without_node p bound (e ∷ es) f a order at none = go (e.0 == f) refl (λ found. total-without_node p bound es f a outer.1 found none)
  where
    outer : ((list_all (nat_lt e.0) (keys es) && nat_lt e.0 bound) ≡ true) × (ascends_below bound (keys es) ≡ true)
    outer = and_parts _ _ order

    inner : (list_all (nat_lt e.0) (keys es) ≡ true) × (nat_lt e.0 bound ≡ true)
    inner = and_parts _ _ outer.0

    go : (b : Bool) → (e.0 == f) ≡ b → (node_at es f ≡ Some a → total p (without_node es f) ≡ total p es) → total p (cond (not (e.0 == f)) (e ∷ without_node es f) (without_node es f)) ≡ total p (e ∷ es)
    go true h ih =
        let found : Some e.1 ≡ Some a = rw h at at in
        let same : e.1 ≡ a = cc in
        let key : e.0 ≡ f = eqb-true e.0 f h in
        let above : list_all (nat_lt f) (keys es) ≡ true = subst (λ (j : ℕ). list_all (nat_lt j) (keys es) ≡ true) key inner.0 in
        let rest : total p (without_node es f) ≡ total p es = ap (total p) (without_above es f above) in
        let zero_of : cnt p (entries e.1) ≡ 0 = ap (cnt p) (ap entries same ∙ none) in
        rw h (omega arith)
    go false h ih =
        let found : node_at es f ≡ Some a = rw h at at in
        rw h (ap (λ (m : ℕ). cnt p (entries e.1) + m) (ih found))

pub within-without : (c : Content) (name : List ℕ) → is_within c ≡ true → is_within (with_listing (λ l. without_entry l name) c) ≡ true
within-without (File bytes) name w = w
within-without (Link text) name w = w
within-without (Directory parent l) name w =
    let outer : ((nat_le (sum_by (λ (e : Entry). size_of_name e.name) l.entries) max_directory_bytes && nat_le l.next_cookie max_cookie) ≡ true) × (list_all (λ (e : Entry). nat_le (length e.name) 255) l.entries ≡ true) = and_parts _ _ w in
    let inner : (nat_le (sum_by (λ (e : Entry). size_of_name e.name) l.entries) max_directory_bytes ≡ true) × (nat_le l.next_cookie max_cookie ≡ true) = and_parts _ _ outer.0 in
    let most : sum_by (λ (e : Entry). size_of_name e.name) l.entries ≤ max_directory_bytes = leb-true _ _ inner.0 in
    let fewer : sum_by (λ (e : Entry). size_of_name e.name) (without_name l.entries name) ≤ max_directory_bytes = omega (arith, sum-without l.entries name) in
    and_from _ _ (and_from _ _ (le-leb _ max_directory_bytes fewer) inner.1) (all-without (λ (e : Entry). nat_le (length e.name) 255) l.entries name outer.1)

-- two places, in the other order
swap : (dir f k : ℕ) (x y z : Option Node) → (dir == f) ≡ false → cond (f == k) x (cond (dir == k) y z) ≡ cond (dir == k) y (cond (f == k) x z)
swap dir f k x y z apart = go (f == k) refl (dir == k) refl
  where
    go : (b : Bool) → (f == k) ≡ b → (c : Bool) → (dir == k) ≡ c → cond b x (cond c y z) ≡ cond c y (cond b x z)
    go true p true q = absurd (eqb-false dir f apart (eqb-true dir k q ∙ sym (eqb-true f k p)))
    go true p false q = refl
    go false p true q = refl
    go false p false q = refl

absorb : (b : Bool) (x y w z : Option Node) (c : Bool) → cond b x (cond c w (cond b y z)) ≡ cond b x (cond c w z)
absorb true x y w z c = refl
absorb false x y w z c = refl

-- only a directory has entries
pub plain_empty : (a : Node) → is_directory a ≡ false → entries a ≡ []
plain_empty a h = go a.content h
  where
    go : (c : Content) → directory_test c ≡ false → (directory_listing c).entries ≡ []
    go (File bytes) e = refl
    go (Directory parent l) e = absurd (cc)
    go (Link text) e = refl

pub no_length : (xs : List Entry) → length xs ≡ 0 → xs ≡ []
no_length [] h = refl
no_length (x ∷ xs) h = absurd (omega arith)

-- a directory and what is none stand at different fileids
pub kinds_apart : (t : Tree) (dir f : ℕ) (d a : Node) → node_at t.nodes dir ≡ Some d → node_at t.nodes f ≡ Some a → is_directory d ≡ true → is_directory a ≡ false → (dir == f) ≡ false
kinds_apart t dir f d a at there directory plain = ne_eqb dir f (λ e. clash (subst (λ (k : ℕ). node_at t.nodes k ≡ Some d) e at))
  where
    clash : node_at t.nodes f ≡ Some d → ⊥
    clash h =
        let both : Some d ≡ Some a = sym h ∙ there in
        let same : d ≡ a = cc in
        false≢true (sym plain ∙ subst (λ (n : Node). is_directory n ≡ true) same directory)

-- so do a directory that has an entry and one that has none
pub entries_apart : (t : Tree) (dir f : ℕ) (name : List ℕ) (d a : Node) → node_at t.nodes dir ≡ Some d → node_at t.nodes f ≡ Some a → named t dir name ≡ Some f → entries a ≡ [] → (dir == f) ≡ false
entries_apart t dir f name d a at there found none = ne_eqb dir f (λ e. clash (subst (λ (k : ℕ). named t k name ≡ Some f) e found))
  where
    clash : named t f name ≡ Some f → ⊥
    clash h =
        let here : the_node t f ≡ a = ap (λ (o : Option Node). unwrap_or o no_node) there in
        let empty : entries (the_node t f) ≡ [] = ap entries here ∙ none in
        let nothing : named t f name ≡ None = ap (λ (xs : List Entry). found_id xs name) empty in
        let both : ◌≡◌ {A = Option ℕ} None (Some f) = sym nothing ∙ h in
        cc

module _ (t : Tree) (now : Moment) (dir f : ℕ) (name : List ℕ) (d a : Node) (v : IsValidTree t) (at : node_at t.nodes dir ≡ Some d) (directory : is_directory d ≡ true) (found : named t dir name ≡ Some f) (there : node_at t.nodes f ≡ Some a) (empty : entries a ≡ []) (apart : (dir == f) ≡ false) where
  abbrev d1 : Node
  d1 = leave now name d

  abbrev mid : List (ℕ × Node)
  mid = with_node t.nodes dir d1

  at_is : the_node t dir ≡ d
  at_is = ap (λ (o : Option Node). unwrap_or o no_node) at

  mid_order : ascends_below t.next_fileid (keys mid) ≡ true
  mid_order = ap (ascends_below t.next_fileid) (keys-put t.next_fileid t.nodes dir d d1 v.fileids at) ∙ v.fileids

  mid_at : node_at mid f ≡ Some a
  mid_at = rw (node_at-with_node t.nodes dir d1 f, apart) there

  mid_dir : node_at mid dir ≡ Some d1
  mid_dir = rw (node_at-with_node t.nodes dir d1 dir, eq-eqb dir dir refl)

  mid_counts : (p : Entry → Bool) → total p mid + cnt p (entries d) ≡ total p t.nodes + cnt p (entries d1)
  mid_counts p = total-put p t.next_fileid t.nodes dir d d1 v.fileids at

  mid_size : length mid ≡ length t.nodes
  mid_size = length-put t.next_fileid t.nodes dir d d1 v.fileids at

  -- what is common to the three ways in which the node fares
  dropping : (d' : Node) (o : Option Node) (ms : List (ℕ × Node)) → d'.content ≡ d1.content → d'.mode ≡ d.mode → d'.nlink + cond (is_directory a) 1 0 ≡ d.nlink → ascends_below t.next_fileid (keys ms) ≡ true → ((k : ℕ) → node_at ms k ≡ cond (dir == k) (Some d') (cond (f == k) o (node_at t.nodes k))) → ((p : Entry → Bool) → total p ms ≡ total p mid) → length ms ≤ length mid → Fate t f a o → Dropping t dir f name d d' a o ms
  dropping d' o ms content mode nlink order at_ms counts size fate =
      let change : Listing → Listing = λ l. without_entry l name in
      record {
        order = order;
        at_ms = at_ms;
        counts = λ p. let same : cnt p (entries d') ≡ cnt p (entries d1) = ap (λ (c : Content). cnt p (directory_listing c).entries) content in omega (arith, counts p, mid_counts p);
        size = omega (arith, mid_size);
        at = at;
        directory = directory;
        directory' = ap directory_test content ∙ directory-with_listing change d.content directory;
        parent' = ap Rattle.sky_nfs.specs.Tree.directory_parent content ∙ parent-with_listing change d.content;
        listing' = ap directory_listing content ∙ listing-with_listing change d.content directory;
        found = subst (λ (n : Node). fileid_at (listing_of n) name ≡ Some f) at_is found;
        there = there;
        empty = empty;
        apart = apart;
        nlink' = nlink;
        mode' = ap (λ (m : ℕ). nat_lt m 0o10000) mode ∙ each-node_at (λ k n. nat_lt n.mode 0o10000) t.nodes dir d v.modes at;
        within' = ap is_within content ∙ within-without d.content name (each-node_at (λ k n. is_within n.content) t.nodes dir d v.contents_within at);
        fate = fate;
      }

  -- it goes
  erased_valid : is_directory a ≡ false → names_of t f ≡ 1 → IsValidTree (record t { nodes = without_node mid f })
  erased_valid plain one = dropped_valid t dir f name d d1 a None (without_node mid f) v
      (dropping d1 None (without_node mid f) refl refl (rw plain (omega arith)) (ascends-without_node t.next_fileid mid f mid_order)
      (λ k. node_at-without_node mid f k ∙ ap (λ (o : Option Node). cond (f == k) None o) (node_at-with_node t.nodes dir d1 k) ∙ swap dir f k None (Some d1) (node_at t.nodes k) apart)
      (λ p. total-without_node p t.next_fileid mid f a mid_order mid_at empty) (length-without_node mid f) (gone one))

  -- it stays with a link less
  abbrev a1 : Node
  a1 = stamp now (drop_link a)

  stays_valid : is_directory a ≡ false → 1 < a.nlink → IsValidTree (record t { nodes = with_node mid f a1 })
  stays_valid plain many = dropped_valid t dir f name d d1 a (Some a1) (with_node mid f a1) v
      (dropping d1 (Some a1) (with_node mid f a1) refl refl (rw plain (omega arith)) (ap (ascends_below t.next_fileid) (keys-put t.next_fileid mid f a a1 mid_order mid_at) ∙ mid_order)
      (λ k. node_at-with_node mid f a1 k ∙ ap (λ (o : Option Node). cond (f == k) (Some a1) o) (node_at-with_node t.nodes dir d1 k) ∙ swap dir f k (Some a1) (Some d1) (node_at t.nodes k) apart)
      (λ p. let e = total-put p t.next_fileid mid f a a1 mid_order mid_at in omega arith)
      (let e = length-put t.next_fileid mid f a a1 mid_order mid_at in omega arith) (less refl plain (omega arith) many refl))

  -- a directory goes, and its parent has a link less
  abbrev d2 : Node
  d2 = drop_link d1

  left_dir : node_at (without_node mid f) dir ≡ Some d1
  left_dir = node_at-without_node mid f dir ∙ ap (λ (b : Bool). cond b None (node_at mid dir)) (ne_eqb f dir (λ e. eqb-false dir f apart (sym e))) ∙ mid_dir

  directory_gone_valid : is_directory a ≡ true → names_of t f ≡ 1 → IsValidTree (record t { nodes = with_node (without_node mid f) dir d2 })
  directory_gone_valid is one =
      let order : ascends_below t.next_fileid (keys (without_node mid f)) ≡ true = ascends-without_node t.next_fileid mid f mid_order in
      let links : d.nlink ≡ links_of t dir d = eqb-true _ _ (each-node_at (λ k n. n.nlink == links_of t k n) t.nodes dir d v.links at) in
      let counted : links_of t dir d ≡ 2 + Rattle.sky_nfs.specs.Tree.subdirectories t d = rw directory in
      let two : 1 < d.nlink = omega arith in
      dropped_valid t dir f name d d2 a None (with_node (without_node mid f) dir d2) v
      (dropping d2 None (with_node (without_node mid f) dir d2) refl refl (rw is (omega arith)) (ap (ascends_below t.next_fileid) (keys-put t.next_fileid (without_node mid f) dir d1 d2 order left_dir) ∙ order)
      (λ k. node_at-with_node (without_node mid f) dir d2 k ∙ ap (λ (o : Option Node). cond (dir == k) (Some d2) o) (node_at-without_node mid f k ∙ ap (λ (o : Option Node). cond (f == k) None o) (node_at-with_node t.nodes dir d1 k)) ∙ absorb (dir == k) (Some d2) (Some d1) None (node_at t.nodes k) (f == k))
      (λ p. let e = total-put p t.next_fileid (without_node mid f) dir d1 d2 order left_dir in let w = total-without_node p t.next_fileid mid f a mid_order mid_at empty in omega arith)
      (let e = length-put t.next_fileid (without_node mid f) dir d1 d2 order left_dir in omega (arith, length-without_node mid f)) (gone one))

  f_not_root : (f == root) ≡ false
  f_not_root =
      let none : list_all (λ (e : Entry). not (e.fileid == root)) (entries d) ≡ true = each-node_at (λ k n. list_all (λ e. not (e.fileid == root)) (entries n)) t.nodes dir d (sym (each_entry (λ e. not (e.fileid == root)) t.nodes) ∙ v.none_names_root) at in
      let id : fileid_at (listing_of d) name ≡ Some f = subst (λ (n : Node). fileid_at (listing_of n) name ≡ Some f) at_is found in
      not-true _ (found_in (λ k. not (k == root)) name (entries d) f id none)

  named_some : 1 ≤ names_of t f
  named_some = go (or_cases (f == root) _ (each-node_at (λ k n. k == root || nat_le 1 (names_of t k)) t.nodes f a v.nodes_have_names there))
    where
      go : ((f == root) ≡ true) ⊎ (nat_le 1 (names_of t f) ≡ true) → 1 ≤ names_of t f
      go (inl e) = absurd (false≢true (sym f_not_root ∙ e))
      go (inr e) = leb-true _ _ e

  -- the node at that fileid once the directory has lost the entry
  after_leave : the_node (put t dir d1) f ≡ a
  after_leave = ap (λ (o : Option Node). unwrap_or o no_node) mid_at

  -- the tree once the entry of what is no directory is gone
  pub plain_removed : is_directory a ≡ false → IsValidTree (remove_name t now dir name)
  plain_removed plain =
      let one : a.nlink ≤ 1 → names_of t f ≡ 1 = λ low. let links : a.nlink ≡ links_of t f a = eqb-true _ _ (each-node_at (λ k n. n.nlink == links_of t k n) t.nodes f a v.links there) in let counted : links_of t f a ≡ names_of t f = rw plain in omega (arith, named_some) in
      let last : IsValidTree (cond (nat_le a.nlink 1) (erase (put t dir d1) f) (put (put t dir d1) f a1)) = cond_both (nat_le a.nlink 1) (erase (put t dir d1) f) (put (put t dir d1) f a1) IsValidTree (λ low. erased_valid plain (one (leb-true a.nlink 1 low))) (λ high. stays_valid plain (leb-false a.nlink 1 high)) in
      let chosen : IsValidTree (cond (is_directory a) (edit (erase (put t dir d1) f) dir drop_link) (cond (nat_le a.nlink 1) (erase (put t dir d1) f) (put (put t dir d1) f a1))) = subst (λ (b : Bool). IsValidTree (cond b (edit (erase (put t dir d1) f) dir drop_link) (cond (nat_le a.nlink 1) (erase (put t dir d1) f) (put (put t dir d1) f a1)))) (sym plain) last in
      let released : IsValidTree (release (put t dir d1) now dir f) = subst (λ (n : Node). IsValidTree (cond (is_directory n) (edit (erase (put t dir d1) f) dir drop_link) (cond (nat_le n.nlink 1) (erase (put t dir d1) f) (put (put t dir d1) f (stamp now (drop_link n)))))) (sym after_leave) chosen in
      let edited : IsValidTree (release (edit t dir (λ d. leave now name d)) now dir f) = subst (λ (n : Node). IsValidTree (release (put t dir (leave now name n)) now dir f)) (sym at_is) released in
      rw found edited

  -- the tree once the entry of an empty directory is gone
  pub directory_removed : is_directory a ≡ true → IsValidTree (remove_name t now dir name)
  directory_removed is =
      let test : (not (is_directory a) || f == root || names_of t f == 1) ≡ true = each-node_at (λ k n. not (is_directory n) || k == root || names_of t k == 1) t.nodes f a v.directories_have_one there in
      let one : (names_of t f == 1) ≡ true = rw (is, f_not_root) at test in
      let gone : IsValidTree (put (erase (put t dir d1) f) dir d2) = directory_gone_valid is (eqb-true _ _ one) in
      let left : the_node (erase (put t dir d1) f) dir ≡ d1 = ap (λ (o : Option Node). unwrap_or o no_node) left_dir in
      let cut : IsValidTree (edit (erase (put t dir d1) f) dir drop_link) = subst (λ (n : Node). IsValidTree (put (erase (put t dir d1) f) dir (drop_link n))) (sym left) gone in
      let chosen : IsValidTree (cond (is_directory a) (edit (erase (put t dir d1) f) dir drop_link) (cond (nat_le a.nlink 1) (erase (put t dir d1) f) (put (put t dir d1) f a1))) = subst (λ (b : Bool). IsValidTree (cond b (edit (erase (put t dir d1) f) dir drop_link) (cond (nat_le a.nlink 1) (erase (put t dir d1) f) (put (put t dir d1) f a1)))) (sym is) cut in
      let released : IsValidTree (release (put t dir d1) now dir f) = subst (λ (n : Node). IsValidTree (cond (is_directory n) (edit (erase (put t dir d1) f) dir drop_link) (cond (nat_le n.nlink 1) (erase (put t dir d1) f) (put (put t dir d1) f (stamp now (drop_link n)))))) (sym after_leave) chosen in
      let edited : IsValidTree (release (edit t dir (λ d. leave now name d)) now dir f) = subst (λ (n : Node). IsValidTree (release (put t dir (leave now name n)) now dir f)) (sym at_is) released in
      rw found edited

pub some_named : (o : Option ℕ) → is_none o ≡ false → (f : ℕ) × (o ≡ Some f)
some_named None e = absurd (cc)
some_named (Some f) e = (f, refl)

pub remove_kept : (at : DirOpArgs) → KeepsValid (Call.Remove at)
unfolding changed_tree refusal_of rules_of
remove_kept at = kept (Call.Remove at) (λ t cred now none v. go t cred now (passed (remove_rules t cred at) none) v)
  where
    go : (t : Tree) (cred : Cred) (now : Moment) → AllPassed (remove_rules t cred at) → IsValidTree t → IsValidTree (removed_tree t at now)
    go t cred now p v =
        let dir : ℕ = fileid_in at.directory in
        let place = is_there (node_at t.nodes dir) p.1.0 in
        let directory = directory_there t dir place.0 place.1 p.1.1.0 in
        let name = some_named (named t dir at.name) p.1.1.1.1.1.1.1.0 in
        let there = some_of (node_at t.nodes name.0) (named_there t dir place.0 at.name name.0 v place.1 name.1) in
        let kind : is_directory (the_node t name.0) ≡ false = subst (λ (o : Option ℕ). is_directory (the_node t (unwrap_or o 0)) ≡ false) name.1 p.1.1.1.1.1.1.1.1.1.0 in
        let plain : is_directory there.0 ≡ false = subst (λ (n : Node). is_directory n ≡ false) (ap (λ (o : Option Node). unwrap_or o no_node) there.1) kind in
        plain_removed t now dir name.0 at.name place.0 there.0 v place.1 directory name.1 there.1 (plain_empty there.0 plain) (kinds_apart t dir name.0 place.0 there.0 place.1 there.1 directory plain) plain

pub rmdir_kept : (at : DirOpArgs) → KeepsValid (Call.Rmdir at)
unfolding changed_tree refusal_of rules_of
rmdir_kept at = kept (Call.Rmdir at) (λ t cred now none v. go t cred now (passed (rmdir_rules t cred at) none) v)
  where
    go : (t : Tree) (cred : Cred) (now : Moment) → AllPassed (rmdir_rules t cred at) → IsValidTree t → IsValidTree (removed_tree t at now)
    go t cred now p v =
        let dir : ℕ = fileid_in at.directory in
        let place = is_there (node_at t.nodes dir) p.1.0 in
        let directory = directory_there t dir place.0 place.1 p.1.1.0 in
        let name = some_named (named t dir at.name) p.1.1.1.1.1.1.1.1.0 in
        let there = some_of (node_at t.nodes name.0) (named_there t dir place.0 at.name name.0 v place.1 name.1) in
        let at_name : the_node t name.0 ≡ there.0 = ap (λ (o : Option Node). unwrap_or o no_node) there.1 in
        let kind : not (is_directory (the_node t name.0)) ≡ false = subst (λ (o : Option ℕ). not (is_directory (the_node t (unwrap_or o 0))) ≡ false) name.1 p.1.1.1.1.1.1.1.1.1.1.0 in
        let is : is_directory there.0 ≡ true = not-false _ (subst (λ (n : Node). not (is_directory n) ≡ false) at_name kind) in
        let bare : has_entries (the_node t name.0) ≡ false = subst (λ (o : Option ℕ). has_entries (the_node t (unwrap_or o 0)) ≡ false) name.1 p.1.1.1.1.1.1.1.1.1.1.1.0 in
        let none : entries there.0 ≡ [] = no_length (entries there.0) (eqb-true _ 0 (not-false _ (subst (λ (n : Node). has_entries n ≡ false) at_name bare))) in
        directory_removed t now dir name.0 at.name place.0 there.0 v place.1 directory name.1 there.1 none (entries_apart t dir name.0 at.name place.0 there.0 place.1 there.1 name.1 none) is
