-- LINK keeps a tree valid.
use Rattle.std.proofs.Common.{◌≡◌, ℕ, zero, suc, ◌+◌, ◌<◌, ◌≤◌, List, [], ◌∷◌, ◌++◌, Option, Some, None, refl, true, false, sym, ap, subst, ◌∙◌, length, arith, inl, inr}
use Rattle.std.specs.Prelude.{Bool, cond, not, ◌||◌, ◌==◌, ◌⊎◌, nat_lt, nat_le, map, count_by, is_some, unwrap_or}
use Rattle.std.specs.List.{list_all, list_any}
use Rattle.std.proofs.lemmas.Bool.{and_from, eqb-true, eq-eqb, ne_eqb, ltb-false, leb-false, le-leb, or_cases, or_left, or_right, not_from_false, false≢true}
use Rattle.std.proofs.lemmas.List.{map-append}
use Rattle.std.proofs.lemmas.List.Folds.{list_all-append, list_any-append}
use Rattle.std.proofs.lemmas.List.Sums.{length-filter}
use Rattle.sky_base.specs.Limits.{max_links, max_nodes, max_name_bytes, max_directory_bytes, max_cookie}
use Rattle.sky_base.specs.Listing.{Listing, Entry, with_entry, fileid_at, size_of_listing, size_of_name}
use Rattle.sky_base.specs.declared.cred.Cred.{Cred}
use Rattle.sky_base.specs.declared.moment.Moment.{Moment}
use Rattle.sky_nfs.specs.declared.call.DirOpArgs.{DirOpArgs}
use Rattle.sky_nfs.specs.declared.call.Call.{Call}
use Rattle.sky_nfs.specs.Changes.{put, edit, stamp, add_link, enter}
use Rattle.sky_nfs.specs.Handles.{fileid_in}
use Rattle.sky_nfs.specs.Laws.{KeepsValid}
use Rattle.sky_nfs.specs.Procedure.{refusal_of, rules_of, changed_tree}
use Rattle.sky_nfs.specs.Procedures.Link.{link_rules, link_tree}
use Rattle.sky_nfs.specs.Tree.{Tree, Node, node_at, with_node, the_node, no_node, root, is_directory, directory_test, directory_parent, directory_listing, listing_of, parent_of, named, all_entries, names_of, links_of, subdirectories, ancestors, is_at_or_below}
use Rattle.sky_nfs.specs.Validity.{IsValidTree, ascends_below, are_distinct, is_within, each_node}
use Rattle.sky_nfs.proofs.ValidityLemmas.{each-node_at, agree}
use Rattle.sky_nfs.proofs.KeptLemmas.{AllPassed, passed, is_there, kept}
use Rattle.sky_nfs.proofs.GrowLemmas.{keys, entries, cnt, total, cnt-append, total_lem, each-of, keys-put, length-put, total-put, ascends-push, distinct-push, not_found, each_entry, entries_weaken, node_at-with_node}
use Rattle.sky_nfs.proofs.CreateLemmas.{directory-with_listing, parent-with_listing, listing-with_listing, within-with_entry, directory_there, none_of}

-- a directory gets an entry of a node that is there and no directory: what both are like then
pub record Linking (t : Tree) (dir file : ℕ) (name : List ℕ) (d d' a a' : Node) : Type 0 where
  pub at : node_at t.nodes dir ≡ Some d
  pub directory : is_directory d ≡ true
  pub directory' : is_directory d' ≡ true
  pub parent' : parent_of d' ≡ parent_of d
  pub listing' : listing_of d' ≡ with_entry (listing_of d) name file
  pub nlink' : d'.nlink ≡ d.nlink
  pub mode' : nat_lt d'.mode 0o10000 ≡ true
  pub within' : is_within d'.content ≡ true
  pub free : fileid_at (listing_of d) name ≡ None
  pub there : node_at t.nodes file ≡ Some a
  pub content : a'.content ≡ a.content
  pub plain : is_directory a ≡ false
  pub more : a'.nlink ≡ a.nlink + 1
  pub mode : a'.mode ≡ a.mode
  pub room : a.nlink < max_links

module _ (t : Tree) (dir file : ℕ) (name : List ℕ) (d d' a a' : Node) (v : IsValidTree t) (g : Linking t dir file name d d' a a') where
  abbrev mid : List (ℕ × Node)
  mid = with_node t.nodes file a'

  abbrev linked : Tree
  linked = record t { nodes = with_node mid dir d' }

  plain' : is_directory a' ≡ false
  plain' = ap directory_test g.content ∙ g.plain

  apart : (file == dir) ≡ false
  apart = ne_eqb file dir (λ e. clash (subst (λ (k : ℕ). node_at t.nodes k ≡ Some a) e g.there))
    where
      clash : node_at t.nodes dir ≡ Some a → ⊥
      clash h =
          let both : Some a ≡ Some d = sym h ∙ g.at in
          let same : a ≡ d = cc in
          let directory : is_directory a ≡ true = subst (λ (n : Node). is_directory n ≡ true) (sym same) g.directory in
          false≢true (sym g.plain ∙ directory)

  mid_at : node_at mid dir ≡ Some d
  mid_at = rw (node_at-with_node t.nodes file a' dir, apart) g.at

  mid_keys : keys mid ≡ keys t.nodes
  mid_keys = keys-put t.next_fileid t.nodes file a a' v.fileids g.there

  mid_order : ascends_below t.next_fileid (keys mid) ≡ true
  mid_order = ap (ascends_below t.next_fileid) mid_keys ∙ v.fileids

  order : ascends_below t.next_fileid (keys linked.nodes) ≡ true
  order = ap (ascends_below t.next_fileid) (keys-put t.next_fileid mid dir d d' mid_order mid_at) ∙ mid_order

  count_same : length linked.nodes ≡ length t.nodes
  count_same = length-put t.next_fileid mid dir d d' mid_order mid_at ∙ length-put t.next_fileid t.nodes file a a' v.fileids g.there

  at_linked : (k : ℕ) → node_at linked.nodes k ≡ cond (dir == k) (Some d') (cond (file == k) (Some a') (node_at t.nodes k))
  at_linked k = node_at-with_node mid dir d' k ∙ ap (λ (o : Option Node). cond (dir == k) (Some d') o) (node_at-with_node t.nodes file a' k)

  cases : (P : ℕ → Node → Type 0) → P dir d' → P file a' → ((k : ℕ) (n : Node) → node_at t.nodes k ≡ Some n → (dir == k) ≡ false → (file == k) ≡ false → P k n) → (k : ℕ) (n : Node) → node_at linked.nodes k ≡ Some n → P k n
  cases P here new old k n at = go (dir == k) refl (file == k) refl
    where
      go : (b : Bool) → (dir == k) ≡ b → (c : Bool) → (file == k) ≡ c → P k n
      go true e c f =
          let found : Some d' ≡ Some n = rw (at_linked k, e) at at in
          let same : d' ≡ n = cc in
          subst (λ (m : Node). P k m) same (subst (λ (j : ℕ). P j d') (eqb-true dir k e) here)
      go false e true f =
          let found : Some a' ≡ Some n = rw (at_linked k, e, f) at at in
          let same : a' ≡ n = cc in
          subst (λ (m : Node). P k m) same (subst (λ (j : ℕ). P j a') (eqb-true file k f) new)
      go false e false f = old k n (rw (at_linked k, e, f) at at) e f

  -- a fact of the node at each fileid that neither change concerns
  same_at : {A : Type 0} (f : Option Node → A) → f (Some d') ≡ f (Some d) → f (Some a') ≡ f (Some a) → (k : ℕ) → f (node_at linked.nodes k) ≡ f (node_at t.nodes k)
  same_at f here new k = ap f (at_linked k) ∙ go (dir == k) refl (file == k) refl
    where
      go : (b : Bool) → (dir == k) ≡ b → (c : Bool) → (file == k) ≡ c → f (cond b (Some d') (cond c (Some a') (node_at t.nodes k))) ≡ f (node_at t.nodes k)
      go true e c i = here ∙ ap f (sym (subst (λ (j : ℕ). node_at t.nodes j ≡ Some d) (eqb-true dir k e) g.at))
      go false e true i = new ∙ ap f (sym (subst (λ (j : ℕ). node_at t.nodes j ≡ Some a) (eqb-true file k i) g.there))
      go false e false i = refl

  directory_same : (k : ℕ) → is_directory (the_node linked k) ≡ is_directory (the_node t k)
  directory_same = same_at (λ o. is_directory (unwrap_or o no_node)) (g.directory' ∙ sym g.directory) (plain' ∙ sym g.plain)

  parent_same : (k : ℕ) → parent_of (the_node linked k) ≡ parent_of (the_node t k)
  parent_same = same_at (λ o. parent_of (unwrap_or o no_node)) g.parent' (ap directory_parent g.content)

  there_same : (k : ℕ) → is_some (node_at linked.nodes k) ≡ is_some (node_at t.nodes k)
  there_same = same_at is_some refl refl

  way_same : (m k : ℕ) → ancestors linked m k ≡ ancestors t m k
  way_same zero k = refl
  way_same (suc m) k = ap (λ (r : List ℕ). k ∷ r) (ap (ancestors linked m) (parent_same k) ∙ way_same m (parent_of (the_node t k)))

  up_same : (k : ℕ) → is_at_or_below linked k root ≡ is_at_or_below t k root
  up_same k = ap (λ (m : ℕ). list_any (λ x. x == root) (ancestors linked m k)) count_same ∙ ap (list_any (λ x. x == root)) (way_same (length t.nodes) k)

  abbrev entered : Entry
  entered = record { cookie = (listing_of d).next_cookie; name = name; fileid = file }

  entries' : entries d' ≡ entries d ++ entered ∷ []
  entries' = ap (λ (l : Listing). l.entries) g.listing'

  entries_same : entries a' ≡ entries a
  entries_same = ap (λ (c : Rattle.sky_nfs.specs.Tree.Content). (directory_listing c).entries) g.content

  names_linked : (k : ℕ) → names_of linked k ≡ names_of t k + cond (file == k) 1 0
  names_linked k =
      let p : Entry → Bool = λ e. e.fileid == k in
      let new : names_of linked k ≡ total p linked.nodes = total_lem p linked.nodes in
      let old : names_of t k ≡ total p t.nodes = total_lem p t.nodes in
      let outer = total-put p t.next_fileid mid dir d d' mid_order mid_at in
      let inner = total-put p t.next_fileid t.nodes file a a' v.fileids g.there in
      let kept : cnt p (entries a') ≡ cnt p (entries a) = ap (cnt p) entries_same in
      let more : cnt p (entries d') ≡ cnt p (entries d) + cnt p (entered ∷ []) = rw entries' (cnt-append p (entries d) (entered ∷ [])) in
      let one : cnt p (entered ∷ []) ≡ cond (file == k) 1 0 = single (file == k) in
      omega arith
    where
      single : (b : Bool) → length (cond b (entered ∷ []) []) ≡ cond b 1 0
      single true = refl
      single false = refl

  names_kept : (k : ℕ) → (file == k) ≡ false → names_of linked k ≡ names_of t k
  names_kept k f = let e : names_of linked k ≡ names_of t k + 0 = rw (names_linked k, f) in omega arith

  tests_same : ◌≡◌ {A = Entry → Bool} (λ e. is_directory (the_node linked e.fileid)) (λ e. is_directory (the_node t e.fileid))
  tests_same = agree (λ e. directory_same e.fileid)

  subdirectories_same : (n : Node) → subdirectories linked n ≡ subdirectories t n
  subdirectories_same n = ap (λ (test : Entry → Bool). count_by test (entries n)) tests_same

  links_kept : (k : ℕ) (n : Node) → (file == k) ≡ false → links_of linked k n ≡ links_of t k n
  links_kept k n f = cc (names_kept k f, subdirectories_same n)

  links_before : (k : ℕ) (n : Node) → node_at t.nodes k ≡ Some n → n.nlink ≡ links_of t k n
  links_before k n at = eqb-true _ _ (each-node_at (λ k n. n.nlink == links_of t k n) t.nodes k n v.links at)

  file_plain : is_directory (the_node linked file) ≡ false
  file_plain = directory_same file ∙ ap (λ (o : Option Node). is_directory (unwrap_or o no_node)) g.there ∙ g.plain

  links_of_dir : d'.nlink ≡ links_of linked dir d'
  links_of_dir =
      let q : Entry → Bool = λ e. is_directory (the_node linked e.fileid) in
      let counted : links_of t dir d ≡ 2 + subdirectories t d = rw g.directory in
      let now : links_of linked dir d' ≡ 2 + subdirectories linked d' = rw g.directory' in
      let kept : cnt q (entries d) ≡ subdirectories t d = length-filter q (entries d) ∙ subdirectories_same d in
      let all : cnt q (entries d') ≡ subdirectories linked d' = length-filter q (entries d') in
      let more : cnt q (entries d') ≡ cnt q (entries d) + cnt q (entered ∷ []) = rw entries' (cnt-append q (entries d) (entered ∷ [])) in
      let none : cnt q (entered ∷ []) ≡ 0 = rw file_plain in
      omega (arith, links_before dir d g.at, g.nlink')

  links_of_file : a'.nlink ≡ links_of linked file a'
  links_of_file =
      let before : links_of t file a ≡ names_of t file = rw g.plain in
      let now : links_of linked file a' ≡ names_of linked file = rw plain' in
      let one : names_of linked file ≡ names_of t file + 1 = rw (names_linked file, eq-eqb file file refl) in
      omega (arith, links_before file a g.there, g.more)

  each_linked : (p : ℕ → Node → Bool) → p dir d' ≡ true → p file a' ≡ true → ((k : ℕ) (n : Node) → node_at t.nodes k ≡ Some n → (file == k) ≡ false → p k n ≡ true) → list_all (λ n. p n.0 n.1) linked.nodes ≡ true
  each_linked p here new old = each-of p t.next_fileid linked.nodes order (cases (λ k n. p k n ≡ true) here new (λ k n at e f. old k n at f))

  each_again : (p : ℕ → Node → Bool) → each_node p t ≡ true → p dir d' ≡ true → p file a' ≡ true → each_node p linked ≡ true
  each_again p before here new = each_linked p here new (λ k n at f. each-node_at p t.nodes k n before at)

  -- tests of the entries of each node
  abbrev each_of : (Entry → Bool) → ℕ → Node → Bool
  each_of q k n = list_all q (entries n)

  entries_keep : (q : Entry → Bool) → list_all q (all_entries t) ≡ true → q entered ≡ true → list_all q (all_entries linked) ≡ true
  entries_keep q before new =
      let each : each_node (each_of q) t ≡ true = sym (each_entry q t.nodes) ∙ before in
      let of_dir : list_all q (entries d) ≡ true = each-node_at (each_of q) t.nodes dir d each g.at in
      let of_file : list_all q (entries a) ≡ true = each-node_at (each_of q) t.nodes file a each g.there in
      each_entry q linked.nodes ∙ each_again (each_of q) each (rw (entries', list_all-append) (and_from _ _ of_dir (and_from _ _ new refl))) (ap (list_all q) entries_same ∙ of_file)

  file_apart_root : not (file == root) ≡ true
  file_apart_root = not_from_false _ (ne_eqb file root (λ e. false≢true (sym (subst (λ (k : ℕ). is_directory (the_node t k) ≡ false) e (ap (λ (o : Option Node). is_directory (unwrap_or o no_node)) g.there ∙ g.plain)) ∙ v.root_is_directory)))

  node_named : (k : ℕ) (n : Node) → node_at t.nodes k ≡ Some n → (file == k) ≡ false → (k == root || nat_le 1 (names_of linked k)) ≡ true
  node_named k n at f = ap (λ (m : ℕ). k == root || nat_le 1 m) (names_kept k f) ∙ each-node_at (λ k n. k == root || nat_le 1 (names_of t k)) t.nodes k n v.nodes_have_names at

  file_named : nat_le 1 (names_of linked file) ≡ true
  file_named =
      let one : names_of linked file ≡ names_of t file + 1 = rw (names_linked file, eq-eqb file file refl) in
      le-leb 1 (names_of linked file) (omega arith)

  abbrev lower : (ℕ → Node → Bool) → ℕ → Node → Bool
  lower p k n = not (is_directory n) || k == root || p k n

  plain_lower : (p : ℕ → Node → Bool) → lower p file a' ≡ true
  plain_lower p = or_left (not (is_directory a') || file == root) (p file a') (or_left (not (is_directory a')) (file == root) (rw plain'))

  lower_from : (p q : ℕ → Node → Bool) (k : ℕ) (n m : Node) → is_directory m ≡ is_directory n → (p k n ≡ true → q k m ≡ true) → lower p k n ≡ true → lower q k m ≡ true
  lower_from p q k n m same imp h = go (or_cases (not (is_directory n) || k == root) (p k n) h)
    where
      go : ((not (is_directory n) || k == root) ≡ true) ⊎ (p k n ≡ true) → lower q k m ≡ true
      go (inl first) = or_left (not (is_directory m) || k == root) (q k m) (ap (λ (b : Bool). not b || k == root) same ∙ first)
      go (inr second) = or_right (not (is_directory m) || k == root) (q k m) (imp second)

  abbrev has : Node → ℕ → Bool
  has n k = list_any (λ e. e.fileid == k) (entries n)

  has_kept : (p k : ℕ) → has (the_node t p) k ≡ true → has (the_node linked p) k ≡ true
  has_kept p k h = go (dir == p) refl (file == p) refl
    where
      go : (b : Bool) → (dir == p) ≡ b → (c : Bool) → (file == p) ≡ c → has (the_node linked p) k ≡ true
      go true e c f =
          let here : node_at t.nodes p ≡ Some d = subst (λ (j : ℕ). node_at t.nodes j ≡ Some d) (eqb-true dir p e) g.at in
          let before : has d k ≡ true = rw here at h in
          rw (at_linked p, e, entries', list_any-append) (or_left _ _ before)
      go false e true f =
          let here : node_at t.nodes p ≡ Some a = subst (λ (j : ℕ). node_at t.nodes j ≡ Some a) (eqb-true file p f) g.there in
          let before : has a k ≡ true = rw here at h in
          rw (at_linked p, e, f, entries_same) before
      go false e false f = rw (at_linked p, e, f) h

  stands : (k : ℕ) (n m : Node) → is_directory m ≡ is_directory n → parent_of m ≡ parent_of n → node_at t.nodes k ≡ Some n → lower (λ k n. has (the_node linked (parent_of n)) k) k m ≡ true
  stands k n m same up at = lower_from (λ k n. has (the_node t (parent_of n)) k) (λ k n. has (the_node linked (parent_of n)) k) k n m same (λ h. subst (λ (p : ℕ). has (the_node linked p) k ≡ true) (sym up) (has_kept (parent_of n) k h)) (each-node_at (lower (λ k n. has (the_node t (parent_of n)) k)) t.nodes k n v.directories_stand_in_parents at)

  named_one : (k : ℕ) (n m : Node) → is_directory m ≡ is_directory n → (file == k) ≡ false → node_at t.nodes k ≡ Some n → lower (λ k n. names_of linked k == 1) k m ≡ true
  named_one k n m same f at = lower_from (λ k n. names_of t k == 1) (λ k n. names_of linked k == 1) k n m same (λ h. ap (λ (x : ℕ). x == 1) (names_kept k f) ∙ h) (each-node_at (lower (λ k n. names_of t k == 1)) t.nodes k n v.directories_have_one at)

  leads_up : (k : ℕ) (n m : Node) → is_directory m ≡ is_directory n → node_at t.nodes k ≡ Some n → lower (λ k n. is_at_or_below linked k root) k m ≡ true
  leads_up k n m same at = lower_from (λ k n. is_at_or_below t k root) (λ k n. is_at_or_below linked k root) k n m same (λ h. up_same k ∙ h) (each-node_at (lower (λ k n. is_at_or_below t k root)) t.nodes k n v.ways_lead_up at)

  same_directory : is_directory d' ≡ is_directory d
  same_directory = g.directory' ∙ sym g.directory

  abbrev cookies_test : Listing → Bool
  cookies_test l = ascends_below l.next_cookie (map (λ e. e.cookie) l.entries)

  abbrev names_test : Listing → Bool
  names_test l = are_distinct (map (λ e. e.name) l.entries)

  listing_same : listing_of a' ≡ listing_of a
  listing_same = ap directory_listing g.content

  cookies_of_dir : cookies_test (listing_of d') ≡ true
  cookies_of_dir =
      let before : cookies_test (listing_of d) ≡ true = each-node_at (λ k n. cookies_test (listing_of n)) t.nodes dir d v.cookies g.at in
      let more : ascends_below ((listing_of d).next_cookie + 1) (map (λ e. e.cookie) (entries d ++ entered ∷ [])) ≡ true = rw map-append (ascends-push (listing_of d).next_cookie (map (λ e. e.cookie) (entries d)) before) in
      ap cookies_test g.listing' ∙ more

  names_of_dir : names_test (listing_of d') ≡ true
  names_of_dir =
      let before : names_test (listing_of d) ≡ true = each-node_at (λ k n. names_test (listing_of n)) t.nodes dir d v.names_differ g.at in
      ap names_test g.listing' ∙ distinct-push (entries d) entered before (not_found (entries d) name g.free)

  -- the tree with the entry and the link is valid
  pub linked_valid : IsValidTree linked
  linked_valid = record {
    fileids = order;
    root_is_directory = directory_same root ∙ v.root_is_directory;
    root_is_top = ap (λ (x : ℕ). x == root) (parent_same root) ∙ v.root_is_top;
    entries_name_nodes = entries_keep (λ e. is_some (node_at linked.nodes e.fileid)) (entries_weaken (λ e. is_some (node_at t.nodes e.fileid)) (λ e. is_some (node_at linked.nodes e.fileid)) (λ e h. there_same e.fileid ∙ h) (all_entries t) v.entries_name_nodes) (there_same file ∙ ap is_some g.there);
    none_names_root = entries_keep (λ e. not (e.fileid == root)) v.none_names_root file_apart_root;
    nodes_have_names = each_linked (λ k n. k == root || nat_le 1 (names_of linked k)) (node_named dir d g.at apart) (or_right (file == root) _ file_named) node_named;
    directories_have_one = each_linked (lower (λ k n. names_of linked k == 1)) (named_one dir d d' same_directory apart g.at) (plain_lower (λ k n. names_of linked k == 1)) (λ k n at f. named_one k n n refl f at);
    directories_stand_in_parents = each_linked (lower (λ k n. has (the_node linked (parent_of n)) k)) (stands dir d d' same_directory g.parent' g.at) (plain_lower (λ k n. has (the_node linked (parent_of n)) k)) (λ k n at f. stands k n n refl refl at);
    ways_lead_up = each_linked (lower (λ k n. is_at_or_below linked k root)) (leads_up dir d d' same_directory g.at) (plain_lower (λ k n. is_at_or_below linked k root)) (λ k n at f. leads_up k n n refl at);
    names_differ = each_again (λ k n. names_test (listing_of n)) v.names_differ names_of_dir (ap names_test listing_same ∙ each-node_at (λ k n. names_test (listing_of n)) t.nodes file a v.names_differ g.there);
    cookies = each_again (λ k n. cookies_test (listing_of n)) v.cookies cookies_of_dir (ap cookies_test listing_same ∙ each-node_at (λ k n. cookies_test (listing_of n)) t.nodes file a v.cookies g.there);
    links = each_linked (λ k n. n.nlink == links_of linked k n) (eq-eqb _ _ links_of_dir) (eq-eqb _ _ links_of_file) (λ k n at f. eq-eqb _ _ (links_before k n at ∙ sym (links_kept k n f)));
    modes = each_again (λ k n. nat_lt n.mode 0o10000) v.modes g.mode' (ap (λ (m : ℕ). nat_lt m 0o10000) g.mode ∙ each-node_at (λ k n. nat_lt n.mode 0o10000) t.nodes file a v.modes g.there);
    contents_within = each_again (λ k n. is_within n.content) v.contents_within g.within' (ap is_within g.content ∙ each-node_at (λ k n. is_within n.content) t.nodes file a v.contents_within g.there);
    links_within = each_again (λ k n. is_directory n || nat_le n.nlink max_links) v.links_within (or_left _ _ g.directory') (or_right (is_directory a') (nat_le a'.nlink max_links) (le-leb a'.nlink max_links (omega (arith, g.more, g.room))));
    nodes_within = ap (λ (m : ℕ). nat_le m max_nodes) count_same ∙ v.nodes_within;
    fileid_within = v.fileid_within;
    volume_within = v.volume_within;
  }

pub link_kept : (file : List ℕ) (at : DirOpArgs) → KeepsValid (Call.Link file at)
unfolding changed_tree refusal_of rules_of
link_kept file at = kept (Call.Link file at) (λ t cred now none v. go t cred now (passed (link_rules t cred file at) none) v)
  where
    go : (t : Tree) (cred : Cred) (now : Moment) → AllPassed (link_rules t cred file at) → IsValidTree t → IsValidTree (link_tree t file at now)
    go t cred now p v =
        let f = fileid_in file in
        let dir = fileid_in at.directory in
        let there = is_there (node_at t.nodes f) p.1.0 in
        let place = is_there (node_at t.nodes dir) p.1.1.1.0 in
        let a = there.0 in
        let d = place.0 in
        let a' = stamp now (add_link a) in
        let d' = enter now at.name f d in
        let at_file : the_node t f ≡ a = ap (λ (o : Option Node). unwrap_or o no_node) there.1 in
        let at_dir : the_node t dir ≡ d = ap (λ (o : Option Node). unwrap_or o no_node) place.1 in
        let directory = directory_there t dir d place.1 p.1.1.1.1.0 in
        let change : Listing → Listing = λ l. with_entry l at.name f in
        let space : size_of_listing (listing_of d) + size_of_name at.name ≤ max_directory_bytes = subst (λ (n : Node). size_of_listing (listing_of n) + size_of_name at.name ≤ max_directory_bytes) at_dir (ltb-false max_directory_bytes _ p.1.1.1.1.1.1.1.1.1.1.1.1.1.0) in
        let cookie : (listing_of d).next_cookie < max_cookie = subst (λ (n : Node). (listing_of n).next_cookie < max_cookie) at_dir (leb-false max_cookie _ p.1.1.1.1.1.1.1.1.1.1.1.1.1.1.0) in
        let g : Linking t dir f at.name d d' a a' = record {
          at = place.1;
          directory = directory;
          directory' = directory-with_listing change d.content directory;
          parent' = parent-with_listing change d.content;
          listing' = listing-with_listing change d.content directory;
          nlink' = refl;
          mode' = each-node_at (λ k n. nat_lt n.mode 0o10000) t.nodes dir d v.modes place.1;
          within' = within-with_entry d.content at.name f directory (each-node_at (λ k n. is_within n.content) t.nodes dir d v.contents_within place.1) (ltb-false max_name_bytes (length at.name) p.1.1.1.1.1.1.0) space cookie;
          free = subst (λ (n : Node). fileid_at (listing_of n) at.name ≡ None) at_dir (none_of (named t dir at.name) p.1.1.1.1.1.1.1.1.1.1.0);
          there = there.1;
          content = refl;
          plain = subst (λ (n : Node). is_directory n ≡ false) at_file p.1.1.1.1.1.0;
          more = refl;
          mode = refl;
          room = subst (λ (n : Node). n.nlink < max_links) at_file (leb-false max_links _ p.1.1.1.1.1.1.1.1.1.1.1.1.0);
        } in
        let done : IsValidTree (put (put t f a') dir d') = linked_valid t dir f at.name d d' a a' v g in
        let entered : the_node (put t f a') dir ≡ d = ap (λ (o : Option Node). unwrap_or o no_node) (mid_at t dir f at.name d d' a a' v g) in
        let edited : IsValidTree (edit (put t f a') dir (λ d. enter now at.name f d)) = subst (λ (n : Node). IsValidTree (put (put t f a') dir (enter now at.name f n))) (sym entered) done in
        subst (λ (n : Node). IsValidTree (edit (put t f (stamp now (add_link n))) dir (λ d. enter now at.name f d))) (sym at_file) edited
