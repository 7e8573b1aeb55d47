-- The attributes of both directories after RENAME.
use Rattle.std.proofs.Common.{◌≡◌, ◌≢◌, ℕ, ◌+◌, ◌≤◌, ◌<◌, ◌^◌, List, Option, Some, None, Ok, Err, refl, sym, ap, subst, ◌∙◌, true, false, cond, arith, length}
use Rattle.std.proofs.Common.{inl, inr}
use Rattle.std.specs.Prelude.{◌⊎◌, ◌==◌, Bool, IfSome, IsSome, option_map}
use Rattle.std.specs.Str.{bytes_eq}
use Rattle.std.proofs.lemmas.Bool.{cases_Bool, eqb-true, eqb-false, false≢true, not-false}
use Rattle.sky_base.specs.Limits.{max_directory_bytes}
use Rattle.sky_base.specs.Listing.{Entry, Listing, fileid_at, size_of_listing, with_entry, without_entry}
use Rattle.sky_base.specs.declared.attr.Attr.{Attr}
use Rattle.sky_base.specs.declared.cred.Cred.{Cred}
use Rattle.sky_base.specs.declared.moment.Moment.{Moment}
use Rattle.sky_dir.proofs.OrderlyLemmas.{find_other}
use Rattle.sky_nfs.specs.declared.answer.RenameResults.{RenameResults}
use Rattle.sky_nfs.specs.declared.answer.WccData.{WccData}
use Rattle.sky_nfs.specs.declared.call.Call.{Call}
use Rattle.sky_nfs.specs.declared.call.DirOpArgs.{DirOpArgs}
use Rattle.sky_nfs.specs.declared.status.NfsStatus.{NfsStatus}
use Rattle.sky_nfs.specs.Changes.{add_link, drop_link, edit, enter, erase, leave, release, remove_name, stamp, unlink, with_parent}
use Rattle.sky_nfs.specs.Handles.{fileid_in, is_handle_of}
use Rattle.sky_nfs.specs.Procedure.{refusal_of, rules_of, tree_after}
use Rattle.sky_nfs.specs.Procedures.Rename.{is_same, move_directory, move_name, rename_rules, renamed}
use Rattle.sky_nfs.specs.Results.{post_attributes, pre_attributes, results_or}
use Rattle.sky_nfs.specs.Tree.{Tree, Node, Content, File, Directory, Link, attributes_at, attributes_of, directory_listing, directory_test, is_directory, kind_of, listing_of, named, node_at, size_of, the_node}
use Rattle.sky_nfs.specs.Validity.{IsValidTree}
use Rattle.sky_nfs.proofs.CreateLemmas.{directory-with_listing, listing-with_listing}
use Rattle.sky_nfs.proofs.KeptLemmas.{passed}
use Rattle.sky_nodes.proofs.MapLemmas.{node_at-without_other}
use Rattle.sky_tree.specs.AttrChanges as attr
use Rattle.sky_tree.proofs.AttrLemmas.{attributes-enter, attributes-leave}
use Rattle.sky_tree.proofs.MakeLemmas.{there_from}
use Rattle.sky_tree.proofs.MovedLemmas.{Moves, Named, moves_as, passed_as, rename_short, stays_as}
use Rattle.sky_tree.proofs.PredictLemmas.{at-edit, beside-edit, stands, the-node}
use Rattle.sky_tree.proofs.PredictRemoveLemmas.{at-remove_name, beside-unlink, volume-remove_name}

-- ---- a directory in a tree: its attributes and its listing

pub record Dir (v : ℕ) (u : Tree) (k : ℕ) (a : Attr) (l : Listing) : Type 0 where
  pub node : Node
  pub at : node_at u.nodes k ≡ Some node
  pub attributes : attributes_of v k node ≡ a
  pub directory : is_directory node ≡ true
  pub listing : listing_of node ≡ l

-- another node is changed
dir_beside : {v : ℕ} {u : Tree} {k : ℕ} {a : Attr} {l : Listing} (j : ℕ) (g : Node → Node) → j ≢ k → Dir v u k a l → Dir v (edit u j g) k a l
dir_beside {v} {u} {k} {a} {l} j g apart d = record { node = d.node; at = beside-edit u j k g apart ∙ d.at; attributes = d.attributes; directory = d.directory; listing = d.listing }

-- it is changed itself
dir_edit : {v : ℕ} {u : Tree} {k : ℕ} {a : Attr} {l : Listing} (g : Node → Node) (b : Attr) (m : Listing) (d : Dir v u k a l) → attributes_of v k (g d.node) ≡ b → is_directory (g d.node) ≡ true → listing_of (g d.node) ≡ m → Dir v (edit u k g) k b m
dir_edit {v} {u} {k} {a} {l} g b m d attributes directory listing =
    record { node = g d.node; at = at-edit u k g ∙ ap (λ (n : Node). Some (g n)) (the-node u k d.node d.at); attributes = attributes; directory = directory; listing = listing }

-- an entry goes
dir_leave : {v : ℕ} {u : Tree} {k : ℕ} {a : Attr} {l : Listing} (now : Moment) (name : List ℕ) (f : ℕ) → fileid_at l name ≡ Some f → Dir v u k a l → Dir v (edit u k (λ d. leave now name d)) k (attr.left name now a) (without_entry l name)
dir_leave {v} {u} {k} {a} {l} now name f found d =
    dir_edit (λ d. leave now name d) (attr.left name now a) (without_entry l name) d
    (attributes-leave v k now name f d.node (ap (λ (l : Listing). fileid_at l name) d.listing ∙ found) ∙ ap (attr.left name now) d.attributes)
    (directory-with_listing (λ l. without_entry l name) d.node.content d.directory)
    (listing-with_listing (λ l. without_entry l name) d.node.content d.directory ∙ ap (λ (l : Listing). without_entry l name) d.listing)

-- an entry comes
dir_enter : {v : ℕ} {u : Tree} {k : ℕ} {a : Attr} {l : Listing} (now : Moment) (name : List ℕ) (f : ℕ) → Dir v u k a l → Dir v (edit u k (λ d. enter now name f d)) k (attr.entered name now a) (with_entry l name f)
dir_enter {v} {u} {k} {a} {l} now name f d =
    dir_edit (λ d. enter now name f d) (attr.entered name now a) (with_entry l name f) d
    (attributes-enter v k now name f d.node d.directory ∙ ap (attr.entered name now) d.attributes)
    (directory-with_listing (λ l. with_entry l name f) d.node.content d.directory)
    (listing-with_listing (λ l. with_entry l name f) d.node.content d.directory ∙ ap (λ (l : Listing). with_entry l name f) d.listing)

-- a link goes, or comes
dir_drop : {v : ℕ} {u : Tree} {k : ℕ} {a : Attr} {l : Listing} → Dir v u k a l → Dir v (edit u k drop_link) k (attr.unlinked a) l
dir_drop {v} {u} {k} {a} {l} d = dir_edit drop_link (attr.unlinked a) l d (ap attr.unlinked d.attributes) d.directory d.listing

dir_add : {v : ℕ} {u : Tree} {k : ℕ} {a : Attr} {l : Listing} → Dir v u k a l → Dir v (edit u k add_link) k (attr.linked a) l
dir_add {v} {u} {k} {a} {l} d = dir_edit add_link (attr.linked a) l d (ap attr.linked d.attributes) d.directory d.listing

-- a change that leaves the attributes, of whichever node
dir_idle : {v : ℕ} {u : Tree} {k : ℕ} {a : Attr} {l : Listing} (j : ℕ) (g : Node → Node) (d : Dir v u k a l) → attributes_of v k (g d.node) ≡ a → is_directory (g d.node) ≡ true → listing_of (g d.node) ≡ l → Dir v (edit u j g) k a l
dir_idle {v} {u} {k} {a} {l} j g d attributes directory listing = go (cases_Bool (j == k))
  where
    go : ((j == k) ≡ true) ⊎ ((j == k) ≡ false) → Dir v (edit u j g) k a l
    go (inl same) = subst (λ (i : ℕ). Dir v (edit u i g) k a l) (sym (eqb-true j k same)) (dir_edit g a l d attributes directory listing)
    go (inr other) = dir_beside j g (eqb-false j k other) d

-- a stamp at a moment of which it is already
dir_stamp : {v : ℕ} {u : Tree} {k : ℕ} {a : Attr} {l : Listing} (now : Moment) (j : ℕ) → a.ctime ≡ now → Dir v u k a l → Dir v (edit u j (λ n. stamp now n)) k a l
dir_stamp {v} {u} {k} {a} {l} now j of_now d =
    dir_idle j (λ n. stamp now n) d (ap (attr.stamped now) d.attributes ∙ ap (λ (m : Moment). record a { ctime = m }) (sym of_now)) d.directory d.listing

-- another parent
parent-same : (c : Content) (p : ℕ) → (kind_of (with_parent p c) ≡ kind_of c) × (size_of (with_parent p c) ≡ size_of c) × (directory_test (with_parent p c) ≡ directory_test c)
parent-same (File bytes) p = (refl, refl, refl)
parent-same (Directory parent listing) p = (refl, refl, refl)
parent-same (Link text) p = (refl, refl, refl)

parent-listing : (n : Node) (p : ℕ) → listing_of (record n { content = with_parent p n.content }) ≡ listing_of n
parent-listing n p = go n.content refl
  where
    go : (c : Content) → n.content ≡ c → listing_of (record n { content = with_parent p n.content }) ≡ listing_of n
    go (File bytes) e = rw e refl
    go (Directory parent listing) e = rw e refl
    go (Link text) e = rw e refl

dir_parent : {v : ℕ} {u : Tree} {k : ℕ} {a : Attr} {l : Listing} (j p : ℕ) → Dir v u k a l → Dir v (edit u j (λ n. record n { content = with_parent p n.content })) k a l
dir_parent {v} {u} {k} {a} {l} j p d =
    let same = parent-same d.node.content p in
    let kept : attributes_of v k (record d.node { content = with_parent p d.node.content }) ≡ attributes_of v k d.node = rw (same.0, same.1) refl in
    dir_idle j (λ n. record n { content = with_parent p n.content }) d (kept ∙ d.attributes) (same.2 ∙ d.directory) (parent-listing d.node p ∙ d.listing)

-- ---- a name that is made free

beside-release : (t : Tree) (now : Moment) (dir f j : ℕ) → f ≢ j → dir ≢ j → node_at (release t now dir f).nodes j ≡ node_at t.nodes j
beside-release t now dir f j apart other = go (is_directory (the_node t f))
  where
    go : (b : Bool) → node_at (cond b (edit (erase t f) dir drop_link) (unlink t now f)).nodes j ≡ node_at t.nodes j
    go true = beside-edit (erase t f) dir j drop_link other ∙ node_at-without_other t.nodes f j apart
    go false = beside-unlink t now f j apart

-- another directory stays
beside-remove_name : (t : Tree) (now : Moment) (dir : ℕ) (name : List ℕ) (j : ℕ) → IfSome (named t dir name) (λ g. g ≢ j) → dir ≢ j → node_at (remove_name t now dir name).nodes j ≡ node_at t.nodes j
beside-remove_name t now dir name j apart other = go (named t dir name) refl apart
  where
    go : (o : Option ℕ) → named t dir name ≡ o → IfSome o (λ g. g ≢ j) → node_at (remove_name t now dir name).nodes j ≡ node_at t.nodes j
    go None e away = rw e refl
    go (Some g) e away = rw e (beside-release (edit t dir (λ d. leave now name d)) now dir g j away other ∙ beside-edit t dir j (λ d. leave now name d) other)

-- the listing without a name, if it was there
abbrev pub freed : Option ℕ → List ℕ → Listing → Listing
freed None name l = l
freed (Some g) name l = without_entry l name

-- a directory of which one more goes, or not
unlinked_where : (v k : ℕ) (b : Bool) (n : Node) (a : Attr) → attributes_of v k n ≡ a → attributes_of v k (cond b (drop_link n) n) ≡ cond b (attr.unlinked a) a
unlinked_where v k true n a h = ap attr.unlinked h
unlinked_where v k false n a h = h

directory_where : (b : Bool) (n : Node) → is_directory (cond b (drop_link n) n) ≡ is_directory n
directory_where true n = refl
directory_where false n = refl

listing_where : (b : Bool) (n : Node) → listing_of (cond b (drop_link n) n) ≡ listing_of n
listing_where true n = refl
listing_where false n = refl

-- the directory itself
dir_cleared : (t : Tree) (now : Moment) (dir : ℕ) (name : List ℕ) → is_directory (the_node t dir) ≡ true → IsSome (node_at t.nodes dir) → IfSome (named t dir name) (λ g. g ≢ dir)
    → Dir t.volume (remove_name t now dir name) dir (attr.cleared (option_map (λ f. is_directory (the_node t f)) (named t dir name)) name now (attributes_at t dir)) (freed (named t dir name) name (listing_of (the_node t dir)))
dir_cleared t now dir name directory there apart = go (named t dir name) refl apart
  where
    d : Node
    d = the_node t dir

    go : (o : Option ℕ) → named t dir name ≡ o → IfSome o (λ g. g ≢ dir) → Dir t.volume (remove_name t now dir name) dir (attr.cleared (option_map (λ f. is_directory (the_node t f)) o) name now (attributes_at t dir)) (freed o name (listing_of (the_node t dir)))
    go None e away = rw e (as_it_was (node_at t.nodes dir) refl there)
      where
        as_it_was : (o : Option Node) → node_at t.nodes dir ≡ o → IsSome o → Dir t.volume t dir (attributes_at t dir) (listing_of d)
        as_it_was None e here = absurd (false≢true here)
        as_it_was (Some n) e here =
            let is : n ≡ d = sym (the-node t dir n e) in
            record { node = n; at = e; attributes = ap (λ (m : Node). attributes_of t.volume dir m) is; directory = ap is_directory is ∙ directory; listing = ap listing_of is }
    go (Some g) e away =
        let kind : Bool = is_directory (the_node t g) in
        let gone : Node = leave now name d in
        let left : attributes_of t.volume dir gone ≡ attr.left name now (attributes_at t dir) = attributes-leave t.volume dir now name g d e in
        let is : is_directory gone ≡ true = directory-with_listing (λ l. without_entry l name) d.content directory in
        let rest : listing_of gone ≡ without_entry (listing_of d) name = listing-with_listing (λ l. without_entry l name) d.content directory in
        record {
          node = cond kind (drop_link gone) gone;
          at = at-remove_name t now dir name g e away;
          attributes = unlinked_where t.volume dir kind gone (attr.left name now (attributes_at t dir)) left;
          directory = directory_where kind gone ∙ is;
          listing = listing_where kind gone ∙ rest;
        }

-- another directory, as it was
dir_there : (t : Tree) (u : Tree) (k : ℕ) → is_directory (the_node t k) ≡ true → IsSome (node_at t.nodes k) → node_at u.nodes k ≡ node_at t.nodes k → Dir t.volume u k (attributes_at t k) (listing_of (the_node t k))
dir_there t u k directory there same = go (node_at t.nodes k) refl there
  where
    go : (o : Option Node) → node_at t.nodes k ≡ o → IsSome o → Dir t.volume u k (attributes_at t k) (listing_of (the_node t k))
    go None e here = absurd (false≢true here)
    go (Some n) e here =
        let is : n ≡ the_node t k = sym (the-node t k n e) in
        record { node = n; at = same ∙ e; attributes = ap (λ (m : Node). attributes_of t.volume k m) is; directory = ap is_directory is ∙ directory; listing = ap listing_of is }

-- ---- a name that moves

-- the steps after the entry moved, where a directory leaves one directory and comes into another one
finish_from : {v : ℕ} {u : Tree} {a : Attr} {l : Listing} (now : Moment) (from to f : ℕ) (b : Bool) → to ≢ from → a.ctime ≡ now → Dir v u from a l
    → Dir v (cond b (move_directory (edit u f (λ n. stamp now n)) from to f) (edit u f (λ n. stamp now n))) from (cond b (attr.unlinked a) a) l
finish_from {v} {u} {a} {l} now from to f true apart of_now d = dir_beside to add_link apart (dir_drop (dir_parent f to (dir_stamp now f of_now d)))
finish_from {v} {u} {a} {l} now from to f false apart of_now d = dir_stamp now f of_now d

finish_to : {v : ℕ} {u : Tree} {a : Attr} {l : Listing} (now : Moment) (from to f : ℕ) (b : Bool) → from ≢ to → a.ctime ≡ now → Dir v u to a l
    → Dir v (cond b (move_directory (edit u f (λ n. stamp now n)) from to f) (edit u f (λ n. stamp now n))) to (cond b (attr.linked a) a) l
finish_to {v} {u} {a} {l} now from to f true apart of_now d = dir_add (dir_beside from drop_link apart (dir_parent f to (dir_stamp now f of_now d)))
finish_to {v} {u} {a} {l} now from to f false apart of_now d = dir_stamp now f of_now d

-- and where it stays in one
finish_within : {v : ℕ} {u : Tree} {a : Attr} {l : Listing} (now : Moment) (dir f : ℕ) (b : Bool) → a.ctime ≡ now → Dir v u dir a l
    → Dir v (cond b (move_directory (edit u f (λ n. stamp now n)) dir dir f) (edit u f (λ n. stamp now n))) dir (cond b (attr.linked (attr.unlinked a)) a) l
finish_within {v} {u} {a} {l} now dir f true of_now d = dir_add (dir_drop (dir_parent f dir (dir_stamp now f of_now d)))
finish_within {v} {u} {a} {l} now dir f false of_now d = dir_stamp now f of_now d

-- the attributes of the new directory once the new name is free there
abbrev pub free_attr : Tree → ℕ → List ℕ → Moment → Attr
free_attr t dir name now = attr.cleared (option_map (λ f. is_directory (the_node t f)) (named t dir name)) name now (attributes_at t dir)

away_from : (o : Option ℕ) (to from f : ℕ) → IfSome o (λ old. (old ≢ to) × (old ≢ from) × (old ≢ f)) → IfSome o (λ g. g ≢ from)
away_from None to from f h = tt
away_from (Some g) to from f h = h.1

away_to : (o : Option ℕ) (to from f : ℕ) → IfSome o (λ old. (old ≢ to) × (old ≢ from) × (old ≢ f)) → IfSome o (λ g. g ≢ to)
away_to None to from f h = tt
away_to (Some g) to from f h = h.0

-- the old name is found in a listing in which the new one was made free
still_found : (o : Option ℕ) (l : Listing) (gone name : List ℕ) (f : ℕ) → bytes_eq gone name ≡ false → fileid_at l name ≡ Some f → fileid_at (freed o gone l) name ≡ Some f
still_found None l gone name f apart found = found
still_found (Some g) l gone name f apart found = ap (option_map (λ (e : Entry). e.fileid)) (find_other gone name l.entries apart) ∙ found

module _ (t : Tree) (now : Moment) (from : ℕ) (from_name : List ℕ) (to : ℕ) (to_name : List ℕ) (f : ℕ) (m : Moves t from from_name to to_name f) (from_is : is_directory (the_node t from) ≡ true) (to_is : is_directory (the_node t to) ≡ true) (found : named t from from_name ≡ Some f) where
  abbrev pub after : Tree
  after = move_name t now from from_name to to_name f

  abbrev pub kind : Bool
  kind = is_directory (the_node t f)

  free_to : Dir t.volume (remove_name t now to to_name) to (free_attr t to to_name now) (freed (named t to to_name) to_name (listing_of (the_node t to)))
  free_to = dir_cleared t now to to_name to_is m.target (away_to (named t to to_name) to from f m.apart)

  -- from one directory to another one
  pub moved_from : from ≢ to → Dir t.volume (move_name t now from from_name to to_name f) from (attr.went (is_directory (the_node t f)) from_name now (attributes_at t from)) (without_entry (listing_of (the_node t from)) from_name)
  moved_from differ =
      let c : Tree = remove_name t now to to_name in
      let apart : to ≢ from = λ e. differ (sym e) in
      let stood = dir_there t c from from_is m.source (beside-remove_name t now to to_name from (away_from (named t to to_name) to from f m.apart) apart) in
      let gone = dir_leave now from_name f found stood in
      finish_from now from to f (is_directory (the_node t f)) apart refl (dir_beside to (λ d. enter now to_name f d) apart gone)

  pub moved_to : from ≢ to → Dir t.volume (move_name t now from from_name to to_name f) to (attr.came (is_directory (the_node t f)) to_name now (free_attr t to to_name now)) (with_entry (freed (named t to to_name) to_name (listing_of (the_node t to))) to_name f)
  moved_to differ =
      finish_to now from to f (is_directory (the_node t f)) differ refl (dir_enter now to_name f (dir_beside from (λ d. leave now from_name d) differ free_to))

-- within one directory
moved_one : (t : Tree) (now : Moment) (dir : ℕ) (from_name to_name : List ℕ) (f : ℕ) → Moves t dir from_name dir to_name f → is_directory (the_node t dir) ≡ true → named t dir from_name ≡ Some f
    → Dir t.volume (move_name t now dir from_name dir to_name f) dir (attr.came (is_directory (the_node t f)) to_name now (attr.went (is_directory (the_node t f)) from_name now (free_attr t dir to_name now))) (with_entry (without_entry (freed (named t dir to_name) to_name (listing_of (the_node t dir))) from_name) to_name f)
moved_one t now dir from_name to_name f m is found =
    let free = dir_cleared t now dir to_name is m.target (away_to (named t dir to_name) dir dir f m.apart) in
    let there : fileid_at (freed (named t dir to_name) to_name (listing_of (the_node t dir))) from_name ≡ Some f = still_found (named t dir to_name) (listing_of (the_node t dir)) to_name from_name f (m.differ refl) found in
    let whole = finish_within now dir f (is_directory (the_node t f)) refl (dir_enter now to_name f (dir_leave now from_name f there free)) in
    record { node = whole.node; at = whole.at; attributes = whole.attributes ∙ in_order (is_directory (the_node t f)) (free_attr t dir to_name now); directory = whole.directory; listing = whole.listing }
  where
    -- the links may be counted before the entry comes
    in_order : (b : Bool) (a : Attr) → cond b (attr.linked (attr.unlinked (attr.entered to_name now (attr.left from_name now a)))) (attr.entered to_name now (attr.left from_name now a)) ≡ attr.came b to_name now (attr.went b from_name now a)
    in_order true a = refl
    in_order false a = refl

pub moved_within : (t : Tree) (now : Moment) (from : ℕ) (from_name : List ℕ) (to : ℕ) (to_name : List ℕ) (f : ℕ) → Moves t from from_name to to_name f → is_directory (the_node t to) ≡ true → named t from from_name ≡ Some f → from ≡ to
    → Dir t.volume (move_name t now from from_name to to_name f) to (attr.came (is_directory (the_node t f)) to_name now (attr.went (is_directory (the_node t f)) from_name now (free_attr t to to_name now))) (with_entry (without_entry (freed (named t to to_name) to_name (listing_of (the_node t to))) from_name) to_name f)
moved_within t now from from_name to to_name f m is found same =
    let n : Moves t to from_name to to_name f = subst (λ (k : ℕ). Moves t k from_name to to_name f) same m in
    let here : named t to from_name ≡ Some f = subst (λ (k : ℕ). named t k from_name ≡ Some f) same found in
    subst (λ (k : ℕ). Dir t.volume (move_name t now k from_name to to_name f) to (attr.came (is_directory (the_node t f)) to_name now (attr.went (is_directory (the_node t f)) from_name now (free_attr t to to_name now))) (with_entry (without_entry (freed (named t to to_name) to_name (listing_of (the_node t to))) from_name) to_name f)) (sym same)
    (moved_one t now to from_name to_name f n is here)

volume-move_name : (t : Tree) (now : Moment) (from : ℕ) (from_name : List ℕ) (to : ℕ) (to_name : List ℕ) (f : ℕ) → (move_name t now from from_name to to_name f).volume ≡ t.volume
volume-move_name t now from from_name to to_name f = either (edit (edit (edit (remove_name t now to to_name) from (λ d. leave now from_name d)) to (λ d. enter now to_name f d)) f (λ n. stamp now n)) (is_directory (the_node t f)) ∙ volume-remove_name t now to to_name
  where
    either : (u : Tree) (b : Bool) → (cond b (move_directory u from to f) u).volume ≡ u.volume
    either u true = refl
    either u false = refl

-- what a handle of such a directory tells
pub dir_stands : (t u : Tree) (fh : List ℕ) (k : ℕ) (a : Attr) (l : Listing) → u.volume ≡ t.volume → is_handle_of t.volume fh ≡ true → k ≡ fileid_in fh → Dir t.volume u k a l → post_attributes u fh ≡ Some a
dir_stands t u fh k a l volume handle is d =
    let e : Dir t.volume u (fileid_in fh) a l = subst (λ (j : ℕ). Dir t.volume u j a l) is d in
    stands u fh e.node a (rw volume handle) e.at (ap (λ (x : ℕ). attributes_of x (fileid_in fh) e.node) volume ∙ e.attributes)

-- ---- sizes

pub record Below (a b : Attr) : Type 0 where
  pub size : a.size ≤ b.size
  pub links : a.nlink ≤ b.nlink

below_went : (is : Bool) (name : List ℕ) (now : Moment) (a : Attr) → Below (attr.went is name now a) a
below_went true name now a = record { size = omega arith; links = omega arith }
below_went false name now a = record { size = omega arith; links = omega arith }

pub below_cleared : (target : Option Bool) (name : List ℕ) (now : Moment) (a : Attr) → Below (attr.cleared target name now a) a
below_cleared None name now a = record { size = omega arith; links = omega arith }
below_cleared (Some is) name now a = below_went is name now a

pub below_both : (is : Bool) (name : List ℕ) (now : Moment) (a b : Attr) → Below a b → Below (attr.went is name now a) b
below_both is name now a b low = let more = below_went is name now a in record { size = omega arith; links = omega arith }

pub size_fits : (t : Tree) (to : ℕ) (name : List ℕ) (a b : Attr) → Below a b → b ≡ attributes_at t to → is_directory (the_node t to) ≡ true → size_of_listing (listing_of (the_node t to)) ≤ max_directory_bytes → length name ≤ 255 → a.size + 18 + length name < 2 ^ 64
size_fits t to name a b low is directory within short =
    let same : b.size ≡ size_of (the_node t to).content = ap (λ (x : Attr). x.size) is in
    let size : size_of (the_node t to).content ≡ size_of_listing (listing_of (the_node t to)) = of_directory (the_node t to).content directory in
    let below = low.size in
    omega arith
  where
    of_directory : (c : Content) → directory_test c ≡ true → size_of c ≡ size_of_listing (directory_listing c)
    of_directory (File bytes) d = absurd (false≢true d)
    of_directory (Directory parent listing) d = refl
    of_directory (Link text) d = absurd (false≢true d)

pub links_below : (t : Tree) (to : ℕ) (a b : Attr) → Below a b → b ≡ attributes_at t to → (the_node t to).nlink + 1 < 2 ^ 32 → a.nlink + 1 < 2 ^ 32
links_below t to a b low is fits =
    let same : b.nlink ≡ (the_node t to).nlink = ap (λ (x : Attr). x.nlink) is in
    let below = low.links in
    omega arith

-- ---- the answer

pub record RenameKnown (t : Tree) (at to_at : DirOpArgs) : Type 0 where
  pub from_handle : is_handle_of t.volume at.directory ≡ true
  pub to_handle : is_handle_of t.volume to_at.directory ≡ true
  pub from_directory : is_directory (the_node t (fileid_in at.directory)) ≡ true
  pub to_directory : is_directory (the_node t (fileid_in to_at.directory)) ≡ true
  pub there : IsSome (node_at t.nodes (fileid_in to_at.directory))

pub rename_known : (t : Tree) (cred : Cred) (at to_at : DirOpArgs) → refusal_of t cred (Call.Rename at to_at) ≡ None → RenameKnown t at to_at
unfolding refusal_of rules_of
rename_known t cred at to_at none =
    let p = passed (rename_rules t cred at to_at) none in
    record {
      from_handle = not-false (is_handle_of t.volume at.directory) p.0;
      to_handle = not-false (is_handle_of t.volume to_at.directory) p.1.1.0;
      from_directory = not-false (is_directory (the_node t (fileid_in at.directory))) p.1.1.1.1.0;
      to_directory = not-false (is_directory (the_node t (fileid_in to_at.directory))) p.1.1.1.1.1.0;
      there = there_from (node_at t.nodes (fileid_in to_at.directory)) p.1.1.1.0;
    }

pub done_rename : (t u : Tree) (at to_at : DirOpArgs) (r : Option NfsStatus) (from to : WccData) (a b : Attr) → None ≡ r → from ≡ record { before = pre_attributes t at.directory; after = Some a } → to ≡ record { before = pre_attributes t to_at.directory; after = Some b }
    → post_attributes u at.directory ≡ Some a → post_attributes u to_at.directory ≡ Some b → Ok (record { from = from; to = to }) ≡ results_or r (renamed t u at to_at) (renamed t u at to_at)
done_rename t u at to_at r from to a b none from_is to_is from_after to_after = rw (sym none, from_after, to_after, from_is, to_is) refl

pub unmoved_rename : (t u : Tree) (at to_at : DirOpArgs) (r : Option NfsStatus) (results : RenameResults) → None ≡ r → u ≡ t → results ≡ renamed t t at to_at → Ok results ≡ results_or r (renamed t u at to_at) (renamed t u at to_at)
unmoved_rename t u at to_at r results none same is = rw (sym none, same) (ap (λ (x : RenameResults). Ok x) is)

pub refused_rename : (t u : Tree) (at to_at : DirOpArgs) (r : Option NfsStatus) (status : NfsStatus) (results : RenameResults) → Some status ≡ r → u ≡ t → results ≡ renamed t t at to_at
    → Err (record { status = status; attributes = results }) ≡ results_or r (renamed t u at to_at) (renamed t u at to_at)
refused_rename t u at to_at r status results some same is = rw (sym some, same, is) refl

-- what is known where a name moves, by the fileids and the names as the code has them
pub record Moving (t : Tree) (at to_at : DirOpArgs) (from : ℕ) (old : List ℕ) (to : ℕ) (new : List ℕ) (f : ℕ) (after : Moment → Tree) : Type 0 where
  pub known : RenameKnown t at to_at
  pub from_is : from ≡ fileid_in at.directory
  pub to_is : to ≡ fileid_in to_at.directory
  pub moves : Moves t from old to new f
  pub from_directory : is_directory (the_node t from) ≡ true
  pub to_directory : is_directory (the_node t to) ≡ true
  pub found : named t from old ≡ Some f
  pub short : length new ≤ 255
  pub tree : (now : Moment) → move_name t now from old to new f ≡ after now

pub moving : (t : Tree) (cred : Cred) (at to_at : DirOpArgs) (from : ℕ) (old : List ℕ) (to : ℕ) (new : List ℕ) (f : ℕ) → IsValidTree t → None ≡ refusal_of t cred (Call.Rename at to_at) → from ≡ fileid_in at.directory → to ≡ fileid_in to_at.directory → old ≡ at.name → new ≡ to_at.name
    → named t from at.name ≡ Some f → (same : Bool) → same ≡ is_same (Some f) (named t to new) → same ≡ false → Moving t at to_at from old to new f (λ now. tree_after t cred (Call.Rename at to_at) now)
moving t cred at to_at from old to new f v none from_is to_is old_is new_is found same same_is differ =
    let k = rename_known t cred at to_at (sym none) in
    let n : Named t at to_at from old to new f = record { from_is = from_is; from_name_is = old_is; to_is = to_is; to_name_is = new_is; found = found } in
    let other : is_same (Some f) (named t to new) ≡ false = sym same_is ∙ differ in
    record {
      known = k;
      from_is = from_is;
      to_is = to_is;
      moves = passed_as t cred at to_at from old to new f (sym none) n v other;
      from_directory = rw from_is k.from_directory;
      to_directory = rw to_is k.to_directory;
      found = rw old_is found;
      short = rw new_is (rename_short t cred at to_at (sym none));
      tree = λ now. moves_as t cred at to_at from old to new f (sym none) n now other;
    }

-- where the names stand for one node
pub rename_same : (t : Tree) (cred : Cred) (at to_at : DirOpArgs) (from : ℕ) (old : List ℕ) (to : ℕ) (new : List ℕ) (f : ℕ) (now : Moment) → None ≡ refusal_of t cred (Call.Rename at to_at) → from ≡ fileid_in at.directory → to ≡ fileid_in to_at.directory → old ≡ at.name → new ≡ to_at.name
    → named t from at.name ≡ Some f → (same : Bool) → same ≡ is_same (Some f) (named t to new) → same ≡ true → tree_after t cred (Call.Rename at to_at) now ≡ t
rename_same t cred at to_at from old to new f now none from_is to_is old_is new_is found same same_is is =
    let n : Named t at to_at from old to new f = record { from_is = from_is; from_name_is = old_is; to_is = to_is; to_name_is = new_is; found = found } in
    sym (stays_as t cred at to_at from old to new f (sym none) n now (sym same_is ∙ is))

pub below_free : (free a : Attr) (target : Option Bool) (name : List ℕ) (now : Moment) → free ≡ attr.cleared target name now a → Below free a
below_free free a target name now is = subst (λ (x : Attr). Below x a) (sym is) (below_cleared target name now a)

pub below_gone : (gone free a : Attr) (is : Bool) (name : List ℕ) (now : Moment) → gone ≡ attr.went is name now free → Below free a → Below gone a
below_gone gone free a is name now gone_is low = subst (λ (x : Attr). Below x a) (sym gone_is) (below_both is name now free a low)

-- the attributes as the code has them
pub free_as : (t : Tree) (to : ℕ) (new : List ℕ) (now : Moment) (free a : Attr) (target : Option Bool) → free ≡ attr.cleared target new now a → target ≡ option_map (λ f. is_directory (the_node t f)) (named t to new) → a ≡ attributes_at t to → free ≡ free_attr t to new now
free_as t to new now free a target free_is target_is a_is =
    free_is ∙ ap (λ (o : Option Bool). attr.cleared o new now a) target_is ∙ ap (λ (x : Attr). attr.cleared (option_map (λ f. is_directory (the_node t f)) (named t to new)) new now x) a_is

module _ (t : Tree) (at to_at : DirOpArgs) (from : ℕ) (old : List ℕ) (to : ℕ) (new : List ℕ) (f : ℕ) (after : Moment → Tree) (m : Moving t at to_at from old to new f after) (now : Moment) (r : Option NfsStatus) (none : None ≡ r) (kind : Bool) (kind_is : kind ≡ is_directory (the_node t f)) (free : Attr) (free_is : free ≡ free_attr t to new now) where
  -- within one directory
  pub done_within : (gone both : Attr) (wf wt : WccData) → from ≡ to → gone ≡ attr.went kind old now free → both ≡ attr.came kind new now gone → wf ≡ record { before = pre_attributes t at.directory; after = Some both } → wt ≡ record { before = pre_attributes t to_at.directory; after = Some both }
      → Ok (record { from = wf; to = wt }) ≡ results_or r (renamed t (after now) at to_at) (renamed t (after now) at to_at)
  done_within gone both wf wt same gone_is both_is wf_is wt_is =
      let b : Bool = is_directory (the_node t f) in
      let whole : both ≡ attr.came b new now (attr.went b old now (free_attr t to new now)) =
      both_is ∙ ap (attr.came kind new now) gone_is ∙ ap (λ (a : Attr). attr.came kind new now (attr.went kind old now a)) free_is ∙ ap (λ (k : Bool). attr.came k new now (attr.went k old now (free_attr t to new now))) kind_is in
      let d = moved_within t now from old to new f m.moves m.to_directory m.found same in
      let move : Tree = move_name t now from old to new f in
      let of : (fh : List ℕ) → is_handle_of t.volume fh ≡ true → to ≡ fileid_in fh → post_attributes (after now) fh ≡ Some both = λ fh handle is.
      ap (λ (u : Tree). post_attributes u fh) (sym (m.tree now)) ∙ dir_stands t move fh to (attr.came b new now (attr.went b old now (free_attr t to new now))) (with_entry (without_entry (freed (named t to new) new (listing_of (the_node t to))) old) new f) (volume-move_name t now from old to new f) handle is d
      ∙ ap (λ (a : Attr). Some a) (sym whole) in
      done_rename t (after now) at to_at r wf wt both both none wf_is wt_is (of at.directory m.known.from_handle (sym same ∙ m.from_is)) (of to_at.directory m.known.to_handle m.to_is)

  -- from one to another one
  pub done_across : (source gone came : Attr) (wf wt : WccData) → from ≢ to → source ≡ attributes_at t from → gone ≡ attr.went kind old now source → came ≡ attr.came kind new now free → wf ≡ record { before = pre_attributes t at.directory; after = Some gone } → wt ≡ record { before = pre_attributes t to_at.directory; after = Some came }
      → Ok (record { from = wf; to = wt }) ≡ results_or r (renamed t (after now) at to_at) (renamed t (after now) at to_at)
  done_across source gone came wf wt differ source_is gone_is came_is wf_is wt_is =
      let b : Bool = is_directory (the_node t f) in
      let move : Tree = move_name t now from old to new f in
      let left : gone ≡ attr.went b old now (attributes_at t from) = gone_is ∙ ap (attr.went kind old now) source_is ∙ ap (λ (k : Bool). attr.went k old now (attributes_at t from)) kind_is in
      let entered : came ≡ attr.came b new now (free_attr t to new now) = came_is ∙ ap (attr.came kind new now) free_is ∙ ap (λ (k : Bool). attr.came k new now (free_attr t to new now)) kind_is in
      let from_after : post_attributes (after now) at.directory ≡ Some gone =
      ap (λ (u : Tree). post_attributes u at.directory) (sym (m.tree now))
      ∙ dir_stands t move at.directory from (attr.went b old now (attributes_at t from)) (without_entry (listing_of (the_node t from)) old) (volume-move_name t now from old to new f) m.known.from_handle m.from_is (moved_from t now from old to new f m.moves m.from_directory m.to_directory m.found differ)
      ∙ ap (λ (a : Attr). Some a) (sym left) in
      let to_after : post_attributes (after now) to_at.directory ≡ Some came =
      ap (λ (u : Tree). post_attributes u to_at.directory) (sym (m.tree now))
      ∙ dir_stands t move to_at.directory to (attr.came b new now (free_attr t to new now)) (with_entry (freed (named t to new) new (listing_of (the_node t to))) new f) (volume-move_name t now from old to new f) m.known.to_handle m.to_is (moved_to t now from old to new f m.moves m.from_directory m.to_directory m.found differ)
      ∙ ap (λ (a : Attr). Some a) (sym entered) in
      done_rename t (after now) at to_at r wf wt gone came none wf_is wt_is from_after to_after
