-- What is known where a procedure that makes an object isn't refused.
use Rattle.std.proofs.Common.{◌≡◌, ℕ, ◌+◌, ◌*◌, ◌≤◌, ◌<◌, ◌^◌, List, [], ◌∷◌, Option, Some, None, refl, sym, ap, ◌∙◌, true, false, arith, length}
use Rattle.std.specs.Prelude.{Bool, IsSome, not, is_some, unwrap_or, nat_lt, nat_le, ◌==◌, ◌||◌, sum_by}
use Rattle.std.proofs.lemmas.Bool.{ltb-false, leb-false, leb-true, eqb-true, ltb-true, and_parts, eq-eqb}
use Rattle.std.proofs.lemmas.List.Sums.{count_by-le-length, sum_by-cons}
use Rattle.sky_base.specs.Limits.{max_name_bytes, max_directory_bytes, max_links, max_fileid}
use Rattle.sky_base.specs.Listing.{Entry, fileid_at, new_listing, size_of_listing, size_of_name}
use Rattle.sky_base.specs.declared.cred.Cred.{Cred}
use Rattle.sky_base.specs.declared.moment.Moment.{Moment}
use Rattle.sky_dir.specs.Rows.{is_crowded}
use Rattle.sky_nfs.specs.declared.call.Call.{Call}
use Rattle.sky_nfs.specs.declared.call.DirOpArgs.{DirOpArgs}
use Rattle.sky_nfs.specs.declared.call.SetAttr.{SetAttr}
use Rattle.sky_nfs.specs.Changes.{add_link, add_node, edit, enter, new_node}
use Rattle.sky_nfs.specs.Handles.{fileid_in}
use Rattle.sky_nfs.specs.Procedure.{refusal_of, rules_of, tree_after, changed_tree}
use Rattle.sky_nfs.specs.Procedures.Mkdir.{mkdir_rules, symlink_rules}
use Rattle.sky_nfs.specs.Rules.{new_room_rules}
use Rattle.sky_nfs.specs.Tree.{Tree, Node, Content, File, Directory, Link, directory_listing, node_at, with_node, the_node, no_node, is_directory, listing_of, named, links_of, subdirectories}
use Rattle.sky_nfs.specs.Validity.{IsValidTree, is_within}
use Rattle.sky_nfs.proofs.KeptLemmas.{AllPassed, passed}
use Rattle.sky_nfs.proofs.CreateLemmas.{none_of}
use Rattle.sky_nfs.proofs.GrowLemmas.{nodes_below, node_at-with_node}
use Rattle.sky_nfs.proofs.ProcedureLemmas.{tree_after-done}
use Rattle.sky_nfs.proofs.ValidityLemmas.{each-node_at}
use Rattle.sky_nodes.proofs.MapLemmas.{node_at-with_other, apart}

-- a directory that may get a new node under a name
pub record Makes (t : Tree) (dir : ℕ) (name : List ℕ) : Type 0 where
  pub there : IsSome (node_at t.nodes dir)
  pub fits : t.next_fileid + 1 < 2 ^ 64
  pub new : node_at t.nodes t.next_fileid ≡ None
  pub absent : fileid_at (listing_of (the_node t dir)) name ≡ None
  pub room : is_crowded (listing_of (the_node t dir)) name ≡ false
  pub short : length name ≤ 255

pub there_from : (o : Option Node) → not (is_some o) ≡ false → IsSome o
there_from None e = absurd (cc)
there_from (Some a) e = refl

-- no node stands at the next fileid
pub next_is_free : (t : Tree) → IsValidTree t → node_at t.nodes t.next_fileid ≡ None
next_is_free t v = go (node_at t.nodes t.next_fileid) refl
  where
    go : (o : Option Node) → node_at t.nodes t.next_fileid ≡ o → o ≡ None
    go None e = refl
    go (Some n) e =
        let below : t.next_fileid < t.next_fileid = ltb-true t.next_fileid t.next_fileid (each-node_at (λ k n. nat_lt k t.next_fileid) t.nodes t.next_fileid n (nodes_below t.next_fileid t.nodes v.fileids) e) in
        absurd (omega arith)

pub makes : (t : Tree) (dir : ℕ) (name : List ℕ) → IsValidTree t → not (is_some (node_at t.nodes dir)) ≡ false → is_some (named t dir name) ≡ false → nat_lt max_name_bytes (length name) ≡ false → AllPassed (new_room_rules t dir name) → Makes t dir name
makes t dir name v there free short room =
    let low : t.next_fileid < max_fileid = leb-false max_fileid t.next_fileid room.1.0 in
    record {
      there = there_from (node_at t.nodes dir) there;
      fits = omega arith;
      new = next_is_free t v;
      absent = none_of (named t dir name) free;
      room = rw (room.1.1.0, room.1.1.1.0) refl;
      short = ltb-false max_name_bytes (length name) short;
    }

pub mkdir_passed : (t : Tree) (cred : Cred) (at : DirOpArgs) (set : SetAttr) → IsValidTree t → refusal_of t cred (Call.Mkdir at set) ≡ None → Makes t (fileid_in at.directory) at.name
unfolding refusal_of rules_of
mkdir_passed t cred at set v none =
    let p = passed (mkdir_rules t cred at set) none in
    makes t (fileid_in at.directory) at.name v p.1.0 p.1.1.1.1.1.1.1.0 p.1.1.1.0 p.1.1.1.1.1.1.1.1.1.1.1

pub symlink_passed : (t : Tree) (cred : Cred) (at : DirOpArgs) (set : SetAttr) (text : List ℕ) → IsValidTree t → refusal_of t cred (Call.Symlink at set text) ≡ None → Makes t (fileid_in at.directory) at.name
unfolding refusal_of rules_of
symlink_passed t cred at set text v none =
    let p = passed (symlink_rules t cred at set text) none in
    makes t (fileid_in at.directory) at.name v p.1.0 p.1.1.1.1.1.1.1.1.1.0 p.1.1.1.0 p.1.1.1.1.1.1.1.1.1.1.1.1.1

-- the directory after a node was added to it
pub added_dir : (t : Tree) (now : Moment) (dir : ℕ) (name : List ℕ) (node : Node) → Makes t dir name → node_at (add_node t now dir name node).nodes dir ≡ Some (enter now name t.next_fileid (the_node t dir))
added_dir t now dir name node m =
    let ms : List (ℕ × Node) = with_node t.nodes t.next_fileid node in
    let same : node_at ms dir ≡ node_at t.nodes dir = node_at-with_other t.nodes t.next_fileid node dir (apart t.nodes t.next_fileid dir m.new m.there) in
    node_at-put ms dir (enter now name t.next_fileid (unwrap_or (node_at ms dir) no_node))
    ∙ ap (λ (o : Option Node). Some (enter now name t.next_fileid (unwrap_or o no_node))) same
  where
    node_at-put : (ns : List (ℕ × Node)) (k : ℕ) (n : Node) → node_at (with_node ns k n) k ≡ Some n
    node_at-put ns k n = rw (node_at-with_node ns k n k, eq-eqb k k refl) refl

-- each entry adds at least 18 bytes to the size of its directory
sized : (es : List Entry) → 18 * length es ≤ sum_by (λ e. size_of_name e.name) es
sized [] = omega arith
sized (e ∷ es) = let rest = sized es in let sum : sum_by (λ (e : Entry). size_of_name e.name) (e ∷ es) ≡ size_of_name e.name + sum_by (λ (e : Entry). size_of_name e.name) es = sum_by-cons _ e es in omega arith

pub size_within : (c : Content) → is_within c ≡ true → size_of_listing (directory_listing c) ≤ max_directory_bytes
size_within (File bytes) h = omega arith
size_within (Directory parent listing) h = leb-true _ _ (and_parts _ _ (and_parts _ _ h).0).0
size_within (Link text) h = omega arith

-- a tree's links are few
pub links_fit : (t : Tree) (k : ℕ) → IsValidTree t → (the_node t k).nlink + 1 < 2 ^ 32
links_fit t k v = go (node_at t.nodes k) refl
  where
    few : (n : Node) → node_at t.nodes k ≡ Some n → (b : Bool) → is_directory n ≡ b → n.nlink + 1 < 2 ^ 32
    few n at true is =
        let links : n.nlink ≡ links_of t k n = eqb-true _ _ (each-node_at (λ k n. n.nlink == links_of t k n) t.nodes k n v.links at) in
        let those : links_of t k n ≡ 2 + subdirectories t n = rw is refl in
        let within : size_of_listing (listing_of n) ≤ max_directory_bytes = size_within n.content (each-node_at (λ k n. is_within n.content) t.nodes k n v.contents_within at) in
        let size = sized (listing_of n).entries in
        let count = count_by-le-length (λ (e : Entry). is_directory (the_node t e.fileid)) (listing_of n).entries in
        omega (arith, links, those, within, size, count)
    few n at false is =
        let most : (is_directory n || nat_le n.nlink max_links) ≡ true = each-node_at (λ k n. is_directory n || nat_le n.nlink max_links) t.nodes k n v.links_within at in
        let low : nat_le n.nlink max_links ≡ true = rw is at most in
        let bound = leb-true n.nlink max_links low in
        omega arith

    go : (o : Option Node) → node_at t.nodes k ≡ o → (unwrap_or o no_node).nlink + 1 < 2 ^ 32
    go None e = omega arith
    go (Some n) e = few n e (is_directory n) refl

-- the tree after the call
pub mkdir_done : (t : Tree) (cred : Cred) (at : DirOpArgs) (set : SetAttr) (now : Moment) (dir : ℕ) (name : List ℕ) (node : Node) (u v : Tree) → dir ≡ fileid_in at.directory → name ≡ at.name
    → node ≡ new_node cred now 0o755 set (Directory dir new_listing) → u ≡ add_node t now dir name node → v ≡ edit u dir add_link → refusal_of t cred (Call.Mkdir at set) ≡ None → v ≡ tree_after t cred (Call.Mkdir at set) now
unfolding changed_tree
mkdir_done t cred at set now dir name node u v dir_is name_is node_is added linked none =
    let made : ℕ → List ℕ → Node → Tree = λ d n x. edit (add_node t now d n x) d add_link in
    let new : ℕ → Node = λ d. new_node cred now 0o755 set (Directory d new_listing) in
    linked ∙ ap (λ (w : Tree). edit w dir add_link) added ∙ ap (λ (x : Node). made dir name x) node_is ∙ ap (λ (d : ℕ). made d name (new d)) dir_is ∙ ap (λ (n : List ℕ). made (fileid_in at.directory) n (new (fileid_in at.directory))) name_is
    ∙ sym (tree_after-done t cred (Call.Mkdir at set) now none)

pub symlink_done : (t : Tree) (cred : Cred) (at : DirOpArgs) (set : SetAttr) (text : List ℕ) (now : Moment) (dir : ℕ) (name : List ℕ) (node : Node) (u : Tree) → dir ≡ fileid_in at.directory → name ≡ at.name
    → node ≡ new_node cred now 0o777 set (Link text) → u ≡ add_node t now dir name node → refusal_of t cred (Call.Symlink at set text) ≡ None → u ≡ tree_after t cred (Call.Symlink at set text) now
unfolding changed_tree
symlink_done t cred at set text now dir name node u dir_is name_is node_is added none =
    added ∙ ap (λ (x : Node). add_node t now dir name x) node_is ∙ ap (λ (d : ℕ). add_node t now d name (new_node cred now 0o777 set (Link text))) dir_is ∙ ap (λ (n : List ℕ). add_node t now (fileid_in at.directory) n (new_node cred now 0o777 set (Link text))) name_is
    ∙ sym (tree_after-done t cred (Call.Symlink at set text) now none)
