-- The results of LINK and of the procedures that make a node.
use Rattle.std.proofs.Common.{◌≡◌, ◌≢◌, ℕ, ◌+◌, ◌≤◌, ◌<◌, ◌^◌, List, [], ◌∷◌, Option, Some, None, Ok, Err, refl, sym, ap, ◌∙◌, true, false, arith, length}
use Rattle.std.specs.Prelude.{Bool, ◌||◌, find, nat_le, option_map, unwrap_or}
use Rattle.std.specs.Option.{option_or}
use Rattle.std.specs.Str.{bytes_eq}
use Rattle.std.proofs.lemmas.Bool.{eq-eqb, leb-true, ltb-false, not-false}
use Rattle.std.proofs.lemmas.List.Folds.{find-append}
use Rattle.std.proofs.lemmas.Slice.Eq.{bytes_eq-Decides}
use Rattle.sky_base.specs.Limits.{max_directory_bytes, max_cookie, max_fileid, max_volume}
use Rattle.sky_base.specs.Listing.{Entry, Listing, fileid_at, new_listing, size_of_listing, size_of_name, with_entry}
use Rattle.sky_base.specs.declared.attr.Attr.{Attr}
use Rattle.sky_base.specs.declared.cred.Cred.{Cred}
use Rattle.sky_base.specs.declared.moment.Moment.{Moment}
use Rattle.sky_dir.specs.Rows.{is_crowded}
use Rattle.sky_dir.proofs.KeptSteps.{none_of_map}
use Rattle.sky_nfs.specs.declared.answer.CreateOk.{CreateOk}
use Rattle.sky_nfs.specs.declared.answer.WccData.{WccData}
use Rattle.sky_nfs.specs.declared.call.Call.{Call}
use Rattle.sky_nfs.specs.declared.call.DirOpArgs.{DirOpArgs}
use Rattle.sky_nfs.specs.declared.call.SetAttr.{SetAttr}
use Rattle.sky_nfs.specs.declared.status.NfsStatus.{NfsStatus}
use Rattle.sky_nfs.specs.Changes.{add_link, add_node, edit, enter, new_node, stamp}
use Rattle.sky_nfs.specs.Handles.{fileid_in, handle_bytes, is_handle_of}
use Rattle.sky_nfs.specs.Procedure.{refusal_of, rules_of, tree_after, changed_tree}
use Rattle.sky_nfs.specs.Procedures.Create.{created}
use Rattle.sky_nfs.specs.Procedures.Link.{link_rules, link_tree, linked}
use Rattle.sky_nfs.specs.Procedures.Mkdir.{mkdir_rules, symlink_rules}
use Rattle.sky_nfs.specs.Results.{post_attributes, pre_attributes, results_or, wcc}
use Rattle.sky_nfs.specs.Tree.{Tree, Node, Content, File, Directory, Link, attributes_at, attributes_of, directory_listing, directory_test, is_directory, listing_of, named, node_at, no_node, the_node, size_of, with_node}
use Rattle.sky_nfs.specs.Validity.{IsValidTree}
use Rattle.sky_nfs.proofs.CreateLemmas.{listing-with_listing}
use Rattle.sky_nfs.proofs.GrowLemmas.{node_at-with_node}
use Rattle.sky_nfs.proofs.KeptLemmas.{passed}
use Rattle.sky_nfs.proofs.ProcedureLemmas.{tree_after-done}
use Rattle.sky_nodes.proofs.MapLemmas.{apart}
use Rattle.sky_tree.specs.AttrChanges as attr
use Rattle.sky_tree.proofs.AttrLemmas.{attributes-enter}
use Rattle.sky_tree.proofs.HandleLemmas.{post_attributes-handle}
use Rattle.sky_tree.proofs.LinkLemmas.{link_passed}
use Rattle.sky_tree.proofs.MakeLemmas.{Makes, added_dir, mkdir_passed, symlink_passed}
use Rattle.sky_tree.proofs.PredictLemmas.{at-edit, beside-edit, stands}

-- a directory that has room for an entry has a size that may grow by it
pub room_fits : (n : Node) (name : List ℕ) → is_directory n ≡ true → is_crowded (listing_of n) name ≡ false → size_of n.content + 18 + length name < 2 ^ 64
room_fits n name is room = go n.content is room
  where
    low : (a b : Bool) → (a || b) ≡ false → a ≡ false
    low true b h = absurd (cc)
    low false b h = refl

    go : (c : Content) → directory_test c ≡ true → is_crowded (directory_listing c) name ≡ false → size_of c + 18 + length name < 2 ^ 64
    go (File bytes) is room = absurd (cc)
    go (Directory parent listing) is room =
        let most : size_of_listing listing + size_of_name name ≤ max_directory_bytes = ltb-false _ _ (low _ (nat_le max_cookie listing.next_cookie) room) in
        omega arith
    go (Link text) is room = absurd (cc)

-- ---- LINK

link_parts : (t : Tree) (file : List ℕ) (at : DirOpArgs) (now : Moment) → is_handle_of t.volume file ≡ true → is_handle_of t.volume at.directory ≡ true → is_directory (the_node t (fileid_in at.directory)) ≡ true → fileid_in file ≢ fileid_in at.directory
    → (post_attributes (link_tree t file at now) file ≡ Some (attr.stamped now (attr.linked (attributes_at t (fileid_in file))))) × (post_attributes (link_tree t file at now) at.directory ≡ Some (attr.entered at.name now (attributes_at t (fileid_in at.directory))))
link_parts t file at now handle dir_handle directory differ =
    let fileid : ℕ = fileid_in file in
    let dir : ℕ = fileid_in at.directory in
    let more : Node → Node = λ n. stamp now (add_link n) in
    let with : Node → Node = λ d. enter now at.name fileid d in
    let u : Tree = edit t fileid more in
    let n : Node = the_node t fileid in
    let d : Node = the_node t dir in
    let same : the_node u dir ≡ d = ap (λ (o : Option Node). unwrap_or o no_node) (beside-edit t fileid dir more differ) in (
      stands (edit u dir with) file (more n) (attr.stamped now (attr.linked (attributes_at t fileid))) handle (beside-edit u dir fileid with (λ e. differ (sym e)) ∙ at-edit t fileid more) refl,
      stands (edit u dir with) at.directory (with d) (attr.entered at.name now (attributes_at t dir)) dir_handle (at-edit u dir with ∙ ap (λ (m : Node). Some (with m)) same) (attributes-enter t.volume dir now at.name fileid d directory),
    )

-- what is known where LINK isn't refused
pub record LinksHandles (t : Tree) (file : List ℕ) (at : DirOpArgs) : Type 0 where
  pub handle : is_handle_of t.volume file ≡ true
  pub dir_handle : is_handle_of t.volume at.directory ≡ true
  pub directory : is_directory (the_node t (fileid_in at.directory)) ≡ true

pub link_handles : (t : Tree) (cred : Cred) (file : List ℕ) (at : DirOpArgs) → refusal_of t cred (Call.Link file at) ≡ None → LinksHandles t file at
unfolding refusal_of rules_of
link_handles t cred file at none =
    let p = passed (link_rules t cred file at) none in
    record {
      handle = not-false (is_handle_of t.volume file) p.0;
      dir_handle = not-false (is_handle_of t.volume at.directory) p.1.1.0;
      directory = not-false (is_directory (the_node t (fileid_in at.directory))) p.1.1.1.1.0;
    }

pub done_link : (t : Tree) (cred : Cred) (file : List ℕ) (at : DirOpArgs) (now : Moment) (fileid dir : ℕ) (name : List ℕ) (a : WccData) (object directory : Attr) → fileid ≡ fileid_in file → dir ≡ fileid_in at.directory → name ≡ at.name → None ≡ refusal_of t cred (Call.Link file at)
    → object ≡ attr.stamped now (attr.linked (attributes_at t fileid)) → directory ≡ attr.entered name now (attributes_at t dir) → a ≡ record { before = pre_attributes t at.directory; after = Some directory }
    → (u : Tree) → u ≡ tree_after t cred (Call.Link file at) now → Ok (record { file = Some object; directory = a }) ≡ results_or (refusal_of t cred (Call.Link file at)) (linked t u file at) (linked t u file at)
unfolding changed_tree
done_link t cred file at now fileid dir name a object directory fileid_is dir_is name_is none object_is directory_is a_is u u_is =
    let h = link_handles t cred file at (sym none) in
    let m = link_passed t cred file at (sym none) in
    let parts = link_parts t file at now h.handle h.dir_handle h.directory m.apart in
    let tree : u ≡ link_tree t file at now = u_is ∙ tree_after-done t cred (Call.Link file at) now (sym none) in
    let file_after : post_attributes u file ≡ Some object =
    ap (λ (u : Tree). post_attributes u file) tree ∙ parts.0 ∙ ap (λ (a : Attr). Some a) (sym (object_is ∙ ap (λ (f : ℕ). attr.stamped now (attr.linked (attributes_at t f))) fileid_is)) in
    let directory_after : post_attributes u at.directory ≡ Some directory =
    ap (λ (u : Tree). post_attributes u at.directory) tree ∙ parts.1 ∙ ap (λ (a : Attr). Some a) (sym (directory_is ∙ ap (λ (d : ℕ). attr.entered name now (attributes_at t d)) dir_is ∙ ap (λ (n : List ℕ). attr.entered n now (attributes_at t (fileid_in at.directory))) name_is)) in
    rw (sym none, file_after, directory_after) (ap (λ (a : WccData). Ok (record { file = Some object; directory = a })) a_is)

pub refused_link : (t u : Tree) (file : List ℕ) (at : DirOpArgs) (r : Option NfsStatus) (status : NfsStatus) (object : Option Attr) (a : WccData) → Some status ≡ r → u ≡ t → object ≡ post_attributes t file → a ≡ wcc t t at.directory
    → Err (record { status = status; attributes = record { file = object; directory = a } }) ≡ results_or r (linked t u file at) (linked t u file at)
refused_link t u file at r status object a some same object_is a_is = rw (sym some, same, object_is, a_is) refl

-- ---- the procedures that make a node

-- the attributes of a directory that is to get an entry
pub entry_fits : (t : Tree) (dir k : ℕ) (name n : List ℕ) (a : Attr) → dir ≡ k → name ≡ n → a ≡ attributes_at t dir → is_directory (the_node t k) ≡ true → is_crowded (listing_of (the_node t k)) n ≡ false → a.size + 18 + length name < 2 ^ 64
entry_fits t dir k name n a dir_is name_is a_is directory room =
    let fits : size_of (the_node t k).content + 18 + length n < 2 ^ 64 = room_fits (the_node t k) n directory room in
    let size : a.size ≡ size_of (the_node t k).content = ap (λ (a : Attr). a.size) a_is ∙ ap (λ (d : ℕ). size_of (the_node t d).content) dir_is in
    let long : length name ≡ length n = ap length name_is in
    omega arith

-- what is known where one of them isn't refused
pub record Grows (t : Tree) (at : DirOpArgs) : Type 0 where
  pub handle : is_handle_of t.volume at.directory ≡ true
  pub directory : is_directory (the_node t (fileid_in at.directory)) ≡ true
  pub makes : Makes t (fileid_in at.directory) at.name

pub mkdir_grows : (t : Tree) (cred : Cred) (at : DirOpArgs) (set : SetAttr) → IsValidTree t → refusal_of t cred (Call.Mkdir at set) ≡ None → Grows t at
unfolding refusal_of rules_of
mkdir_grows t cred at set v none =
    let p = passed (mkdir_rules t cred at set) none in
    record {
      handle = not-false (is_handle_of t.volume at.directory) p.0;
      directory = not-false (is_directory (the_node t (fileid_in at.directory))) p.1.1.0;
      makes = mkdir_passed t cred at set v none;
    }

pub symlink_grows : (t : Tree) (cred : Cred) (at : DirOpArgs) (set : SetAttr) (text : List ℕ) → IsValidTree t → refusal_of t cred (Call.Symlink at set text) ≡ None → Grows t at
unfolding refusal_of rules_of
symlink_grows t cred at set text v none =
    let p = passed (symlink_rules t cred at set text) none in
    record {
      handle = not-false (is_handle_of t.volume at.directory) p.0;
      directory = not-false (is_directory (the_node t (fileid_in at.directory))) p.1.1.0;
      makes = symlink_passed t cred at set text v none;
    }

-- the new node stands at the next fileid
new_at : (t : Tree) (now : Moment) (dir : ℕ) (name : List ℕ) (node : Node) → Makes t dir name → node_at (add_node t now dir name node).nodes t.next_fileid ≡ Some node
new_at t now dir name node m =
    let other : dir ≢ t.next_fileid = λ e. apart t.nodes t.next_fileid dir m.new m.there (sym e) in
    let here : node_at (with_node t.nodes t.next_fileid node) t.next_fileid ≡ Some node = rw (node_at-with_node t.nodes t.next_fileid node t.next_fileid, eq-eqb t.next_fileid t.next_fileid refl) refl in
    beside-edit (record t { nodes = with_node t.nodes t.next_fileid node; next_fileid = t.next_fileid + 1 }) dir t.next_fileid (λ d. enter now name t.next_fileid d) other ∙ here

-- and its name stands for it
named_new : (l : Listing) (name : List ℕ) (fileid : ℕ) → fileid_at l name ≡ None → fileid_at (with_entry l name fileid) name ≡ Some fileid
named_new l name fileid free =
    let p : Entry → Bool = λ (e : Entry). bytes_eq e.name name in
    let e : Entry = record { cookie = l.next_cookie; name = name; fileid = fileid } in
    let gone : find p l.entries ≡ None = none_of_map (λ (e : Entry). e.fileid) (find p l.entries) free in
    let here : find p (e ∷ []) ≡ Some e = rw ((bytes_eq-Decides name name).1 refl) refl in
    ap (λ (o : Option Entry). option_map (λ (e : Entry). e.fileid) o) (find-append p l.entries (e ∷ []) ∙ ap (λ (o : Option Entry). option_or o (find p (e ∷ []))) gone ∙ here)

-- the listing of a directory with an entry more
listing-enter : (now : Moment) (name : List ℕ) (fileid : ℕ) (d : Node) → is_directory d ≡ true → listing_of (enter now name fileid d) ≡ with_entry (listing_of d) name fileid
listing-enter now name fileid d is = listing-with_listing (λ l. with_entry l name fileid) d.content is

-- the results by the tree after the call
pub results_of_new : (t w : Tree) (at : DirOpArgs) (d node : Node) (object directory : Attr) → IsValidTree t → Grows t at → w.volume ≡ t.volume → node_at w.nodes (fileid_in at.directory) ≡ Some d
    → listing_of d ≡ with_entry (listing_of (the_node t (fileid_in at.directory))) at.name t.next_fileid → attributes_of t.volume (fileid_in at.directory) d ≡ directory → node_at w.nodes t.next_fileid ≡ Some node → attributes_of t.volume t.next_fileid node ≡ object
    → created t w at ≡ record { handle = record { volume = t.volume; fileid = t.next_fileid }; object = Some object; directory = record { before = pre_attributes t at.directory; after = Some directory } }
results_of_new t w at d node object directory v g volume d_at d_is directory_is node_at_next object_is =
    let k : ℕ = fileid_in at.directory in
    let next : ℕ = t.next_fileid in
    let make : ℕ → ℕ → Option Attr → Option Attr → CreateOk = λ v f o a. record { handle = record { volume = v; fileid = f }; object = o; directory = record { before = pre_attributes t at.directory; after = a } } in
    let name : unwrap_or (named w k at.name) 0 ≡ next =
    ap (λ (o : Option Node). unwrap_or (fileid_at (listing_of (unwrap_or o no_node)) at.name) 0) d_at ∙ ap (λ (l : Listing). unwrap_or (fileid_at l at.name) 0) d_is ∙ ap (λ (o : Option ℕ). unwrap_or o 0) (named_new (listing_of (the_node t k)) at.name next g.makes.absent) in
    let volume_low : t.volume ≤ max_volume = leb-true t.volume max_volume v.volume_within in
    let next_low : next ≤ max_fileid = leb-true next max_fileid v.fileid_within in
    let volume_fits : w.volume < 2 ^ 64 = omega arith in
    let next_fits : next < 2 ^ 64 = omega arith in
    let object_after : post_attributes w (handle_bytes w.volume next) ≡ Some object =
    sym (post_attributes-handle w next volume_fits next_fits) ∙ ap (λ (o : Option Node). option_map (λ n. attributes_of w.volume next n) o) node_at_next ∙ ap (λ (x : ℕ). Some (attributes_of x next node)) volume ∙ ap (λ (a : Attr). Some a) object_is in
    let directory_after : post_attributes w at.directory ≡ Some directory = stands w at.directory d directory (rw volume g.handle) d_at (ap (λ (x : ℕ). attributes_of x k d) volume ∙ directory_is) in
    ap (λ (f : ℕ). make w.volume f (post_attributes w (handle_bytes w.volume f)) (post_attributes w at.directory)) name
    ∙ ap (λ (o : Option Attr). make w.volume next o (post_attributes w at.directory)) object_after
    ∙ ap (λ (o : Option Attr). make w.volume next (Some object) o) directory_after
    ∙ ap (λ (x : ℕ). make x next (Some object) (Some directory)) volume

-- where a node was added, and nothing else was done
pub results_of_add : (t : Tree) (at : DirOpArgs) (now : Moment) (node : Node) (object directory : Attr) → IsValidTree t → Grows t at → attributes_of t.volume t.next_fileid node ≡ object → attr.entered at.name now (attributes_at t (fileid_in at.directory)) ≡ directory
    → created t (add_node t now (fileid_in at.directory) at.name node) at ≡ record { handle = record { volume = t.volume; fileid = t.next_fileid }; object = Some object; directory = record { before = pre_attributes t at.directory; after = Some directory } }
results_of_add t at now node object directory v g object_is directory_is =
    let k : ℕ = fileid_in at.directory in
    let d : Node = the_node t k in
    results_of_new t (add_node t now k at.name node) at (enter now at.name t.next_fileid d) node object directory v g refl (added_dir t now k at.name node g.makes) (listing-enter now at.name t.next_fileid d g.directory)
    (attributes-enter t.volume k now at.name t.next_fileid d g.directory ∙ directory_is) (new_at t now k at.name node g.makes) object_is

-- where it is a directory, and counts in the one that it stands in
pub results_of_mkdir : (t : Tree) (at : DirOpArgs) (now : Moment) (node : Node) (object directory : Attr) → IsValidTree t → Grows t at → attributes_of t.volume t.next_fileid node ≡ object → attr.linked (attr.entered at.name now (attributes_at t (fileid_in at.directory))) ≡ directory
    → created t (edit (add_node t now (fileid_in at.directory) at.name node) (fileid_in at.directory) add_link) at ≡ record { handle = record { volume = t.volume; fileid = t.next_fileid }; object = Some object; directory = record { before = pre_attributes t at.directory; after = Some directory } }
results_of_mkdir t at now node object directory v g object_is directory_is =
    let k : ℕ = fileid_in at.directory in
    let d : Node = the_node t k in
    let e : Node = enter now at.name t.next_fileid d in
    let u : Tree = add_node t now k at.name node in
    let other : k ≢ t.next_fileid = λ e. apart t.nodes t.next_fileid k g.makes.new g.makes.there (sym e) in
    let stood : node_at u.nodes k ≡ Some e = added_dir t now k at.name node g.makes in
    results_of_new t (edit u k add_link) at (add_link e) node object directory v g refl (at-edit u k add_link ∙ ap (λ (o : Option Node). Some (add_link (unwrap_or o no_node))) stood) (listing-enter now at.name t.next_fileid d g.directory)
    (ap attr.linked (attributes-enter t.volume k now at.name t.next_fileid d g.directory) ∙ directory_is) (beside-edit u k t.next_fileid add_link other ∙ new_at t now k at.name node g.makes) object_is

pub done_made : {A : Type 0} (r : Option NfsStatus) (a b c : CreateOk) (w : A) → None ≡ r → a ≡ b → c ≡ b → Ok a ≡ results_or r c w
done_made r a b c w none a_is c_is = rw (sym none, a_is, c_is) refl

pub done_mkdir : (t : Tree) (cred : Cred) (at : DirOpArgs) (set : SetAttr) (now : Moment) (dir : ℕ) (name : List ℕ) (object directory : Attr) (made : CreateOk) → IsValidTree t → dir ≡ fileid_in at.directory → name ≡ at.name → None ≡ refusal_of t cred (Call.Mkdir at set)
    → object ≡ attributes_of t.volume t.next_fileid (new_node cred now 0o755 set (Directory dir new_listing)) → directory ≡ attr.linked (attr.entered name now (attributes_at t dir))
    → made ≡ record { handle = record { volume = t.volume; fileid = t.next_fileid }; object = Some object; directory = record { before = pre_attributes t at.directory; after = Some directory } }
    → (w : WccData) → Ok made ≡ results_or (refusal_of t cred (Call.Mkdir at set)) (created t (tree_after t cred (Call.Mkdir at set) now) at) w
unfolding changed_tree
done_mkdir t cred at set now dir name object directory made v dir_is name_is none object_is directory_is made_is w =
    let k : ℕ = fileid_in at.directory in
    let g = mkdir_grows t cred at set v (sym none) in
    let new : ℕ → Node = λ d. new_node cred now 0o755 set (Directory d new_listing) in
    let those = results_of_mkdir t at now (new k) object directory v g (sym (object_is ∙ ap (λ (d : ℕ). attributes_of t.volume t.next_fileid (new d)) dir_is))
    (sym (directory_is ∙ ap (λ (d : ℕ). attr.linked (attr.entered name now (attributes_at t d))) dir_is ∙ ap (λ (n : List ℕ). attr.linked (attr.entered n now (attributes_at t k))) name_is)) in
    done_made (refusal_of t cred (Call.Mkdir at set)) made (record { handle = record { volume = t.volume; fileid = t.next_fileid }; object = Some object; directory = record { before = pre_attributes t at.directory; after = Some directory } })
    (created t (tree_after t cred (Call.Mkdir at set) now) at) w none made_is (ap (λ (u : Tree). created t u at) (tree_after-done t cred (Call.Mkdir at set) now (sym none)) ∙ those)

pub done_symlink : (t : Tree) (cred : Cred) (at : DirOpArgs) (set : SetAttr) (text : List ℕ) (now : Moment) (dir : ℕ) (name : List ℕ) (object directory : Attr) (made : CreateOk) → IsValidTree t → dir ≡ fileid_in at.directory → name ≡ at.name → None ≡ refusal_of t cred (Call.Symlink at set text)
    → object ≡ attributes_of t.volume t.next_fileid (new_node cred now 0o777 set (Link text)) → directory ≡ attr.entered name now (attributes_at t dir)
    → made ≡ record { handle = record { volume = t.volume; fileid = t.next_fileid }; object = Some object; directory = record { before = pre_attributes t at.directory; after = Some directory } }
    → (w : WccData) → Ok made ≡ results_or (refusal_of t cred (Call.Symlink at set text)) (created t (tree_after t cred (Call.Symlink at set text) now) at) w
unfolding changed_tree
done_symlink t cred at set text now dir name object directory made v dir_is name_is none object_is directory_is made_is w =
    let k : ℕ = fileid_in at.directory in
    let g = symlink_grows t cred at set text v (sym none) in
    let those = results_of_add t at now (new_node cred now 0o777 set (Link text)) object directory v g (sym object_is)
    (sym (directory_is ∙ ap (λ (d : ℕ). attr.entered name now (attributes_at t d)) dir_is ∙ ap (λ (n : List ℕ). attr.entered n now (attributes_at t k)) name_is)) in
    done_made (refusal_of t cred (Call.Symlink at set text)) made (record { handle = record { volume = t.volume; fileid = t.next_fileid }; object = Some object; directory = record { before = pre_attributes t at.directory; after = Some directory } })
    (created t (tree_after t cred (Call.Symlink at set text) now) at) w none made_is (ap (λ (u : Tree). created t u at) (tree_after-done t cred (Call.Symlink at set text) now (sym none)) ∙ those)
