-- The results of CREATE.
use Rattle.std.proofs.Common.{◌≡◌, ◌≢◌, ℕ, ◌≤◌, ◌<◌, ◌^◌, List, Option, Some, None, Ok, refl, sym, ap, subst, ◌∙◌, true, arith}
use Rattle.std.specs.Prelude.{IsSome, nat_lt, option_map, unwrap_or}
use Rattle.std.proofs.lemmas.Bool.{false≢true, leb-true, ltb-true, not-false}
use Rattle.sky_base.specs.Limits.{max_fileid, max_volume}
use Rattle.sky_base.specs.declared.attr.Attr.{Attr}
use Rattle.sky_base.specs.declared.cred.Cred.{Cred}
use Rattle.sky_base.specs.declared.moment.Moment.{Moment}
use Rattle.sky_nfs.specs.declared.answer.CreateOk.{CreateOk}
use Rattle.sky_nfs.specs.declared.answer.WccData.{WccData}
use Rattle.sky_nfs.specs.declared.call.Call.{Call}
use Rattle.sky_nfs.specs.declared.call.CreateHow.{CreateHow}
use Rattle.sky_nfs.specs.declared.call.CreateHow.TheVariants.{Unchecked, Guarded, Exclusive}
use Rattle.sky_nfs.specs.declared.call.DirOpArgs.{DirOpArgs}
use Rattle.sky_nfs.specs.Changes.{add_node, edit, stamp, with_size}
use Rattle.sky_nfs.specs.Handles.{fileid_in, handle_bytes, is_handle_of}
use Rattle.sky_nfs.specs.Procedure.{refusal_of, rules_of, tree_after}
use Rattle.sky_nfs.specs.Procedures.Create.{create_rules, created, new_file, taken_rules, taken_tree, unchecked_size}
use Rattle.sky_nfs.specs.Results.{post_attributes, pre_attributes, results_or, wcc}
use Rattle.sky_nfs.specs.Tree.{Tree, Node, attributes_at, attributes_of, is_directory, is_file, file_test, directory_test, Content, File, Directory, Link, listing_of, named, node_at, no_node, the_node}
use Rattle.sky_base.specs.Listing.{fileid_at}
use Rattle.sky_nfs.specs.Validity.{IsValidTree}
use Rattle.sky_nfs.proofs.GrowLemmas.{nodes_below}
use Rattle.sky_nfs.proofs.KeptLemmas.{AllPassed, passed}
use Rattle.sky_nfs.proofs.ValidityLemmas.{each-node_at}
use Rattle.sky_tree.specs.AttrChanges as attr
use Rattle.sky_tree.proofs.AttrLemmas.{attributes-taken}
use Rattle.sky_tree.proofs.CreateLemmas.{create_passed, create_taken, create_new}
use Rattle.sky_tree.proofs.HandleLemmas.{post_attributes-handle}
use Rattle.sky_tree.proofs.PredictLemmas.{at-edit, beside-edit, stays, the-node}
use Rattle.sky_tree.proofs.PredictMakeLemmas.{Grows, done_made, results_of_add}

-- the node that is there
pub the_one : (o : Option Node) → IsSome o → (n : Node) × (o ≡ Some n)
the_one None there = absurd (false≢true there)
the_one (Some n) there = (n, refl)

-- the fileid of a node is small
node_low : (t : Tree) (k : ℕ) (n : Node) → IsValidTree t → node_at t.nodes k ≡ Some n → k < 2 ^ 64
node_low t k n v at =
    let below : k < t.next_fileid = ltb-true k t.next_fileid (each-node_at (λ k n. nat_lt k t.next_fileid) t.nodes k n (nodes_below t.next_fileid t.nodes v.fileids) at) in
    let low : t.next_fileid ≤ max_fileid = leb-true t.next_fileid max_fileid v.fileid_within in
    omega arith

-- a file is no directory
kinds_differ : (c : Content) → file_test c ≡ true → directory_test c ≡ true → ⊥
kinds_differ (File bytes) f d = false≢true d
kinds_differ (Directory parent listing) f d = false≢true f
kinds_differ (Link text) f d = false≢true f

file_apart : (t : Tree) (f dir : ℕ) → is_file (the_node t f) ≡ true → is_directory (the_node t dir) ≡ true → f ≢ dir
file_apart t f dir file directory same = kinds_differ (the_node t f).content file (subst (λ (k : ℕ). is_directory (the_node t k) ≡ true) (sym same) directory)

-- the results where the name stands for a file
module _ (t : Tree) (at : DirOpArgs) (f : ℕ) (now : Moment) (v : IsValidTree t) (n : Node) (at_f : node_at t.nodes f ≡ Some n) where
  -- by the tree after the call
  results_of_taken : (w : Tree) (m : Node) (object : Attr) → w.volume ≡ t.volume → named w (fileid_in at.directory) at.name ≡ Some f → node_at w.nodes f ≡ Some m → attributes_of t.volume f m ≡ object → post_attributes w at.directory ≡ post_attributes t at.directory
      → created t w at ≡ record { handle = record { volume = t.volume; fileid = f }; object = Some object; directory = wcc t t at.directory }
  results_of_taken w m object volume found m_at object_is same =
      let k : ℕ = fileid_in at.directory in
      let make : ℕ → ℕ → Option Attr → Option Attr → CreateOk = λ v f o a. record { handle = record { volume = v; fileid = f }; object = o; directory = record { before = pre_attributes t at.directory; after = a } } in
      let name : unwrap_or (named w k at.name) 0 ≡ f = ap (λ (o : Option ℕ). unwrap_or o 0) found in
      let volume_low : t.volume ≤ max_volume = leb-true t.volume max_volume v.volume_within in
      let volume_fits : w.volume < 2 ^ 64 = omega arith in
      let object_after : post_attributes w (handle_bytes w.volume f) ≡ Some object =
      sym (post_attributes-handle w f volume_fits (node_low t f n v at_f)) ∙ ap (λ (o : Option Node). option_map (λ n. attributes_of w.volume f n) o) m_at ∙ ap (λ (x : ℕ). Some (attributes_of x f m)) volume ∙ ap (λ (a : Attr). Some a) object_is in
      ap (λ (g : ℕ). make w.volume g (post_attributes w (handle_bytes w.volume g)) (post_attributes w at.directory)) name
      ∙ ap (λ (o : Option Attr). make w.volume f o (post_attributes w at.directory)) object_after
      ∙ ap (λ (o : Option Attr). make w.volume f (Some object) o) same
      ∙ ap (λ (x : ℕ). make x f (Some object) (post_attributes t at.directory)) volume

  pub taken_either : (size : Option ℕ) → is_file (the_node t f) ≡ true → is_directory (the_node t (fileid_in at.directory)) ≡ true → named t (fileid_in at.directory) at.name ≡ Some f
      → created t (taken_tree t f size now) at ≡ record { handle = record { volume = t.volume; fileid = f }; object = Some (attr.taken size now (attributes_at t f)); directory = wcc t t at.directory }
  taken_either None file directory found = results_of_taken t n (attributes_at t f) refl found at_f (ap (λ (m : Node). attributes_of t.volume f m) (sym (the-node t f n at_f))) refl
  taken_either (Some size) file directory found =
      let k : ℕ = fileid_in at.directory in
      let change : Node → Node = λ node. stamp now (with_size (Some size) now node) in
      let w : Tree = edit t f change in
      let other : node_at w.nodes k ≡ node_at t.nodes k = beside-edit t f k change (file_apart t f k file directory) in
      results_of_taken w (change (the_node t f)) (attr.taken (Some size) now (attributes_at t f)) refl (ap (λ (o : Option Node). fileid_at (listing_of (unwrap_or o no_node)) at.name) other ∙ found) (at-edit t f change)
      (attributes-taken t.volume f now size (the_node t f) file) (stays t w at.directory refl other)

-- what is known where CREATE isn't refused
pub record CreateKnown (t : Tree) (at : DirOpArgs) : Type 0 where
  pub handle : is_handle_of t.volume at.directory ≡ true
  pub directory : is_directory (the_node t (fileid_in at.directory)) ≡ true
  pub file : (f : ℕ) → named t (fileid_in at.directory) at.name ≡ Some f → is_file (the_node t f) ≡ true

-- a name that stands for a node stands for a file
file_taken : (t : Tree) (cred : Cred) (f : ℕ) (how : CreateHow) → AllPassed (taken_rules t cred f how) → is_file (the_node t f) ≡ true
file_taken t cred f (Unchecked set) p = not-false (is_file (the_node t f)) p.0
file_taken t cred f (Guarded set) p = absurd (false≢true (sym p.0))
file_taken t cred f (Exclusive verifier) p = not-false (is_file (the_node t f)) p.0

pub create_known : (t : Tree) (cred : Cred) (at : DirOpArgs) (how : CreateHow) → refusal_of t cred (Call.Create at how) ≡ None → CreateKnown t at
unfolding refusal_of rules_of
create_known t cred at how none =
    let p = passed (create_rules t cred at how) none in
    record {
      handle = not-false (is_handle_of t.volume at.directory) p.0;
      directory = not-false (is_directory (the_node t (fileid_in at.directory))) p.1.1.0;
      file = λ f e. file_taken t cred f how (rw e at p.1.1.1.1.1.1.1);
    }

pub create_grows : (t : Tree) (cred : Cred) (at : DirOpArgs) (how : CreateHow) → IsValidTree t → refusal_of t cred (Call.Create at how) ≡ None → named t (fileid_in at.directory) at.name ≡ None → Grows t at
create_grows t cred at how v none free =
    let k = create_known t cred at how none in
    let m = create_passed t cred at how v none in
    record { handle = k.handle; directory = k.directory; makes = m.free free }

-- the answer in both cases
pub done_taken : (t : Tree) (cred : Cred) (at : DirOpArgs) (how : CreateHow) (now : Moment) (f : ℕ) (size : Option ℕ) (results : CreateOk) → None ≡ refusal_of t cred (Call.Create at how) → Some f ≡ named t (fileid_in at.directory) at.name → size ≡ unchecked_size how
    → results ≡ created t (taken_tree t f size now) at → (w : WccData) → Ok results ≡ results_or (refusal_of t cred (Call.Create at how)) (created t (tree_after t cred (Call.Create at how) now) at) w
done_taken t cred at how now f size results none found size_is results_is w =
    let tree : taken_tree t f (unchecked_size how) now ≡ tree_after t cred (Call.Create at how) now = create_taken t cred at how now (fileid_in at.directory) at.name f refl refl found (sym none) in
    done_made (refusal_of t cred (Call.Create at how)) results (created t (taken_tree t f (unchecked_size how) now) at) (created t (tree_after t cred (Call.Create at how) now) at) w none
    (results_is ∙ ap (λ (s : Option ℕ). created t (taken_tree t f s now) at) size_is) (ap (λ (u : Tree). created t u at) (sym tree))

pub done_new : (t : Tree) (cred : Cred) (at : DirOpArgs) (how : CreateHow) (now : Moment) (dir : ℕ) (name : List ℕ) (object directory : Attr) (made : CreateOk) → IsValidTree t → dir ≡ fileid_in at.directory → name ≡ at.name → None ≡ refusal_of t cred (Call.Create at how) → None ≡ named t (fileid_in at.directory) at.name
    → object ≡ attributes_of t.volume t.next_fileid (new_file cred now how) → directory ≡ attr.entered name now (attributes_at t dir)
    → made ≡ record { handle = record { volume = t.volume; fileid = t.next_fileid }; object = Some object; directory = record { before = pre_attributes t at.directory; after = Some directory } }
    → (w : WccData) → Ok made ≡ results_or (refusal_of t cred (Call.Create at how)) (created t (tree_after t cred (Call.Create at how) now) at) w
done_new t cred at how now dir name object directory made v dir_is name_is none free object_is directory_is made_is w =
    let k : ℕ = fileid_in at.directory in
    let g = create_grows t cred at how v (sym none) (sym free) in
    let those = results_of_add t at now (new_file cred now how) object directory v g (sym object_is)
    (sym (directory_is ∙ ap (λ (d : ℕ). attr.entered name now (attributes_at t d)) dir_is ∙ ap (λ (n : List ℕ). attr.entered n now (attributes_at t k)) name_is)) in
    let tree : add_node t now k at.name (new_file cred now how) ≡ tree_after t cred (Call.Create at how) now = create_new t cred at how now k at.name (new_file cred now how) refl refl refl free (sym none) in
    done_made (refusal_of t cred (Call.Create at how)) made (record { handle = record { volume = t.volume; fileid = t.next_fileid }; object = Some object; directory = record { before = pre_attributes t at.directory; after = Some directory } })
    (created t (tree_after t cred (Call.Create at how) now) at) w none made_is (ap (λ (u : Tree). created t u at) (sym tree) ∙ those)
