-- The attributes of an object after SETATTR and WRITE.
use Rattle.std.proofs.Common.{◌≡◌, ℕ, ◌+◌, ◌==◌, List, Option, Some, None, Ok, refl, sym, ap, ◌∙◌, true, false, cond, arith, length, take, length-take}
use Rattle.std.specs.Prelude.{Bool, ◌&&◌, is_some, max}
use Rattle.std.proofs.lemmas.Bool.{eqb-true, not-false}
use Rattle.sky_base.specs.declared.attr.Attr.{Attr}
use Rattle.sky_base.specs.declared.cred.Cred.{Cred}
use Rattle.sky_base.specs.declared.moment.Moment.{Moment}
use Rattle.sky_nfs.specs.declared.answer.WccData.{WccData}
use Rattle.sky_nfs.specs.declared.call.Call.{Call}
use Rattle.sky_nfs.specs.declared.call.SetAttr.{SetAttr}
use Rattle.sky_nfs.specs.declared.call.StableHow.{StableHow}
use Rattle.sky_nfs.specs.declared.status.NfsStatus.{NfsStatus}
use Rattle.sky_nfs.specs.Changes.{edit}
use Rattle.sky_nfs.specs.Handles.{fileid_in, is_handle_of}
use Rattle.sky_nfs.specs.Procedure.{refusal_of, rules_of, tree_after, changed_tree}
use Rattle.sky_nfs.specs.Procedures.SetAttr.{setattr_rules, set_node}
use Rattle.sky_nfs.specs.Procedures.Write.{is_stable, write_count, write_node, write_rules, written_results}
use Rattle.sky_nfs.specs.Results.{post_attributes, pre_attributes, results_or, wcc}
use Rattle.sky_nfs.specs.Tree.{Tree, Node, Content, File, Directory, Link, attributes_at, attributes_of, directory_test, file_test, is_file, link_test, node_at, the_node, size_of}
use Rattle.sky_nfs.proofs.KeptLemmas.{passed, is_there}
use Rattle.sky_nfs.proofs.ProcedureLemmas.{tree_after-done}
use Rattle.sky_tree.specs.AttrChanges.{set, sized, written}
use Rattle.sky_tree.proofs.AttrLemmas.{attributes-set, attributes-write}
use Rattle.sky_tree.proofs.PredictLemmas.{at-edit, stands, the-node}

-- what has a size that may be set is a file
only_file : (c : Content) (b : Bool) → (b && directory_test c) ≡ false → (b && link_test c) ≡ false → b ≡ true → file_test c ≡ true
only_file (File bytes) b directory link is = refl
only_file (Directory parent listing) b directory link is = let wrong : (true && true) ≡ false = rw is at directory in absurd (cc)
only_file (Link text) b directory link is = let wrong : (true && true) ≡ false = rw is at link in absurd (cc)

pub setattr_after : (t : Tree) (cred : Cred) (object : List ℕ) (how : SetAttr) (guard : Option Moment) (now : Moment) (fileid : ℕ) (attr : Attr) → fileid ≡ fileid_in object → None ≡ refusal_of t cred (Call.SetAttr object how guard)
    → attr ≡ set how now (attributes_at t fileid) → post_attributes (tree_after t cred (Call.SetAttr object how guard) now) object ≡ Some attr
unfolding refusal_of rules_of changed_tree
setattr_after t cred object how guard now fileid attr fileid_is none attr_is =
    let p = passed (setattr_rules t cred object how guard) (sym none) in
    let k : ℕ = fileid_in object in
    let n : Node = the_node t k in
    let change : Node → Node = λ n. set_node how now n in
    let handle : is_handle_of t.volume object ≡ true = not-false (is_handle_of t.volume object) p.0 in
    let file : is_some how.size ≡ true → is_file n ≡ true = only_file n.content (is_some how.size) p.1.1.1.1.1.1.0 p.1.1.1.1.1.1.1.0 in
    let is : attributes_of t.volume k (change n) ≡ attr = attributes-set t.volume k how now n file ∙ sym (attr_is ∙ ap (λ (f : ℕ). set how now (attributes_at t f)) fileid_is) in
    ap (λ (u : Tree). post_attributes u object) (tree_after-done t cred (Call.SetAttr object how guard) now (sym none)) ∙ stands (edit t k change) object (change n) attr handle (at-edit t k change) is

-- a file to which bytes are written, or none
module _ (t : Tree) (file : List ℕ) (offset count : ℕ) (piece : List ℕ) (now : Moment) where
  write_either : (n : Node) → is_handle_of t.volume file ≡ true → node_at t.nodes (fileid_in file) ≡ Some n → is_file (the_node t (fileid_in file)) ≡ true → count ≡ length piece → (b : Bool)
      → post_attributes (cond b t (edit t (fileid_in file) (λ node. write_node now offset (take (write_count count) piece) node))) file ≡ Some (cond b (attributes_at t (fileid_in file)) (sized (max (attributes_at t (fileid_in file)).size (offset + write_count count)) now (attributes_at t (fileid_in file))))
  write_either n handle at is fits true = stands t file n (attributes_at t (fileid_in file)) handle at (ap (λ (m : Node). attributes_of t.volume (fileid_in file) m) (sym (the-node t (fileid_in file) n at)))
  write_either n handle at is fits false =
      let k : ℕ = fileid_in file in
      let old : Node = the_node t k in
      let bytes : List ℕ = take (write_count count) piece in
      let long : length bytes ≡ write_count count = omega (arith, length-take (write_count count) piece) in
      let new : attributes_of t.volume k (write_node now offset bytes old) ≡ sized (max (size_of old.content) (offset + length bytes)) now (attributes_of t.volume k old) = attributes-write t.volume k now offset bytes old is in
      stands (edit t k (λ node. write_node now offset bytes node)) file (write_node now offset bytes old) (sized (max (attributes_at t k).size (offset + write_count count)) now (attributes_at t k)) handle (at-edit t k (λ node. write_node now offset bytes node))
      (new ∙ ap (λ (l : ℕ). sized (max (size_of old.content) (offset + l)) now (attributes_of t.volume k old)) long)

pub write_after : (t : Tree) (cred : Cred) (file : List ℕ) (offset count : ℕ) (how : StableHow) (piece : List ℕ) (now : Moment) (fileid : ℕ) (attr : Attr) → fileid ≡ fileid_in file → None ≡ refusal_of t cred (Call.Write file offset count how piece)
    → attr ≡ written offset (write_count count) now (attributes_at t fileid) → post_attributes (tree_after t cred (Call.Write file offset count how piece) now) file ≡ Some attr
unfolding refusal_of rules_of changed_tree
write_after t cred file offset count how piece now fileid attr fileid_is none attr_is =
    let p = passed (write_rules t cred file offset count piece) (sym none) in
    let handle : is_handle_of t.volume file ≡ true = not-false (is_handle_of t.volume file) p.0 in
    let there = is_there (node_at t.nodes (fileid_in file)) p.1.0 in
    let is : is_file (the_node t (fileid_in file)) ≡ true = not-false (is_file (the_node t (fileid_in file))) p.1.1.0 in
    let fits : count ≡ length piece = eqb-true count (length piece) (not-false (count == length piece) p.1.1.1.0) in
    ap (λ (u : Tree). post_attributes u file) (tree_after-done t cred (Call.Write file offset count how piece) now (sym none))
    ∙ write_either t file offset count piece now there.0 handle there.1 is fits (write_count count == 0)
    ∙ ap (λ (a : Attr). Some a) (sym (attr_is ∙ ap (λ (f : ℕ). written offset (write_count count) now (attributes_at t f)) fileid_is))

-- the results of WRITE by their parts
pub done_write : (t u : Tree) (epoch : ℕ) (file : List ℕ) (count : ℕ) (how : StableHow) (r : Option NfsStatus) (a : WccData) (attr : Attr) (n : ℕ) (stable : Bool) → None ≡ r → a ≡ record { before = pre_attributes t file; after = Some attr } → post_attributes u file ≡ Some attr → n ≡ write_count count → stable ≡ is_stable how
    → Ok (record { file = a; count = n; committed = stable; verifier = epoch }) ≡ results_or r (written_results t u epoch file count how) (wcc t u file)
done_write t u epoch file count how r a attr n stable none is after n_is stable_is = rw (sym none, after, n_is, stable_is) (ap (λ (a : WccData). Ok (record { file = a; count = write_count count; committed = is_stable how; verifier = epoch })) is)
