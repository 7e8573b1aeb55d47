-- SETATTR: its refusals in two parts; and the trees after SETATTR and WRITE.
use Rattle.std.proofs.Common.{◌≡◌, ℕ, ◌++◌, List, Option, Some, None, refl, sym, ap, ◌∙◌, take, cond}
use Rattle.std.specs.Prelude.{◌==◌}
use Rattle.sky_base.specs.declared.cred.Cred.{Cred}
use Rattle.sky_base.specs.declared.moment.Moment.{Moment}
use Rattle.sky_nfs.specs.declared.call.Call.{Call}
use Rattle.sky_nfs.specs.declared.call.SetAttr.{SetAttr}
use Rattle.sky_nfs.specs.declared.call.StableHow.{StableHow}
use Rattle.sky_nfs.specs.declared.status.NfsStatus.{NfsStatus}
use Rattle.sky_nfs.specs.Changes.{edit}
use Rattle.sky_nfs.specs.Handles.{fileid_in}
use Rattle.sky_nfs.specs.Procedure.{refusal_of, rules_of, tree_after, changed_tree}
use Rattle.sky_nfs.specs.Procedures.SetAttr.{set_node}
use Rattle.sky_nfs.specs.Procedures.Write.{write_count, write_node}
use Rattle.sky_nfs.specs.Rules.{first_of}
use Rattle.sky_nfs.specs.Tree.{Tree}
use Rattle.sky_nfs.proofs.ProcedureLemmas.{tree_after-done}
use Rattle.sky_tree.specs.Setting.{object_rules, setting_rules}
use Rattle.sky_tree.proofs.RuleLemmas.{refused_by, passed_by}

-- the two parts are all
pub setattr_parts : (t : Tree) (cred : Cred) (object : List ℕ) (set : SetAttr) (guard : Option Moment) → refusal_of t cred (Call.SetAttr object set guard) ≡ first_of (object_rules t object guard ++ setting_rules t cred (fileid_in object) set)
unfolding refusal_of rules_of
setattr_parts t cred object set guard = refl

pub object_refused : (t : Tree) (cred : Cred) (object : List ℕ) (set : SetAttr) (guard : Option Moment) (e : NfsStatus) → Some e ≡ first_of (object_rules t object guard) → Some e ≡ refusal_of t cred (Call.SetAttr object set guard)
object_refused t cred object set guard e h = refused_by (object_rules t object guard) (setting_rules t cred (fileid_in object) set) e h ∙ sym (setattr_parts t cred object set guard)

pub setting_decides : (t : Tree) (cred : Cred) (object : List ℕ) (set : SetAttr) (guard : Option Moment) (fileid : ℕ) → fileid ≡ fileid_in object → None ≡ first_of (object_rules t object guard) → first_of (setting_rules t cred fileid set) ≡ refusal_of t cred (Call.SetAttr object set guard)
setting_decides t cred object set guard fileid is h =
    ap (λ (f : ℕ). first_of (setting_rules t cred f set)) is ∙ sym (passed_by (object_rules t object guard) (setting_rules t cred (fileid_in object) set) h) ∙ sym (setattr_parts t cred object set guard)

-- the tree after SETATTR
pub setattr_done : (t : Tree) (cred : Cred) (object : List ℕ) (set : SetAttr) (guard : Option Moment) (now : Moment) (fileid : ℕ) → fileid ≡ fileid_in object → refusal_of t cred (Call.SetAttr object set guard) ≡ None
    → edit t fileid (λ n. set_node set now n) ≡ tree_after t cred (Call.SetAttr object set guard) now
unfolding changed_tree
setattr_done t cred object set guard now fileid is none =
    ap (λ (f : ℕ). edit t f (λ n. set_node set now n)) is ∙ sym (tree_after-done t cred (Call.SetAttr object set guard) now none)

-- the tree after WRITE
pub write_done : (t : Tree) (cred : Cred) (file : List ℕ) (offset count : ℕ) (how : StableHow) (piece : List ℕ) (now : Moment) (fileid : ℕ) → fileid ≡ fileid_in file → refusal_of t cred (Call.Write file offset count how piece) ≡ None
    → cond (write_count count == 0) t (edit t fileid (λ n. write_node now offset (take (write_count count) piece) n)) ≡ tree_after t cred (Call.Write file offset count how piece) now
unfolding changed_tree
write_done t cred file offset count how piece now fileid is none =
    ap (λ (f : ℕ). cond (write_count count == 0) t (edit t f (λ n. write_node now offset (take (write_count count) piece) n))) is ∙ sym (tree_after-done t cred (Call.Write file offset count how piece) now none)
