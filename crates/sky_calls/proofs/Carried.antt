-- What a change leads to, by its parts.
use Rattle.std.specs.Prelude.{is_ok, is_none, ◌&&◌, IsTrue}
use Rattle.std.proofs.Common.{◌≡◌, ℕ, Bool, true, false, Option, Some, None, Result, Ok, Err, OnOk, refl, sym, ap, ◌∙◌}
use Rattle.std.proofs.lemmas.Bool.{true≢false}
use Rattle.std.specs.Result.{is_err}
use Rattle.sky_base.specs.declared.cred.Cred.{Cred}
use Rattle.sky_base.specs.declared.moment.Moment.{Moment}
use Rattle.sky_nfs.specs.Calls.{is_change}
use Rattle.sky_nfs.specs.History.{is_done, tree_after_change}
use Rattle.sky_nfs.specs.Procedure.{procedure, tree_after, refusal_of, answer_of}
use Rattle.sky_nfs.specs.Procedures.Write.{written_results}
use Rattle.sky_nfs.specs.Tree.{Tree}
use Rattle.sky_nfs.specs.declared.answer.Answer.{Answer}
use Rattle.sky_nfs.specs.declared.call.Call.{Call}
use Rattle.sky_nfs.specs.declared.call.Call.TheVariants as call
use Rattle.sky_nfs.specs.declared.call.Change.{Change}
use Rattle.sky_nfs.specs.declared.status.NfsStatus.{NfsStatus}
use Rattle.sky_nfs.proofs.ProcedureLemmas.{tree_after-refused}
use Rattle.sky_nfs.specs.Results.{succeeded}
use Rattle.sky_nfs.specs.Results.{wcc, results_or}
use Rattle.sky_nfs.specs.Procedures.Create.{created}
use Rattle.sky_nfs.specs.Procedures.Link.{linked}
use Rattle.sky_nfs.specs.Procedures.Rename.{renamed}

istrue_is : (b : Bool) → IsTrue b → b ≡ true
istrue_is true is = refl
istrue_is false is = cc is

-- what holds after Ok, where it was no error
pub ok_at : {A E : Type 0} (result : Result A E) (P : Type 0) → OnOk result P → false ≡ is_err result → P
ok_at (Ok x) P holds is = holds
ok_at (Err e) P holds is = cc is

-- the tree after a procedure
pub procedure_tree : (t : Tree) (epoch : ℕ) (cred : Cred) (call : Call) (now : Moment) → (procedure t epoch cred call now).tree ≡ tree_after t cred call now
unfolding procedure
procedure_tree t epoch cred call now = refl

-- whether results are OK: where there is no refusal
results_ok : {A B : Type 0} (refusal : Option NfsStatus) (ok : A) (attributes : B) → is_ok (results_or refusal ok attributes) ≡ is_none refusal
results_ok None ok attributes = refl
results_ok (Some status) ok attributes = refl

-- the answer to a change is OK exactly where it is not refused
answer_ok : (refusal : Option NfsStatus) (t after : Tree) (epoch : ℕ) (cred : Cred) (call : Call) → IsTrue (is_change call) → succeeded (answer_of refusal t after epoch cred call) ≡ is_none refusal
unfolding answer_of
answer_ok refusal t after epoch cred (call.SetAttr object set guard) is = results_ok refusal (wcc t after object) (wcc t after object)
answer_ok refusal t after epoch cred (call.Write file offset count how piece) is = results_ok refusal (written_results t after epoch file count how) (wcc t after file)
answer_ok refusal t after epoch cred (call.Create at how) is = results_ok refusal (created t after at) (wcc t after at.directory)
answer_ok refusal t after epoch cred (call.Mkdir at set) is = results_ok refusal (created t after at) (wcc t after at.directory)
answer_ok refusal t after epoch cred (call.Symlink at set text) is = results_ok refusal (created t after at) (wcc t after at.directory)
answer_ok refusal t after epoch cred (call.Remove at) is = results_ok refusal (wcc t after at.directory) (wcc t after at.directory)
answer_ok refusal t after epoch cred (call.Rmdir at) is = results_ok refusal (wcc t after at.directory) (wcc t after at.directory)
answer_ok refusal t after epoch cred (call.Rename from to) is = results_ok refusal (renamed t after from to) (renamed t after from to)
answer_ok refusal t after epoch cred (call.Link file at) is = results_ok refusal (linked t after file at) (linked t after file at)
answer_ok refusal t after epoch cred call.Null is = cc is
answer_ok refusal t after epoch cred (call.GetAttr object) is = cc is
answer_ok refusal t after epoch cred (call.Lookup at) is = cc is
answer_ok refusal t after epoch cred (call.Access object rights) is = cc is
answer_ok refusal t after epoch cred (call.ReadLink link) is = cc is
answer_ok refusal t after epoch cred (call.Read file offset count) is = cc is
answer_ok refusal t after epoch cred (call.Mknod at what) is = cc is
answer_ok refusal t after epoch cred (call.ReadDir directory cookie verifier count) is = cc is
answer_ok refusal t after epoch cred (call.ReadDirPlus directory cookie verifier dircount maxcount) is = cc is
answer_ok refusal t after epoch cred (call.FsStat root) is = cc is
answer_ok refusal t after epoch cred (call.FsInfo root) is = cc is
answer_ok refusal t after epoch cred (call.PathConf object) is = cc is
answer_ok refusal t after epoch cred (call.Commit file offset count) is = cc is

pub change_ok : (t : Tree) (epoch : ℕ) (change : Change) → IsTrue (is_change change.call)
    → succeeded (procedure t epoch change.cred change.call change.moment).answer ≡ is_done t change
unfolding procedure
change_ok t epoch change is =
    answer_ok (refusal_of t change.cred change.call) t (tree_after t change.cred change.call change.moment) epoch change.cred change.call is
    ∙ ap (λ (b : Bool). b && is_none (refusal_of t change.cred change.call)) (sym (istrue_is (is_change change.call) is))

stays : (t : Tree) (change : Change) (r : Option NfsStatus) → refusal_of t change.cred change.call ≡ r → IsTrue (is_change change.call) → is_done t change ≡ false → tree_after_change t change ≡ t
stays t change None e is refused =
    let done : is_done t change ≡ true = ap (λ (b : Bool). b && is_none (refusal_of t change.cred change.call)) (istrue_is (is_change change.call) is) ∙ ap (λ (o : Option NfsStatus). is_none o) e in
    absurd (true≢false (sym done ∙ refused))
stays t change (Some status) e is refused = tree_after-refused t change.cred change.call change.moment status e

-- a change that is refused leaves the tree
pub refused_stays : (t : Tree) (change : Change) → IsTrue (is_change change.call) → is_done t change ≡ false → tree_after_change t change ≡ t
refused_stays t change is refused = stays t change (refusal_of t change.cred change.call) refl is refused

-- whether a change is done, where it was answered by this
pub done_known : (t s : Tree) (epoch : ℕ) (change : Change) (answer : Answer) (ok : Bool) → IsTrue (is_change change.call) → t ≡ s
    → answer ≡ (procedure t epoch change.cred change.call change.moment).answer → ok ≡ succeeded answer → is_done s change ≡ ok
done_known t s epoch change answer ok is same by found =
    ap (λ (x : Tree). is_done x change) (sym same) ∙ sym (change_ok t epoch change is) ∙ ap (λ (a : Answer). succeeded a) (sym by) ∙ sym found

-- nothing is both
pub not_both : {P : Type 0} (a b : Bool) → a ≡ b → a ≡ true → b ≡ false → P
not_both a b same is isnt = absurd (true≢false (sym is ∙ same ∙ isnt))
