-- What a call does to the tree, and what it answers, by whether it is one that changes.
use Rattle.std.proofs.Common.{◌≡◌, ℕ, Result, Ok, Err, sym, ap, subst, ◌∙◌, false}
use Rattle.std.specs.Prelude.{IfOk, OnOk, OnErr}
use Rattle.sky_base.specs.declared.cred.Cred.{Cred}
use Rattle.sky_base.specs.declared.moment.Moment.{Moment}
use Rattle.sky_nfs.specs.declared.answer.Answer.{Answer}
use Rattle.sky_nfs.specs.declared.call.Call.{Call}
use Rattle.sky_nfs.specs.Calls.{is_change}
use Rattle.sky_nfs.specs.Laws.{EachCallKeepsValid}
use Rattle.sky_nfs.specs.Procedure.{answer_of, procedure, refusal_of, tree_after}
use Rattle.sky_nfs.specs.Tree.{Tree}
use Rattle.sky_nfs.specs.Validity.{IsValidTree}
use Rattle.sky_nfs.proofs.ProcedureLemmas.{tree_after-reading}

module _ (t : Tree) (epoch : ℕ) (cred : Cred) (call : Call) (now : Moment) where
  -- a reading that was answered
  pub read_answer : {E : Type 0} (r : Result Answer E) → is_change call ≡ false → IfOk r (λ a. a ≡ answer_of (refusal_of t cred call) t t epoch cred call) → IfOk r (λ a. a ≡ (procedure t epoch cred call now).answer)
  unfolding procedure
  read_answer (Ok a) reads h = h ∙ ap (λ (u : Tree). answer_of (refusal_of t cred call) t u epoch cred call) (sym (tree_after-reading t cred call now reads))
  read_answer (Err e) reads h = tt

  pub read_tree : {E : Type 0} (r : Result Answer E) → is_change call ≡ false → OnOk r (t ≡ (procedure t epoch cred call now).tree)
  unfolding procedure
  read_tree (Ok a) reads = sym (tree_after-reading t cred call now reads)
  read_tree (Err e) reads = tt

  -- a change whose answer is told before it is done
  pub told_answer : (a : Answer) → a ≡ answer_of (refusal_of t cred call) t (tree_after t cred call now) epoch cred call → a ≡ (procedure t epoch cred call now).answer
  unfolding procedure
  told_answer a h = h

  -- a change that was done
  pub change_answer : {E : Type 0} (r : Result Answer E) (u : Tree) → OnOk r (u ≡ tree_after t cred call now) → IfOk r (λ a. a ≡ answer_of (refusal_of t cred call) t u epoch cred call) → IfOk r (λ a. a ≡ (procedure t epoch cred call now).answer)
  unfolding procedure
  change_answer (Ok a) u tree h = h ∙ ap (λ (v : Tree). answer_of (refusal_of t cred call) t v epoch cred call) tree
  change_answer (Err e) u tree h = tt

  pub change_tree : {E : Type 0} (r : Result Answer E) (u : Tree) → OnOk r (u ≡ tree_after t cred call now) → OnOk r (u ≡ (procedure t epoch cred call now).tree)
  unfolding procedure
  change_tree (Ok a) u tree = tree
  change_tree (Err e) u tree = tt

  -- and the tree is valid again
  pub change_valid : {E : Type 0} (r : Result Answer E) (u : Tree) → EachCallKeepsValid → IsValidTree t → OnOk r (u ≡ tree_after t cred call now) → OnErr r (u ≡ t) → IsValidTree u
  change_valid (Ok a) u law valid tree err = subst IsValidTree (sym tree) (law call t cred now valid)
  change_valid (Err e) u law valid tree err = subst IsValidTree (sym err) valid
