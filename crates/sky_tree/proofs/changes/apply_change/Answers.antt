-- The answer to a change, and the memory that it takes, by its procedure.
use Rattle.std.proofs.Common.{◌≡◌, ℕ, Option, Result, Ok, Err, refl, sym, ap, subst}
use Rattle.std.specs.Prelude.{IsTrue, OnErr, is_none}
use Rattle.sky_base.specs.declared.cred.Cred.{Cred}
use Rattle.sky_nfs.specs.declared.answer.Answer.{Answer}
use Rattle.sky_nfs.specs.declared.call.Call.{Call}
use Rattle.sky_nfs.specs.declared.status.NfsStatus.{NfsStatus}
use Rattle.sky_nfs.specs.Procedure.{answer_of, refusal_of}
use Rattle.sky_nfs.specs.Tree.{Tree}
use Rattle.sky_tree.specs.Memory.{takes_memory}
use Rattle.sky_tree.proofs.changes.apply_change.Goals as goal

answers : (t u : Tree) (epoch : ℕ) (cred : Cred) (call same : Call) (a : Answer) → call ≡ same → a ≡ answer_of (refusal_of t cred same) t u epoch cred same → a ≡ answer_of (refusal_of t cred call) t u epoch cred call
answers t u epoch cred call same a is h = subst (λ (x : Call). a ≡ answer_of (refusal_of t cred x) t u epoch cred x) (sym is) h

takes : {E : Type 0} (r : Result Answer E) (t : Tree) (cred : Cred) (call same : Call) → call ≡ same → IsTrue (takes_memory t cred same) → OnErr r (IsTrue (takes_memory t cred call))
takes (Ok a) t cred call same is h = tt
takes (Err e) t cred call same is h = subst (λ (x : Call). IsTrue (takes_memory t cred x)) (sym is) h

pub returns-in_err-answer-in-SetAttr-clause-memory : goal.returns-in_err-answer-in-SetAttr-clause-memory
unfolding takes_memory
returns-in_err-answer-in-SetAttr-clause-memory c = takes c.from_residual.result c.args.nodes.now c.args.cred.now c.args.call.now _ c.in-SetAttr.is (subst (λ (o : Option NfsStatus). IsTrue (is_none o)) (sym c.in_err-answer-in-SetAttr.ensures.memory) refl)

pub returns-in_err-answer-in-Write-clause-memory : goal.returns-in_err-answer-in-Write-clause-memory
unfolding takes_memory
returns-in_err-answer-in-Write-clause-memory c = takes c.from_residual-in_err-answer-in-Write.result c.args.nodes.now c.args.cred.now c.args.call.now _ c.in-Write.is refl

pub returns-in_err-answer-in-Create-clause-memory : goal.returns-in_err-answer-in-Create-clause-memory
unfolding takes_memory
returns-in_err-answer-in-Create-clause-memory c = takes c.from_residual-in_err-answer-in-Create.result c.args.nodes.now c.args.cred.now c.args.call.now _ c.in-Create.is refl

pub returns-in_err-answer-in-Mkdir-clause-memory : goal.returns-in_err-answer-in-Mkdir-clause-memory
unfolding takes_memory
returns-in_err-answer-in-Mkdir-clause-memory c = takes c.from_residual-in_err-answer-in-Mkdir.result c.args.nodes.now c.args.cred.now c.args.call.now _ c.in-Mkdir.is refl

pub returns-in_err-answer-in-Symlink-clause-memory : goal.returns-in_err-answer-in-Symlink-clause-memory
unfolding takes_memory
returns-in_err-answer-in-Symlink-clause-memory c = takes c.from_residual-in_err-answer-in-Symlink.result c.args.nodes.now c.args.cred.now c.args.call.now _ c.in-Symlink.is refl

pub returns-in_err-answer-in-Rename-clause-memory : goal.returns-in_err-answer-in-Rename-clause-memory
unfolding takes_memory
returns-in_err-answer-in-Rename-clause-memory c = takes c.from_residual-in_err-answer-in-Rename.result c.args.nodes.now c.args.cred.now c.args.call.now _ c.in-Rename.is refl

pub returns-in_err-answer-in-Link-clause-memory : goal.returns-in_err-answer-in-Link-clause-memory
unfolding takes_memory
returns-in_err-answer-in-Link-clause-memory c = takes c.from_residual-in_err-answer-in-Link.result c.args.nodes.now c.args.cred.now c.args.call.now _ c.in-Link.is refl

pub returns-in_ok-answer-in-SetAttr-clause-answer : goal.returns-in_ok-answer-in-SetAttr-clause-answer
unfolding answer_of
returns-in_ok-answer-in-SetAttr-clause-answer c = answers c.args.nodes.now c.setattr.new.nodes c.args.epoch c.args.cred.now c.args.call.now _ _ c.in-SetAttr.is (ap Answer.SetAttr c.in_ok-answer-in-SetAttr.ensures.answer)

pub returns-in_ok-answer-in-Write-clause-answer : goal.returns-in_ok-answer-in-Write-clause-answer
unfolding answer_of
returns-in_ok-answer-in-Write-clause-answer c = answers c.args.nodes.now c.write.new.nodes c.args.epoch c.args.cred.now c.args.call.now _ _ c.in-Write.is (ap Answer.Write c.in_ok-answer-in-Write.ensures.answer)

pub returns-in_ok-answer-in-Create-clause-answer : goal.returns-in_ok-answer-in-Create-clause-answer
unfolding answer_of
returns-in_ok-answer-in-Create-clause-answer c = answers c.args.nodes.now c.create.new.nodes c.args.epoch c.args.cred.now c.args.call.now _ _ c.in-Create.is (ap Answer.Create c.in_ok-answer-in-Create.ensures.answer)

pub returns-in_ok-answer-in-Mkdir-clause-answer : goal.returns-in_ok-answer-in-Mkdir-clause-answer
unfolding answer_of
returns-in_ok-answer-in-Mkdir-clause-answer c = answers c.args.nodes.now c.mkdir.new.nodes c.args.epoch c.args.cred.now c.args.call.now _ _ c.in-Mkdir.is (ap Answer.Mkdir c.in_ok-answer-in-Mkdir.ensures.answer)

pub returns-in_ok-answer-in-Symlink-clause-answer : goal.returns-in_ok-answer-in-Symlink-clause-answer
unfolding answer_of
returns-in_ok-answer-in-Symlink-clause-answer c = answers c.args.nodes.now c.symlink.new.nodes c.args.epoch c.args.cred.now c.args.call.now _ _ c.in-Symlink.is (ap Answer.Symlink c.in_ok-answer-in-Symlink.ensures.answer)

pub returns-in_ok-answer-in-Rename-clause-answer : goal.returns-in_ok-answer-in-Rename-clause-answer
unfolding answer_of
returns-in_ok-answer-in-Rename-clause-answer c = answers c.args.nodes.now c.rename.new.nodes c.args.epoch c.args.cred.now c.args.call.now _ _ c.in-Rename.is (ap Answer.Rename c.in_ok-answer-in-Rename.ensures.answer)

pub returns-in_ok-answer-in-Link-clause-answer : goal.returns-in_ok-answer-in-Link-clause-answer
unfolding answer_of
returns-in_ok-answer-in-Link-clause-answer c = answers c.args.nodes.now c.link.new.nodes c.args.epoch c.args.cred.now c.args.call.now _ _ c.in-Link.is (ap Answer.Link c.in_ok-answer-in-Link.ensures.answer)

pub returns-in-Remove-clause-answer : goal.returns-in-Remove-clause-answer
unfolding answer_of
returns-in-Remove-clause-answer c = answers c.args.nodes.now c.remove.new.nodes c.args.epoch c.args.cred.now c.args.call.now _ _ c.in-Remove.is (ap Answer.Remove c.remove.ensures.answer)

pub returns-in-Rmdir-clause-answer : goal.returns-in-Rmdir-clause-answer
unfolding answer_of
returns-in-Rmdir-clause-answer c = answers c.args.nodes.now c.rmdir.new.nodes c.args.epoch c.args.cred.now c.args.call.now _ _ c.in-Rmdir.is (ap Answer.Rmdir c.rmdir.ensures.answer)
