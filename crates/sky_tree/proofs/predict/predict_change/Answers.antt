use Rattle.std.proofs.Common.{Result, ap}
use Rattle.sky_nfs.specs.Procedure.{answer_of}
use Rattle.sky_nfs.specs.declared.answer.Answer.{Answer}
use Rattle.sky_nfs.specs.declared.answer.CreateOk.{CreateOk}
use Rattle.sky_nfs.specs.declared.answer.Refused.{Refused}
use Rattle.sky_nfs.specs.declared.answer.WccData.{WccData}
use Rattle.sky_tree.proofs.predict.predict_change.Goals as goal

pub returns-in-Create : goal.returns-in-Create
unfolding answer_of
returns-in-Create c = rw c.in-Create.is (ap (λ (r : Result CreateOk (Refused WccData)). (Answer.Create r)) c.predict_create.ensures)

pub returns-in-Mkdir : goal.returns-in-Mkdir
unfolding answer_of
returns-in-Mkdir c = rw c.in-Mkdir.is (ap (λ (r : Result CreateOk (Refused WccData)). (Answer.Mkdir r)) c.predict_mkdir.ensures)

pub returns-in-Symlink : goal.returns-in-Symlink
unfolding answer_of
returns-in-Symlink c = rw c.in-Symlink.is (ap (λ (r : Result CreateOk (Refused WccData)). (Answer.Symlink r)) c.predict_symlink.ensures)
