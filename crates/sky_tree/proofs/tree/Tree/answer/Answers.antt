use Rattle.std.proofs.Common.{◌∙◌, sym}
use Rattle.sky_tree.proofs.ApplyLemmas.{read_answer, told_answer}
use Rattle.sky_tree.proofs.tree.Tree.answer.Goals as goal

pub returns-then-changes-clause-answer : goal.returns-then-changes-clause-answer
returns-then-changes-clause-answer c =
    rw (← c.self.view_is) (told_answer c.self.inside.nodes c.args.epoch c.args.cred.now c.args.call.now c.args.moment c.predict_change-answer.result c.predict_change-answer.ensures)

pub returns-else-changes-clause-answer : goal.returns-else-changes-clause-answer
returns-else-changes-clause-answer c =
    rw (← c.self.view_is) (read_answer c.self.inside.nodes c.args.epoch c.args.cred.now c.args.call.now c.args.moment c.answer_reading.result (sym c.changes.ensures ∙ c.if-changes.false) c.answer_reading.ensures.answer)
