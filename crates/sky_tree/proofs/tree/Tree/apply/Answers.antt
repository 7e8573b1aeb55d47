use Rattle.std.proofs.Common.{◌∙◌, sym}
use Rattle.sky_tree.proofs.ApplyLemmas.{read_answer, read_tree, change_answer, change_tree, change_valid}
use Rattle.sky_tree.proofs.tree.Tree.apply.Goals as goal

pub invariant_of-self : goal.invariant_of-self
invariant_of-self c =
    change_valid c.self.inside.nodes c.args.epoch c.args.cred.now c.args.call.now c.args.moment c.apply_change.result c.apply_change.new.nodes c.valid_trees_stay_valid.ensures.stays c.self.invariant c.apply_change.ensures.tree c.apply_change.ensures.err

pub returns-then-changes-clause-valid : goal.returns-then-changes-clause-valid
returns-then-changes-clause-valid c =
    change_valid c.self.inside.nodes c.args.epoch c.args.cred.now c.args.call.now c.args.moment c.apply_change.result c.apply_change.new.nodes c.valid_trees_stay_valid.ensures.stays c.self.invariant c.apply_change.ensures.tree c.apply_change.ensures.err

pub returns-then-changes-clause-answer : goal.returns-then-changes-clause-answer
returns-then-changes-clause-answer c =
    rw (← c.self.view_is) (change_answer c.self.inside.nodes c.args.epoch c.args.cred.now c.args.call.now c.args.moment c.apply_change.result c.apply_change.new.nodes c.apply_change.ensures.tree c.apply_change.ensures.answer)

pub returns-then-changes-clause-tree : goal.returns-then-changes-clause-tree
returns-then-changes-clause-tree c =
    rw (← c.self.view_is) (change_tree c.self.inside.nodes c.args.epoch c.args.cred.now c.args.call.now c.args.moment c.apply_change.result c.apply_change.new.nodes c.apply_change.ensures.tree)

pub returns-else-changes-clause-answer : goal.returns-else-changes-clause-answer
returns-else-changes-clause-answer c =
    rw (← c.self.view_is) (read_answer c.self.inside.nodes c.args.epoch c.args.cred.now c.args.call.now c.args.moment c.answer_reading.result (sym c.changes.ensures ∙ c.if-changes.false) c.answer_reading.ensures.answer)

pub returns-else-changes-clause-tree : goal.returns-else-changes-clause-tree
returns-else-changes-clause-tree c =
    rw (← c.self.view_is) (read_tree c.self.inside.nodes c.args.epoch c.args.cred.now c.args.call.now c.args.moment c.answer_reading.result (sym c.changes.ensures ∙ c.if-changes.false))

pub returns-else-changes-clause-valid : goal.returns-else-changes-clause-valid
returns-else-changes-clause-valid c = rw (← c.self.view_is) c.self.invariant
