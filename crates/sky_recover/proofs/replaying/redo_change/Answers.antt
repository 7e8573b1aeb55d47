use Rattle.std.proofs.Common.{true, false, refl, ◌∙◌}
use Rattle.sky_calls.proofs.Carried.{done_known, procedure_tree}
use Rattle.sky_recover.proofs.replaying.redo_change.Goals as goal

pub returns-then-is_ok-clause-redone : goal.returns-then-is_ok-clause-redone
returns-then-is_ok-clause-redone c = record {
  done = done_known c.args.tree.now c.args.tree.now 1 c.args.change.now c.in-Ok.answer true c.requires.changes refl c.in-Ok.ensures.answer c.if-is_ok.ensures;
  tree_is = c.in-Ok.ensures.tree ∙ procedure_tree c.args.tree.now 1 c.args.change.now.cred c.args.change.now.call c.args.change.now.moment;
}

pub returns-in-Ok-clause-foreign : goal.returns-in-Ok-clause-foreign
returns-in-Ok-clause-foreign c = λ place is.
    (cc, done_known c.args.tree.now c.args.tree.now 1 c.args.change.now c.in-Ok.answer false c.requires.changes refl c.in-Ok.ensures.answer c.if-is_ok.ensures)
