use Rattle.std.proofs.Common.{◌≡◌, ◌+◌, ◌-◌, ◌<◌, length, ap, sym, ◌∙◌, false, arith}
use Rattle.std.specs.Prelude.{◌==◌}
use Rattle.std.proofs.lemmas.Bool.{ne_eqb}
use Rattle.sky_nfs.specs.Tree.{Tree, parent_of, the_node}
use Rattle.sky_tree.proofs.WayLemmas.{leads_to, leads_on, leads_nowhere}
use Rattle.sky_tree.proofs.rename_rules.is_at_or_below.Goals as goal

pub returns-then-parent-dir : goal.returns-then-parent-dir
returns-then-parent-dir c =
    let t : Tree = c.args.nodes.now in
    let other : (c.loop-step.dir == c.args.above) ≡ false = ne_eqb c.loop-step.dir c.args.above c.if-dir-above.false in
    let top : parent_of (the_node t c.loop-step.dir) ≡ c.loop-step.dir = sym c.parent_of-parent.ensures ∙ c.if-parent-dir.true in
    sym (leads_nowhere t (length t.nodes - c.loop-step._step) c.loop-step.dir c.args.above top other) ∙ c.loop-step.invariant

pub loop-step-preserved : goal.loop-step-preserved
loop-step-preserved c =
    let t : Tree = c.args.nodes.now in
    let other : (c.loop-step.dir == c.args.above) ≡ false = ne_eqb c.loop-step.dir c.args.above c.if-dir-above.false in
    let within : c.loop-step._step < length t.nodes = omega (arith, c.loop-step-test.true, c.len-step-end.ensures) in
    ap (λ d. leads_to t (length t.nodes - (c.loop-step._step + 1)) d c.args.above) c.parent_of-parent.ensures ∙ sym (leads_on t (length t.nodes) c.loop-step._step c.loop-step.dir c.args.above within other) ∙ c.loop-step.invariant
