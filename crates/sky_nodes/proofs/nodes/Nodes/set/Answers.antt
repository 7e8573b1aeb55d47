use Rattle.std.proofs.Common.{◌∙◌, ap, sym, Some}
use Rattle.std.proofs.lemmas.Result.{on_ok_weaker, on_err_weaker}
use Rattle.sky_nfs.specs.Procedures.SetAttr.{set_node}
use Rattle.sky_nodes.proofs.MapLemmas.{put-edit}
use Rattle.sky_nodes.proofs.nodes.Nodes.set.Goals as goal

pub returns-in-Some-clause-set : goal.returns-in-Some-clause-set
returns-in-Some-clause-set c =
    let written = rw c.in-Some.is at (c.get_mut.follows.holds c.set.new.self) in
    on_ok_weaker c.set.result (λ is. written.0 ∙ put-edit c.args.self.now c.args.fileid c.in-Some.node.now c.set.new.self (set_node c.args.set.now c.args.now) c.in-Some.ensures.value is) c.set.ensures.set

pub returns-in-Some-clause-err : goal.returns-in-Some-clause-err
returns-in-Some-clause-err c =
    let written = rw c.in-Some.is at (c.get_mut.follows.holds c.set.new.self) in
    on_err_weaker c.set.result (λ same. written.1 (sym c.in-Some.ensures.value ∙ ap Some (sym same))) c.set.ensures.err
