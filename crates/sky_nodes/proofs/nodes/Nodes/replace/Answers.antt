use Rattle.std.proofs.Common.{◌∙◌, ap, sym, Some}
use Rattle.std.proofs.lemmas.Result.{on_ok_weaker, on_err_weaker}
use Rattle.sky_nfs.specs.Changes.{enter, leave}
use Rattle.sky_nfs.specs.Tree.{Node}
use Rattle.sky_nodes.proofs.MapLemmas.{put-edit}
use Rattle.sky_nodes.proofs.nodes.Nodes.replace.Goals as goal

pub returns-in-Some-clause-replaced : goal.returns-in-Some-clause-replaced
returns-in-Some-clause-replaced c =
    let written = rw c.in-Some.is at (c.get_mut.follows.holds c.replace.new.self) in
    on_ok_weaker c.replace.result
    (λ is. written.0 ∙ put-edit c.args.self.now c.args.dir c.in-Some.node.now c.replace.new.self (λ (d : Node). enter c.args.now c.args.name c.args.fileid (leave c.args.now c.args.name d)) c.in-Some.ensures.value is) c.replace.ensures.replaced

pub returns-in-Some-clause-err : goal.returns-in-Some-clause-err
returns-in-Some-clause-err c =
    let written = rw c.in-Some.is at (c.get_mut.follows.holds c.replace.new.self) in
    on_err_weaker c.replace.result (λ same. written.1 (sym c.in-Some.ensures.value ∙ ap Some (sym same))) c.replace.ensures.err
