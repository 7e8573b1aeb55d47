use Rattle.std.proofs.Common.{◌∙◌, ap, sym, Some}
use Rattle.std.proofs.lemmas.Result.{on_ok_weaker, on_err_weaker}
use Rattle.sky_nfs.specs.Changes.{enter}
use Rattle.sky_nodes.proofs.MapLemmas.{put-edit}
use Rattle.sky_nodes.proofs.nodes.Nodes.enter.Goals as goal

pub returns-in-Some-clause-entered : goal.returns-in-Some-clause-entered
returns-in-Some-clause-entered c =
    let written = rw c.in-Some.is at (c.get_mut.follows.holds c.enter.new.self) in
    on_ok_weaker c.enter.result (λ is. written.0 ∙ put-edit c.args.self.now c.args.dir c.in-Some.node.now c.enter.new.self (enter c.args.now c.args.name c.args.fileid) c.in-Some.ensures.value is) c.enter.ensures.entered

pub returns-in-Some-clause-err : goal.returns-in-Some-clause-err
returns-in-Some-clause-err c =
    let written = rw c.in-Some.is at (c.get_mut.follows.holds c.enter.new.self) in
    on_err_weaker c.enter.result (λ same. written.1 (sym c.in-Some.ensures.value ∙ ap Some (sym same))) c.enter.ensures.err
