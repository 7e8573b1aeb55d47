use Rattle.std.proofs.Common.{◌∙◌, ap, sym, Some}
use Rattle.std.proofs.lemmas.Result.{on_ok_weaker, on_err_weaker}
use Rattle.sky_nfs.specs.Changes.{stamp, with_size}
use Rattle.sky_nfs.specs.Tree.{Node}
use Rattle.sky_nodes.proofs.MapLemmas.{put-edit}
use Rattle.sky_nodes.proofs.nodes.Nodes.take_size.Goals as goal

pub returns-in-Some-clause-set : goal.returns-in-Some-clause-set
returns-in-Some-clause-set c =
    let written = rw c.in-Some.is at (c.get_mut.follows.holds c.take_size.new.self) in
    on_ok_weaker c.take_size.result (λ is. written.0 ∙ put-edit c.args.self.now c.args.fileid c.in-Some.node.now c.take_size.new.self (λ (n : Node). stamp c.args.now (with_size (Some c.args.size) c.args.now n)) c.in-Some.ensures.value is) c.take_size.ensures.set

pub returns-in-Some-clause-err : goal.returns-in-Some-clause-err
returns-in-Some-clause-err c =
    let written = rw c.in-Some.is at (c.get_mut.follows.holds c.take_size.new.self) in
    on_err_weaker c.take_size.result (λ same. written.1 (sym c.in-Some.ensures.value ∙ ap Some (sym same))) c.take_size.ensures.err
