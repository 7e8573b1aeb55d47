use Rattle.std.proofs.Common.{◌∙◌, ap, sym, Some}
use Rattle.std.proofs.lemmas.Result.{on_ok_weaker, on_err_weaker}
use Rattle.sky_nfs.specs.Procedures.Write.{write_node}
use Rattle.sky_nodes.proofs.MapLemmas.{put-edit}
use Rattle.sky_nodes.proofs.nodes.Nodes.write.Goals as goal

pub returns-in-Some-clause-written : goal.returns-in-Some-clause-written
returns-in-Some-clause-written c =
    let written = rw c.in-Some.is at (c.get_mut.follows.holds c.write.new.self) in
    on_ok_weaker c.write.result (λ is. written.0 ∙ put-edit c.args.self.now c.args.fileid c.in-Some.node.now c.write.new.self (write_node c.args.now c.args.offset c.args.piece.now) c.in-Some.ensures.value is) c.write.ensures.written

pub returns-in-Some-clause-err : goal.returns-in-Some-clause-err
returns-in-Some-clause-err c =
    let written = rw c.in-Some.is at (c.get_mut.follows.holds c.write.new.self) in
    on_err_weaker c.write.result (λ same. written.1 (sym c.in-Some.ensures.value ∙ ap Some (sym same))) c.write.ensures.err
