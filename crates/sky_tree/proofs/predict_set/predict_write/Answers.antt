use Rattle.std.proofs.Common.{◌≡◌, ◌∙◌, ℕ, ap, sym}
use Rattle.sky_base.specs.declared.attr.Attr.{Attr}
use Rattle.sky_nfs.specs.Procedure.{refusal_of, tree_after}
use Rattle.sky_nfs.specs.Procedures.Write.{write_count, written_results}
use Rattle.sky_nfs.specs.Tree.{Tree, attributes_at}
use Rattle.sky_nfs.specs.declared.call.Call.{Call}
use Rattle.sky_nfs.proofs.ProcedureLemmas.{tree_after-refused}
use Rattle.sky_tree.specs.AttrChanges.{written}
use Rattle.sky_tree.proofs.PredictLemmas.{refused_wcc}
use Rattle.sky_tree.proofs.PredictSetLemmas.{write_after, done_write}
use Rattle.sky_tree.proofs.predict_set.predict_write.Goals as goal

pub returns-in-Ok : goal.returns-in-Ok
returns-in-Ok c =
    let t : Tree = c.args.nodes.now in
    let call : Call = Call.Write c.args.file.now c.args.offset c.args.count c.args.how c.args.data.now in
    let attr_is : c.written-attr.result ≡ written c.args.offset (write_count c.args.count) c.args.now (attributes_at t c.in-Ok.fileid) =
    c.written-attr.ensures ∙ ap (λ (n : ℕ). written c.args.offset n c.args.now c.attributes_at.result) c.write_count-count.ensures.count ∙ ap (λ (a : Attr). written c.args.offset (write_count c.args.count) c.args.now a) c.attributes_at.ensures in
    done_write t (tree_after t c.args.cred.now call c.args.now) c.args.epoch c.args.file.now c.args.count c.args.how (refusal_of t c.args.cred.now call) c.wcc_after.result c.written-attr.result c.write_count-count.result c.is_stable.result c.in-Ok.ensures.refused c.wcc_after.ensures
    (write_after t c.args.cred.now c.args.file.now c.args.offset c.args.count c.args.how c.args.data.now c.args.now c.in-Ok.fileid c.written-attr.result c.in-Ok.ensures.fileid c.in-Ok.ensures.refused attr_is) c.write_count-count.ensures.count c.is_stable.ensures

pub returns-in-Err : goal.returns-in-Err
returns-in-Err c =
    let t : Tree = c.args.nodes.now in
    let call : Call = Call.Write c.args.file.now c.args.offset c.args.count c.args.how c.args.data.now in
    let u : Tree = tree_after t c.args.cred.now call c.args.now in
    refused_wcc t u c.args.file.now (refusal_of t c.args.cred.now call) c.in-Err.status c.refused.result (written_results t u c.args.epoch c.args.file.now c.args.count c.args.how) c.in-Err.ensures.refused
    (tree_after-refused t c.args.cred.now call c.args.now c.in-Err.status (sym c.in-Err.ensures.refused)) c.refused.ensures
