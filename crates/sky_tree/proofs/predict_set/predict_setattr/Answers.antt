use Rattle.std.proofs.Common.{◌∙◌, ap, sym}
use Rattle.sky_base.specs.declared.attr.Attr.{Attr}
use Rattle.sky_nfs.specs.Procedure.{refusal_of, tree_after}
use Rattle.sky_nfs.specs.Results.{wcc}
use Rattle.sky_nfs.specs.Tree.{Tree}
use Rattle.sky_nfs.specs.declared.call.Call.{Call}
use Rattle.sky_nfs.proofs.ProcedureLemmas.{tree_after-refused}
use Rattle.sky_tree.specs.AttrChanges.{set}
use Rattle.sky_tree.proofs.PredictLemmas.{done_wcc, refused_wcc}
use Rattle.sky_tree.proofs.PredictSetLemmas.{setattr_after}
use Rattle.sky_tree.proofs.predict_set.predict_setattr.Goals as goal

pub returns-in-Ok : goal.returns-in-Ok
returns-in-Ok c =
    let t : Tree = c.args.nodes.now in
    let call : Call = Call.SetAttr c.args.object.now c.args.how.now c.args.guard in
    done_wcc t (tree_after t c.args.cred.now call c.args.now) c.args.object.now (refusal_of t c.args.cred.now call) c.wcc_after.result c.set-attr.result c.in-Ok.ensures.refused c.wcc_after.ensures
    (setattr_after t c.args.cred.now c.args.object.now c.args.how.now c.args.guard c.args.now c.in-Ok.fileid c.set-attr.result c.in-Ok.ensures.fileid c.in-Ok.ensures.refused (c.set-attr.ensures ∙ ap (λ (a : Attr). set c.args.how.now c.args.now a) c.attributes_at.ensures))

pub returns-in-Err : goal.returns-in-Err
returns-in-Err c =
    let t : Tree = c.args.nodes.now in
    let call : Call = Call.SetAttr c.args.object.now c.args.how.now c.args.guard in
    let u : Tree = tree_after t c.args.cred.now call c.args.now in
    refused_wcc t u c.args.object.now (refusal_of t c.args.cred.now call) c.in-Err.status c.refused.result (wcc t u c.args.object.now) c.in-Err.ensures.refused
    (tree_after-refused t c.args.cred.now call c.args.now c.in-Err.status (sym c.in-Err.ensures.refused)) c.refused.ensures
