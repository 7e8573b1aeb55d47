use Rattle.std.proofs.Common.{◌∙◌, ap, sym}
use Rattle.sky_base.specs.declared.attr.Attr.{Attr}
use Rattle.sky_nfs.specs.Procedure.{refusal_of, tree_after}
use Rattle.sky_nfs.specs.Results.{wcc}
use Rattle.sky_nfs.specs.Tree.{Tree}
use Rattle.sky_nfs.specs.declared.call.Call.{Call}
use Rattle.sky_nfs.proofs.ProcedureLemmas.{tree_after-refused}
use Rattle.sky_tree.specs.AttrChanges.{left, unlinked}
use Rattle.sky_tree.proofs.PredictLemmas.{done_wcc, refused_wcc}
use Rattle.sky_tree.proofs.PredictRemoveLemmas.{rmdir_after}
use Rattle.sky_tree.proofs.RemoveLemmas.{rmdir_passed}
use Rattle.sky_tree.proofs.predict_remove.predict_rmdir.Goals as goal

pub attributes_at-requires : goal.attributes_at-requires
attributes_at-requires c = rw c.in-Ok.ensures.dir (rmdir_passed c.args.nodes.now c.args.cred.now c.args.at.now (sym c.in-Ok.ensures.refused)).there

pub returns-in-Ok : goal.returns-in-Ok
returns-in-Ok c =
    let t : Tree = c.args.nodes.now in
    let call : Call = Call.Rmdir c.args.at.now in
    done_wcc t (tree_after t c.args.cred.now call c.args.now) c.args.at.now.directory (refusal_of t c.args.cred.now call) c.wcc_after.result c.unlinked-attr.result c.in-Ok.ensures.refused c.wcc_after.ensures
    (rmdir_after t c.args.cred.now c.args.at.now c.args.now c.in-Ok.dir c.as_slice.result.now c.unlinked-attr.result c.in-Ok.ensures.dir c.as_slice.ensures c.in-Ok.ensures.refused (c.unlinked-attr.ensures ∙ ap unlinked c.left-unnamed.ensures ∙ ap (λ (a : Attr). unlinked (left c.as_slice.result.now c.args.now a)) c.attributes_at.ensures))

pub returns-in-Err : goal.returns-in-Err
returns-in-Err c =
    let t : Tree = c.args.nodes.now in
    let call : Call = Call.Rmdir c.args.at.now in
    let u : Tree = tree_after t c.args.cred.now call c.args.now in
    refused_wcc t u c.args.at.now.directory (refusal_of t c.args.cred.now call) c.in-Err.status c.refused.result (wcc t u c.args.at.now.directory) c.in-Err.ensures.refused
    (tree_after-refused t c.args.cred.now call c.args.now c.in-Err.status (sym c.in-Err.ensures.refused)) c.refused.ensures
