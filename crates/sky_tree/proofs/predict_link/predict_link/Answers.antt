use Rattle.std.proofs.Common.{◌∙◌, ◌<◌, ◌+◌, ◌^◌, ap, refl, sym, subst}
use Rattle.sky_base.specs.declared.attr.Attr.{Attr}
use Rattle.sky_nfs.specs.Handles.{fileid_in}
use Rattle.sky_nfs.specs.Procedure.{refusal_of, tree_after}
use Rattle.sky_nfs.specs.Tree.{Tree, the_node}
use Rattle.sky_nfs.specs.declared.call.Call.{Call}
use Rattle.sky_nfs.proofs.ProcedureLemmas.{tree_after-refused}
use Rattle.sky_tree.specs.AttrChanges.{entered, linked, stamped}
use Rattle.sky_tree.proofs.LinkLemmas.{link_passed}
use Rattle.sky_tree.proofs.PredictMakeLemmas.{link_handles, done_link, refused_link, entry_fits}
use Rattle.sky_tree.proofs.predict_link.predict_link.Goals as goal

pub attributes_at-requires : goal.attributes_at-requires
attributes_at-requires c = rw c.in-Ok.ensures.fileid (link_passed c.args.nodes.now c.args.cred.now c.args.file.now c.args.at.now (sym c.in-Ok.ensures.refused)).node

pub linked-requires : goal.linked-requires
linked-requires c =
    let few : (the_node c.args.nodes.now c.in-Ok.found.0).nlink + 1 < 2 ^ 32 = rw c.in-Ok.ensures.fileid (link_passed c.args.nodes.now c.args.cred.now c.args.file.now c.args.at.now (sym c.in-Ok.ensures.refused)).fits in
    subst (λ (a : Attr). a.nlink + 1 < 2 ^ 32) (sym c.attributes_at.ensures) few

pub attributes_at-requires-in-Ok : goal.attributes_at-requires-in-Ok
attributes_at-requires-in-Ok c = rw c.in-Ok.ensures.dir (link_passed c.args.nodes.now c.args.cred.now c.args.file.now c.args.at.now (sym c.in-Ok.ensures.refused)).there

pub entered-directory-requires : goal.entered-directory-requires
entered-directory-requires c =
    let t : Tree = c.args.nodes.now in
    entry_fits t c.in-Ok.found.1 (fileid_in c.args.at.now.directory) c.as_slice.result.now c.args.at.now.name c.attributes_at-in-Ok.result c.in-Ok.ensures.dir c.as_slice.ensures c.attributes_at-in-Ok.ensures
    (link_handles t c.args.cred.now c.args.file.now c.args.at.now (sym c.in-Ok.ensures.refused)).directory (link_passed t c.args.cred.now c.args.file.now c.args.at.now (sym c.in-Ok.ensures.refused)).room

pub returns-in-Ok : goal.returns-in-Ok
returns-in-Ok c =
    let t : Tree = c.args.nodes.now in
    done_link t c.args.cred.now c.args.file.now c.args.at.now c.args.now c.in-Ok.found.0 c.in-Ok.found.1 c.as_slice.result.now c.wcc_after.result c.stamped-object.result c.entered-directory.result c.in-Ok.ensures.fileid c.in-Ok.ensures.dir c.as_slice.ensures c.in-Ok.ensures.refused
    (c.stamped-object.ensures ∙ ap (λ (a : Attr). stamped c.args.now a) c.linked.ensures ∙ ap (λ (a : Attr). stamped c.args.now (linked a)) c.attributes_at.ensures)
    (c.entered-directory.ensures ∙ ap (λ (a : Attr). entered c.as_slice.result.now c.args.now a) c.attributes_at-in-Ok.ensures) c.wcc_after.ensures
    (tree_after t c.args.cred.now (Call.Link c.args.file.now c.args.at.now) c.args.now) refl

pub returns-in-Err : goal.returns-in-Err
returns-in-Err c =
    let t : Tree = c.args.nodes.now in
    let call : Call = Call.Link c.args.file.now c.args.at.now in
    refused_link t (tree_after t c.args.cred.now call c.args.now) c.args.file.now c.args.at.now (refusal_of t c.args.cred.now call) c.in-Err.status c.post_attributes.result c.unchanged.result c.in-Err.ensures.refused
    (tree_after-refused t c.args.cred.now call c.args.now c.in-Err.status (sym c.in-Err.ensures.refused)) c.post_attributes.ensures c.unchanged.ensures
