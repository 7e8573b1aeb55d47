use Rattle.std.proofs.Common.{◌≡◌, ◌∙◌, ◌<◌, ◌+◌, ◌^◌, ap, sym, subst}
use Rattle.sky_base.specs.Listing.{Listing}
use Rattle.sky_base.specs.declared.attr.Attr.{Attr}
use Rattle.sky_nfs.specs.Changes.{new_node}
use Rattle.sky_nfs.specs.Handles.{fileid_in}
use Rattle.sky_nfs.specs.Procedure.{refusal_of, tree_after}
use Rattle.sky_nfs.specs.Procedures.Create.{created}
use Rattle.sky_nfs.specs.Results.{wcc}
use Rattle.sky_nfs.specs.Tree.{Tree, Directory, attributes_at, attributes_of}
use Rattle.sky_nfs.specs.declared.call.Call.{Call}
use Rattle.sky_nfs.proofs.ProcedureLemmas.{tree_after-refused}
use Rattle.sky_tree.specs.AttrChanges.{entered, linked}
use Rattle.sky_tree.proofs.MakeLemmas.{links_fit}
use Rattle.sky_tree.proofs.PredictLemmas.{refused_wcc}
use Rattle.sky_tree.proofs.PredictMakeLemmas.{Grows, mkdir_grows, done_mkdir, entry_fits}
use Rattle.sky_tree.proofs.predict_make.predict_mkdir.Goals as goal

pub attributes_at-requires : goal.attributes_at-requires
attributes_at-requires c = rw c.in-Ok.ensures.dir (mkdir_grows c.args.nodes.now c.args.cred.now c.args.at.now c.args.set.now c.requires (sym c.in-Ok.ensures.refused)).makes.there

pub entered-named-requires : goal.entered-named-requires
entered-named-requires c =
    let t : Tree = c.args.nodes.now in
    let g : Grows t c.args.at.now = mkdir_grows t c.args.cred.now c.args.at.now c.args.set.now c.requires (sym c.in-Ok.ensures.refused) in
    entry_fits t c.in-Ok.dir (fileid_in c.args.at.now.directory) c.as_slice.result.now c.args.at.now.name c.attributes_at.result c.in-Ok.ensures.dir c.as_slice.ensures c.attributes_at.ensures g.directory g.makes.room

pub linked-requires : goal.linked-requires
linked-requires c =
    let t : Tree = c.args.nodes.now in
    let same : c.entered-named.result ≡ entered c.as_slice.result.now c.args.now (attributes_at t c.in-Ok.dir) = c.entered-named.ensures ∙ ap (λ (a : Attr). entered c.as_slice.result.now c.args.now a) c.attributes_at.ensures in
    subst (λ (a : Attr). a.nlink + 1 < 2 ^ 32) (sym same) (links_fit t c.in-Ok.dir c.requires)

pub returns-in-Ok : goal.returns-in-Ok
returns-in-Ok c =
    let t : Tree = c.args.nodes.now in
    let call : Call = Call.Mkdir c.args.at.now c.args.set.now in
    done_mkdir t c.args.cred.now c.args.at.now c.args.set.now c.args.now c.in-Ok.dir c.as_slice.result.now c.new_attributes-object.result c.linked.result c.made.result c.requires c.in-Ok.ensures.dir c.as_slice.ensures c.in-Ok.ensures.refused
    (c.new_attributes-object.ensures ∙ ap (λ (l : Listing). attributes_of t.volume t.next_fileid (new_node c.args.cred.now c.args.now 0o755 c.args.set.now (Directory c.in-Ok.dir l))) c.new.ensures)
    (c.linked.ensures ∙ ap linked c.entered-named.ensures ∙ ap (λ (a : Attr). linked (entered c.as_slice.result.now c.args.now a)) c.attributes_at.ensures)
    c.made.ensures (wcc t (tree_after t c.args.cred.now call c.args.now) c.args.at.now.directory)

pub returns-in-Err : goal.returns-in-Err
returns-in-Err c =
    let t : Tree = c.args.nodes.now in
    let call : Call = Call.Mkdir c.args.at.now c.args.set.now in
    let u : Tree = tree_after t c.args.cred.now call c.args.now in
    refused_wcc t u c.args.at.now.directory (refusal_of t c.args.cred.now call) c.in-Err.status c.refused.result (created t u c.args.at.now) c.in-Err.ensures.refused
    (tree_after-refused t c.args.cred.now call c.args.now c.in-Err.status (sym c.in-Err.ensures.refused)) c.refused.ensures
