use Rattle.std.proofs.Common.{◌≡◌, ◌∙◌, ℕ, List, [], ap, sym, length}
use Rattle.sky_base.specs.declared.attr.Attr.{Attr}
use Rattle.sky_nfs.specs.Changes.{new_node}
use Rattle.sky_nfs.specs.Handles.{fileid_in}
use Rattle.sky_nfs.specs.Procedure.{refusal_of, tree_after}
use Rattle.sky_nfs.specs.Procedures.Create.{created}
use Rattle.sky_nfs.specs.Results.{wcc}
use Rattle.sky_nfs.specs.Tree.{Tree, Link, attributes_of}
use Rattle.sky_nfs.specs.declared.call.Call.{Call}
use Rattle.sky_nfs.proofs.ProcedureLemmas.{tree_after-refused}
use Rattle.sky_tree.specs.AttrChanges.{entered, of_size}
use Rattle.sky_tree.proofs.AttrLemmas.{attributes-link}
use Rattle.sky_tree.proofs.PredictLemmas.{refused_wcc}
use Rattle.sky_tree.proofs.PredictMakeLemmas.{Grows, symlink_grows, done_symlink, entry_fits}
use Rattle.sky_tree.proofs.predict_make.predict_symlink.Goals as goal

pub attributes_at-requires : goal.attributes_at-requires
attributes_at-requires c = rw c.in-Ok.ensures.dir (symlink_grows c.args.nodes.now c.args.cred.now c.args.at.now c.args.set.now c.args.text.now c.requires (sym c.in-Ok.ensures.refused)).makes.there

pub entered-directory-requires : goal.entered-directory-requires
entered-directory-requires c =
    let t : Tree = c.args.nodes.now in
    let g : Grows t c.args.at.now = symlink_grows t c.args.cred.now c.args.at.now c.args.set.now c.args.text.now c.requires (sym c.in-Ok.ensures.refused) in
    entry_fits t c.in-Ok.dir (fileid_in c.args.at.now.directory) c.as_slice-in-Ok.result.now c.args.at.now.name c.attributes_at.result c.in-Ok.ensures.dir c.as_slice-in-Ok.ensures c.attributes_at.ensures g.directory g.makes.room

pub returns-in-Ok : goal.returns-in-Ok
returns-in-Ok c =
    let t : Tree = c.args.nodes.now in
    let text : List ℕ = c.args.text.now in
    let call : Call = Call.Symlink c.args.at.now c.args.set.now text in
    let without : List ℕ → Attr = λ l. attributes_of t.volume t.next_fileid (new_node c.args.cred.now c.args.now 0o777 c.args.set.now (Link l)) in
    let empty : c.new_attributes-empty.result ≡ without [] = c.new_attributes-empty.ensures ∙ ap without (c.new-in-Ok.ensures ∙ c.new.ensures.items) in
    let object : c.of_size-object.result ≡ without text =
    c.of_size-object.ensures ∙ ap (λ (a : Attr). of_size (length c.as_slice.result.now) a) empty ∙ ap (λ (l : List ℕ). of_size (length l) (without [])) c.as_slice.ensures
    ∙ sym (attributes-link t.volume t.next_fileid c.args.cred.now c.args.now 0o777 c.args.set.now text) in
    done_symlink t c.args.cred.now c.args.at.now c.args.set.now text c.args.now c.in-Ok.dir c.as_slice-in-Ok.result.now c.of_size-object.result c.entered-directory.result c.made.result c.requires c.in-Ok.ensures.dir c.as_slice-in-Ok.ensures c.in-Ok.ensures.refused
    object (c.entered-directory.ensures ∙ ap (λ (a : Attr). entered c.as_slice-in-Ok.result.now c.args.now a) c.attributes_at.ensures)
    c.made.ensures (wcc t (tree_after t c.args.cred.now call c.args.now) c.args.at.now.directory)

pub returns-in-Err : goal.returns-in-Err
returns-in-Err c =
    let t : Tree = c.args.nodes.now in
    let call : Call = Call.Symlink c.args.at.now c.args.set.now c.args.text.now in
    let u : Tree = tree_after t c.args.cred.now call c.args.now in
    refused_wcc t u c.args.at.now.directory (refusal_of t c.args.cred.now call) c.in-Err.status c.refused.result (created t u c.args.at.now) c.in-Err.ensures.refused
    (tree_after-refused t c.args.cred.now call c.args.now c.in-Err.status (sym c.in-Err.ensures.refused)) c.refused.ensures
