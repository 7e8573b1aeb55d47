use Rattle.std.proofs.Common.{◌≡◌, ◌∙◌, ℕ, List, Option, Some, None, ap, sym}
use Rattle.std.specs.Prelude.{IsSome}
use Rattle.sky_base.specs.declared.attr.Attr.{Attr}
use Rattle.sky_nfs.specs.Handles.{fileid_in}
use Rattle.sky_nfs.specs.Procedure.{refusal_of, tree_after}
use Rattle.sky_nfs.specs.Procedures.Create.{created}
use Rattle.sky_nfs.specs.Results.{wcc}
use Rattle.sky_nfs.specs.Tree.{Tree, named, node_at}
use Rattle.sky_nfs.specs.declared.call.Call.{Call}
use Rattle.sky_nfs.proofs.ProcedureLemmas.{tree_after-refused}
use Rattle.sky_tree.specs.AttrChanges.{entered}
use Rattle.sky_tree.proofs.CreateLemmas.{create_passed, names_stand}
use Rattle.sky_tree.proofs.PredictLemmas.{refused_wcc}
use Rattle.sky_tree.proofs.PredictCreateLemmas.{create_known, create_grows, done_taken, done_new}
use Rattle.sky_tree.proofs.PredictMakeLemmas.{Grows, entry_fits}
use Rattle.sky_tree.proofs.predict_create.predict_create.Goals as goal

-- what the name stands for, by the handle and the call's name
stands_for : (t : Tree) (dir k : ℕ) (name n : List ℕ) (o : Option ℕ) → dir ≡ k → name ≡ n → o ≡ named t dir name → o ≡ named t k n
stands_for t dir k name n o dir_is name_is e = e ∙ ap (λ (d : ℕ). named t d name) dir_is ∙ ap (λ (x : List ℕ). named t k x) name_is

pub taken_results-requires-clause-there : goal.taken_results-requires-clause-there
taken_results-requires-clause-there c =
    let t : Tree = c.args.nodes.now in
    let there : IsSome (node_at t.nodes c.in-Ok.dir) = rw c.in-Ok.ensures.dir (create_passed t c.args.cred.now c.args.at.now c.args.how c.requires (sym c.in-Ok.ensures.refused)).there in
    names_stand t c.in-Ok.dir c.as_slice-name.result.now (Some c.in-Some.fileid) c.requires there c.in-Some.ensures

pub taken_results-requires-clause-file : goal.taken_results-requires-clause-file
taken_results-requires-clause-file c =
    let t : Tree = c.args.nodes.now in
    let found : Some c.in-Some.fileid ≡ named t (fileid_in c.args.at.now.directory) c.args.at.now.name = stands_for t c.in-Ok.dir (fileid_in c.args.at.now.directory) c.as_slice-name.result.now c.args.at.now.name (Some c.in-Some.fileid) c.in-Ok.ensures.dir c.as_slice-name.ensures c.in-Some.ensures in
    (create_known t c.args.cred.now c.args.at.now c.args.how (sym c.in-Ok.ensures.refused)).file c.in-Some.fileid (sym found)

pub attributes_at-requires : goal.attributes_at-requires
attributes_at-requires c = rw c.in-Ok.ensures.dir (create_passed c.args.nodes.now c.args.cred.now c.args.at.now c.args.how c.requires (sym c.in-Ok.ensures.refused)).there

pub entered-directory-requires : goal.entered-directory-requires
entered-directory-requires c =
    let t : Tree = c.args.nodes.now in
    let free : None ≡ named t (fileid_in c.args.at.now.directory) c.args.at.now.name = stands_for t c.in-Ok.dir (fileid_in c.args.at.now.directory) c.as_slice-name.result.now c.args.at.now.name None c.in-Ok.ensures.dir c.as_slice-name.ensures c.in-None.ensures in
    let g : Grows t c.args.at.now = create_grows t c.args.cred.now c.args.at.now c.args.how c.requires (sym c.in-Ok.ensures.refused) (sym free) in
    entry_fits t c.in-Ok.dir (fileid_in c.args.at.now.directory) c.as_slice-name.result.now c.args.at.now.name c.attributes_at.result c.in-Ok.ensures.dir c.as_slice-name.ensures c.attributes_at.ensures g.directory g.makes.room

pub returns-in-Some : goal.returns-in-Some
returns-in-Some c =
    let t : Tree = c.args.nodes.now in
    let u : Tree = tree_after t c.args.cred.now (Call.Create c.args.at.now c.args.how) c.args.now in
    let found : Some c.in-Some.fileid ≡ named t (fileid_in c.args.at.now.directory) c.args.at.now.name = stands_for t c.in-Ok.dir (fileid_in c.args.at.now.directory) c.as_slice-name.result.now c.args.at.now.name (Some c.in-Some.fileid) c.in-Ok.ensures.dir c.as_slice-name.ensures c.in-Some.ensures in
    done_taken t c.args.cred.now c.args.at.now c.args.how c.args.now c.in-Some.fileid c.unchecked_size.result c.taken_results.result c.in-Ok.ensures.refused found c.unchecked_size.ensures c.taken_results.ensures (wcc t u c.args.at.now.directory)

pub returns-in-None : goal.returns-in-None
returns-in-None c =
    let t : Tree = c.args.nodes.now in
    let u : Tree = tree_after t c.args.cred.now (Call.Create c.args.at.now c.args.how) c.args.now in
    let free : None ≡ named t (fileid_in c.args.at.now.directory) c.args.at.now.name = stands_for t c.in-Ok.dir (fileid_in c.args.at.now.directory) c.as_slice-name.result.now c.args.at.now.name None c.in-Ok.ensures.dir c.as_slice-name.ensures c.in-None.ensures in
    done_new t c.args.cred.now c.args.at.now c.args.how c.args.now c.in-Ok.dir c.as_slice-name.result.now c.new_file_attributes-object.result c.entered-directory.result c.made.result c.requires c.in-Ok.ensures.dir c.as_slice-name.ensures c.in-Ok.ensures.refused free
    c.new_file_attributes-object.ensures (c.entered-directory.ensures ∙ ap (λ (a : Attr). entered c.as_slice-name.result.now c.args.now a) c.attributes_at.ensures) c.made.ensures (wcc t u c.args.at.now.directory)

pub returns-in-Err : goal.returns-in-Err
returns-in-Err c =
    let t : Tree = c.args.nodes.now in
    let call : Call = Call.Create c.args.at.now c.args.how in
    let u : Tree = tree_after t c.args.cred.now call c.args.now in
    refused_wcc t u c.args.at.now.directory (refusal_of t c.args.cred.now call) c.in-Err.status c.refused.result (created t u c.args.at.now) c.in-Err.ensures.refused
    (tree_after-refused t c.args.cred.now call c.args.now c.in-Err.status (sym c.in-Err.ensures.refused)) c.refused.ensures
