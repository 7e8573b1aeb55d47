use Rattle.std.proofs.Common.{[], ◌∷◌, ◌++◌, ◌∙◌, sym, refl}
use Rattle.std.specs.Prelude.{not}
use Rattle.std.proofs.lemmas.Result.{err_from_is_err_and}
use Rattle.sky_nfs.specs.Handles.{fileid_in}
use Rattle.sky_nfs.specs.Rules.{Rules, handle_rules, is_no_directory}
use Rattle.sky_nfs.specs.Tree.{the_node, is_directory}
use Rattle.sky_nfs.specs.declared.status.NfsStatus.TheVariants.{NotDir, Inval}
use Rattle.sky_tree.proofs.PlaceLemmas.{objects_decide}
use Rattle.sky_tree.proofs.RuleLemmas.{refused_by, passed_by}
use Rattle.sky_tree.proofs.link.check_objects.Goals as goal

pub returns-in_err-fileid-clause-refused : goal.returns-in_err-fileid-clause-refused
returns-in_err-fileid-clause-refused c =
    let places : Rules = (is_no_directory c.args.nodes.now (fileid_in c.args.directory.now), NotDir) ∷ (is_directory (the_node c.args.nodes.now (fileid_in c.args.file.now)), Inval) ∷ [] in
    let p = err_from_is_err_and c.from_residual.result c.from_residual.ensures.1 in
    rw (p.1, p.2) (refused_by (handle_rules c.args.nodes.now c.args.file.now) (handle_rules c.args.nodes.now c.args.directory.now ++ places) c.in_err-fileid.field-0.0 c.in_err-fileid.ensures.refused)

pub returns-in_err-dir-clause-refused : goal.returns-in_err-dir-clause-refused
returns-in_err-dir-clause-refused c =
    let places : Rules = (is_no_directory c.args.nodes.now (fileid_in c.args.directory.now), NotDir) ∷ (is_directory (the_node c.args.nodes.now (fileid_in c.args.file.now)), Inval) ∷ [] in
    let p = err_from_is_err_and c.from_residual-in_err-dir.result c.from_residual-in_err-dir.ensures.1 in
    rw (p.1, p.2) (refused_by (handle_rules c.args.nodes.now c.args.directory.now) places c.in_err-dir.field-0.0 c.in_err-dir.ensures.refused ∙ sym (passed_by (handle_rules c.args.nodes.now c.args.file.now) (handle_rules c.args.nodes.now c.args.directory.now ++ places) c.in_ok-fileid.ensures.refused))

pub returns-in_err-refuse_if-clause-refused : goal.returns-in_err-refuse_if-clause-refused
returns-in_err-refuse_if-clause-refused c =
    let p = err_from_is_err_and c.from_residual-in_err-refuse_if.result c.from_residual-in_err-refuse_if.ensures.1 in
    rw (p.1, p.2) (refused_by ((not c.is_directory.result, NotDir) ∷ []) ((is_directory (the_node c.args.nodes.now c.in_ok-fileid.fileid), Inval) ∷ []) c.in_err-refuse_if.field-0.0 c.in_err-refuse_if.ensures ∙ objects_decide c.args.nodes.now c.args.file.now c.args.directory.now c.in_ok-fileid.fileid c.in_ok-dir.dir c.is_directory.result (is_directory (the_node c.args.nodes.now c.in_ok-fileid.fileid)) c.in_ok-fileid.ensures.fileid c.in_ok-dir.ensures.fileid c.is_directory.ensures refl c.in_ok-fileid.ensures.refused c.in_ok-dir.ensures.refused)

pub returns-in_err-refuse_if-2-clause-refused : goal.returns-in_err-refuse_if-2-clause-refused
returns-in_err-refuse_if-2-clause-refused c =
    let p = err_from_is_err_and c.from_residual-in_err-refuse_if-2.result c.from_residual-in_err-refuse_if-2.ensures.1 in
    rw (p.1, p.2) (c.in_err-refuse_if-2.ensures ∙ sym (passed_by ((not c.is_directory.result, NotDir) ∷ []) ((c.is_directory-2.result, Inval) ∷ []) c.in_ok-refuse_if.ensures) ∙ objects_decide c.args.nodes.now c.args.file.now c.args.directory.now c.in_ok-fileid.fileid c.in_ok-dir.dir c.is_directory.result c.is_directory-2.result c.in_ok-fileid.ensures.fileid c.in_ok-dir.ensures.fileid c.is_directory.ensures c.is_directory-2.ensures c.in_ok-fileid.ensures.refused c.in_ok-dir.ensures.refused)

pub returns-clause-refused : goal.returns-clause-refused
returns-clause-refused c =
    c.in_ok-refuse_if-2.ensures ∙ sym (passed_by ((not c.is_directory.result, NotDir) ∷ []) ((c.is_directory-2.result, Inval) ∷ []) c.in_ok-refuse_if.ensures) ∙ objects_decide c.args.nodes.now c.args.file.now c.args.directory.now c.in_ok-fileid.fileid c.in_ok-dir.dir c.is_directory.result c.is_directory-2.result c.in_ok-fileid.ensures.fileid c.in_ok-dir.ensures.fileid c.is_directory.ensures c.is_directory-2.ensures c.in_ok-fileid.ensures.refused c.in_ok-dir.ensures.refused
