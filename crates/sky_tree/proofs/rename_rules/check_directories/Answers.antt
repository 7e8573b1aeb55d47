use Rattle.std.proofs.Common.{[], ◌∷◌, ◌++◌, ◌∙◌, sym, refl}
use Rattle.std.specs.Prelude.{not}
use Rattle.std.proofs.lemmas.Result.{err_from_is_err_and}
use Rattle.sky_nfs.specs.Handles.{fileid_in}
use Rattle.sky_nfs.specs.Rules.{Rules, handle_rules, is_no_directory}
use Rattle.sky_nfs.specs.Tree.{the_node, is_directory}
use Rattle.sky_nfs.specs.declared.status.NfsStatus.TheVariants.{NotDir}
use Rattle.sky_tree.proofs.PlaceLemmas.{places_decide}
use Rattle.sky_tree.proofs.RuleLemmas.{refused_by, passed_by}
use Rattle.sky_tree.proofs.rename_rules.check_directories.Goals as goal

pub returns-in_err-source-clause-refused : goal.returns-in_err-source-clause-refused
returns-in_err-source-clause-refused c =
    let places : Rules = (is_no_directory c.args.nodes.now (fileid_in c.args.from.now), NotDir) ∷ (is_no_directory c.args.nodes.now (fileid_in c.args.to.now), NotDir) ∷ [] in
    let p = err_from_is_err_and c.from_residual.result c.from_residual.ensures.1 in
    rw (p.1, p.2) (refused_by (handle_rules c.args.nodes.now c.args.from.now) (handle_rules c.args.nodes.now c.args.to.now ++ places) c.in_err-source.field-0.0 c.in_err-source.ensures.refused)

pub returns-in_err-target-clause-refused : goal.returns-in_err-target-clause-refused
returns-in_err-target-clause-refused c =
    let places : Rules = (is_no_directory c.args.nodes.now (fileid_in c.args.from.now), NotDir) ∷ (is_no_directory c.args.nodes.now (fileid_in c.args.to.now), NotDir) ∷ [] in
    let p = err_from_is_err_and c.from_residual-in_err-target.result c.from_residual-in_err-target.ensures.1 in
    rw (p.1, p.2) (refused_by (handle_rules c.args.nodes.now c.args.to.now) places c.in_err-target.field-0.0 c.in_err-target.ensures.refused ∙ sym (passed_by (handle_rules c.args.nodes.now c.args.from.now) (handle_rules c.args.nodes.now c.args.to.now ++ places) c.in_ok-source.ensures.refused))

pub returns-in_err-refuse_if-clause-refused : goal.returns-in_err-refuse_if-clause-refused
returns-in_err-refuse_if-clause-refused c =
    let p = err_from_is_err_and c.from_residual-in_err-refuse_if.result c.from_residual-in_err-refuse_if.ensures.1 in
    rw (p.1, p.2) (refused_by ((not c.is_directory.result, NotDir) ∷ []) ((not (is_directory (the_node c.args.nodes.now c.in_ok-target.target)), NotDir) ∷ []) c.in_err-refuse_if.field-0.0 c.in_err-refuse_if.ensures ∙ places_decide c.args.nodes.now c.args.from.now c.args.to.now c.in_ok-source.source c.in_ok-target.target c.is_directory.result (is_directory (the_node c.args.nodes.now c.in_ok-target.target)) c.in_ok-source.ensures.fileid c.in_ok-target.ensures.fileid c.is_directory.ensures refl c.in_ok-source.ensures.refused c.in_ok-target.ensures.refused)

pub returns-in_err-refuse_if-2-clause-refused : goal.returns-in_err-refuse_if-2-clause-refused
returns-in_err-refuse_if-2-clause-refused c =
    let p = err_from_is_err_and c.from_residual-in_err-refuse_if-2.result c.from_residual-in_err-refuse_if-2.ensures.1 in
    rw (p.1, p.2) (c.in_err-refuse_if-2.ensures ∙ sym (passed_by ((not c.is_directory.result, NotDir) ∷ []) ((not c.is_directory-2.result, NotDir) ∷ []) c.in_ok-refuse_if.ensures) ∙ places_decide c.args.nodes.now c.args.from.now c.args.to.now c.in_ok-source.source c.in_ok-target.target c.is_directory.result c.is_directory-2.result c.in_ok-source.ensures.fileid c.in_ok-target.ensures.fileid c.is_directory.ensures c.is_directory-2.ensures c.in_ok-source.ensures.refused c.in_ok-target.ensures.refused)

pub returns-clause-refused : goal.returns-clause-refused
returns-clause-refused c =
    c.in_ok-refuse_if-2.ensures ∙ sym (passed_by ((not c.is_directory.result, NotDir) ∷ []) ((not c.is_directory-2.result, NotDir) ∷ []) c.in_ok-refuse_if.ensures) ∙ places_decide c.args.nodes.now c.args.from.now c.args.to.now c.in_ok-source.source c.in_ok-target.target c.is_directory.result c.is_directory-2.result c.in_ok-source.ensures.fileid c.in_ok-target.ensures.fileid c.is_directory.ensures c.is_directory-2.ensures c.in_ok-source.ensures.refused c.in_ok-target.ensures.refused
