use Rattle.std.proofs.Common.{[], ◌∷◌, ◌∙◌}
use Rattle.std.proofs.lemmas.Result.{err_from_is_err_and}
use Rattle.sky_nfs.specs.Handles.{fileid_in}
use Rattle.sky_nfs.specs.Rules.{handle_rules, is_no_directory}
use Rattle.sky_nfs.specs.declared.status.NfsStatus.TheVariants.{NotDir}
use Rattle.sky_tree.proofs.PlaceLemmas.{directory_decides}
use Rattle.sky_tree.proofs.RuleLemmas.{refused_by}
use Rattle.sky_tree.proofs.rules.resolve_directory.Goals as goal

pub returns-in_err-fileid-clause-refused : goal.returns-in_err-fileid-clause-refused
returns-in_err-fileid-clause-refused c =
    let p = err_from_is_err_and c.from_residual.result c.from_residual.ensures.1 in
    rw (p.1, p.2) (refused_by (handle_rules c.args.nodes.now c.args.fh.now) ((is_no_directory c.args.nodes.now (fileid_in c.args.fh.now), NotDir) ∷ []) c.in_err-fileid.field-0.0 c.in_err-fileid.ensures.refused)

pub returns-in_err-refuse_if-clause-refused : goal.returns-in_err-refuse_if-clause-refused
returns-in_err-refuse_if-clause-refused c =
    let p = err_from_is_err_and c.from_residual-in_err-refuse_if.result c.from_residual-in_err-refuse_if.ensures.1 in
    rw (p.1, p.2) (c.in_err-refuse_if.ensures ∙ directory_decides c.args.nodes.now c.args.fh.now c.in_ok-fileid.fileid c.is_directory.result c.in_ok-fileid.ensures.fileid c.is_directory.ensures c.in_ok-fileid.ensures.refused)

pub returns-clause-refused : goal.returns-clause-refused
returns-clause-refused c = c.in_ok-refuse_if.ensures ∙ directory_decides c.args.nodes.now c.args.fh.now c.in_ok-fileid.fileid c.is_directory.result c.in_ok-fileid.ensures.fileid c.is_directory.ensures c.in_ok-fileid.ensures.refused
