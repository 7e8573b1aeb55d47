use Rattle.std.proofs.Common.{◌++◌, ◌∙◌}
use Rattle.std.proofs.lemmas.Result.{err_from_is_err_and}
use Rattle.sky_nfs.specs.Procedures.Remove.{old_name_rules}
use Rattle.sky_nfs.specs.Rules.{name_rules}
use Rattle.sky_nfs.specs.Tree.{named}
use Rattle.sky_tree.proofs.NamedLemmas.{plain_rules, kept_rules, remove_refused, remove_named, remove_dotted, remove_old, remove_kept}
use Rattle.sky_tree.proofs.RuleLemmas.{refused_by}
use Rattle.sky_tree.proofs.remove.check_remove.Goals as goal

pub returns-in_err-dir-clause-refused : goal.returns-in_err-dir-clause-refused
returns-in_err-dir-clause-refused c =
    let p = err_from_is_err_and c.from_residual.result c.from_residual.ensures.1 in
    rw (p.1, p.2) (remove_refused c.args.nodes.now c.args.cred.now c.args.at.now c.in_err-dir.field-0.0 c.in_err-dir.ensures.refused)

pub returns-in_err-check_name-clause-refused : goal.returns-in_err-check_name-clause-refused
returns-in_err-check_name-clause-refused c =
    let p = err_from_is_err_and c.from_residual-in_err-check_name.result c.from_residual-in_err-check_name.ensures.1 in
    rw (p.1, p.2) (refused_by (name_rules c.as_slice-name.result.now) (plain_rules c.as_slice-name.result.now ++ (old_name_rules c.args.nodes.now c.args.cred.now c.in_ok-dir.dir c.as_slice-name.result.now) ++ kept_rules c.args.nodes.now (named c.args.nodes.now c.in_ok-dir.dir c.as_slice-name.result.now)) c.in_err-check_name.field-0.0 c.in_err-check_name.ensures ∙ remove_named c.args.nodes.now c.args.cred.now c.args.at.now c.in_ok-dir.dir c.as_slice-name.result.now c.in_ok-dir.ensures.fileid c.as_slice-name.ensures c.in_ok-dir.ensures.refused)

pub returns-in_err-refuse_if-clause-refused : goal.returns-in_err-refuse_if-clause-refused
returns-in_err-refuse_if-clause-refused c =
    let p = err_from_is_err_and c.from_residual-in_err-refuse_if.result c.from_residual-in_err-refuse_if.ensures.1 in
    rw (p.1, p.2) (remove_dotted c.args.nodes.now c.args.cred.now c.args.at.now c.in_ok-dir.dir c.as_slice-name.result.now c.in_ok-dir.ensures.fileid c.as_slice-name.ensures c.in_ok-dir.ensures.refused c.in_ok-check_name.ensures c.is_dots.result c.in_err-refuse_if.field-0.0 c.is_dots.ensures c.in_err-refuse_if.ensures)

pub returns-in_err-fileid-clause-refused : goal.returns-in_err-fileid-clause-refused
returns-in_err-fileid-clause-refused c =
    let p = err_from_is_err_and c.from_residual-in_err-fileid.result c.from_residual-in_err-fileid.ensures.1 in
    rw (p.1, p.2) (refused_by (old_name_rules c.args.nodes.now c.args.cred.now c.in_ok-dir.dir c.as_slice-name.result.now) (kept_rules c.args.nodes.now (named c.args.nodes.now c.in_ok-dir.dir c.as_slice-name.result.now)) c.in_err-fileid.field-0.0 c.in_err-fileid.ensures.refused ∙ remove_old c.args.nodes.now c.args.cred.now c.args.at.now c.in_ok-dir.dir c.as_slice-name.result.now c.in_ok-dir.ensures.fileid c.as_slice-name.ensures c.in_ok-dir.ensures.refused c.in_ok-check_name.ensures c.is_dots.result c.is_dots.ensures c.in_ok-refuse_if.ensures)

pub returns-in_err-refuse_if-2-clause-refused : goal.returns-in_err-refuse_if-2-clause-refused
returns-in_err-refuse_if-2-clause-refused c =
    let p = err_from_is_err_and c.from_residual-in_err-refuse_if-2.result c.from_residual-in_err-refuse_if-2.ensures.1 in
    rw (p.1, p.2) (c.in_err-refuse_if-2.ensures ∙ remove_kept c.args.nodes.now c.args.cred.now c.args.at.now c.in_ok-dir.dir c.as_slice-name.result.now c.in_ok-dir.ensures.fileid c.as_slice-name.ensures c.in_ok-dir.ensures.refused c.in_ok-check_name.ensures c.is_dots.result c.is_dots.ensures c.in_ok-refuse_if.ensures c.in_ok-fileid.ensures.refused c.in_ok-fileid.fileid c.in_ok-fileid.ensures.fileid c.is_directory.result c.is_directory.ensures)

pub returns-clause-refused : goal.returns-clause-refused
returns-clause-refused c =
    c.in_ok-refuse_if-2.ensures ∙ remove_kept c.args.nodes.now c.args.cred.now c.args.at.now c.in_ok-dir.dir c.as_slice-name.result.now c.in_ok-dir.ensures.fileid c.as_slice-name.ensures c.in_ok-dir.ensures.refused c.in_ok-check_name.ensures c.is_dots.result c.is_dots.ensures c.in_ok-refuse_if.ensures c.in_ok-fileid.ensures.refused c.in_ok-fileid.fileid c.in_ok-fileid.ensures.fileid c.is_directory.result c.is_directory.ensures
