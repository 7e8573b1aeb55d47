use Rattle.std.proofs.Common.{◌++◌, ◌∙◌}
use Rattle.std.specs.Prelude.{unwrap_or}
use Rattle.std.proofs.lemmas.Result.{err_from_is_err_and}
use Rattle.sky_nfs.specs.Procedures.Remove.{old_name_rules}
use Rattle.sky_nfs.specs.Rules.{Rules, name_rules}
use Rattle.sky_nfs.specs.Tree.{named}
use Rattle.sky_tree.proofs.NamedLemmas.{dots_rules, emptied_rules, rmdir_refused, rmdir_named, rmdir_dots, rmdir_old, rmdir_emptied}
use Rattle.sky_tree.proofs.RuleLemmas.{refused_by}
use Rattle.sky_tree.proofs.remove.check_rmdir.Goals as goal

pub returns-in_err-dir-clause-refused : goal.returns-in_err-dir-clause-refused
returns-in_err-dir-clause-refused c =
    let p = err_from_is_err_and c.from_residual.result c.from_residual.ensures.1 in
    rw (p.1, p.2) (rmdir_refused c.args.nodes.now c.args.cred.now c.args.at.now c.in_err-dir.field-0.0 c.in_err-dir.ensures.refused)

pub returns-in_err-check_name-clause-refused : goal.returns-in_err-check_name-clause-refused
returns-in_err-check_name-clause-refused c =
    let old : Rules = old_name_rules c.args.nodes.now c.args.cred.now c.in_ok-dir.dir c.as_slice-name.result.now in
    let emptied : Rules = emptied_rules c.args.nodes.now (unwrap_or (named c.args.nodes.now c.in_ok-dir.dir c.as_slice-name.result.now) 0) in
    let p = err_from_is_err_and c.from_residual-in_err-check_name.result c.from_residual-in_err-check_name.ensures.1 in
    rw (p.1, p.2) (refused_by (name_rules c.as_slice-name.result.now) (dots_rules c.as_slice-name.result.now ++ old ++ emptied) c.in_err-check_name.field-0.0 c.in_err-check_name.ensures ∙ rmdir_named c.args.nodes.now c.args.cred.now c.args.at.now c.in_ok-dir.dir c.as_slice-name.result.now c.in_ok-dir.ensures.fileid c.as_slice-name.ensures c.in_ok-dir.ensures.refused)

pub returns-in_err-check_dots-clause-refused : goal.returns-in_err-check_dots-clause-refused
returns-in_err-check_dots-clause-refused c =
    let old : Rules = old_name_rules c.args.nodes.now c.args.cred.now c.in_ok-dir.dir c.as_slice-name.result.now in
    let emptied : Rules = emptied_rules c.args.nodes.now (unwrap_or (named c.args.nodes.now c.in_ok-dir.dir c.as_slice-name.result.now) 0) in
    let p = err_from_is_err_and c.from_residual-in_err-check_dots.result c.from_residual-in_err-check_dots.ensures.1 in
    rw (p.1, p.2) (refused_by (dots_rules c.as_slice-name.result.now) (old ++ emptied) c.in_err-check_dots.field-0.0 c.in_err-check_dots.ensures ∙ rmdir_dots c.args.nodes.now c.args.cred.now c.args.at.now c.in_ok-dir.dir c.as_slice-name.result.now c.in_ok-dir.ensures.fileid c.as_slice-name.ensures c.in_ok-dir.ensures.refused c.in_ok-check_name.ensures)

pub returns-in_err-fileid-clause-refused : goal.returns-in_err-fileid-clause-refused
returns-in_err-fileid-clause-refused c =
    let old : Rules = old_name_rules c.args.nodes.now c.args.cred.now c.in_ok-dir.dir c.as_slice-name.result.now in
    let emptied : Rules = emptied_rules c.args.nodes.now (unwrap_or (named c.args.nodes.now c.in_ok-dir.dir c.as_slice-name.result.now) 0) in
    let p = err_from_is_err_and c.from_residual-in_err-fileid.result c.from_residual-in_err-fileid.ensures.1 in
    rw (p.1, p.2) (refused_by old emptied c.in_err-fileid.field-0.0 c.in_err-fileid.ensures.refused ∙ rmdir_old c.args.nodes.now c.args.cred.now c.args.at.now c.in_ok-dir.dir c.as_slice-name.result.now c.in_ok-dir.ensures.fileid c.as_slice-name.ensures c.in_ok-dir.ensures.refused c.in_ok-check_name.ensures c.in_ok-check_dots.ensures)

pub returns-in_err-check_emptied-clause-refused : goal.returns-in_err-check_emptied-clause-refused
returns-in_err-check_emptied-clause-refused c =
    let p = err_from_is_err_and c.from_residual-in_err-check_emptied.result c.from_residual-in_err-check_emptied.ensures.1 in
    rw (p.1, p.2) (c.in_err-check_emptied.ensures ∙ rmdir_emptied c.args.nodes.now c.args.cred.now c.args.at.now c.in_ok-dir.dir c.as_slice-name.result.now c.in_ok-fileid.fileid c.in_ok-dir.ensures.fileid c.as_slice-name.ensures c.in_ok-dir.ensures.refused c.in_ok-check_name.ensures c.in_ok-check_dots.ensures c.in_ok-fileid.ensures.refused c.in_ok-fileid.ensures.fileid)

pub returns-clause-refused : goal.returns-clause-refused
returns-clause-refused c =
    c.in_ok-check_emptied.ensures ∙ rmdir_emptied c.args.nodes.now c.args.cred.now c.args.at.now c.in_ok-dir.dir c.as_slice-name.result.now c.in_ok-fileid.fileid c.in_ok-dir.ensures.fileid c.as_slice-name.ensures c.in_ok-dir.ensures.refused c.in_ok-check_name.ensures c.in_ok-check_dots.ensures c.in_ok-fileid.ensures.refused c.in_ok-fileid.ensures.fileid
