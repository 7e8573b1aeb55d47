use Rattle.std.proofs.Common.{◌∙◌}
use Rattle.std.proofs.lemmas.Result.{err_from_is_err_and}
use Rattle.sky_tree.proofs.LinkLemmas.{objects_refused, name_decides}
use Rattle.sky_tree.proofs.link.check_link.Goals as goal

pub returns-in_err-fileid-clause-refused : goal.returns-in_err-fileid-clause-refused
returns-in_err-fileid-clause-refused c =
    let p = err_from_is_err_and c.from_residual.result c.from_residual.ensures.1 in
    rw (p.1, p.2) (objects_refused c.args.nodes.now c.args.cred.now c.args.file.now c.args.at.now c.in_err-fileid.field-0.0 c.in_err-fileid.ensures.refused)

pub returns-in_err-check_link_name-clause-refused : goal.returns-in_err-check_link_name-clause-refused
returns-in_err-check_link_name-clause-refused c =
    let p = err_from_is_err_and c.from_residual-in_err-check_link_name.result c.from_residual-in_err-check_link_name.ensures.1 in
    rw (p.1, p.2) (c.in_err-check_link_name.ensures ∙ name_decides c.args.nodes.now c.args.cred.now c.args.file.now c.args.at.now c.in_ok-fileid.fileid c.in_ok-fileid.dir c.as_slice-name.result.now c.in_ok-fileid.ensures.fileid c.in_ok-fileid.ensures.dir c.as_slice-name.ensures c.in_ok-fileid.ensures.refused)

pub returns-clause-refused : goal.returns-clause-refused
returns-clause-refused c = c.in_ok-check_link_name.ensures ∙ name_decides c.args.nodes.now c.args.cred.now c.args.file.now c.args.at.now c.in_ok-fileid.fileid c.in_ok-fileid.dir c.as_slice-name.result.now c.in_ok-fileid.ensures.fileid c.in_ok-fileid.ensures.dir c.as_slice-name.ensures c.in_ok-fileid.ensures.refused
