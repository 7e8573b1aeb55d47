use Rattle.std.proofs.Common.{◌∙◌}
use Rattle.std.proofs.lemmas.Result.{err_from_is_err_and}
use Rattle.sky_tree.proofs.SetLemmas.{object_refused, setting_decides}
use Rattle.sky_tree.proofs.setattr.check_setattr.Goals as goal

pub returns-in_err-fileid-clause-refused : goal.returns-in_err-fileid-clause-refused
returns-in_err-fileid-clause-refused c =
    let p = err_from_is_err_and c.from_residual.result c.from_residual.ensures.1 in
    rw (p.1, p.2) (object_refused c.args.nodes.now c.args.cred.now c.args.object.now c.args.set.now c.args.guard c.in_err-fileid.field-0.0 c.in_err-fileid.ensures.refused)

pub returns-in_err-check_setting-clause-refused : goal.returns-in_err-check_setting-clause-refused
returns-in_err-check_setting-clause-refused c =
    let p = err_from_is_err_and c.from_residual-in_err-check_setting.result c.from_residual-in_err-check_setting.ensures.1 in
    rw (p.1, p.2) (c.in_err-check_setting.ensures ∙ setting_decides c.args.nodes.now c.args.cred.now c.args.object.now c.args.set.now c.args.guard c.in_ok-fileid.fileid c.in_ok-fileid.ensures.fileid c.in_ok-fileid.ensures.refused)

pub returns-clause-refused : goal.returns-clause-refused
returns-clause-refused c =
    c.in_ok-check_setting.ensures ∙ setting_decides c.args.nodes.now c.args.cred.now c.args.object.now c.args.set.now c.args.guard c.in_ok-fileid.fileid c.in_ok-fileid.ensures.fileid c.in_ok-fileid.ensures.refused
