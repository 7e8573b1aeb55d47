use Rattle.std.proofs.lemmas.Result.{err_from_is_err_and}
use Rattle.sky_tree.proofs.SettingLemmas.{owned_refused, sized_refused, timed_decides}
use Rattle.sky_tree.proofs.setattr.check_setting.Goals as goal

pub returns-in_err-check_owned : goal.returns-in_err-check_owned
returns-in_err-check_owned c =
    let p = err_from_is_err_and c.from_residual.result c.from_residual.ensures.1 in
    rw (p.1, p.2) (owned_refused c.args.nodes.now c.args.cred.now c.args.fileid c.args.set.now c.in_err-check_owned.field-0.0 c.in_err-check_owned.ensures)

pub returns-in_err-check_sized : goal.returns-in_err-check_sized
returns-in_err-check_sized c =
    let p = err_from_is_err_and c.from_residual-in_err-check_sized.result c.from_residual-in_err-check_sized.ensures.1 in
    rw (p.1, p.2) (sized_refused c.args.nodes.now c.args.cred.now c.args.fileid c.args.set.now c.in_err-check_sized.field-0.0 c.in_ok-check_owned.ensures c.in_err-check_sized.ensures)

pub returns : goal.returns
returns c =
    timed_decides c.args.nodes.now c.args.cred.now c.args.fileid c.args.set.now c.check_timed.result c.in_ok-check_owned.ensures c.in_ok-check_sized.ensures c.check_timed.ensures
