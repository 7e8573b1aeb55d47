use Rattle.std.proofs.Common.{refl}
use Rattle.std.proofs.lemmas.Result.{err_from_is_err_and}
use Rattle.sky_args.proofs.reading.take_call.Goals as goal

pub returns-in_ok-take_get_attr-in-1-clause-exact : goal.returns-in_ok-take_get_attr-in-1-clause-exact
returns-in_ok-take_get_attr-in-1-clause-exact c = rw c.in-1.is c.in_ok-take_get_attr-in-1.ensures.exact

pub returns-in_err-take_get_attr-in-1-clause-exact : goal.returns-in_err-take_get_attr-in-1-clause-exact
returns-in_err-take_get_attr-in-1-clause-exact c =
    let p = err_from_is_err_and c.from_residual.result c.from_residual.ensures.1 in
    rw (c.in-1.is, p.1, p.2, c.in_err-take_get_attr-in-1.ensures.exact) refl

pub returns-in_ok-take_set_attr_call-in-2-clause-exact : goal.returns-in_ok-take_set_attr_call-in-2-clause-exact
returns-in_ok-take_set_attr_call-in-2-clause-exact c = rw c.in-2.is c.in_ok-take_set_attr_call-in-2.ensures.exact

pub returns-in_err-take_set_attr_call-in-2-clause-exact : goal.returns-in_err-take_set_attr_call-in-2-clause-exact
returns-in_err-take_set_attr_call-in-2-clause-exact c =
    let p = err_from_is_err_and c.from_residual-in_err-take_set_attr_call-in-2.result c.from_residual-in_err-take_set_attr_call-in-2.ensures.1 in
    rw (c.in-2.is, p.1, p.2, c.in_err-take_set_attr_call-in-2.ensures.exact) refl

pub returns-in-3-clause-exact : goal.returns-in-3-clause-exact
returns-in-3-clause-exact c = rw c.in-3.is c.take_lookup.ensures.exact

pub returns-in-3-clause-memory : goal.returns-in-3-clause-memory
returns-in-3-clause-memory c = λ e. rw c.in-3.is refl

pub returns-in_ok-take_access-in-4-clause-exact : goal.returns-in_ok-take_access-in-4-clause-exact
returns-in_ok-take_access-in-4-clause-exact c = rw c.in-4.is c.in_ok-take_access-in-4.ensures.exact

pub returns-in_err-take_access-in-4-clause-exact : goal.returns-in_err-take_access-in-4-clause-exact
returns-in_err-take_access-in-4-clause-exact c =
    let p = err_from_is_err_and c.from_residual-in_err-take_access-in-4.result c.from_residual-in_err-take_access-in-4.ensures.1 in
    rw (c.in-4.is, p.1, p.2, c.in_err-take_access-in-4.ensures.exact) refl

pub returns-in_ok-take_read_link-in-5-clause-exact : goal.returns-in_ok-take_read_link-in-5-clause-exact
returns-in_ok-take_read_link-in-5-clause-exact c = rw c.in-5.is c.in_ok-take_read_link-in-5.ensures.exact

pub returns-in_err-take_read_link-in-5-clause-exact : goal.returns-in_err-take_read_link-in-5-clause-exact
returns-in_err-take_read_link-in-5-clause-exact c =
    let p = err_from_is_err_and c.from_residual-in_err-take_read_link-in-5.result c.from_residual-in_err-take_read_link-in-5.ensures.1 in
    rw (c.in-5.is, p.1, p.2, c.in_err-take_read_link-in-5.ensures.exact) refl

pub returns-in_ok-take_read-in-6-clause-exact : goal.returns-in_ok-take_read-in-6-clause-exact
returns-in_ok-take_read-in-6-clause-exact c = rw c.in-6.is c.in_ok-take_read-in-6.ensures.exact

pub returns-in_err-take_read-in-6-clause-exact : goal.returns-in_err-take_read-in-6-clause-exact
returns-in_err-take_read-in-6-clause-exact c =
    let p = err_from_is_err_and c.from_residual-in_err-take_read-in-6.result c.from_residual-in_err-take_read-in-6.ensures.1 in
    rw (c.in-6.is, p.1, p.2, c.in_err-take_read-in-6.ensures.exact) refl

pub returns-in-7-clause-exact : goal.returns-in-7-clause-exact
returns-in-7-clause-exact c = rw c.in-7.is c.take_write.ensures.exact

pub returns-in-7-clause-memory : goal.returns-in-7-clause-memory
returns-in-7-clause-memory c = λ e. rw c.in-7.is refl

pub returns-in-8-clause-exact : goal.returns-in-8-clause-exact
returns-in-8-clause-exact c = rw c.in-8.is c.take_create.ensures.exact

pub returns-in-8-clause-memory : goal.returns-in-8-clause-memory
returns-in-8-clause-memory c = λ e. rw c.in-8.is refl

pub returns-in-9-clause-exact : goal.returns-in-9-clause-exact
returns-in-9-clause-exact c = rw c.in-9.is c.take_mkdir.ensures.exact

pub returns-in-9-clause-memory : goal.returns-in-9-clause-memory
returns-in-9-clause-memory c = λ e. rw c.in-9.is refl

pub returns-in-10-clause-exact : goal.returns-in-10-clause-exact
returns-in-10-clause-exact c = rw c.in-10.is c.take_symlink.ensures.exact

pub returns-in-10-clause-memory : goal.returns-in-10-clause-memory
returns-in-10-clause-memory c = λ e. rw c.in-10.is refl

pub returns-in-11-clause-exact : goal.returns-in-11-clause-exact
returns-in-11-clause-exact c = rw c.in-11.is c.take_mknod.ensures.exact

pub returns-in-11-clause-memory : goal.returns-in-11-clause-memory
returns-in-11-clause-memory c = λ e. rw c.in-11.is refl

pub returns-in-12-clause-exact : goal.returns-in-12-clause-exact
returns-in-12-clause-exact c = rw c.in-12.is c.take_remove.ensures.exact

pub returns-in-12-clause-memory : goal.returns-in-12-clause-memory
returns-in-12-clause-memory c = λ e. rw c.in-12.is refl

pub returns-in-13-clause-exact : goal.returns-in-13-clause-exact
returns-in-13-clause-exact c = rw c.in-13.is c.take_rmdir.ensures.exact

pub returns-in-13-clause-memory : goal.returns-in-13-clause-memory
returns-in-13-clause-memory c = λ e. rw c.in-13.is refl

pub returns-in-14-clause-exact : goal.returns-in-14-clause-exact
returns-in-14-clause-exact c = rw c.in-14.is c.take_rename.ensures.exact

pub returns-in-14-clause-memory : goal.returns-in-14-clause-memory
returns-in-14-clause-memory c = λ e. rw c.in-14.is refl

pub returns-in-15-clause-exact : goal.returns-in-15-clause-exact
returns-in-15-clause-exact c = rw c.in-15.is c.take_link.ensures.exact

pub returns-in-15-clause-memory : goal.returns-in-15-clause-memory
returns-in-15-clause-memory c = λ e. rw c.in-15.is refl

pub returns-in_ok-take_read_dir-in-16-clause-exact : goal.returns-in_ok-take_read_dir-in-16-clause-exact
returns-in_ok-take_read_dir-in-16-clause-exact c = rw c.in-16.is c.in_ok-take_read_dir-in-16.ensures.exact

pub returns-in_err-take_read_dir-in-16-clause-exact : goal.returns-in_err-take_read_dir-in-16-clause-exact
returns-in_err-take_read_dir-in-16-clause-exact c =
    let p = err_from_is_err_and c.from_residual-in_err-take_read_dir-in-16.result c.from_residual-in_err-take_read_dir-in-16.ensures.1 in
    rw (c.in-16.is, p.1, p.2, c.in_err-take_read_dir-in-16.ensures.exact) refl

pub returns-in_ok-take_read_dir_plus-in-17-clause-exact : goal.returns-in_ok-take_read_dir_plus-in-17-clause-exact
returns-in_ok-take_read_dir_plus-in-17-clause-exact c = rw c.in-17.is c.in_ok-take_read_dir_plus-in-17.ensures.exact

pub returns-in_err-take_read_dir_plus-in-17-clause-exact : goal.returns-in_err-take_read_dir_plus-in-17-clause-exact
returns-in_err-take_read_dir_plus-in-17-clause-exact c =
    let p = err_from_is_err_and c.from_residual-in_err-take_read_dir_plus-in-17.result c.from_residual-in_err-take_read_dir_plus-in-17.ensures.1 in
    rw (c.in-17.is, p.1, p.2, c.in_err-take_read_dir_plus-in-17.ensures.exact) refl

pub returns-in_ok-take_fs_stat-in-18-clause-exact : goal.returns-in_ok-take_fs_stat-in-18-clause-exact
returns-in_ok-take_fs_stat-in-18-clause-exact c = rw c.in-18.is c.in_ok-take_fs_stat-in-18.ensures.exact

pub returns-in_err-take_fs_stat-in-18-clause-exact : goal.returns-in_err-take_fs_stat-in-18-clause-exact
returns-in_err-take_fs_stat-in-18-clause-exact c =
    let p = err_from_is_err_and c.from_residual-in_err-take_fs_stat-in-18.result c.from_residual-in_err-take_fs_stat-in-18.ensures.1 in
    rw (c.in-18.is, p.1, p.2, c.in_err-take_fs_stat-in-18.ensures.exact) refl

pub returns-in_ok-take_fs_info-in-19-clause-exact : goal.returns-in_ok-take_fs_info-in-19-clause-exact
returns-in_ok-take_fs_info-in-19-clause-exact c = rw c.in-19.is c.in_ok-take_fs_info-in-19.ensures.exact

pub returns-in_err-take_fs_info-in-19-clause-exact : goal.returns-in_err-take_fs_info-in-19-clause-exact
returns-in_err-take_fs_info-in-19-clause-exact c =
    let p = err_from_is_err_and c.from_residual-in_err-take_fs_info-in-19.result c.from_residual-in_err-take_fs_info-in-19.ensures.1 in
    rw (c.in-19.is, p.1, p.2, c.in_err-take_fs_info-in-19.ensures.exact) refl

pub returns-in_ok-take_path_conf-in-20-clause-exact : goal.returns-in_ok-take_path_conf-in-20-clause-exact
returns-in_ok-take_path_conf-in-20-clause-exact c = rw c.in-20.is c.in_ok-take_path_conf-in-20.ensures.exact

pub returns-in_err-take_path_conf-in-20-clause-exact : goal.returns-in_err-take_path_conf-in-20-clause-exact
returns-in_err-take_path_conf-in-20-clause-exact c =
    let p = err_from_is_err_and c.from_residual-in_err-take_path_conf-in-20.result c.from_residual-in_err-take_path_conf-in-20.ensures.1 in
    rw (c.in-20.is, p.1, p.2, c.in_err-take_path_conf-in-20.ensures.exact) refl

pub returns-in_ok-take_commit-in-21-clause-exact : goal.returns-in_ok-take_commit-in-21-clause-exact
returns-in_ok-take_commit-in-21-clause-exact c = rw c.in-21.is c.in_ok-take_commit-in-21.ensures.exact

pub returns-in_err-take_commit-in-21-clause-exact : goal.returns-in_err-take_commit-in-21-clause-exact
returns-in_err-take_commit-in-21-clause-exact c =
    let p = err_from_is_err_and c.from_residual-in_err-take_commit-in-21.result c.from_residual-in_err-take_commit-in-21.ensures.1 in
    rw (c.in-21.is, p.1, p.2, c.in_err-take_commit-in-21.ensures.exact) refl
