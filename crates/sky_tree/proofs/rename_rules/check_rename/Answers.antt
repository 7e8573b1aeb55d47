use Rattle.std.proofs.Common.{◌∙◌, refl}
use Rattle.std.proofs.lemmas.Result.{err_from_is_err_and}
use Rattle.sky_nfs.specs.Handles.{fileid_in}
use Rattle.sky_tree.proofs.RenameLemmas.{place_refused, names_refused, source_refused, target_decides}
use Rattle.sky_tree.proofs.rename_rules.check_rename.Goals as goal

pub returns-in_err-source-clause-refused : goal.returns-in_err-source-clause-refused
returns-in_err-source-clause-refused c =
    let at = c.args.from.now in
    let to_at = c.args.to.now in
    let p = err_from_is_err_and c.from_residual.result c.from_residual.ensures.1 in
    rw (p.1, p.2) (place_refused c.args.nodes.now c.args.cred.now at to_at (fileid_in at.directory) at.name (fileid_in to_at.directory) to_at.name
    (record { from_is = refl; to_is = refl; from_name_is = refl; to_name_is = refl }) c.in_err-source.field-0.0 c.in_err-source.ensures.refused)

pub returns-in_err-check_names-clause-refused : goal.returns-in_err-check_names-clause-refused
returns-in_err-check_names-clause-refused c =
    let p = err_from_is_err_and c.from_residual-in_err-check_names.result c.from_residual-in_err-check_names.ensures.1 in
    rw (p.1, p.2) (names_refused c.args.nodes.now c.args.cred.now c.args.from.now c.args.to.now c.in_ok-source.source c.as_slice-from_name.result.now c.in_ok-source.target c.as_slice-to_name.result.now
    (record { from_is = c.in_ok-source.ensures.from; to_is = c.in_ok-source.ensures.to; from_name_is = c.as_slice-from_name.ensures; to_name_is = c.as_slice-to_name.ensures })
    c.in_err-check_names.field-0.0 c.in_ok-source.ensures.refused c.in_err-check_names.ensures)

pub returns-in_err-fileid-clause-refused : goal.returns-in_err-fileid-clause-refused
returns-in_err-fileid-clause-refused c =
    let p = err_from_is_err_and c.from_residual-in_err-fileid.result c.from_residual-in_err-fileid.ensures.1 in
    rw (p.1, p.2) (source_refused c.args.nodes.now c.args.cred.now c.args.from.now c.args.to.now c.in_ok-source.source c.as_slice-from_name.result.now c.in_ok-source.target c.as_slice-to_name.result.now
    (record { from_is = c.in_ok-source.ensures.from; to_is = c.in_ok-source.ensures.to; from_name_is = c.as_slice-from_name.ensures; to_name_is = c.as_slice-to_name.ensures })
    c.in_err-fileid.field-0.0 c.in_ok-source.ensures.refused c.in_ok-check_names.ensures c.in_err-fileid.ensures.refused)

pub returns-in_err-check_target_name-clause-refused : goal.returns-in_err-check_target_name-clause-refused
returns-in_err-check_target_name-clause-refused c =
    let p = err_from_is_err_and c.from_residual-in_err-check_target_name.result c.from_residual-in_err-check_target_name.ensures.1 in
    rw (p.1, p.2) (c.in_err-check_target_name.ensures ∙ target_decides c.args.nodes.now c.args.cred.now c.args.from.now c.args.to.now c.in_ok-source.source c.as_slice-from_name.result.now c.in_ok-source.target c.as_slice-to_name.result.now
    (record { from_is = c.in_ok-source.ensures.from; to_is = c.in_ok-source.ensures.to; from_name_is = c.as_slice-from_name.ensures; to_name_is = c.as_slice-to_name.ensures })
    c.in_ok-source.ensures.refused c.in_ok-check_names.ensures c.in_ok-fileid.ensures.refused)

pub returns-clause-refused : goal.returns-clause-refused
returns-clause-refused c =
    c.in_ok-check_target_name.ensures ∙ target_decides c.args.nodes.now c.args.cred.now c.args.from.now c.args.to.now c.in_ok-source.source c.as_slice-from_name.result.now c.in_ok-source.target c.as_slice-to_name.result.now
    (record { from_is = c.in_ok-source.ensures.from; to_is = c.in_ok-source.ensures.to; from_name_is = c.as_slice-from_name.ensures; to_name_is = c.as_slice-to_name.ensures })
    c.in_ok-source.ensures.refused c.in_ok-check_names.ensures c.in_ok-fileid.ensures.refused
