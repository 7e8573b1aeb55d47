use Rattle.std.proofs.Common.{◌++◌, ◌∙◌, Some, None, sym}
use Rattle.std.proofs.lemmas.Result.{err_from_is_err_and}
use Rattle.sky_nfs.specs.Rules.{Rules, name_rules}
use Rattle.sky_tree.proofs.NamedLemmas.{text_rules, object_rules, symlink_refused, symlink_named, symlink_made}
use Rattle.sky_tree.proofs.RuleLemmas.{refused_by, passed_by}
use Rattle.sky_tree.proofs.create.check_symlink.Goals as goal

pub returns-in_err-dir-clause-refused : goal.returns-in_err-dir-clause-refused
returns-in_err-dir-clause-refused c =
    let p = err_from_is_err_and c.from_residual.result c.from_residual.ensures.1 in
    rw (p.1, p.2) (symlink_refused c.args.nodes.now c.args.cred.now c.args.at.now c.args.set.now c.args.text.now c.in_err-dir.field-0.0 c.in_err-dir.ensures.refused)

pub returns-in_err-check_name-clause-refused : goal.returns-in_err-check_name-clause-refused
returns-in_err-check_name-clause-refused c =
    let short : Rules = name_rules c.as_slice-name.result.now in
    let fits : Rules = text_rules c.as_slice-text.result.now in
    let made : Rules = object_rules c.args.nodes.now c.args.cred.now c.in_ok-dir.dir c.as_slice-name.result.now c.args.set.now in
    let p = err_from_is_err_and c.from_residual-in_err-check_name.result c.from_residual-in_err-check_name.ensures.1 in
    rw (p.1, p.2) (refused_by short (fits ++ made) c.in_err-check_name.field-0.0 c.in_err-check_name.ensures ∙ symlink_named c.args.nodes.now c.args.cred.now c.args.at.now c.args.set.now c.args.text.now c.in_ok-dir.dir c.as_slice-name.result.now c.as_slice-text.result.now c.in_ok-dir.ensures.fileid c.as_slice-name.ensures c.as_slice-text.ensures c.in_ok-dir.ensures.refused)

pub returns-in_err-check_text-clause-refused : goal.returns-in_err-check_text-clause-refused
returns-in_err-check_text-clause-refused c =
    let short : Rules = name_rules c.as_slice-name.result.now in
    let fits : Rules = text_rules c.as_slice-text.result.now in
    let made : Rules = object_rules c.args.nodes.now c.args.cred.now c.in_ok-dir.dir c.as_slice-name.result.now c.args.set.now in
    let p = err_from_is_err_and c.from_residual-in_err-check_text.result c.from_residual-in_err-check_text.ensures.1 in
    rw (p.1, p.2) (refused_by fits made c.in_err-check_text.field-0.0 c.in_err-check_text.ensures ∙ sym (passed_by short (fits ++ made) c.in_ok-check_name.ensures) ∙ symlink_named c.args.nodes.now c.args.cred.now c.args.at.now c.args.set.now c.args.text.now c.in_ok-dir.dir c.as_slice-name.result.now c.as_slice-text.result.now c.in_ok-dir.ensures.fileid c.as_slice-name.ensures c.as_slice-text.ensures c.in_ok-dir.ensures.refused)

pub returns-in_err-check_new_object-clause-refused : goal.returns-in_err-check_new_object-clause-refused
returns-in_err-check_new_object-clause-refused c =
    let p = err_from_is_err_and c.from_residual-in_err-check_new_object.result c.from_residual-in_err-check_new_object.ensures.1 in
    rw (p.1, p.2) (symlink_made c.args.nodes.now c.args.cred.now c.args.at.now c.args.set.now c.args.text.now c.in_ok-dir.dir c.as_slice-name.result.now c.as_slice-text.result.now c.in_ok-dir.ensures.fileid c.as_slice-name.ensures c.as_slice-text.ensures c.in_ok-dir.ensures.refused c.in_ok-check_name.ensures c.in_ok-check_text.ensures (Some c.in_err-check_new_object.field-0.0) c.in_err-check_new_object.ensures)

pub returns-clause-refused : goal.returns-clause-refused
returns-clause-refused c = symlink_made c.args.nodes.now c.args.cred.now c.args.at.now c.args.set.now c.args.text.now c.in_ok-dir.dir c.as_slice-name.result.now c.as_slice-text.result.now c.in_ok-dir.ensures.fileid c.as_slice-name.ensures c.as_slice-text.ensures c.in_ok-dir.ensures.refused c.in_ok-check_name.ensures c.in_ok-check_text.ensures None c.in_ok-check_new_object.ensures
