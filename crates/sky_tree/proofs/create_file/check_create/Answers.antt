use Rattle.std.proofs.Common.{◌∙◌}
use Rattle.std.proofs.lemmas.Result.{err_from_is_err_and}
use Rattle.sky_tree.proofs.CreateLemmas.{place_refused, use_decides, names_stand}
use Rattle.sky_tree.proofs.create_file.check_create.Goals as goal

pub returns-in_err-dir-clause-refused : goal.returns-in_err-dir-clause-refused
returns-in_err-dir-clause-refused c =
    let p = err_from_is_err_and c.from_residual.result c.from_residual.ensures.1 in
    rw (p.1, p.2) (place_refused c.args.nodes.now c.args.cred.now c.args.at.now c.args.how c.in_err-dir.field-0.0 c.in_err-dir.ensures.refused)

pub check_use-requires-clause-named : goal.check_use-requires-clause-named
check_use-requires-clause-named c = names_stand c.args.nodes.now c.in_ok-dir.dir c.as_slice-name.result.now c.named-named.result c.requires c.in_ok-dir.ensures.there c.named-named.ensures

pub returns-in_err-check_use-clause-refused : goal.returns-in_err-check_use-clause-refused
returns-in_err-check_use-clause-refused c =
    let p = err_from_is_err_and c.from_residual-in_err-check_use.result c.from_residual-in_err-check_use.ensures.1 in
    rw (p.1, p.2) (c.in_err-check_use.ensures ∙ use_decides c.args.nodes.now c.args.cred.now c.args.at.now c.args.how c.in_ok-dir.dir c.as_slice-name.result.now c.named-named.result c.in_ok-dir.ensures.dir c.as_slice-name.ensures c.named-named.ensures c.in_ok-dir.ensures.refused)

pub returns-clause-refused : goal.returns-clause-refused
returns-clause-refused c =
    c.in_ok-check_use.ensures ∙ use_decides c.args.nodes.now c.args.cred.now c.args.at.now c.args.how c.in_ok-dir.dir c.as_slice-name.result.now c.named-named.result c.in_ok-dir.ensures.dir c.as_slice-name.ensures c.named-named.ensures c.in_ok-dir.ensures.refused
