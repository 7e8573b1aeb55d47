use Rattle.std.proofs.Common.{◌++◌, ◌∙◌, sym}
use Rattle.std.proofs.lemmas.Result.{err_from_is_err_and}
use Rattle.sky_nfs.specs.Procedures.Mkdir.{new_name_rules, new_attribute_rules}
use Rattle.sky_nfs.specs.Rules.{Rules, new_room_rules}
use Rattle.sky_tree.proofs.RuleLemmas.{refused_by, passed_by}
use Rattle.sky_tree.proofs.create.check_new_object.Goals as goal

pub returns-in_err-check_new_name : goal.returns-in_err-check_new_name
returns-in_err-check_new_name c =
    let names : Rules = new_name_rules c.args.nodes.now c.args.cred.now c.args.dir c.args.name.now in
    let others : Rules = new_attribute_rules c.args.cred.now c.args.set.now ++ new_room_rules c.args.nodes.now c.args.dir c.args.name.now in
    let p = err_from_is_err_and c.from_residual.result c.from_residual.ensures.1 in
    rw (p.1, p.2) (refused_by names others c.in_err-check_new_name.field-0.0 c.in_err-check_new_name.ensures)

pub returns-in_err-check_new_attributes : goal.returns-in_err-check_new_attributes
returns-in_err-check_new_attributes c =
    let names : Rules = new_name_rules c.args.nodes.now c.args.cred.now c.args.dir c.args.name.now in
    let attributes : Rules = new_attribute_rules c.args.cred.now c.args.set.now in
    let room : Rules = new_room_rules c.args.nodes.now c.args.dir c.args.name.now in
    let p = err_from_is_err_and c.from_residual-in_err-check_new_attributes.result c.from_residual-in_err-check_new_attributes.ensures.1 in
    rw (p.1, p.2) (refused_by attributes room c.in_err-check_new_attributes.field-0.0 c.in_err-check_new_attributes.ensures ∙ sym (passed_by names (attributes ++ room) c.in_ok-check_new_name.ensures))

pub returns : goal.returns
returns c =
    let names : Rules = new_name_rules c.args.nodes.now c.args.cred.now c.args.dir c.args.name.now in
    let attributes : Rules = new_attribute_rules c.args.cred.now c.args.set.now in
    let room : Rules = new_room_rules c.args.nodes.now c.args.dir c.args.name.now in
    c.check_new_room.ensures ∙ sym (passed_by attributes room c.in_ok-check_new_attributes.ensures) ∙ sym (passed_by names (attributes ++ room) c.in_ok-check_new_name.ensures)
