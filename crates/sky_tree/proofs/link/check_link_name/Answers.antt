use Rattle.std.proofs.Common.{◌++◌, ◌∷◌, ◌∙◌, sym}
use Rattle.std.specs.Prelude.{nat_le}
use Rattle.std.proofs.lemmas.Result.{err_from_is_err_and}
use Rattle.sky_base.specs.Limits.{max_links}
use Rattle.sky_nfs.specs.Procedures.Mkdir.{new_name_rules}
use Rattle.sky_nfs.specs.Rules.{Rules, name_rules, entry_room_rules}
use Rattle.sky_nfs.specs.Tree.{listing_of, the_node}
use Rattle.sky_nfs.specs.declared.status.NfsStatus.TheVariants.{MLink}
use Rattle.sky_tree.proofs.RuleLemmas.{refused_by, passed_by}
use Rattle.sky_tree.proofs.link.check_link_name.Goals as goal

pub returns-in_err-check_new_name : goal.returns-in_err-check_new_name
returns-in_err-check_new_name c =
    let short : Rules = name_rules c.args.name.now in
    let new : Rules = new_name_rules c.args.nodes.now c.args.cred.now c.args.dir c.args.name.now in
    let room : Rules = (nat_le max_links (the_node c.args.nodes.now c.args.fileid).nlink, MLink) ∷ entry_room_rules (listing_of (the_node c.args.nodes.now c.args.dir)) c.args.name.now in
    let p = err_from_is_err_and c.from_residual-in_err-check_new_name.result c.from_residual-in_err-check_new_name.ensures.1 in
    rw (p.1, p.2) (refused_by new room c.in_err-check_new_name.field-0.0 c.in_err-check_new_name.ensures ∙ sym (passed_by short (new ++ room) c.in_ok-check_name.ensures))
