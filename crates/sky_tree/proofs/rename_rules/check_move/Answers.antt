use Rattle.std.proofs.Common.{◌≡◌, ◌++◌, ◌∷◌, [], ℕ, Option, Some, ap, ◌∙◌, sym}
use Rattle.std.specs.Prelude.{◌&&◌}
use Rattle.std.proofs.lemmas.Result.{err_from_is_err_and}
use Rattle.sky_nfs.specs.Procedures.Rename.{staying, target_rules}
use Rattle.sky_nfs.specs.Rules.{Rules, entry_room_rules, first_of}
use Rattle.sky_nfs.specs.Tree.{Tree, is_at_or_below, is_directory, named, the_node}
use Rattle.sky_nfs.specs.declared.status.NfsStatus.TheVariants.{Inval}
use Rattle.sky_tree.proofs.RuleLemmas.{refused_by, passed_by}
use Rattle.sky_tree.proofs.rename_rules.check_move.Goals as goal

pub returns-in_err-check_target : goal.returns-in_err-check_target
returns-in_err-check_target c =
    let t : Tree = c.args.nodes.now in
    let above : Rules = (is_directory (the_node t c.args.fileid) && is_at_or_below t c.args.to c.args.fileid, Inval) ∷ [] in
    let target : Rules = target_rules t (the_node t c.args.fileid) (named t c.args.to c.args.to_name.now) in
    let room : Rules = entry_room_rules (staying t c.args.from c.args.from_name.now c.args.to c.args.to_name.now) c.args.to_name.now in
    let p = err_from_is_err_and c.from_residual-in_err-check_target.result c.from_residual-in_err-check_target.ensures.1 in
    let refused : Some c.in_err-check_target.field-0.0 ≡ first_of target =
    c.in_err-check_target.ensures ∙ ap (λ (o : Option ℕ). first_of (target_rules t (the_node t c.args.fileid) o)) c.named.ensures in
    let passed = c.in_ok-refuse_if.ensures ∙ ap (λ b. first_of ((b, Inval) ∷ [])) c.is_directory_above.ensures in
    rw (p.1, p.2) (refused_by target room c.in_err-check_target.field-0.0 refused ∙ sym (passed_by above (target ++ room) passed))
