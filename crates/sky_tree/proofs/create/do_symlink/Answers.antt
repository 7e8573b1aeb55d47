use Rattle.std.proofs.Common.{◌∙◌, ℕ, List, sym, ap}
use Rattle.sky_nfs.specs.Changes.{new_node}
use Rattle.sky_nfs.specs.Tree.{Link}
use Rattle.sky_nfs.specs.declared.call.Call.{Call}
use Rattle.sky_nfs.proofs.ProcedureLemmas.{tree_after-refused}
use Rattle.sky_tree.proofs.MakeLemmas.{symlink_passed, symlink_done}
use Rattle.sky_tree.proofs.create.do_symlink.Goals as goal

pub returns-in-Err-clause-tree : goal.returns-in-Err-clause-tree
returns-in-Err-clause-tree c = sym (tree_after-refused c.args.nodes.now c.args.cred.now (Call.Symlink c.args.at.now c.args.set.now c.args.text.now) c.args.now c.in-Err.status (sym c.in-Err.ensures.refused))

pub new_name-requires : goal.new_name-requires
new_name-requires c = (symlink_passed c.args.nodes.now c.args.cred.now c.args.at.now c.args.set.now c.args.text.now c.requires (sym c.in-Ok.ensures.refused)).short

pub add_node-requires-clause-new : goal.add_node-requires-clause-new
add_node-requires-clause-new c = (symlink_passed c.args.nodes.now c.args.cred.now c.args.at.now c.args.set.now c.args.text.now c.requires (sym c.in-Ok.ensures.refused)).new

pub add_node-requires-clause-there : goal.add_node-requires-clause-there
add_node-requires-clause-there c = rw c.in-Ok.ensures.dir (symlink_passed c.args.nodes.now c.args.cred.now c.args.at.now c.args.set.now c.args.text.now c.requires (sym c.in-Ok.ensures.refused)).there

pub add_node-requires-clause-absent : goal.add_node-requires-clause-absent
add_node-requires-clause-absent c = rw (c.in-Ok.ensures.dir, c.in_ok-name.ensures) (symlink_passed c.args.nodes.now c.args.cred.now c.args.at.now c.args.set.now c.args.text.now c.requires (sym c.in-Ok.ensures.refused)).absent

pub add_node-requires-clause-room : goal.add_node-requires-clause-room
add_node-requires-clause-room c = rw (c.in-Ok.ensures.dir, c.in_ok-name.ensures) (symlink_passed c.args.nodes.now c.args.cred.now c.args.at.now c.args.set.now c.args.text.now c.requires (sym c.in-Ok.ensures.refused)).room

pub returns-clause-tree : goal.returns-clause-tree
returns-clause-tree c =
    symlink_done c.args.nodes.now c.args.cred.now c.args.at.now c.args.set.now c.args.text.now c.args.now c.in-Ok.dir c.in_ok-name.name c.new-2.result c.add_node.new.self c.in-Ok.ensures.dir c.in_ok-name.ensures
    (c.new-2.ensures ∙ ap (λ (text : List ℕ). new_node c.args.cred.now c.args.now 0o777 c.args.set.now (Link text)) (c.new.ensures ∙ c.in_ok-from_slice.ensures.items ∙ c.as_slice.ensures)) c.in_ok-add_node.ensures.added (sym c.in-Ok.ensures.refused)
