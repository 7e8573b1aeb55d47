use Rattle.std.proofs.Common.{◌≡◌, ◌∙◌, Option, sym, ap, refl}
use Rattle.std.specs.Prelude.{unwrap_or}
use Rattle.sky_base.specs.Listing.{Listing}
use Rattle.sky_nfs.specs.Changes.{new_node}
use Rattle.sky_nfs.specs.Tree.{Tree, Node, Directory, node_at, the_node, no_node}
use Rattle.sky_nfs.specs.declared.call.Call.{Call}
use Rattle.sky_nfs.proofs.ProcedureLemmas.{tree_after-refused}
use Rattle.sky_tree.proofs.MakeLemmas.{Makes, mkdir_passed, mkdir_done, added_dir, links_fit}
use Rattle.sky_tree.proofs.create.do_mkdir.Goals as goal

pub returns-in-Err-clause-tree : goal.returns-in-Err-clause-tree
returns-in-Err-clause-tree c = sym (tree_after-refused c.args.nodes.now c.args.cred.now (Call.Mkdir c.args.at.now c.args.set.now) c.args.now c.in-Err.status (sym c.in-Err.ensures.refused))

pub new_name-requires : goal.new_name-requires
new_name-requires c = (mkdir_passed c.args.nodes.now c.args.cred.now c.args.at.now c.args.set.now c.requires (sym c.in-Ok.ensures.refused)).short

pub add_node-requires-clause-new : goal.add_node-requires-clause-new
add_node-requires-clause-new c = (mkdir_passed c.args.nodes.now c.args.cred.now c.args.at.now c.args.set.now c.requires (sym c.in-Ok.ensures.refused)).new

pub add_node-requires-clause-there : goal.add_node-requires-clause-there
add_node-requires-clause-there c = rw c.in-Ok.ensures.dir (mkdir_passed c.args.nodes.now c.args.cred.now c.args.at.now c.args.set.now c.requires (sym c.in-Ok.ensures.refused)).there

pub add_node-requires-clause-absent : goal.add_node-requires-clause-absent
add_node-requires-clause-absent c = rw (c.in-Ok.ensures.dir, c.in_ok-name.ensures) (mkdir_passed c.args.nodes.now c.args.cred.now c.args.at.now c.args.set.now c.requires (sym c.in-Ok.ensures.refused)).absent

pub add_node-requires-clause-room : goal.add_node-requires-clause-room
add_node-requires-clause-room c = rw (c.in-Ok.ensures.dir, c.in_ok-name.ensures) (mkdir_passed c.args.nodes.now c.args.cred.now c.args.at.now c.args.set.now c.requires (sym c.in-Ok.ensures.refused)).room

pub returns-clause-tree : goal.returns-clause-tree
returns-clause-tree c =
    mkdir_done c.args.nodes.now c.args.cred.now c.args.at.now c.args.set.now c.args.now c.in-Ok.dir c.in_ok-name.name c.new-2.result c.add_node.new.self c.add_link.new.self c.in-Ok.ensures.dir c.in_ok-name.ensures
    (c.new-2.ensures ∙ ap (λ (l : Listing). new_node c.args.cred.now c.args.now 0o755 c.args.set.now (Directory c.in-Ok.dir l)) c.new.ensures) c.in_ok-add_node.ensures.added c.add_link.ensures (sym c.in-Ok.ensures.refused)

pub add_link-requires-clause-there : goal.add_link-requires-clause-there
add_link-requires-clause-there c =
    let m : Makes c.args.nodes.now c.in-Ok.dir c.in_ok-name.name = rw (c.in-Ok.ensures.dir, c.in_ok-name.ensures) (mkdir_passed c.args.nodes.now c.args.cred.now c.args.at.now c.args.set.now c.requires (sym c.in-Ok.ensures.refused)) in
    let stands = added_dir c.args.nodes.now c.args.now c.in-Ok.dir c.in_ok-name.name c.new-2.result m in
    rw (ap (λ (t : Tree). node_at t.nodes c.in-Ok.dir) c.in_ok-add_node.ensures.added ∙ stands) refl

pub add_link-requires-clause-fits : goal.add_link-requires-clause-fits
add_link-requires-clause-fits c =
    let t : Tree = c.args.nodes.now in
    let m : Makes t c.in-Ok.dir c.in_ok-name.name = rw (c.in-Ok.ensures.dir, c.in_ok-name.ensures) (mkdir_passed t c.args.cred.now c.args.at.now c.args.set.now c.requires (sym c.in-Ok.ensures.refused)) in
    let stands = added_dir t c.args.now c.in-Ok.dir c.in_ok-name.name c.new-2.result m in
    let same : (the_node c.add_node.new.self c.in-Ok.dir).nlink ≡ (the_node t c.in-Ok.dir).nlink = ap (λ (t : Tree). (the_node t c.in-Ok.dir).nlink) c.in_ok-add_node.ensures.added ∙ ap (λ (o : Option Node). (unwrap_or o no_node).nlink) stands in
    rw same (links_fit t c.in-Ok.dir c.requires)
