use Rattle.std.proofs.Common.{◌∙◌, sym}
use Rattle.sky_nfs.specs.declared.call.Call.{Call}
use Rattle.sky_nfs.proofs.ProcedureLemmas.{tree_after-refused}
use Rattle.sky_tree.proofs.LinkLemmas.{Links, link_passed, link_done}
use Rattle.sky_tree.proofs.link.do_link.Goals as goal

pub returns-in-Err-clause-tree : goal.returns-in-Err-clause-tree
returns-in-Err-clause-tree c = sym (tree_after-refused c.args.nodes.now c.args.cred.now (Call.Link c.args.file.now c.args.at.now) c.args.now c.in-Err.status (sym c.in-Err.ensures.refused))

pub new_name-requires : goal.new_name-requires
new_name-requires c = (link_passed c.args.nodes.now c.args.cred.now c.args.file.now c.args.at.now (sym c.in-Ok.ensures.refused)).short

pub link-requires-clause-node : goal.link-requires-clause-node
link-requires-clause-node c =
    let m : Links c.args.nodes.now c.in-Ok.found.0 c.in-Ok.found.1 c.in_ok-name.name = rw (c.in-Ok.ensures.fileid, c.in-Ok.ensures.dir, c.in_ok-name.ensures) (link_passed c.args.nodes.now c.args.cred.now c.args.file.now c.args.at.now (sym c.in-Ok.ensures.refused)) in
    m.node

pub link-requires-clause-fits : goal.link-requires-clause-fits
link-requires-clause-fits c =
    let m : Links c.args.nodes.now c.in-Ok.found.0 c.in-Ok.found.1 c.in_ok-name.name = rw (c.in-Ok.ensures.fileid, c.in-Ok.ensures.dir, c.in_ok-name.ensures) (link_passed c.args.nodes.now c.args.cred.now c.args.file.now c.args.at.now (sym c.in-Ok.ensures.refused)) in
    m.fits

pub link-requires-clause-there : goal.link-requires-clause-there
link-requires-clause-there c =
    let m : Links c.args.nodes.now c.in-Ok.found.0 c.in-Ok.found.1 c.in_ok-name.name = rw (c.in-Ok.ensures.fileid, c.in-Ok.ensures.dir, c.in_ok-name.ensures) (link_passed c.args.nodes.now c.args.cred.now c.args.file.now c.args.at.now (sym c.in-Ok.ensures.refused)) in
    m.there

pub link-requires-clause-apart : goal.link-requires-clause-apart
link-requires-clause-apart c =
    let m : Links c.args.nodes.now c.in-Ok.found.0 c.in-Ok.found.1 c.in_ok-name.name = rw (c.in-Ok.ensures.fileid, c.in-Ok.ensures.dir, c.in_ok-name.ensures) (link_passed c.args.nodes.now c.args.cred.now c.args.file.now c.args.at.now (sym c.in-Ok.ensures.refused)) in
    m.apart

pub link-requires-clause-absent : goal.link-requires-clause-absent
link-requires-clause-absent c =
    let m : Links c.args.nodes.now c.in-Ok.found.0 c.in-Ok.found.1 c.in_ok-name.name = rw (c.in-Ok.ensures.fileid, c.in-Ok.ensures.dir, c.in_ok-name.ensures) (link_passed c.args.nodes.now c.args.cred.now c.args.file.now c.args.at.now (sym c.in-Ok.ensures.refused)) in
    m.absent

pub link-requires-clause-room : goal.link-requires-clause-room
link-requires-clause-room c =
    let m : Links c.args.nodes.now c.in-Ok.found.0 c.in-Ok.found.1 c.in_ok-name.name = rw (c.in-Ok.ensures.fileid, c.in-Ok.ensures.dir, c.in_ok-name.ensures) (link_passed c.args.nodes.now c.args.cred.now c.args.file.now c.args.at.now (sym c.in-Ok.ensures.refused)) in
    m.room

pub returns-clause-tree : goal.returns-clause-tree
returns-clause-tree c =
    c.in_ok-link.ensures.linked ∙ link_done c.args.nodes.now c.args.cred.now c.args.file.now c.args.at.now c.args.now c.in-Ok.found.0 c.in-Ok.found.1 c.in_ok-name.name c.in-Ok.ensures.fileid c.in-Ok.ensures.dir c.in_ok-name.ensures (sym c.in-Ok.ensures.refused)
