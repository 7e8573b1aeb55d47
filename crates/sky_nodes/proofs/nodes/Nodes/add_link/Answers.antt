use Rattle.std.proofs.Common.{◌∙◌}
use Rattle.sky_nfs.specs.Changes.{add_link}
use Rattle.sky_nodes.proofs.MapLemmas.{put-edit}
use Rattle.sky_nodes.proofs.nodes.Nodes.add_link.Goals as goal

pub returns-in-Some : goal.returns-in-Some
returns-in-Some c =
    let written = rw c.in-Some.is at (c.get_mut.follows.holds c.add_link.new.self) in
    written.0 ∙ put-edit c.args.self.now c.args.fileid c.in-Some.node.now c.add_link.new.self (add_link) c.in-Some.ensures.value c.add_link.ensures
