use Rattle.std.proofs.Common.{◌∙◌}
use Rattle.sky_nfs.specs.Changes.{stamp}
use Rattle.sky_nodes.proofs.MapLemmas.{put-edit}
use Rattle.sky_nodes.proofs.nodes.Nodes.stamp.Goals as goal

pub returns-in-Some : goal.returns-in-Some
returns-in-Some c =
    let written = rw c.in-Some.is at (c.get_mut.follows.holds c.stamp.new.self) in
    written.0 ∙ put-edit c.args.self.now c.args.fileid c.in-Some.node.now c.stamp.new.self (stamp c.args.now) c.in-Some.ensures.value c.stamp.ensures
