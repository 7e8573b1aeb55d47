use Rattle.std.proofs.Common.{◌∙◌}
use Rattle.sky_nfs.specs.Changes.{leave}
use Rattle.sky_nodes.proofs.MapLemmas.{put-edit}
use Rattle.sky_nodes.proofs.nodes.Nodes.leave.Goals as goal

pub returns-in-Some : goal.returns-in-Some
returns-in-Some c =
    let written = rw c.in-Some.is at (c.get_mut.follows.holds c.leave.new.self) in
    written.0 ∙ put-edit c.args.self.now c.args.dir c.in-Some.node.now c.leave.new.self (leave c.args.now c.args.name.now) c.in-Some.ensures.value c.leave.ensures
