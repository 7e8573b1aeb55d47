use Rattle.std.proofs.Common.{◌∙◌, ap}
use Rattle.sky_nfs.specs.Changes.{stamp, add_link}
use Rattle.sky_nfs.specs.Tree.{Node}
use Rattle.sky_nodes.proofs.MapLemmas.{put-edit}
use Rattle.sky_nodes.proofs.nodes.Nodes.add_link_now.Goals as goal

pub returns-in-Some : goal.returns-in-Some
returns-in-Some c =
    let written = rw c.in-Some.is at (c.get_mut.follows.holds c.stamp.new.self) in
    written.0 ∙ put-edit c.args.self.now c.args.fileid c.in-Some.node.now c.stamp.new.self (λ (n : Node). stamp c.args.now (add_link n)) c.in-Some.ensures.value (c.stamp.ensures ∙ ap (stamp c.args.now) c.add_link.ensures)
