use Rattle.std.proofs.Common.{◌∙◌}
use Rattle.sky_nfs.specs.Changes.{with_parent}
use Rattle.sky_nfs.specs.Tree.{Node}
use Rattle.sky_nodes.proofs.MapLemmas.{put-edit}
use Rattle.sky_nodes.proofs.nodes.Nodes.set_parent.Goals as goal

pub returns-in-Some : goal.returns-in-Some
returns-in-Some c =
    let written = rw c.in-Some.is at (c.get_mut.follows.holds c.set_parent.new.self) in
    written.0 ∙ put-edit c.args.self.now c.args.fileid c.in-Some.node.now c.set_parent.new.self (λ (n : Node). record n { content = with_parent c.args.parent n.content }) c.in-Some.ensures.value c.set_parent.ensures
