use Rattle.std.proofs.Common.{◌∙◌}
use Rattle.sky_nfs.specs.Changes.{drop_link}
use Rattle.sky_nodes.proofs.MapLemmas.{put-edit}
use Rattle.sky_nodes.proofs.nodes.Nodes.drop_link.Goals as goal

pub returns-in-Some : goal.returns-in-Some
returns-in-Some c =
    let written = rw c.in-Some.is at (c.get_mut.follows.holds c.drop_link.new.self) in
    written.0 ∙ put-edit c.args.self.now c.args.fileid c.in-Some.node.now c.drop_link.new.self (drop_link) c.in-Some.ensures.value c.drop_link.ensures
