use Rattle.sky_nfs.specs.Changes.{leave}
use Rattle.sky_nfs.specs.Tree.{the_node}
use Rattle.sky_nodes.proofs.MapLemmas.{there-with_node}
use Rattle.sky_nodes.proofs.nodes.Nodes.remove_name.Goals as goal

pub release-requires-clause-there : goal.release-requires-clause-there
release-requires-clause-there c =
    rw c.leave.ensures (there-with_node c.args.self.now.nodes c.args.dir (leave c.args.now c.args.name.now (the_node c.args.self.now c.args.dir)))
