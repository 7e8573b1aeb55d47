use Rattle.std.specs.Prelude.{IsSome}
use Rattle.sky_nfs.specs.Tree.{node_at, without_node}
use Rattle.sky_nodes.proofs.MapLemmas.{node_at-without_other}
use Rattle.sky_nodes.proofs.nodes.Nodes.release.Goals as goal

pub drop_link-requires : goal.drop_link-requires
drop_link-requires c =
    let there : IsSome (node_at (without_node c.args.self.now.nodes c.args.fileid) c.args.dir) = rw (node_at-without_other c.args.self.now.nodes c.args.fileid c.args.dir c.requires.apart) c.requires.there in
    rw c.erase.ensures there
