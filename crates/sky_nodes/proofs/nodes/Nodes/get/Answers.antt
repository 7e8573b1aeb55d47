use Rattle.std.proofs.Common.{ap, ◌∙◌}
use Rattle.sky_nfs.specs.Tree.{Tree, node_at}
use Rattle.sky_nodes.proofs.MapLemmas.{lookup-node_at}
use Rattle.sky_nodes.proofs.nodes.Nodes.get.Goals as goal

pub returns : goal.returns
returns c = c.get.ensures.value ∙ lookup-node_at c.args.fileid c.self.inside.nodes.entries ∙ ap (λ (t : Tree). node_at t.nodes c.args.fileid) c.self.view_is
