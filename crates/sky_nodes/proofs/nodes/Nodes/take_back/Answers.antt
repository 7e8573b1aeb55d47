use Rattle.std.proofs.Common.{ap, ◌∙◌, ℕ, List}
use Rattle.sky_nfs.specs.Changes.{erase}
use Rattle.sky_nfs.specs.Tree.{Tree, Node}
use Rattle.sky_nodes.proofs.MapLemmas.{remove-without_node}
use Rattle.sky_nodes.proofs.nodes.Nodes.take_back.Goals as goal

pub returns : goal.returns
returns c =
    let i = c.self.inside in
    ap (λ (ns : List (ℕ × Node)). record { volume = i.volume; nodes = ns; next_fileid = c.args.fileid }) (c.remove.ensures.entries ∙ remove-without_node c.args.fileid i.nodes.entries c.self.invariant)
    ∙ ap (λ (t : Tree). record (erase t c.args.fileid) { next_fileid = c.args.fileid }) c.self.view_is
