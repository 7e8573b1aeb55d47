use Rattle.std.proofs.Common.{ap, ◌∙◌, ◌+◌, ℕ, List}
use Rattle.sky_nfs.specs.Changes.{grow}
use Rattle.sky_nfs.specs.Tree.{Tree, Node}
use Rattle.sky_nodes.proofs.MapLemmas.{insert-with_node}
use Rattle.sky_nodes.proofs.nodes.Nodes.grow.Goals as goal

pub returns-clause-grown : goal.returns-clause-grown
returns-clause-grown c =
    let i = c.self.inside in
    ap (λ (ns : List (ℕ × Node)). record { volume = i.volume; nodes = ns; next_fileid = i.next_fileid + 1 }) (c.in_ok-insert.ensures.entries ∙ insert-with_node i.next_fileid c.args.node i.nodes.entries)
    ∙ ap (λ (t : Tree). grow t c.args.node) c.self.view_is
