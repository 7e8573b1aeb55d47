use Rattle.std.proofs.Common.{◌∙◌, ap, sym}
use Rattle.sky_nfs.specs.Changes.{add_link, edit, enter, stamp}
use Rattle.sky_nfs.specs.Tree.{Tree, Node, node_at, the_node}
use Rattle.sky_nodes.proofs.EditLemmas.{edit-swap, other_node}
use Rattle.sky_nodes.proofs.MapLemmas.{node_at-with_other}
use Rattle.sky_nodes.proofs.nodes.Nodes.link.Goals as goal

pub add_link_now-requires-clause-there : goal.add_link_now-requires-clause-there
add_link_now-requires-clause-there c =
    let t : Tree = c.args.self.now in
    let d : Node = enter c.args.now c.args.name c.args.fileid (the_node t c.args.dir) in
    let same = node_at-with_other t.nodes c.args.dir d c.args.fileid (λ e. c.requires.apart (sym e)) in
    rw (ap (λ (u : Tree). node_at u.nodes c.args.fileid) c.in_ok-enter.ensures.entered ∙ same) c.requires.node

pub add_link_now-requires-clause-fits : goal.add_link_now-requires-clause-fits
add_link_now-requires-clause-fits c =
    let t : Tree = c.args.self.now in
    let d : Node = enter c.args.now c.args.name c.args.fileid (the_node t c.args.dir) in
    let same = other_node t c.args.dir c.args.fileid d (λ e. c.requires.apart (sym e)) in
    rw (ap (λ (u : Tree). the_node u c.args.fileid) c.in_ok-enter.ensures.entered ∙ same) c.requires.fits

pub returns-clause-linked : goal.returns-clause-linked
returns-clause-linked c =
    let more : Node → Node = λ n. stamp c.args.now (add_link n) in
    let entered : Node → Node = λ d. enter c.args.now c.args.name c.args.fileid d in
    c.add_link_now.ensures ∙ ap (λ (u : Tree). edit u c.args.fileid more) c.in_ok-enter.ensures.entered ∙ edit-swap c.args.self.now c.args.dir c.args.fileid entered more (λ e. c.requires.apart (sym e))
