use Rattle.std.proofs.Common.{arith}
use Rattle.sky_nfs.specs.Changes.{drop_link, with_parent}
use Rattle.sky_nfs.specs.Tree.{Node}
use Rattle.sky_nodes.proofs.EditLemmas.{Keeps, keeps_edited}
use Rattle.sky_nodes.proofs.nodes.Nodes.move_directory.Goals as goal

pub drop_link-requires : goal.drop_link-requires
drop_link-requires c =
    (keeps_edited c.args.self.now c.set_parent.new.self c.args.fileid c.args.from (λ (n : Node). record n { content = with_parent c.args.to n.content }) c.set_parent.ensures (λ n. omega arith)).there c.requires.source

pub add_link-requires-clause-there : goal.add_link-requires-clause-there
add_link-requires-clause-there c =
    let first : Keeps c.args.self.now c.set_parent.new.self c.args.to = keeps_edited c.args.self.now c.set_parent.new.self c.args.fileid c.args.to (λ (n : Node). record n { content = with_parent c.args.to n.content }) c.set_parent.ensures (λ n. omega arith) in
    let second : Keeps c.set_parent.new.self c.drop_link.new.self c.args.to = keeps_edited c.set_parent.new.self c.drop_link.new.self c.args.from c.args.to drop_link c.drop_link.ensures (λ n. omega arith) in
    second.there (first.there c.requires.target)

pub add_link-requires-clause-fits : goal.add_link-requires-clause-fits
add_link-requires-clause-fits c =
    let first : Keeps c.args.self.now c.set_parent.new.self c.args.to = keeps_edited c.args.self.now c.set_parent.new.self c.args.fileid c.args.to (λ (n : Node). record n { content = with_parent c.args.to n.content }) c.set_parent.ensures (λ n. omega arith) in
    let second : Keeps c.set_parent.new.self c.drop_link.new.self c.args.to = keeps_edited c.set_parent.new.self c.drop_link.new.self c.args.from c.args.to drop_link c.drop_link.ensures (λ n. omega arith) in
    omega (arith, first.links, second.links, c.requires.fits)
