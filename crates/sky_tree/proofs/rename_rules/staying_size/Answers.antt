-- the old name was there, and is another one than the new
use Rattle.std.proofs.Common.{ap, ◌∙◌, arith}
use Rattle.sky_base.specs.Listing.{size_of_listing, without_entry}
use Rattle.sky_nfs.specs.Tree.{Node, listing_of}
use Rattle.sky_tree.proofs.RenameLemmas.{staying_same}
use Rattle.sky_tree.proofs.rename_rules.staying_size.Goals as goal

pub overflow_sub-result : goal.overflow_sub-result
overflow_sub-result c =
    let same = staying_same c.args.nodes.now c.args.from c.args.from_name.now c.args.to c.args.to_name.now c.if-from-to.true c.requires.found (c.requires.differ c.if-from-to.true) in
    let rest = c.size_without-rest.ensures ∙ ap (λ (n : Node). size_of_listing (without_entry (listing_of n) c.args.to_name.now)) c.node.ensures.same in
    omega (arith, same, rest)

pub overflow_sub-result-then-from-to : goal.overflow_sub-result-then-from-to
overflow_sub-result-then-from-to c =
    let same = staying_same c.args.nodes.now c.args.from c.args.from_name.now c.args.to c.args.to_name.now c.if-from-to.true c.requires.found (c.requires.differ c.if-from-to.true) in
    let rest = c.size_without-rest.ensures ∙ ap (λ (n : Node). size_of_listing (without_entry (listing_of n) c.args.to_name.now)) c.node.ensures.same in
    omega (arith, same, rest)

pub returns-then-from-to : goal.returns-then-from-to
returns-then-from-to c =
    let same = staying_same c.args.nodes.now c.args.from c.args.from_name.now c.args.to c.args.to_name.now c.if-from-to.true c.requires.found (c.requires.differ c.if-from-to.true) in
    let rest = c.size_without-rest.ensures ∙ ap (λ (n : Node). size_of_listing (without_entry (listing_of n) c.args.to_name.now)) c.node.ensures.same in
    omega (arith, same, rest)
