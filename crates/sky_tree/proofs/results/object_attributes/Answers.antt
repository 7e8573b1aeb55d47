use Rattle.std.proofs.Common.{◌<◌, ◌^◌, ◌∙◌, ℕ, ap, subst}
use Rattle.std.specs.Prelude.{option_map}
use Rattle.sky_nfs.specs.Tree.{node_at, attributes_of}
use Rattle.sky_tree.proofs.HandleLemmas.{post_attributes-handle}
use Rattle.sky_tree.proofs.results.object_attributes.Goals as goal

pub returns : goal.returns
returns c =
    let fits : c.args.nodes.now.volume < 2 ^ 64 = subst (λ (v : ℕ). v < 2 ^ 64) c.volume.ensures c.volume.type_inv in
    c.attributes.ensures
    ∙ ap (λ (v : ℕ). option_map (λ n. attributes_of v c.args.fileid n) (node_at c.args.nodes.now.nodes c.args.fileid)) c.volume.ensures
    ∙ post_attributes-handle c.args.nodes.now c.args.fileid fits c.ranges.fileid.fits
