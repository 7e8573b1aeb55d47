-- the size falls by what the entry added
use Rattle.std.proofs.Common.{ap, sym, ◌∙◌, arith}
use Rattle.sky_base.specs.Listing.{size_of_listing}
use Rattle.sky_dir.specs.Kinds.{listing_in}
use Rattle.sky_dir.proofs.SizeLemmas.{size_falls, size_stays}
use Rattle.sky_dir.proofs.entries.Entries.drop_name.Goals as goal

pub overflow_sub-self : goal.overflow_sub-self
overflow_sub-self c =
    let l = listing_in c.self.inside.kind in
    omega (arith, size_falls l c.args.name.now c.in-Some.fileid c.in-Some.ensures.fileid, c.self.invariant)

pub invariant_of-self : goal.invariant_of-self
invariant_of-self c =
    let l = listing_in c.self.inside.kind in
    omega (arith, size_falls l c.args.name.now c.in-Some.fileid c.in-Some.ensures.fileid, c.self.invariant, ap size_of_listing c.in-Some.ensures.dropped)

pub invariant_of-self-in-None : goal.invariant_of-self-in-None
invariant_of-self-in-None c =
    let l = listing_in c.self.inside.kind in
    c.self.invariant ∙ sym (ap size_of_listing (c.in-None.ensures.dropped ∙ size_stays l c.args.name.now c.in-None.ensures.fileid))
