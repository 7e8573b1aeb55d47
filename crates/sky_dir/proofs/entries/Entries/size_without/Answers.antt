-- the size falls by what the entry added
use Rattle.std.proofs.Common.{ap, sym, ◌∙◌, arith}
use Rattle.sky_base.specs.Listing.{Listing, size_of_listing, without_entry}
use Rattle.sky_dir.specs.Kinds.{listing_in}
use Rattle.sky_dir.proofs.SizeLemmas.{size_falls, size_stays}
use Rattle.sky_dir.proofs.entries.Entries.size_without.Goals as goal

pub overflow_sub-result : goal.overflow_sub-result
overflow_sub-result c = omega (arith, size_falls (listing_in c.self.inside.kind) c.args.name.now c.in-Some.field-0 c.in-Some.ensures, c.self.invariant)

pub overflow_sub-result-in-Some : goal.overflow_sub-result-in-Some
overflow_sub-result-in-Some c = omega (arith, size_falls (listing_in c.self.inside.kind) c.args.name.now c.in-Some.field-0 c.in-Some.ensures, c.self.invariant)

pub returns-in-Some : goal.returns-in-Some
returns-in-Some c =
    let l = listing_in c.self.inside.kind in
    let name = c.args.name.now in
    omega (arith, size_falls l name c.in-Some.field-0 c.in-Some.ensures, c.self.invariant, ap (λ (x : Listing). size_of_listing (without_entry x name)) c.self.view_is)

pub returns-in-None : goal.returns-in-None
returns-in-None c =
    let l = listing_in c.self.inside.kind in
    let name = c.args.name.now in
    c.self.invariant ∙ sym (ap size_of_listing (size_stays l name c.in-None.ensures)) ∙ ap (λ (x : Listing). size_of_listing (without_entry x name)) c.self.view_is
