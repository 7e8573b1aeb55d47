-- the index leads to the entry
use Rattle.std.proofs.Common.{◌≡◌, Some, ap, ◌∙◌, rules}
use Rattle.std.specs.Prelude.{option_map}
use Rattle.std.specs.Option.{option_copied}
use Rattle.sky_base.specs.Listing.{Listing, fileid_at}
use Rattle.sky_dir.specs.Kept.{cookie_at}
use Rattle.sky_dir.specs.declared.indexed.Item.{Item}
use Rattle.sky_dir.proofs.KeptSteps.{there_from_index}
use Rattle.sky_dir.proofs.indexed.Indexed.find.Goals as goal

pub returns-in-Some : goal.returns-in-Some
returns-in-Some c =
    let a = c.self.inside in
    let found : Some c.in-Some.cookie.now ≡ cookie_at a.index c.args.name.now = c.in-Some.ensures.value in
    let there = there_from_index a.items.entries a.index a.next c.self.invariant c.args.name.now c.in-Some.cookie.now found in
    let read : c.map.result ≡ option_map (λ (v : Item). v.fileid) (option_copied c.get-in-Some.result) = search rules in
    read ∙ ap (option_map (λ (v : Item). v.fileid)) c.get-in-Some.ensures.value ∙ there.fileid ∙ ap (λ (l : Listing). fileid_at l c.args.name.now) c.self.view_is
