use Rattle.std.proofs.Common.{◌≡◌, sym, true, false, ◌∙◌}
use Rattle.sky_imap.proofs.AscendLaws.{first_at}
use Rattle.sky_imap.proofs.FoundLaws.{get_absent, get_here}
use Rattle.sky_imap.proofs.links.link_at.Goals as goal

pub returns-then-is_at : goal.returns-then-is_at
returns-then-is_at c = λ least bound ascends.
    let begins = c.is_at.ensures.0 c.if-is_at.true in
    sym (get_here c.args.number least bound c.args.links.now c.place_of-place.result _ (c.place_of-place.ensures least bound ascends) begins (first_at c.args.links.now c.place_of-place.result c.args.number _ begins))

pub returns-else-is_at : goal.returns-else-is_at
returns-else-is_at c = λ least bound ascends.
    sym (get_absent c.args.number least bound c.args.links.now c.place_of-place.result (c.place_of-place.ensures least bound ascends)
    (λ begins. let both : true ≡ false = sym (c.is_at.ensures.1 begins) ∙ c.if-is_at.false in cc))
