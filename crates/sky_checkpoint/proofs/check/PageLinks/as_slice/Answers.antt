use Rattle.std.specs.Ordering.{nat_cmp}
use Rattle.std.specs.FinMap.{FinMap}
use Rattle.std.proofs.Common.{sym, ◌∙◌, ap}
use Rattle.sky_base.specs.declared.place.Link.{Link}
use Rattle.sky_imap.specs.Links.{links_in}
use Rattle.sky_imap.proofs.PageLaws.{links_are}
use Rattle.sky_checkpoint.proofs.check.PageLinks.as_slice.Goals as goal

pub returns-clause-pages : goal.returns-clause-pages
returns-clause-pages c =
    c.as_slice.ensures.value ∙ sym (links_are _ _ c.self.inside.links.items c.self.invariant) ∙ ap (λ (m : FinMap nat_cmp Link). links_in m) c.self.view_is
