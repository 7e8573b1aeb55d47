use Rattle.std.proofs.Common.{◌≢◌, ◌+◌, ◌*◌, ◌≤◌, List, length, sym, ◌∙◌, ap, subst}
use Rattle.std.specs.FinMap.{empty}
use Rattle.sky_base.specs.Limits.{max_page_slots}
use Rattle.sky_item.specs.Items.{AreNumbered}
use Rattle.sky_item.specs.declared.item.Item.TheVariants as kind
use Rattle.sky_item.specs.declared.lists.NumberedLink.{NumberedLink}
use Rattle.sky_imap.specs.Links.{map_of}
use Rattle.sky_imap.specs.PageMap.{HasLinks, PageMap, item_of_page}
use Rattle.sky_imap.proofs.PageLaws.{is_numbered, links_are, some_slots}
use Rattle.sky_imap.proofs.page.Page.into_item.Goals as goal

pub returns-clause-made : goal.returns-clause-made
returns-clause-made c =
    ap (λ (slots : List NumberedLink). kind.Page (record { id = c.args.id; number = c.self.inside.number; slots = slots }))
    (c.new.ensures ∙ sym (links_are _ _ c.self.inside.slots.items c.self.invariant.ascends))
    ∙ ap (λ (page : PageMap). item_of_page c.args.id page) c.self.view_is

pub returns-clause-item : goal.returns-clause-item
returns-clause-item c = λ is_id links.
    let some : map_of c.self.inside.slots.items ≢ empty = subst (λ (p : PageMap). p.slots ≢ empty) (sym c.self.view_is) c.requires in (
      is_id,
      c.self.invariant.is_page,
      subst (λ (l : List NumberedLink). 1 ≤ length l) (sym c.new.ensures) (some_slots c.self.inside.slots.items some),
      subst (AreNumbered (c.self.inside.number * max_page_slots) ((c.self.inside.number + 1) * max_page_slots)) (sym c.new.ensures)
          (is_numbered c.self.inside.number c.self.inside.slots.items c.self.invariant (subst HasLinks (sym c.self.view_is) links)),
    )
