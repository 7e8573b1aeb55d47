use Rattle.std.proofs.Common.{List, sym, ◌∙◌, ap, subst}
use Rattle.sky_item.specs.declared.lists.NumberedLink.{NumberedLink}
use Rattle.sky_imap.specs.Kept.{IsKept, page_kept}
use Rattle.sky_imap.specs.Links.{map_of}
use Rattle.sky_imap.specs.PageMap.{PageMap, without_slot}
use Rattle.sky_imap.proofs.FoundLaws.{get_absent, map_of-remove, remove-absent}
use Rattle.sky_imap.proofs.PageLaws.{begins_here, differs_here, here_is, kept-remove, with_slots}
use Rattle.sky_imap.proofs.page.Page.clear.Goals as goal

pub invariant_of-self : goal.invariant_of-self
invariant_of-self c =
    let links = c.self.inside.slots.items in
    subst (IsKept c.self.inside.number) (sym c.remove.ensures.items)
    (kept-remove c.self.inside.number c.args.fileid links c.place_of-place.result c.self.invariant
    (here_is c.self.inside.number c.args.fileid links c.as_slice.result.now c.place_of-place.result c.as_slice.ensures.value c.self.invariant c.place_of-place.ensures)
    (begins_here c.args.fileid links c.as_slice-2.result.now c.place_of-place.result c.as_slice-2.ensures.value c.is_at.ensures c.if-is_at.true))

pub returns-then-is_at : goal.returns-then-is_at
returns-then-is_at c =
    let links = c.self.inside.slots.items in
    ap (λ (l : List NumberedLink). page_kept c.self.inside.number l) c.remove.ensures.items
    ∙ with_slots c.self.inside.number _ _
    (map_of-remove c.args.fileid _ _ links c.place_of-place.result c.remove.result
    (here_is c.self.inside.number c.args.fileid links c.as_slice.result.now c.place_of-place.result c.as_slice.ensures.value c.self.invariant c.place_of-place.ensures)
    (begins_here c.args.fileid links c.as_slice-2.result.now c.place_of-place.result c.as_slice-2.ensures.value c.is_at.ensures c.if-is_at.true))
    ∙ ap (λ (p : PageMap). without_slot p c.args.fileid) c.self.view_is

pub returns-else-is_at : goal.returns-else-is_at
returns-else-is_at c =
    let links = c.self.inside.slots.items in
    sym c.self.view_is
    ∙ with_slots c.self.inside.number _ _
    (remove-absent (map_of links) c.args.fileid
    (get_absent c.args.fileid _ _ links c.place_of-place.result
    (here_is c.self.inside.number c.args.fileid links c.as_slice.result.now c.place_of-place.result c.as_slice.ensures.value c.self.invariant c.place_of-place.ensures)
    (differs_here c.args.fileid links c.as_slice-2.result.now c.place_of-place.result c.as_slice-2.ensures.value c.is_at.ensures c.if-is_at.false)))
    ∙ ap (λ (p : PageMap). without_slot p c.args.fileid) c.self.view_is
