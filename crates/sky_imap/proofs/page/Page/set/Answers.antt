use Rattle.std.proofs.Common.{List, Result, Ok, Err, sym, ◌∙◌, ap, subst}
use Rattle.std.specs.Prelude.{OnErr}
use Rattle.std.specs.FinMap.{get}
use Rattle.sky_item.specs.declared.lists.NumberedLink.{NumberedLink}
use Rattle.sky_imap.specs.Kept.{IsKept, page_kept}
use Rattle.sky_imap.specs.PageMap.{PageMap, with_slot}
use Rattle.sky_imap.proofs.FoundLaws.{get_absent, map_of-insert, map_of-set}
use Rattle.sky_imap.proofs.PageLaws.{begins_here, differs_here, here_is, kept-insert, kept-set, with_slots}
use Rattle.sky_imap.proofs.page.Page.set.Goals as goal

pub invariant_of-self : goal.invariant_of-self
invariant_of-self c =
    let links = c.self.inside.slots.items in
    kept-set c.self.inside.number c.args.fileid c.args.link links c.place_of-place.result c.self.invariant (c.requires ∙ ap (λ (p : PageMap). p.number) (sym c.self.view_is))
    (here_is c.self.inside.number c.args.fileid links c.as_slice.result.now c.place_of-place.result c.as_slice.ensures.value c.self.invariant c.place_of-place.ensures)
    (begins_here c.args.fileid links c.as_slice-2.result.now c.place_of-place.result c.as_slice-2.ensures.value c.is_at.ensures c.if-is_at.true)

pub returns-then-is_at-clause-ok : goal.returns-then-is_at-clause-ok
returns-then-is_at-clause-ok c =
    let links = c.self.inside.slots.items in
    with_slots c.self.inside.number _ _
    (map_of-set c.args.fileid _ _ links c.place_of-place.result c.args.link
    (here_is c.self.inside.number c.args.fileid links c.as_slice.result.now c.place_of-place.result c.as_slice.ensures.value c.self.invariant c.place_of-place.ensures)
    (begins_here c.args.fileid links c.as_slice-2.result.now c.place_of-place.result c.as_slice-2.ensures.value c.is_at.ensures c.if-is_at.true))
    ∙ ap (λ (p : PageMap). with_slot p c.args.fileid c.args.link) c.self.view_is

on_err : {A E P : Type 0} (r : Result A E) → P → OnErr r P
on_err (Ok x) p = tt
on_err (Err e) p = p

pub returns-in_err-insert-clause-absent : goal.returns-in_err-insert-clause-absent
returns-in_err-insert-clause-absent c =
    let links = c.self.inside.slots.items in
    on_err c.from_residual.result
    (ap (λ (p : PageMap). get p.slots c.args.fileid) (sym c.self.view_is)
    ∙ get_absent c.args.fileid _ _ links c.place_of-place.result
    (here_is c.self.inside.number c.args.fileid links c.as_slice.result.now c.place_of-place.result c.as_slice.ensures.value c.self.invariant c.place_of-place.ensures)
    (differs_here c.args.fileid links c.as_slice-2.result.now c.place_of-place.result c.as_slice-2.ensures.value c.is_at.ensures c.if-is_at.false))

pub invariant_of-self-2 : goal.invariant_of-self-2
invariant_of-self-2 c =
    let links = c.self.inside.slots.items in
    subst (IsKept c.self.inside.number) (sym c.in_ok-insert.ensures.items)
    (kept-insert c.self.inside.number c.args.fileid c.args.link links c.place_of-place.result c.self.invariant (c.requires ∙ ap (λ (p : PageMap). p.number) (sym c.self.view_is))
    (here_is c.self.inside.number c.args.fileid links c.as_slice.result.now c.place_of-place.result c.as_slice.ensures.value c.self.invariant c.place_of-place.ensures)
    (differs_here c.args.fileid links c.as_slice-2.result.now c.place_of-place.result c.as_slice-2.ensures.value c.is_at.ensures c.if-is_at.false))

pub returns-clause-ok : goal.returns-clause-ok
returns-clause-ok c =
    let links = c.self.inside.slots.items in
    ap (λ (l : List NumberedLink). page_kept c.self.inside.number l) c.in_ok-insert.ensures.items
    ∙ with_slots c.self.inside.number _ _
    (map_of-insert c.args.fileid _ _ links c.place_of-place.result c.args.link
    (here_is c.self.inside.number c.args.fileid links c.as_slice.result.now c.place_of-place.result c.as_slice.ensures.value c.self.invariant c.place_of-place.ensures))
    ∙ ap (λ (p : PageMap). with_slot p c.args.fileid c.args.link) c.self.view_is
