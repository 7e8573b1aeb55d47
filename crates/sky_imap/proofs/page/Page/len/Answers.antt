use Rattle.std.proofs.Common.{ℕ, ◌≤◌, length, sym, ◌∙◌, ap, subst}
use Rattle.std.specs.FinMap.{len}
use Rattle.sky_base.specs.Limits.{max_page_slots}
use Rattle.sky_imap.specs.PageMap.{PageMap}
use Rattle.sky_imap.proofs.PageLaws.{few_slots, len_in}
use Rattle.sky_imap.proofs.page.Page.len.Goals as goal

pub returns-clause-slots : goal.returns-clause-slots
returns-clause-slots c = ap length c.as_slice.ensures.value ∙ sym (len_in _ _ c.self.inside.slots.items c.self.invariant.ascends) ∙ ap (λ (p : PageMap). len p.slots) c.self.view_is

pub returns-clause-most : goal.returns-clause-most
returns-clause-most c = subst (λ (n : ℕ). n ≤ max_page_slots) (sym (ap length c.as_slice.ensures.value)) (few_slots c.self.inside.number c.self.inside.slots.items c.self.invariant)
