use Rattle.std.proofs.Common.{◌≡◌, Bool, length, sym, ◌∙◌, ap, subst, IsTrue}
use Rattle.std.specs.FinMap.{empty, len}
use Rattle.sky_imap.specs.PageMap.{PageMap}
use Rattle.sky_imap.proofs.PageLaws.{len_in, tested}
use Rattle.sky_imap.proofs.page.Page.is_empty.Goals as goal

pub returns : goal.returns
returns c =
    subst (λ (b : Bool). (IsTrue b → c.args.self.now.slots ≡ empty) × (c.args.self.now.slots ≡ empty → IsTrue b)) (sym c.is_empty.ensures)
    (tested c.args.self.now.slots (length c.as_slice.result.now)
    (ap length c.as_slice.ensures.value ∙ sym (len_in _ _ c.self.inside.slots.items c.self.invariant.ascends) ∙ ap (λ (p : PageMap). len p.slots) c.self.view_is))
