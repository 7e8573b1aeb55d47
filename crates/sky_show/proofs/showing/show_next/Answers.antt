use Rattle.std.proofs.Common.{arith}
use Rattle.sky_show.specs.Frames.{parts_of}
use Rattle.sky_show.proofs.Shows.{shown_on}
use Rattle.sky_show.proofs.showing.show_next.Goals as goal

pub returns-in-Ok-2-clause-ok : goal.returns-in-Ok-2-clause-ok
returns-in-Ok-2-clause-ok g c =
    let ok = c.in-Ok-2.ensures.ok in
    let a = c.in_ok-answer.answer in
    shown_on _ _ _ _ (parts_of a) ok.0 ok.1 (λ e. grind (arith, c.if-answer-eq-END.false)) c.in_ok-answer.ensures.ok ok.2
