use Rattle.std.proofs.Common.{◌≡◌, ◌+◌, ◌-◌, ◌%◌, arith, ◌∙◌}
use Rattle.std.proofs.lemmas.Grind.{common_steps}
use Rattle.sky_base.specs.NameText.{hex_digit}
use Rattle.sky_base.proofs.NameTextLaws.{digits_step, hex_digits-none}
use Rattle.sky_base.proofs.name_text.digits.Goals as goal

pub loop-at-preserved : goal.loop-at-preserved
loop-at-preserved c =
    let back : c.loop-at.at - 1 + 1 ≡ c.loop-at.at = omega arith in
    let step = rw back at (digits_step (c.loop-at.at - 1) c.loop-at.left c.loop-at.digits (omega arith)) in
    let digit : c.digit.result ≡ hex_digit (c.loop-at.left % 16) = c.digit.ensures in
    (omega arith, grind (arith, common_steps), rw digit (step ∙ c.loop-at.invariant.2))

pub returns : goal.returns
returns c =
    let none : c.loop-at.at ≡ 0 = omega arith in
    rw (none, hex_digits-none) at c.loop-at.invariant.2
