use Rattle.std.proofs.Common.{◌≡◌, ◌≤◌, ◌++◌, drop, length}
use Rattle.sky_base.specs.NameText.{hex_digits}
use Rattle.sky_base.proofs.name_text.digits.Given as goal

-- the digits of what is left, and then those that are there, are the number's
abbrev pub invariant-loop-at : goal.invariant-loop-at
invariant-loop-at l = (l.at ≤ 16) × (length l.digits ≡ 16) × (hex_digits l.at l.left ++ drop l.at l.digits ≡ hex_digits 16 l.number)

abbrev pub decreases-loop-at : goal.decreases-loop-at
decreases-loop-at l = l.at
