use Rattle.std.proofs.Common.{◌≡◌, ◌<◌, ◌^◌, take}
use Rattle.sky_base.specs.NameText.{hex_digits}
use Rattle.sky_base.proofs.name_text.number_of.Given as goal

-- the digits so far are the number's
abbrev pub invariant-loop-byte : goal.invariant-loop-byte
invariant-loop-byte l = (l.number < 16 ^ l.byte-index) × (hex_digits l.byte-index l.number ≡ take l.byte-index l.text)
