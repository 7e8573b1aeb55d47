use Rattle.std.proofs.Common.{◌≡◌, ◌++◌, map, take}
use Rattle.sky_show.specs.Line.{in_line}
use Rattle.sky_show.proofs.line.add_text.Given as goal

abbrev pub invariant-loop-byte : goal.invariant-loop-byte
invariant-loop-byte l = l.line.items ≡ l.initial.line.items ++ map in_line (take l.byte-index l.byte-items)
