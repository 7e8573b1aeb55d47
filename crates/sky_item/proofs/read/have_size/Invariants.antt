use Rattle.std.proofs.Common.{◌≡◌, ◌+◌, take}
use Rattle.sky_item.specs.Encoding.{size_of_rows}
use Rattle.sky_item.proofs.read.have_size.Given as goal

-- the sizes of the entries so far, and what is left of the size
abbrev pub invariant-loop-row : goal.invariant-loop-row
invariant-loop-row l = l.left + size_of_rows (take l.row-index l.rows) ≡ l.initial.left
