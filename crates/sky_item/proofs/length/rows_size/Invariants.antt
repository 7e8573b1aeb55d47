use Rattle.std.proofs.Common.{◌≡◌, take}
use Rattle.sky_item.specs.Encoding.{size_of_rows}
use Rattle.sky_item.proofs.length.rows_size.Given as goal

-- the sizes of the entries so far
abbrev pub invariant-loop-row : goal.invariant-loop-row
invariant-loop-row l = l.size ≡ size_of_rows (take l.row-index l.rows)
