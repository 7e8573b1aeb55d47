use Rattle.std.proofs.Common.{take}
use Rattle.std.specs.List.{flat_map}
use Rattle.sky_item.specs.Encoding.{row_bytes}
use Rattle.sky_item.specs.Writing.{Appends}
use Rattle.sky_item.proofs.writing.put_rows.Given as goal

-- so many are written
abbrev pub invariant-loop-row : goal.invariant-loop-row
invariant-loop-row l = Appends (flat_map row_bytes (take l.row-index l.rows)) l.initial.out l.out
