use Rattle.std.proofs.Common.{take}
use Rattle.std.specs.List.{flat_map}
use Rattle.sky_item.specs.Encoding.{numbered_bytes}
use Rattle.sky_item.specs.Writing.{Appends}
use Rattle.sky_item.proofs.writing.put_each_numbered.Given as goal

-- so many are written
abbrev pub invariant-loop-item : goal.invariant-loop-item
invariant-loop-item l = Appends (flat_map numbered_bytes (take l.item-index l.items)) l.initial.out l.out
