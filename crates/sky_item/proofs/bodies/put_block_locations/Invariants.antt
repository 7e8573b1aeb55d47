use Rattle.std.proofs.Common.{take}
use Rattle.std.specs.List.{flat_map}
use Rattle.sky_item.specs.Encoding.{block_location_bytes}
use Rattle.sky_item.specs.Writing.{Appends}
use Rattle.sky_item.proofs.bodies.put_block_locations.Given as goal

-- so many are written
abbrev pub invariant-loop-block : goal.invariant-loop-block
invariant-loop-block l = Appends (flat_map block_location_bytes (take l.block-index l.blocks)) l.initial.out l.out
