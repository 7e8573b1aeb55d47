use Rattle.std.proofs.Common.{◌≡◌, Ok}
use Rattle.sky_item.specs.Reading.{each_at}
use Rattle.sky_item.specs.Fields.{block_at, locations_behind}
use Rattle.sky_item.proofs.Each.{after}
use Rattle.sky_item.proofs.taking.take_blocks.Given as goal

-- so many were taken
abbrev pub invariant-loop : goal.invariant-loop
invariant-loop l = record { taken : each_at block_at locations_behind l.counter l.initial.left l.initial.reader ≡ Ok (l.items.items, l.reader); state : l.left ≡ after locations_behind l.initial.left l.items.items }
