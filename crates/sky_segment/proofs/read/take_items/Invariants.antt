use Rattle.std.proofs.Common.{◌≡◌, ◌≤◌, length, Ok}
use Rattle.sky_base.specs.Limits.{max_object_bytes}
use Rattle.sky_segment.specs.Damages.{items_at}
use Rattle.sky_segment.proofs.read.take_items.Given as goal

-- so many were taken
abbrev pub invariant-loop : goal.invariant-loop
invariant-loop l = record { taken : items_at l.last l.counter l.bytes ≡ Ok (l.items.items, l.rest); within : length l.rest ≤ max_object_bytes }
