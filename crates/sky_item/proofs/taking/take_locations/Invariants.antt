use Rattle.std.proofs.Common.{◌≡◌, Ok}
use Rattle.sky_item.specs.Reading.{each_at}
use Rattle.sky_item.specs.Fields.{location_at}
use Rattle.sky_item.proofs.taking.take_locations.Given as goal

-- so many were taken
abbrev pub invariant-loop : goal.invariant-loop
invariant-loop l = record { taken : each_at (λ _. location_at) (λ s at. s) l.counter (tt {0}) l.initial.reader ≡ Ok (l.items.items, l.reader) }
