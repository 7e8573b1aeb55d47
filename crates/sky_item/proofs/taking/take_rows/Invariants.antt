use Rattle.std.proofs.Common.{◌≡◌, Ok}
use Rattle.sky_item.specs.Reading.{each_at}
use Rattle.sky_item.specs.Fields.{row_at}
use Rattle.sky_item.proofs.taking.take_rows.Given as goal

-- so many were taken
abbrev pub invariant-loop : goal.invariant-loop
invariant-loop l = record { taken : each_at (λ _. row_at) (λ s row. s) l.counter (tt {0}) l.initial.reader ≡ Ok (l.items.items, l.reader) }
