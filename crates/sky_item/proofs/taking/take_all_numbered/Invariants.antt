use Rattle.std.proofs.Common.{◌≡◌, ◌+◌, Ok}
use Rattle.sky_item.specs.Reading.{each_at}
use Rattle.sky_item.specs.Fields.{numbered_at, numbers_behind}
use Rattle.sky_item.proofs.Each.{after}
use Rattle.sky_item.proofs.taking.take_all_numbered.Given as goal

-- so many were taken
abbrev pub invariant-loop : goal.invariant-loop
invariant-loop l = record { taken : each_at (numbered_at (l.initial.range.1 + 1)) numbers_behind l.counter (l.initial.least, l.initial.left) l.initial.reader ≡ Ok (l.items.items, l.reader); state : (l.least, l.left) ≡ after numbers_behind (l.initial.least, l.initial.left) l.items.items }
