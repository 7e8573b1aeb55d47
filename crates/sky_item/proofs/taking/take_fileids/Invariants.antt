use Rattle.std.proofs.Common.{◌≡◌, ◌+◌, ◌-◌, Ok}
use Rattle.sky_base.specs.Limits.{max_fileid}
use Rattle.sky_item.specs.Reading.{each_at, uhyper_within}
use Rattle.sky_item.proofs.Each.{after}
use Rattle.sky_item.proofs.taking.take_fileids.Given as goal

-- so many were taken
abbrev pub invariant-loop : goal.invariant-loop
invariant-loop l = record { taken : each_at (λ least. uhyper_within least (max_fileid - 1)) (λ least fileid. fileid + 1) l.counter l.initial.least l.initial.reader ≡ Ok (l.items.items, l.reader); state : l.least ≡ after (λ least fileid. fileid + 1) l.initial.least l.items.items }
