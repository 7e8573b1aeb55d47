use Rattle.std.proofs.Common.{◌≡◌, ◌+◌, ◌≤◌, min}
use Rattle.sky_usage.specs.LiveBytes.{max_counted, total_of}
use Rattle.sky_usage.proofs.KeptLaws.{total_in}
use Rattle.sky_usage.proofs.usage.Usage.total.Given as goal

abbrev pub invariant-loop-name : goal.invariant-loop-name
invariant-loop-name l = record {
  most : l.total ≤ max_counted;
  left : min (l.total + total_in l.dir l.name-iterator) max_counted ≡ min (total_of l.self l.dir) max_counted;
}
