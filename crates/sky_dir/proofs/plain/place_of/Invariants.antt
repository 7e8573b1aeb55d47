-- what is found from here on, counted from the start, is what is found in all
use Rattle.std.proofs.Common.{◌≡◌, ◌+◌, drop}
use Rattle.std.specs.Prelude.{option_map}
use Rattle.sky_dir.specs.Rows.{place_in}
use Rattle.sky_dir.proofs.plain.place_of.Given as goal

abbrev pub invariant-loop-i : goal.invariant-loop-i
invariant-loop-i l = option_map (λ k. l.i + k) (place_in l.name (drop l.i l.rows)) ≡ place_in l.name l.rows
