use Rattle.std.proofs.Common.{◌≡◌, ◌^◌, ◌<◌, length, take, flat_map}
use Rattle.sky_results.specs.Results.{entry3}
use Rattle.sky_results.proofs.pages.entries_are_short.Given as goal

-- the entries so far are short, and sum is their bytes
abbrev pub invariant-loop-entry : goal.invariant-loop-entry
invariant-loop-entry l = (l.sum ≡ length (flat_map entry3 (take l.entry-index l.entries))) × (l.sum < 2 ^ 32)
