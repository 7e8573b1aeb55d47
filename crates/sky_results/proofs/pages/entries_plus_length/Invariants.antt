use Rattle.std.proofs.Common.{◌≡◌, length, take, flat_map}
use Rattle.sky_results.specs.Results.{entryplus3}
use Rattle.sky_results.proofs.pages.entries_plus_length.Given as goal

-- the bytes of the entries so far
abbrev pub invariant-loop-entry : goal.invariant-loop-entry
invariant-loop-entry l = l.sum ≡ length (flat_map entryplus3 (take l.entry-index l.entries))
