use Rattle.std.proofs.Common.{take}
use Rattle.std.specs.List.{AllByRecursion}
use Rattle.sky_results.specs.Ranges.{EntryPlusFits}
use Rattle.sky_results.proofs.ranges.entries_plus_fit.Given as goal

-- the entries so far are in range
abbrev pub invariant-loop-entry : goal.invariant-loop-entry
invariant-loop-entry l = AllByRecursion EntryPlusFits (take l.entry-index l.entries)
