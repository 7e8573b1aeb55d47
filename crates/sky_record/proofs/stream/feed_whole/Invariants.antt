use Rattle.std.proofs.Common.{length, ◌-◌, ℕ, ◌≤◌, List, ◌++◌, take}
use Rattle.sky_record.specs.Stream.{ReadsRecords}
use Rattle.sky_record.specs.Feeding.{contents}
use Rattle.sky_record.proofs.stream.feed_whole.Given as goal

abbrev pub invariant-loop-taken : goal.invariant-loop-taken
invariant-loop-taken l =
    (l.taken ≤ length l.piece) × ((stream : List ℕ) → ReadsRecords stream (contents l.initial.records.items) l.initial.assembler → ReadsRecords (stream ++ take l.taken l.piece) (contents l.records.items) l.assembler)

abbrev pub decreases-loop-taken : goal.decreases-loop-taken
decreases-loop-taken l = length l.piece - l.taken
