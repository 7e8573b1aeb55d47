use Rattle.std.proofs.Common.{arith}
use Rattle.sky_results.specs.Results.{entry3}
use Rattle.sky_results.proofs.Entries.{entry_within}
use Rattle.sky_results.proofs.pages.entries_length.Goals as goal

pub entry_length-sum-requires : goal.entry_length-sum-requires
entry_length-sum-requires c =
    omega (arith, entry_within entry3 c.args.entries.now c.loop-entry.entry-index c.entry-item.result c.loop-entry-test.true c.entry-item.is)

pub overflow_add-sum : goal.overflow_add-sum
overflow_add-sum c =
    omega (arith, entry_within entry3 c.args.entries.now c.loop-entry.entry-index c.entry-item.result c.loop-entry-test.true c.entry-item.is)
