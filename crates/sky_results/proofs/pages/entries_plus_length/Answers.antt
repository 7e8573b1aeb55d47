use Rattle.std.proofs.Common.{arith}
use Rattle.sky_results.specs.Results.{entryplus3}
use Rattle.sky_results.proofs.Entries.{entry_within}
use Rattle.sky_results.proofs.pages.entries_plus_length.Goals as goal

pub entry_plus_length-sum-requires : goal.entry_plus_length-sum-requires
entry_plus_length-sum-requires c =
    omega (arith, entry_within entryplus3 c.args.entries.now c.loop-entry.entry-index c.entry-item.result c.loop-entry-test.true c.entry-item.is)

pub overflow_add-sum : goal.overflow_add-sum
overflow_add-sum c =
    omega (arith, entry_within entryplus3 c.args.entries.now c.loop-entry.entry-index c.entry-item.result c.loop-entry-test.true c.entry-item.is)
