use Rattle.std.proofs.Common.{arith}
use Rattle.sky_results.specs.Results.{entry3}
use Rattle.sky_results.proofs.Entries.{entry_within}
use Rattle.sky_results.proofs.ranges.entries_fit.Goals as goal

pub entry_fits-requires : goal.entry_fits-requires
entry_fits-requires c =
    omega (arith, entry_within entry3 c.args.entries.now c.loop-entry.entry-index c.entry-item.result c.loop-entry-test.true c.entry-item.is)
