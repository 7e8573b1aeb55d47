use Rattle.std.proofs.Common.{arith}
use Rattle.sky_results.specs.Results.{entryplus3}
use Rattle.sky_results.proofs.Entries.{entry_within}
use Rattle.sky_results.proofs.ranges.entries_plus_fit.Goals as goal

pub entry_plus_fits-requires : goal.entry_plus_fits-requires
entry_plus_fits-requires c =
    omega (arith, entry_within entryplus3 c.args.entries.now c.loop-entry.entry-index c.entry-item.result c.loop-entry-test.true c.entry-item.is)
