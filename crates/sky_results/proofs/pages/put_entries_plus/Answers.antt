use Rattle.std.proofs.Common.{arith}
use Rattle.std.proofs.lemmas.Grind.{common_steps}
use Rattle.sky_results.specs.Results.{entryplus3}
use Rattle.sky_results.proofs.Entries.{entry_within, name_within_plus}
use Rattle.sky_results.proofs.pages.put_entries_plus.Goals as goal

pub put_entry_plus-requires : goal.put_entry_plus-requires
put_entry_plus-requires c =
    omega (arith, name_within_plus c.entry-item.result, entry_within entryplus3 c.args.entries.now c.loop-entry.entry-index c.entry-item.result c.loop-entry-test.true c.entry-item.is)

pub returns-in_err-put_entry_plus-clause-fits : goal.returns-in_err-put_entry_plus-clause-fits
returns-in_err-put_entry_plus-clause-fits c =
    let within = entry_within entryplus3 c.args.entries.now c.loop-entry.entry-index c.entry-item.result c.loop-entry-test.true c.entry-item.is in
    grind (arith, common_steps)
