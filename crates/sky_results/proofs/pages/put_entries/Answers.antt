use Rattle.std.proofs.Common.{arith}
use Rattle.std.proofs.lemmas.Grind.{common_steps}
use Rattle.sky_results.specs.Results.{entry3}
use Rattle.sky_results.proofs.Entries.{entry_within, name_within}
use Rattle.sky_results.proofs.pages.put_entries.Goals as goal

pub put_entry-requires : goal.put_entry-requires
put_entry-requires c =
    omega (arith, name_within c.entry-item.result, entry_within entry3 c.args.entries.now c.loop-entry.entry-index c.entry-item.result c.loop-entry-test.true c.entry-item.is)

pub returns-in_err-put_entry-clause-fits : goal.returns-in_err-put_entry-clause-fits
returns-in_err-put_entry-clause-fits c =
    let within = entry_within entry3 c.args.entries.now c.loop-entry.entry-index c.entry-item.result c.loop-entry-test.true c.entry-item.is in
    grind (arith, common_steps)
