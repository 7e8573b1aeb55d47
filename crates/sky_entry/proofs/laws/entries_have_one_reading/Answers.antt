use Rattle.sky_entry.proofs.EntryLaws.{one_change, no_prefix}
use Rattle.sky_entry.proofs.laws.entries_have_one_reading.Goals as goal

pub returns : goal.returns
returns c = record { one_change = one_change; no_prefix = no_prefix }
