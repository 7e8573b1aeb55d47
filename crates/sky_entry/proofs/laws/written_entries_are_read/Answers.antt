use Rattle.sky_entry.proofs.EntryLaws.{written_found, written_read}
use Rattle.sky_entry.proofs.laws.written_entries_are_read.Goals as goal

pub returns : goal.returns
returns c = record { found = written_found; read_again = written_read }
