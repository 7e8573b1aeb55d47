use Rattle.sky_entry.proofs.EntryLaws.{entry_again, entry_sound}
use Rattle.sky_entry.proofs.laws.entry_at_decides.Goals as goal

pub returns : goal.returns
returns c = record { accepted = entry_again; found = λ bytes change n fits e. let r = entry_sound bytes change n fits e in (r.is, r.within) }
