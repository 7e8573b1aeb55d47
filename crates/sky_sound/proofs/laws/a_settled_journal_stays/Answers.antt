use Rattle.sky_sound.proofs.Settled.{settled_twice}
use Rattle.sky_sound.proofs.laws.a_settled_journal_stays.Goals as goal

pub returns : goal.returns
returns c = settled_twice
