use Rattle.sky_sound.proofs.Above.{history_recovered}
use Rattle.sky_sound.proofs.laws.history_is_what_is_recovered.Goals as goal

pub returns : goal.returns
returns c = history_recovered
