use Rattle.sky_sound.proofs.Above.{sound_has_no_checkpoint}
use Rattle.sky_sound.proofs.laws.a_sound_site_has_no_checkpoint.Goals as goal

pub returns : goal.returns
returns c = sound_has_no_checkpoint
