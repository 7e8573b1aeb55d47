use Rattle.sky_sound.proofs.Claims.{epoch_after-claimed, checkpoint_in-claimed, sound-claimed}
use Rattle.sky_sound.proofs.laws.a_boot_object_claims_its_epoch.Goals as goal

pub returns : goal.returns
returns c = record { epoch = epoch_after-claimed; checkpoint = checkpoint_in-claimed; sound = sound-claimed }
