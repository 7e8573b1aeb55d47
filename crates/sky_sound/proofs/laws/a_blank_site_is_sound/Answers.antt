use Rattle.sky_sound.proofs.Blank.{blank_sound, blank_recovered}
use Rattle.sky_sound.proofs.laws.a_blank_site_is_sound.Goals as goal

pub returns-clause-sound : goal.returns-clause-sound
returns-clause-sound c = λ volume size bytes within fits. blank_sound volume size bytes (c.valid_trees_stay_valid.ensures.begins volume within) fits

pub returns-clause-found : goal.returns-clause-found
returns-clause-found c = λ volume size bytes fits. blank_recovered volume size bytes fits
