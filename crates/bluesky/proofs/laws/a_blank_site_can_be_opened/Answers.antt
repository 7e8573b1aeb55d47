use Rattle.std.proofs.Common.{arith}
use Rattle.sky_settings.specs.Settings.{default_fields}
use Rattle.bluesky.proofs.laws.a_blank_site_can_be_opened.Goals as goal

pub returns : goal.returns
returns c = λ bytes fits. c.a_blank_site_is_sound.ensures.sound default_fields.volume default_fields.journal_area bytes (omega arith) fits
