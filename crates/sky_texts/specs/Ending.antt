-- The exit status of the program.
use Rattle.std.specs.Prelude.{ℕ}
use Rattle.sky_base.specs.Status.{number_of}
use Rattle.sky_texts.specs.declared.ending.Ending.{Ending}
use Rattle.sky_texts.specs.declared.ending.Ending.TheVariants.{Ran, SettingsFile}

-- the number of an ending: that of the run's status, or 15 where the settings' file can't be read
abbrev pub exit_number : Ending → ℕ
exit_number (Ran status) = number_of status
exit_number SettingsFile = 15
