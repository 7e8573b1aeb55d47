-- What a run is asked for by the text of the settings.
use Rattle.std.specs.Prelude.{ℕ, List}
use Rattle.sky_base.specs.declared.status.Status.{Status}
use Rattle.sky_base.specs.declared.status.Status.TheVariants.{Words, Settings, Memory, SinkFault}
use Rattle.sky_settings.specs.declared.settings.Fields.{Fields}
use Rattle.sky_settings_file.specs.Table.{SaysSettings}

-- a text says no settings
abbrev pub SaysNone : List ℕ → Type 0
SaysNone text = (fields : Fields) → SaysSettings text fields → ⊥

-- A status of a run that did not come to know its settings: the words or the settings are refused; or there was no memory for reading
-- them, and the sink may have failed when this was written.
abbrev pub IsUnsaid : Status → Type 0
IsUnsaid Words = Unit {0}
IsUnsaid Settings = Unit {0}
IsUnsaid Memory = Unit {0}
IsUnsaid SinkFault = Unit {0}
IsUnsaid _ = ⊥
