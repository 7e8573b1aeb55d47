use Rattle.std.proofs.Common.{◌∙◌, sym, rules}
use Rattle.sky_settings_file.proofs.Ranges.{text-in_range, empty-says}
use Rattle.sky_settings_file.proofs.read.read_settings.Goals as goal

pub returns-then-is_empty-clause-settings : goal.returns-then-is_empty-clause-settings
returns-then-is_empty-clause-settings c = rw c.new.ensures (empty-says _ (sym c.is_empty.ensures ∙ c.if-is_empty.true))

pub returns-in-None-clause-refused : goal.returns-in-None-clause-refused
returns-in-None-clause-refused c _ fields says =
    let no_settings = c.in-None.ensures.in_range.1 (text-in_range _ _ c.in-Ok-read_table.ensures.ok) in absurd (search rules)
