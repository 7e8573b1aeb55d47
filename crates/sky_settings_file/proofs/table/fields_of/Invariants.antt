use Rattle.std.proofs.Common.{◌≡◌}
use Rattle.sky_settings.specs.Settings.{default_fields}
use Rattle.sky_settings_file.specs.Table.{with_settings}
use Rattle.toml.specs.View.{members_view}
use Rattle.sky_settings_file.proofs.table.fields_of.Given as goal

abbrev pub invariant-loop-key : goal.invariant-loop-key
invariant-loop-key l = record {
  can : (goal.iterator-loop-key).can_next l.key-iterator;
  finite : (goal.iterator-loop-key).is_finite l.key-iterator;
  same : with_settings (members_view l.key-iterator) l.fields ≡ with_settings (members_view l.table.entries) default_fields;
}
