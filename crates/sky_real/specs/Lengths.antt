-- The lengths of a folder's objects, in the order of their names.
use Rattle.std.specs.Prelude.{ℕ}
use Rattle.sky_base.specs.declared.object.SegName.{SegName}
use Rattle.sky_outside.specs.declared.site.Held.{Held}

-- how a name and a length are listed
abbrev pub held_with : SegName × ℕ → Held
held_with entry = record { name = entry.0; length = entry.1 }
