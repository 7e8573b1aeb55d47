-- Why nothing is recovered from a site.
use Rattle.std.specs.Prelude.{ℕ}
use Rattle.sky_base.specs.declared.object.SegName.{SegName}
use Rattle.sky_base.specs.declared.place.Damage.{Damage}

pub data Refusal : Type 0 where
  -- the disk is no journal of the volume at this place
  Foreign : (at : ℕ) → Refusal
  -- the cloud holds no object of this name, and it is needed
  Missing : (name : SegName) → Refusal
  -- the object of this name is needed, and has this damage
  Damaged : (name : SegName) → (damage : Damage) → Refusal
