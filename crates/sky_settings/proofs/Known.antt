-- Settings that are in range and others that aren't, with the numbers written out.
use Rattle.std.specs.Prelude.{◌≡◌, ℕ, refl}
use Rattle.std.proofs.Common.{arith}
use Rattle.sky_base.specs.Limits.{max_volume, min_journal_area, max_journal_area}
use Rattle.sky_settings.specs.Settings.{IsInRange, default_fields}

volume_known : max_volume ≡ 4611686018427387904
volume_known = refl

areas_known : (min_journal_area ≡ 262144) × (max_journal_area ≡ 268435456)
areas_known = (refl, refl)

default_known : default_fields ≡ record { volume = 1; journal_area = 67108864; retained = 2; threshold = 50; cache_items = 4096 }
default_known = refl

default_in_range : IsInRange default_fields
default_in_range = record {
  volume = (omega arith, omega arith);
  journal_area = (omega arith, omega arith);
  retained = (omega arith, omega arith);
  threshold = (omega arith, omega arith);
  cache_items = (omega arith, omega arith);
}

-- the volume 0 is out of range, whatever the rest is
no_volume : (area retained threshold items : ℕ) → IsInRange (record { volume = 0; journal_area = area; retained = retained; threshold = threshold; cache_items = items }) → ⊥
no_volume area retained threshold items h = omega (arith, h.volume.0)
