-- The settings of a proxy: the range of each, and what each is where nothing is said.
use Rattle.std.specs.Prelude.{ℕ, ◌^◌, ◌≤◌}
use Rattle.sky_base.specs.Limits.{max_volume, min_journal_area, max_journal_area}
use Rattle.sky_settings.specs.declared.settings.Fields.{Fields}

-- the number of a volume begins with 1, since 0 is none
abbrev pub min_volume : ℕ
min_volume = 1

-- how many checkpoints are kept
abbrev pub min_retained : ℕ
min_retained = 1

abbrev pub max_retained : ℕ
max_retained = 16

-- below which share of live bytes an object is cleaned, in percent
abbrev pub min_threshold : ℕ
min_threshold = 1

abbrev pub max_threshold : ℕ
max_threshold = 100

-- how many items the cache keeps
abbrev pub min_cache_items : ℕ
min_cache_items = 16

abbrev pub max_cache_items : ℕ
max_cache_items = 2 ^ 20

-- a number is in a range, which has its ends too
abbrev pub IsWithin : ℕ → ℕ → ℕ → Type 0
IsWithin least most n = (least ≤ n) × (n ≤ most)

-- each setting is in its range
pub record IsInRange (f : Fields) : Type 0 where
  pub volume : IsWithin min_volume max_volume f.volume
  pub journal_area : IsWithin min_journal_area max_journal_area f.journal_area
  pub retained : IsWithin min_retained max_retained f.retained
  pub threshold : IsWithin min_threshold max_threshold f.threshold
  pub cache_items : IsWithin min_cache_items max_cache_items f.cache_items

-- the settings where nothing is said
abbrev pub default_fields : Fields
default_fields = record { volume = 1; journal_area = 2 ^ 26; retained = 2; threshold = 50; cache_items = 4096 }
