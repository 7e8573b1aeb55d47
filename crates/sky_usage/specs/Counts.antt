-- The counts as they are kept.
use Rattle.std.specs.Prelude.{ℕ, ◌<◌, List, All}
use Rattle.std.specs.Map.{values_of}
use Rattle.sky_base.specs.declared.object.SegName.{SegName}

-- something is in use of each name that is there
abbrev pub IsKept : List (SegName × ℕ) → Type 0
IsKept counts = All (λ n. 0 < n) (values_of counts)
