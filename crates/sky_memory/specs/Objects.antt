-- The objects that a cloud in memory holds, in the order of their names.
use Rattle.std.specs.Prelude.{ℕ, ◌<◌, List, map, Vec}
use Rattle.std.specs.declared.alloc.Global.{Global}
use Rattle.std.specs.FinMap.{from_entries}
use Rattle.sky_base.specs.declared.object.SegName.{SegName}
use Rattle.sky_base.specs.Limits.{max_number}
use Rattle.sky_outside.specs.CloudMap.{CloudMap}

-- the numbers in a name are in their range
pub record IsInRange (name : SegName) : Type 0 where
  pub run : name.run < max_number
  pub seq : name.seq < max_number

-- these objects as a map
abbrev pub map_of : List (SegName × List ℕ) → CloudMap
map_of objects = from_entries objects

-- names and bytes, without where these lie
abbrev pub pairs_of : List (SegName × Vec ℕ Global) → List (SegName × List ℕ)
pairs_of objects = map (λ o. (o.0, o.1.items)) objects
