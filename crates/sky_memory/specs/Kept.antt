-- What a site in memory keeps of itself.
use Rattle.std.specs.Prelude.{◌≡◌, All}
use Rattle.sky_memory.specs.Device.{SiteState}
use Rattle.sky_memory.specs.Objects.{IsInRange, map_of, pairs_of}
use Rattle.sky_memory.specs.Past.{SiteAt, at_first, after_calls}
use Rattle.sky_memory.specs.declared.mem_site.MemSite.TheInside.{Inside}

-- as it was at first
abbrev pub first_of : Inside → SiteState
first_of m = record { image = m.first_image.items; objects = pairs_of m.first_held.items }

-- what it holds by its record
abbrev pub at_record : Inside → SiteAt
at_record m = after_calls m.noted.calls (at_first (first_of m))

-- its image and objects are those of its record
pub record IsKept (m : Inside) : Type 0 where
  pub image : m.image.items ≡ (at_record m).image
  pub objects : map_of m.objects ≡ (at_record m).objects
  pub names : All (λ o. IsInRange o.0) m.first_held.items
