-- The calls of a site in memory, done again.
use Rattle.std.specs.Prelude.{◌≡◌, ℕ, List}
use Rattle.sky_outside.specs.CloudMap.{CloudMap}
use Rattle.sky_memory.specs.Objects.{map_of}
use Rattle.sky_memory.specs.Past.{SiteAt}
use Rattle.sky_memory.specs.declared.past.Past.{Past}

-- it is as the site was
pub record IsAt (past : Past) (s : SiteAt) : Type 0 where
  pub image : past.image.items ≡ s.image
  pub synced : past.synced.items ≡ s.synced
  pub inverted : past.inverted.items ≡ s.inverted
  pub objects : map_of past.objects ≡ s.objects

-- a stop leaves this image and these objects
pub record IsStoppedAt (past : Past) (image : List ℕ) (objects : CloudMap) : Type 0 where
  pub left : past.image.items ≡ image
  pub held : map_of past.objects ≡ objects
