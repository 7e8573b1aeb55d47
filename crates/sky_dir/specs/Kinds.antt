-- The listing that a directory has, whichever way it is kept.
use Rattle.std.specs.Prelude.{Bool, true, false}
use Rattle.sky_base.specs.Listing.{Listing}
use Rattle.sky_dir.specs.declared.kind.Kind.{Kind}
use Rattle.sky_dir.specs.declared.kind.Kind.TheVariants.{Indexed, Plain}

abbrev pub listing_in : Kind → Listing
listing_in (Indexed directory) = directory
listing_in (Plain directory) = directory

-- whether it is kept by maps
abbrev pub is_by_maps : Kind → Bool
is_by_maps (Indexed directory) = true
is_by_maps (Plain directory) = false
