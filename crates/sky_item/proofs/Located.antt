-- The locations of an item are those of its blocks, or of its items that go by numbers, one behind the other.
use Rattle.std.proofs.Common.{◌≡◌, ℕ, Option, Some, None, List, [], ◌∷◌, ◌++◌, refl, ap}
use Rattle.std.specs.List.{flat_map}
use Rattle.sky_base.specs.declared.place.Link.{Link}
use Rattle.sky_item.specs.declared.lists.NumberedLink.{NumberedLink}
use Rattle.sky_item.specs.Encoding.{location_bytes, block_locations, numbered_locations, block_location_bytes, numbered_location_bytes}

pub blocks_located : (blocks : List (Option Link)) → flat_map location_bytes (block_locations blocks) ≡ flat_map block_location_bytes blocks
blocks_located [] = refl
blocks_located (None ∷ blocks) = blocks_located blocks
blocks_located (Some link ∷ blocks) = ap (λ (t : List ℕ). location_bytes link.at ++ t) (blocks_located blocks)

pub numbered_located : (links : List NumberedLink) → flat_map location_bytes (numbered_locations links) ≡ flat_map numbered_location_bytes links
numbered_located [] = refl
numbered_located (n ∷ links) = ap (λ (t : List ℕ). location_bytes n.link.at ++ t) (numbered_located links)
