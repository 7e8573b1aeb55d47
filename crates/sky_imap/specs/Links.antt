-- Items that go by numbers, as a map from these.
use Rattle.std.specs.Prelude.{◌≡◌, ℕ, List, [], ◌∷◌, map, take, drop, length, ◌≤◌}
use Rattle.std.specs.FinMap.{FinMap, entries, from_entries}
use Rattle.std.specs.Ordering.{nat_cmp}
use Rattle.sky_base.specs.declared.place.Link.{Link}
use Rattle.sky_item.specs.declared.lists.NumberedLink.{NumberedLink}
use Rattle.sky_item.specs.Items.{AscendsWithin}

-- the numbers
abbrev pub numbers_of : List NumberedLink → List ℕ
numbers_of links = map (λ n. n.number) links

-- the number of an item, and where it lies
abbrev pub entry_of : NumberedLink → ℕ × Link
entry_of n = (n.number, n.link)

-- the items as a map
abbrev pub map_of : List NumberedLink → FinMap nat_cmp Link
map_of links = from_entries (map entry_of links)

-- a map as such items, in the order of their numbers
abbrev pub links_in : FinMap nat_cmp Link → List NumberedLink
links_in m = map (λ e. record { number = e.0; link = e.1 }) (entries m)

-- where a number is in items that ascend by their numbers, or would be: those before this place have a lower number, and those
-- from it on have no lower one
pub record IsPlaceOf (number least bound : ℕ) (links : List NumberedLink) (place : ℕ) : Type 0 where
  pub within : place ≤ length links
  pub before : AscendsWithin least number (numbers_of (take place links))
  pub behind : AscendsWithin number bound (numbers_of (drop place links))

-- the first of these items has this number
abbrev pub Begins : ℕ → List NumberedLink → Type 0
Begins number [] = ⊥
Begins number (n ∷ links) = n.number ≡ number
