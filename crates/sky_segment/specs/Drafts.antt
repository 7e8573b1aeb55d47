-- Objects that are being made.
use Rattle.std.specs.Prelude.{◌≡◌, ℕ, ◌<◌, ◌≤◌, ◌==◌, ◌&&◌, ◌||◌, Bool, true, not, List, [], ◌∷◌, ◌++◌, length, drop, Result, Ok, Err, nat_le}
use Rattle.std.specs.List.{flat_map, AllByRecursion}
use Rattle.sky_base.specs.Limits.{max_number, max_object_bytes}
use Rattle.sky_base.specs.declared.object.SegName.{SegName}
use Rattle.sky_base.specs.declared.place.Damage.{Damage}
use Rattle.sky_base.specs.declared.place.Location.{Location}
use Rattle.sky_item.specs.Encoding.{item_bytes}
use Rattle.sky_item.specs.Items.{IsItem}
use Rattle.sky_item.specs.declared.item.Item.{Item}
use Rattle.sky_segment.specs.Objects.{object_header_bytes, object_header, object_bytes, may_stand}
use Rattle.sky_segment.specs.Damages.{items_at}

-- an object that is being made: its name, and its items so far
pub record Draft : Type 0 where
  pub name : SegName
  pub items : List Item

-- how many bytes it would have if it were done
abbrev pub size_of_draft : Draft → ℕ
size_of_draft d = length (object_bytes d.name d.items)

-- it can still become an object of the format
pub record IsDraft (d : Draft) : Type 0 where
  pub run : d.name.run < max_number
  pub seq : d.name.seq < max_number
  pub each : AllByRecursion IsItem d.items
  pub kinds : AllByRecursion (λ item. may_stand d.name.last item ≡ true) d.items
  pub one_check : d.name.last ≡ true → length d.items ≤ 1
  pub within : size_of_draft d ≤ max_object_bytes

-- whether it has what an object of its name must have: the checkpoint that ends a batch
abbrev pub is_complete : Draft → Bool
is_complete d = not d.name.last || length d.items == 1

-- whether an item of this kind may come next: of checkpoints an object takes one
abbrev pub takes_kind : Draft → Item → Bool
takes_kind d item = may_stand d.name.last item && (not d.name.last || length d.items == 0)

-- the same with one more item
abbrev pub with_item : Draft → Item → Draft
with_item d item = record { name = d.name; items = d.items ++ item ∷ [] }

-- whether the object is not too long with that
abbrev pub has_room : Draft → Item → Bool
has_room d item = nat_le (size_of_draft (with_item d item)) max_object_bytes

-- where an item comes to lie that is added next
abbrev pub next_place : Draft → Item → Location
next_place d item = record { dir = d.name.dir; run = d.name.run; seq = d.name.seq; offset = size_of_draft d; length = length (item_bytes item) }

-- ---- what is kept of it

-- the items that were read, if they were
abbrev pub items_or_none : Result (List Item × List ℕ) Damage → List Item
items_or_none (Ok (items, rest)) = items
items_or_none (Err damage) = []

-- the items, so many, that stand in bytes behind a header, whatever number of items the header says
unfoldable pub kept_items : Bool → ℕ → List ℕ → List Item
kept_items last count bytes = items_or_none (items_at last count (drop object_header_bytes bytes))

-- the object of this name with those items
abbrev pub draft_of : SegName → ℕ → List ℕ → Draft
draft_of name count bytes = record { name = name; items = kept_items name.last count bytes }

-- the header of an object of no items, and so many items behind it that the object can still become one of the format
pub record IsKept (name : SegName) (count : ℕ) (bytes : List ℕ) : Type 0 where
  pub draft : IsDraft (draft_of name count bytes)
  pub many : length (draft_of name count bytes).items ≡ count
  pub encoded : bytes ≡ object_header name 0 ++ flat_map item_bytes (draft_of name count bytes).items
