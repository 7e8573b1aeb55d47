-- Objects of the cloud: a header, and items one behind the other. A number has the highest byte first, in four bytes (uint) or
-- eight (uhyper).
use Rattle.std.specs.Prelude.{◌≡◌, ℕ, ◌+◌, ◌<◌, ◌≤◌, ◌==◌, Bool, true, not, List, [], ◌∷◌, ◌++◌, length, take, drop, if◌then◌else◌}
use Rattle.std.specs.List.{flat_map, AllByRecursion}
use Rattle.sky_base.specs.Limits.{max_number, max_object_bytes}
use Rattle.sky_base.specs.declared.object.SegName.{SegName}
use Rattle.sky_base.specs.declared.place.Location.{Location}
use Rattle.sky_xdr.specs.Encoding.{uint, uhyper}
use Rattle.sky_item.specs.Encoding.{dir_code, kind_code, item_bytes}
use Rattle.sky_item.specs.Items.{IsItem, EncodesItem}
use Rattle.sky_item.specs.declared.item.Item.{Item}

-- what an object begins with: the text `SKYSEG1` and a line feed
abbrev pub magic : List ℕ
magic = 83 ∷ 75 ∷ 89 ∷ 83 ∷ 69 ∷ 71 ∷ 49 ∷ 10 ∷ []

-- how many bytes an object has before its items
abbrev pub object_header_bytes : ℕ
object_header_bytes = 36

-- whether it is the checkpoint that ends a batch
abbrev pub last_code : Bool → ℕ
last_code last = if last then 1 else 0

-- what stands before the items: the magic, what the object's name says, and how many items there are
unfoldable pub object_header : SegName → ℕ → List ℕ
object_header name count = magic ++ uint (dir_code name.dir) ++ uhyper name.run ++ uhyper name.seq ++ uint (last_code name.last) ++ uint count

-- an object of these items
unfoldable pub object_bytes : SegName → List Item → List ℕ
object_bytes name items = object_header name (length items) ++ flat_map item_bytes items

-- the number of the kind that a checkpoint has among items
abbrev pub check_code : ℕ
check_code = 4

-- whether an item of a kind may stand in an object: a checkpoint in one that ends a batch, and the others in the others
abbrev pub kind_stands : Bool → ℕ → Bool
kind_stands last code = if last then code == check_code else not (code == check_code)

abbrev pub may_stand : Bool → Item → Bool
may_stand last item = kind_stands last (kind_code item)

-- bytes are the object of a name, made of these items
pub record IsObject (name : SegName) (bytes : List ℕ) (items : List Item) : Type 0 where
  pub run : name.run < max_number
  pub seq : name.seq < max_number
  pub each : AllByRecursion IsItem items
  pub kinds : AllByRecursion (λ item. may_stand name.last item ≡ true) items
  pub one_check : name.last ≡ true → length items ≡ 1
  pub encoded : bytes ≡ object_bytes name items
  pub within : length bytes ≤ max_object_bytes

-- among bytes an item lies at a place
pub record LiesAt (bytes : List ℕ) (at : Location) (item : Item) : Type 0 where
  pub within : at.offset + at.length ≤ length bytes
  pub encoded : EncodesItem (take at.length (drop at.offset bytes)) item
