-- What is wrong with bytes as the object of a name, first. The places of a damage within an item count from the item's start,
-- and those of the object's own fields from the object's.
use Rattle.std.specs.Prelude.{◌≡◌, ℕ, zero, suc, ◌-◌, ◌==◌, ◌||◌, Bool, not, Option, Some, None, List, [], ◌∷◌, length, take, drop, Result, Ok, Err, nat_lt, if◌then◌else◌}
use Rattle.std.specs.Str.{bytes_eq}
use Rattle.sky_base.specs.Limits.{max_object_bytes}
use Rattle.sky_base.specs.declared.object.SegName.{SegName}
use Rattle.sky_base.specs.declared.place.Damage.{Damage}
use Rattle.sky_base.specs.declared.place.Damage.TheVariants.{Short, Form}
use Rattle.sky_xdr.specs.Reading.{word, double_word, ◌>>=◌}
use Rattle.sky_item.specs.Encoding.{dir_code}
use Rattle.sky_item.specs.Fields.{said_length, item_at}
use Rattle.sky_item.specs.declared.fault.ItemFault.{ItemFault}
use Rattle.sky_item.specs.declared.fault.ItemFault.TheVariants as fault
use Rattle.sky_item.specs.declared.item.Item.{Item}
use Rattle.sky_segment.specs.Objects.{magic, object_header_bytes, last_code, kind_stands}

-- ---- the header

-- where the number of items stands
abbrev pub count_place : ℕ
count_place = 32

-- how many items a header says that there are
abbrev pub said_count : List ℕ → ℕ
said_count bytes = word (drop count_place bytes)

-- the fields of a header, each by its place and whether it is as the name wants it. An object that ends a batch has one item
abbrev pub header_fields : SegName → List ℕ → List (ℕ × Bool)
header_fields name bytes =
    (0, bytes_eq (take 8 bytes) magic)
    ∷ (8, word (drop 8 bytes) == dir_code name.dir)
    ∷ (12, double_word (drop 12 bytes) == name.run)
    ∷ (20, double_word (drop 20 bytes) == name.seq)
    ∷ (28, word (drop 28 bytes) == last_code name.last)
    ∷ (count_place, not name.last || said_count bytes == 1)
    ∷ []

-- the place of the first field that is not
abbrev pub first_wrong : List (ℕ × Bool) → Option ℕ
first_wrong [] = None
first_wrong ((at, is_right) ∷ others) = if is_right then first_wrong others else Some at

-- ---- the items

-- the item, and what stands behind its bytes
abbrev pub with_rest : List ℕ → Result Item Damage → Result (Item × List ℕ) Damage
with_rest rest (Ok item) = Ok (item, rest)
with_rest rest (Err damage) = Err damage

-- the item that bytes begin with: whether it is whole comes first, then whether its kind may stand there, then what is wrong with it
unfoldable pub next_item : Bool → List ℕ → Result (Item × List ℕ) Damage
next_item last bytes =
    if nat_lt (length bytes) (said_length bytes) then Err (Short (length bytes))
    else (if kind_stands last (word bytes) then with_rest (drop (said_length bytes) bytes) (item_at (take (said_length bytes) bytes))
    else Err (Form 0))

-- so many items, one behind the other, and what stands behind them
unfoldable pub items_at : Bool → ℕ → List ℕ → Result (List Item × List ℕ) Damage
items_at last zero bytes = Ok ([], bytes)
items_at last (suc n) bytes = do
  x ← next_item last bytes
  xs ← items_at last n x.1
  Ok (x.0 ∷ xs.0, xs.1)

-- ---- objects

-- the items of an object, where no byte is left behind them; the first of those that are is not of the format
abbrev pub all_of : List ℕ → List Item × List ℕ → Result (List Item) Damage
all_of bytes (items, []) = Ok items
all_of bytes (items, b ∷ rest) = Err (Form (length bytes - length (b ∷ rest)))

abbrev pub behind_header : Bool → List ℕ → Option ℕ → Result (List Item) Damage
behind_header last bytes (Some at) = Err (Form at)
behind_header last bytes None = items_at last (said_count bytes) (drop object_header_bytes bytes) >>= all_of bytes

-- the items of the object of a name, or what is wrong with the bytes first
unfoldable pub object_at : SegName → List ℕ → Result (List Item) Damage
object_at name bytes =
    if nat_lt max_object_bytes (length bytes) then Err (Form max_object_bytes)
    else (if nat_lt (length bytes) object_header_bytes then Err (Short (length bytes))
    else behind_header name.last bytes (first_wrong (header_fields name bytes)))

-- what a call returned, seen by view, is what reading gives; or there was no memory
abbrev pub GivesBy : {X A : Type 0} → (X → A) → Result X ItemFault → Result A Damage → Type 0
GivesBy view (Ok x) read = read ≡ Ok (view x)
GivesBy view (Err (fault.Damage damage)) read = read ≡ Err damage
GivesBy view (Err fault.Memory) read = Unit {0}
