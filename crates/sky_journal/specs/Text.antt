-- What the image of a disk says as a journal: its entries with their numbers, or that it is foreign, and at which place.
-- It is foreign at the first place in the order of reading at which it is not a journal of this volume. The older open area is
-- read before the newer, the header of an area before its batches, and a batch before its entries.
use Rattle.std.specs.Prelude.{ℕ, zero, suc, ◌+◌, ◌*◌, Bool, not, ◌&&◌, ◌||◌, ◌==◌, nat_lt, nat_le, List, [], ◌∷◌, ◌++◌, length, take, drop, Option, Some, None, Result, Ok, Err, ok_or, if◌then◌else◌}
use Rattle.std.specs.Option.{option_and_then, option_map}
use Rattle.sky_base.specs.Limits.{max_number}
use Rattle.sky_journal.specs.Layout.{is_open, number_4, number_8, volume_place, base_place, area_header, batch_header, count_at, body_at, next_batch}

-- what is read, or the place of the disk at which the image is foreign
abbrev pub Read : Type 0 → Type 0
Read A = Result A ℕ

-- goes on with what was read
infixl 10 ◌>>=◌
abbrev pub ◌>>=◌ : {A B : Type 0} → Read A → (A → Read B) → Read B
(Ok x) >>= f = f x
(Err place) >>= f = Err place

-- the image is foreign at a place where this holds
abbrev pub foreign_where : Bool → ℕ → Read (Unit {0})
foreign_where holds place = if holds then Err place else Ok tt

-- ---- a batch

-- the first entry of bytes by its length, and what stands behind it
unfoldable pub first_entry : List ℕ → Option (List ℕ × List ℕ)
first_entry bytes =
    if nat_lt (length bytes) 4 then None
    else (if nat_lt (length bytes) (4 + number_4 0 bytes) then None
    else Some (take (4 + number_4 0 bytes) bytes, drop (4 + number_4 0 bytes) bytes))

-- the entries of which bytes are made, one directly behind the other, where there are this many of them
unfoldable pub entries_in : ℕ → List ℕ → Option (List (List ℕ))
entries_in zero [] = Some []
entries_in zero (b ∷ bs) = None
entries_in (suc n) bytes = option_and_then (λ x. option_map (λ entries. x.0 ∷ entries) (entries_in n x.1)) (first_entry bytes)

-- each of these entries, of which the first stands at a place, is of the grammar
unfoldable pub all_of_grammar : (List ℕ → Bool) → ℕ → List (List ℕ) → Read (Unit {0})
all_of_grammar is_entry place [] = Ok tt
all_of_grammar is_entry place (e ∷ es) = if is_entry e then all_of_grammar is_entry (place + length e) es else Err place

-- an open area: where on the disk it begins, and its bytes
pub record Area : Type 0 where
  pub start : ℕ
  pub bytes : List ℕ

-- the entries of the open batch at a place p of an area, behind the entry of this number
unfoldable pub batch_at : (List ℕ → Bool) → Area → ℕ → ℕ → Read (List (List ℕ))
batch_at is_entry area p last = do
  some ← foreign_where (count_at p area.bytes == 0) (area.start + p)
  within ← foreign_where (nat_le (length area.bytes) (next_batch p area.bytes)) (area.start + p)
  entries ← ok_or (entries_in (count_at p area.bytes) (body_at p area.bytes)) (area.start + p)
  numbers ← foreign_where (nat_le max_number (last + length entries)) (area.start + p)
  grammar ← all_of_grammar is_entry (area.start + p + batch_header) entries
  Ok entries

-- ---- an area

-- the entries of an area from its place p on, behind the entry of this number: those of its batches up to the first closed gate.
-- An area has not more batches than bytes, which bounds how many are looked for.
unfoldable pub batches_from : (List ℕ → Bool) → Area → ℕ → ℕ → ℕ → Read (List (List ℕ))
batches_from is_entry area zero p last = Ok []
batches_from is_entry area (suc bound) p last =
    if is_open p area.bytes then (do
      entries ← batch_at is_entry area p last
      others ← batches_from is_entry area bound (next_batch p area.bytes) (last + length entries)
      Ok (entries ++ others))
    else Ok []

-- the number of the last entry before an area
abbrev pub base_of : Area → ℕ
base_of area = number_8 base_place area.bytes

-- entries with their numbers, behind the entry of this number
unfoldable pub numbered : ℕ → List (List ℕ) → List (ℕ × List ℕ)
numbered last [] = []
numbered last (e ∷ es) = (last + 1, e) ∷ numbered (last + 1) es

-- the entries of an open area of a volume, where its base is not foreign
unfoldable pub area_entries : (List ℕ → Bool) → ℕ → Area → Bool → Read (List (ℕ × List ℕ))
area_entries is_entry volume area base_is_foreign = do
  same_volume ← foreign_where (not (number_8 volume_place area.bytes == volume)) (area.start + volume_place)
  number ← foreign_where (nat_le max_number (base_of area) || base_is_foreign) (area.start + base_place)
  entries ← batches_from is_entry area (length area.bytes) area_header (base_of area)
  Ok (numbered (base_of area) entries)

-- ---- the disk

-- whether the second of two open areas is the older: its base is lower; or the bases are equal, and it alone has no batch
abbrev pub second_is_older : Area → Area → Bool
second_is_older a b =
    nat_lt (base_of b) (base_of a)
    || (base_of a == base_of b && is_open area_header a.bytes && not (is_open area_header b.bytes))

-- the older of two open areas, and then the newer
abbrev pub in_order : Area → Area → List Area
in_order a b = if second_is_older a b then b ∷ a ∷ [] else a ∷ b ∷ []

-- those of two areas that are open, the older first
unfoldable pub open_areas : Area → Area → List Area
open_areas a b =
    if is_open 0 a.bytes then (if is_open 0 b.bytes then in_order a b else a ∷ [])
    else (if is_open 0 b.bytes then b ∷ [] else [])

-- the areas of this many bytes that a disk has: one at its start, and one behind that
abbrev pub first_area : ℕ → List ℕ → Area
first_area size image = record { start = 0; bytes = take size image }

abbrev pub second_area : ℕ → List ℕ → Area
second_area size image = record { start = size; bytes = take size (drop size image) }

-- the entries of the open areas, of which the older is based on an entry up to covers, and the newer on the older's last
unfoldable pub areas_entries : (List ℕ → Bool) → ℕ → ℕ → List Area → Read (List (ℕ × List ℕ))
areas_entries is_entry volume covers [] = Ok []
areas_entries is_entry volume covers (a ∷ []) = area_entries is_entry volume a (nat_lt covers (base_of a))
areas_entries is_entry volume covers (a ∷ b ∷ more) = do
  older ← area_entries is_entry volume a (nat_lt covers (base_of a))
  newer ← area_entries is_entry volume b (not (base_of b == base_of a + length older))
  Ok (older ++ newer)

-- what the image of a disk says as the journal of a volume, with areas of this many bytes, where the entries up to covers are
-- kept elsewhere too: each entry with its number, in order
unfoldable pub entries_of : (is_entry : List ℕ → Bool) → (volume size covers : ℕ) → (image : List ℕ) → Read (List (ℕ × List ℕ))
entries_of is_entry volume size covers image = do
  large_enough ← foreign_where (nat_lt (length image) (2 * size)) (length image)
  areas_entries is_entry volume covers (open_areas (first_area size image) (second_area size image))
