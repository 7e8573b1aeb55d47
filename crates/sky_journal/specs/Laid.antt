-- How the entries that a journal knows of are laid out on the image of its disk.
use Rattle.std.specs.Prelude.{◌≡◌, ℕ, ◌+◌, ◌<◌, true, false, List, [], ◌∷◌, ◌++◌, length, Option, Some, None}
use Rattle.sky_outside.specs.Image.{bytes_at}
use Rattle.sky_journal.specs.Layout.{is_open, number_8, volume_place, base_place, area_header, count_at, body_at, next_batch}
use Rattle.sky_journal.specs.Text.{entries_in}
use Rattle.sky_journal.specs.declared.open_area.OpenArea.{OpenArea}

-- the entries of these batches, one batch after the other
unfoldable pub joined : List (List (List ℕ)) → List (List ℕ)
joined [] = []
joined (b ∷ bs) = b ++ joined bs

-- the batch at a place of an area is open, has an entry, ends within the area, with a byte left for the gate that follows it, and has these entries
pub record IsBatch (area : List ℕ) (p : ℕ) (entries : List (List ℕ)) : Type 0 where
  pub gate : is_open p area ≡ true
  pub some : 0 < count_at p area
  pub within : next_batch p area < length area
  pub holds : entries_in (count_at p area) (body_at p area) ≡ Some entries

-- from a place of an area on there are these batches, one directly behind the other, and behind them is the place of the next gate
unfoldable pub HasBatches : List ℕ → ℕ → List (List (List ℕ)) → ℕ → Type 0
HasBatches area p [] end = (p ≡ end) × (end < length area)
HasBatches area p (b ∷ bs) end = IsBatch area p b × HasBatches area (next_batch p area) bs end

-- the bytes of an open area of a volume are as it is known, with these entries
pub record IsArea (volume : ℕ) (area : List ℕ) (a : OpenArea) (entries : List (List ℕ)) : Type 0 where
  pub gate : is_open 0 area ≡ true
  pub volume_is : number_8 volume_place area ≡ volume
  pub base : number_8 base_place area ≡ a.base
  pub batches : List (List (List ℕ))
  pub has : HasBatches area area_header batches a.end
  pub entries_are : joined batches ≡ entries
  -- behind them the next gate is closed
  pub closed : is_open a.end area ≡ false
  pub numbers : a.last ≡ a.base + length entries

-- an area, where one is open, lies on the disk as it is known; there are no entries else
abbrev pub IsLaid : ℕ → ℕ → List ℕ → Option OpenArea → List (List ℕ) → Type 0
IsLaid volume size image None entries = entries ≡ []
IsLaid volume size image (Some a) entries = IsArea volume (bytes_at image a.start size) a entries

-- an area is open and begins here
abbrev pub BeginsAt : ℕ → Option OpenArea → Type 0
BeginsAt start None = ⊥
BeginsAt start (Some a) = a.start ≡ start

-- the area of the disk that begins here is closed
abbrev pub IsFree : ℕ → ℕ → List ℕ → Type 0
IsFree size start image = is_open 0 (bytes_at image start size) ≡ false
