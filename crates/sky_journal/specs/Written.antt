-- What is written behind a closed gate before the gate is opened.
use Rattle.std.specs.Prelude.{◌≡◌, ◌⊎◌, ℕ, ◌+◌, false, List, length, take, drop, replicate, Some}
use Rattle.sky_outside.specs.Image.{bytes_at, written, Torn}
use Rattle.sky_journal.specs.Layout.{is_open, number_4, number_8}
use Rattle.sky_journal.specs.Text.{entries_in}
use Rattle.sky_journal.specs.Journal.{bytes_of}

-- bytes that stand behind the gate of a batch with these entries, up to the gate of the next, which is closed; those that are not used are zero
pub record IsBehindBatchGate (bytes : List ℕ) (entries : List (List ℕ)) : Type 0 where
  pub count : number_4 3 bytes ≡ length entries
  pub size : number_8 7 bytes ≡ bytes_of entries
  pub body : entries_in (length entries) (take (bytes_of entries) (drop 15 bytes)) ≡ Some entries
  pub closed : is_open (15 + bytes_of entries) bytes ≡ false
  pub length_is : length bytes ≡ 16 + bytes_of entries
  pub unused : take 3 bytes ≡ replicate 3 0

-- bytes that stand behind the gate of an area of this volume and base, up to the gate of its first batch, which is closed; the same
pub record IsBehindAreaGate (bytes : List ℕ) (volume base : ℕ) : Type 0 where
  pub volume_is : number_8 7 bytes ≡ volume
  pub base_is : number_8 15 bytes ≡ base
  pub closed : is_open 63 bytes ≡ false
  pub length_is : length bytes ≡ 64
  pub unused : take 7 bytes ≡ replicate 7 0
  pub unused_later : bytes_at bytes 23 40 ≡ replicate 40 0

-- what a crash may leave of an image while bytes are written behind the gate at a place, and then the gate is opened: first any
-- bytes behind the gate, and then any gate before these bytes
abbrev pub IsOpening : ℕ → List ℕ → List ℕ → List ℕ → Type 0
IsOpening gate bytes image left = Torn (gate + 1) (length bytes) image left ⊎ Torn gate 1 (written image (gate + 1) bytes) left

-- the bytes of an image are zero that a batch with its gate at this place does not use
abbrev pub HasBatchUnused : ℕ → List ℕ → Type 0
HasBatchUnused gate image = bytes_at image (gate + 1) 3 ≡ replicate 3 0

-- the same of the header of an area that begins at this place
pub record HasAreaUnused (start : ℕ) (image : List ℕ) : Type 0 where
  pub first : bytes_at image (start + 1) 7 ≡ replicate 7 0
  pub later : bytes_at image (start + 24) 40 ≡ replicate 40 0
