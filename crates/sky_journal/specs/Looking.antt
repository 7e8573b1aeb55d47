-- What the functions that read a journal have in common: they look at a disk, of which a piece is in memory.
use Rattle.std.specs.Prelude.{◌≡◌, ℕ, ◌+◌, ◌-◌, ◌≤◌, Bool, List, length, Option, Some, None, Result, Ok, Err, IsTrue}
use Rattle.sky_outside.specs.Count.{Counts}
use Rattle.sky_outside.specs.Image.{bytes_at}
use Rattle.sky_outside.specs.Moments.{OnlyLooks}
use Rattle.sky_outside.specs.declared.storage.Storage.{Ghosts}
use Rattle.sky_journal.specs.Text.{Area, Read}
use Rattle.sky_journal.specs.declared.fault.JournalFault.{JournalFault}
use Rattle.sky_journal.specs.declared.fault.JournalFault.TheVariants.{DiskFault, Memory, Foreign}
use Rattle.sky_journal.specs.declared.pieces.Pieces.{Pieces}
use Rattle.sky_journal.specs.declared.span.Span.{Span}

-- bytes that are held are those of an image from a place on
abbrev pub AreHeld : Option ℕ → List ℕ → List ℕ → Type 0
AreHeld None held image = Unit {0}
AreHeld (Some at) held image = held ≡ bytes_at image at (length held)

-- the bytes that are held from a place on, of which there are so many, cover this range
abbrev pub Covers : Option ℕ → ℕ → ℕ → ℕ → Type 0
Covers None len from n = ⊥
Covers (Some at) len from n = (at ≤ from) × (from + n ≤ at + len)

-- the disk tells this image, and a piece of it is in memory
pub record Shows {S : Type 0} (g : Ghosts S) (disk : S) (pieces : Pieces) (image : List ℕ) : Type 0 where
  pub told : g.image disk ≡ Some image
  pub held : AreHeld pieces.at pieces.buf.items image

-- Looks at the disk went by, of which the last may have failed; what is in memory is still a piece of the image.
pub record Went {S : Type 0} (g : Ghosts S) (disk : S) (pieces : Pieces) (disk' : S) (pieces' : Pieces) (failed : Bool) : Type 0 where
  pub looks : OnlyLooks g disk disk'
  pub cause : Counts (g.disk_faults disk) (g.disk_faults disk') (IsTrue failed)
  pub cloud : g.cloud_faults disk' ≡ g.cloud_faults disk
  pub shows : (image : List ℕ) → Shows g disk pieces image → Shows g disk' pieces' image

-- the bytes of an area of an image, and where it begins
abbrev pub area_in : Span → List ℕ → Area
area_in span image = record { start = span.start; bytes = bytes_at image span.start span.size }

-- the bytes from one place to another
abbrev pub between : ℕ → ℕ → List ℕ → List ℕ
between from end bytes = bytes_at bytes from (end - from)

-- an answer says what was read, or at which place the image is foreign, unless it is another fault
abbrev pub Says : {T X : Type 0} → Result T JournalFault → Read X → (T → X → Type 0) → Type 0
Says {T} {X} (Ok t) read R = (x : X) × (read ≡ Ok x) × R t x
Says (Err DiskFault) read R = Unit {0}
Says (Err Memory) read R = Unit {0}
Says (Err (Foreign at)) read R = read ≡ Err at
