-- What a journal is to its callers, and for which entries it stands on a disk.
use Rattle.std.specs.Prelude.{◌≡◌, ◌⊎◌, ℕ, ◌+◌, ◌-◌, ◌*◌, ◌<◌, ◌≤◌, Bool, List, [], ◌∷◌, ◌++◌, length, sum_by, Option, Some, None, Ok, IfSome, IsTrue, ◌==◌, if◌then◌else◌}
use Rattle.std.specs.List.{AllByRecursion}
use Rattle.std.specs.Option.{option_map}
use Rattle.sky_base.specs.Limits.{max_number, min_journal_area, max_journal_area}
use Rattle.sky_outside.specs.Told.{WhereTold}
use Rattle.sky_outside.specs.Moments.{NothingPending}
use Rattle.sky_outside.specs.declared.storage.Storage.{Ghosts}
use Rattle.sky_journal.specs.Layout.{number_4, area_header, batch_header}
use Rattle.sky_journal.specs.Text.{numbered, entries_of}
use Rattle.sky_journal.specs.Laid.{IsLaid, BeginsAt, IsFree}
use Rattle.sky_journal.specs.declared.open_area.OpenArea.{OpenArea}

-- a journal as its callers see it
pub record JournalView : Type 0 where
  -- the volume whose journal it is
  pub volume : ℕ
  -- how many bytes an area has
  pub size : ℕ
  -- how many bytes the disk has
  pub disk : ℕ
  -- the older of two open areas
  pub older : Option OpenArea
  -- the newer of two open areas, or the only one that is open
  pub newer : Option OpenArea
  -- the entries that are not on the disk yet
  pub pending : List (List ℕ)
  -- how many bytes of entries there is memory for, beside the pending ones
  pub spare : ℕ
  -- a device call failed, and the journal has to be read anew
  pub down : Bool

-- how many bytes entries have together
abbrev pub bytes_of : List (List ℕ) → ℕ
bytes_of entries = sum_by length entries

-- how many bytes a batch of these entries has; there is none of no entries
abbrev pub batch_size : List (List ℕ) → ℕ
batch_size [] = 0
batch_size (e ∷ es) = batch_header + bytes_of (e ∷ es)

-- the number of the last entry of an area, with so many pending ones; 0 where none is open
abbrev pub number_behind : Option OpenArea → ℕ → ℕ
number_behind None pending = 0
number_behind (Some a) pending = a.last + pending

-- the number of the last entry, pending ones included
abbrev pub last_of : JournalView → ℕ
last_of j = number_behind j.newer (length j.pending)

-- how many bytes are left in an area for a batch and the gate that follows it, with so many pending entries: none where no area is
-- open, or where no number is left
abbrev pub room_in : ℕ → Option OpenArea → ℕ → ℕ
room_in size None pending = 0
room_in size (Some a) pending = if a.last + pending + 1 == max_number then 0 else size - a.end

abbrev pub room_of : JournalView → ℕ
room_of j = room_in j.size j.newer (length j.pending)

-- how many bytes a batch of the pending entries and one of this length would take, with the gate that follows it
abbrev pub wanted_of : JournalView → ℕ → ℕ
wanted_of j entry = batch_header + bytes_of j.pending + entry + 1

-- bytes that an entry may have: at least 4, of which the first 4 are the number of those that follow
pub record IsFramed (entry : List ℕ) : Type 0 where
  pub least : 4 ≤ length entry
  pub length_is : 4 + number_4 0 entry ≡ length entry

-- ---- what is true of every journal

-- an open area lies within its half of the disk, with its next gate behind its header, and its numbers are below 2^62
pub record IsOpenArea (size : ℕ) (a : OpenArea) : Type 0 where
  pub start : (a.start ≡ 0) ⊎ (a.start ≡ size)
  pub header : area_header ≤ a.end
  pub within : a.end < size
  pub order : a.base ≤ a.last
  pub number : a.last < max_number

-- a newer area lies beside the older, and goes on from its last number
pub record GoesOn (size : ℕ) (older newer : OpenArea) : Type 0 where
  pub beside : older.start + newer.start ≡ size
  pub number : newer.base ≡ older.last

-- where there are an older area and a newer, the newer goes on from the older; there is no older one alone
abbrev pub AreInOrder : ℕ → Option OpenArea → Option OpenArea → Type 0
AreInOrder size None newer = Unit {0}
AreInOrder size (Some a) None = ⊥
AreInOrder size (Some a) (Some b) = GoesOn size a b

-- pending entries have numbers, and with the gate that follows them they fit into the newer area; there are none without an area
abbrev pub ArePending : ℕ → Option OpenArea → List (List ℕ) → Type 0
ArePending size None pending = pending ≡ []
ArePending size (Some a) pending = (a.last + length pending < max_number) × (a.end + batch_size pending < size)

pub record IsJournal (j : JournalView) : Type 0 where
  pub least : min_journal_area ≤ j.size
  pub most : j.size ≤ max_journal_area
  pub fits : 2 * j.size ≤ j.disk
  pub older : IfSome j.older (IsOpenArea j.size)
  pub newer : IfSome j.newer (IsOpenArea j.size)
  pub in_order : AreInOrder j.size j.older j.newer
  pub framed : AllByRecursion IsFramed j.pending
  pub pending : ArePending j.size j.newer j.pending

-- ---- what it stands for

-- Over an image the journal stands for these entries: those of its older area, and those of its newer or only one. An area that
-- it does not know of is closed.
pub record StandsFor (j : JournalView) (image : List ℕ) (older newer : List (List ℕ)) : Type 0 where
  pub size : length image ≡ j.disk
  pub older_is : IsLaid j.volume j.size image j.older older
  pub newer_is : IsLaid j.volume j.size image j.newer newer
  pub others : (start : ℕ) → (start ≡ 0) ⊎ (start ≡ j.size) → (BeginsAt start j.older → ⊥) → (BeginsAt start j.newer → ⊥) → IsFree j.size start image

-- The journal stands on a disk: the disk has the size that the journal was read with, nothing is pending there, and the image,
-- where it is told, is one over which the journal stands for some entries.
pub record StandsOn {S : Type 0} (g : Ghosts S) (j : JournalView) (s : S) : Type 0 where
  pub size : g.bytes_of s ≡ j.disk
  pub durable : NothingPending g s
  pub laid : WhereTold (g.image s) (λ image. (older newer : List (List ℕ)) × StandsFor j image older newer)

-- the entries of an area with their numbers
abbrev pub numbered_in : Option OpenArea → List (List ℕ) → List (ℕ × List ℕ)
numbered_in None entries = []
numbered_in (Some a) entries = numbered a.base entries

-- the entries of both areas with their numbers
abbrev pub entries : JournalView → List (List ℕ) → List (List ℕ) → List (ℕ × List ℕ)
entries j older newer = numbered_in j.older older ++ numbered_in j.newer newer

-- the number of the last entry before the journal's; 0 where no area is open
abbrev pub base_in : Option OpenArea → Option OpenArea → ℕ
base_in None None = 0
base_in None (Some a) = a.base
base_in (Some a) newer = a.base

abbrev pub first_base : JournalView → ℕ
first_base j = base_in j.older j.newer

-- An image reads as these numbered entries behind this number: by each grammar that accepts them all, and for any covers from
-- that number on.
abbrev pub ReadsAs : ℕ → ℕ → ℕ → List (ℕ × List ℕ) → List ℕ → Type 0
ReadsAs volume size base list image =
    (is_entry : List ℕ → Bool) (covers : ℕ) → AllByRecursion (λ e. IsTrue (is_entry e.1)) list → base ≤ covers
    → entries_of is_entry volume size covers image ≡ Ok list

-- an image reads as the entries for which the journal stands
abbrev pub ReadsEntries : JournalView → List (List ℕ) → List (List ℕ) → List ℕ → Type 0
ReadsEntries j older newer image = ReadsAs j.volume j.size (first_base j) (entries j older newer) image

-- ---- what its calls do

-- the newer area with these entries more
abbrev pub area_with : List (List ℕ) → OpenArea → OpenArea
area_with pending a = record a { last = a.last + length pending; end = a.end + batch_size pending }

-- the journal with its pending entries on the disk
abbrev pub after_commit : JournalView → JournalView
after_commit j = record j { newer = option_map (area_with j.pending) j.newer; pending = [] }

-- where the area begins that a rotation opens: behind the first, where that is open, and else at the disk's start
abbrev pub start_beside : ℕ → Option OpenArea → ℕ
start_beside size None = 0
start_beside size (Some a) = if a.start == 0 then size else 0

-- an area that was just opened
abbrev pub new_area : ℕ → ℕ → OpenArea
new_area start base = record { start = start; base = base; last = base; end = area_header }

-- the journal with a new area, behind an entry of this number
abbrev pub after_rotation : JournalView → ℕ → JournalView
after_rotation j base = record j { older = j.newer; newer = Some (new_area (start_beside j.size j.newer) base) }

-- the journal without its older area
abbrev pub without_older : JournalView → JournalView
without_older j = record j { older = None }

-- the journal without its newer area, nor pending entries: the older is then the only one
abbrev pub without_newer : JournalView → JournalView
without_newer j = record j { older = None; newer = j.older; pending = [] }

-- the journal without areas
abbrev pub wiped : JournalView → JournalView
wiped j = record j { older = None; newer = None; pending = [] }

-- the same journal, apart from how much memory it has
abbrev pub SameButSpare : JournalView → JournalView → Type 0
SameButSpare old new = new ≡ record old { spare = new.spare }
