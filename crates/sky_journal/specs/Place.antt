-- Places on a disk between the entries of its journal, and the entries that are left from one on, with the places at which they lie.
use Rattle.std.specs.Prelude.{◌≡◌, ℕ, ◌+◌, ◌-◌, ◌^◌, ◌<◌, ◌≤◌, min, if◌then◌else◌, Bool, true, false, List, [], ◌∷◌, ◌++◌, length, Option, Some, None}
use Rattle.sky_outside.specs.Image.{bytes_at}
use Rattle.sky_journal.specs.EntryPlaces.{area_places, batch_places, places_from}
use Rattle.sky_journal.specs.Text.{Area, entries_in, numbered}
use Rattle.sky_journal.specs.Laid.{joined, HasBatches, IsLaid}
use Rattle.sky_journal.specs.Journal.{JournalView, numbered_in}
use Rattle.sky_journal.specs.Looking.{between}
use Rattle.sky_journal.specs.declared.open_area.OpenArea.{OpenArea}
use Rattle.sky_journal.specs.declared.place.Place.{Place}
use Rattle.sky_journal.specs.declared.span.Span.{Span}

-- the bytes of an area, where it is known to begin
abbrev pub area_of : OpenArea → List ℕ → Area
area_of a bytes = record { start = a.start; bytes = bytes }

-- From a place of an area on these entries are left in the area, and lie at these places: of the batch that the place is in, and of those behind it.
pub record LeftIn (bytes : List ℕ) (a : OpenArea) (place : Place) (list : List (ℕ × List ℕ)) (places : List ℕ) : Type 0 where
  pub entries : List (List ℕ)
  pub batches : List (List (List ℕ))
  pub order : place.at ≤ place.end
  pub holds : entries_in place.left (between place.at place.end bytes) ≡ Some entries
  pub has : HasBatches bytes place.end batches a.end
  pub listed : list ≡ numbered place.last (entries ++ joined batches)
  pub placed : places ≡ places_from (a.start + place.at) entries ++ batch_places (area_of a bytes) place.end batches
  pub numbers : a.last ≡ place.last + length (entries ++ joined batches)

-- the same of an area of an image, where one is open; nothing is left else
abbrev pub LeftOf : ℕ → List ℕ → Option OpenArea → Place → List (ℕ × List ℕ) → List ℕ → Type 0
LeftOf size image None place list places = (list ≡ []) × (places ≡ [])
LeftOf size image (Some a) place list places = LeftIn (bytes_at image a.start size) a place list places

-- where the entries of an area of an image lie, where one is open
abbrev pub places_in : ℕ → List ℕ → Option OpenArea → List ℕ
places_in size image None = []
places_in size image (Some a) = area_places (area_of a (bytes_at image a.start size))

-- what is left in the older area, and all entries of the newer
pub record LeftOlder (j : JournalView) (image : List ℕ) (place : Place) (list : List (ℕ × List ℕ)) (places : List ℕ) : Type 0 where
  pub older : List (ℕ × List ℕ)
  pub older_places : List ℕ
  pub newer : List (List ℕ)
  pub left : LeftOf j.size image j.older place older older_places
  pub newer_is : IsLaid j.volume j.size image j.newer newer
  pub listed : list ≡ older ++ numbered_in j.newer newer
  pub placed : places ≡ older_places ++ places_in j.size image j.newer

abbrev pub LeftFrom : Bool → JournalView → List ℕ → Place → List (ℕ × List ℕ) → List ℕ → Type 0
LeftFrom true j image place list places = LeftOf j.size image j.newer place list places
LeftFrom false j image place list places = LeftOlder j image place list places

-- Over an image these entries of the journal are left from a place on, and lie at these places.
abbrev pub Left : JournalView → List ℕ → Place → List (ℕ × List ℕ) → List ℕ → Type 0
Left j image place list places = LeftFrom place.newer j image place list places

-- an answer gives the first of the entries that are left, and a place from which the others are, at their places; or none is left
abbrev pub GivesNext : JournalView → List ℕ → Option ℕ → List ℕ → Place → List (ℕ × List ℕ) → List ℕ → Type 0
GivesNext j image None entry place list places = list ≡ []
GivesNext j image (Some number) entry place list places =
    (rest : List (ℕ × List ℕ)) × (at : ℕ) × (later : List ℕ) × (list ≡ (number, entry) ∷ rest) × (places ≡ at ∷ later) × Left j image place rest later

-- Entries are left in an area, and then others; and from each place of it on, what is left there and then these.
pub record LeftAt (j : JournalView) (image : List ℕ) (a : OpenArea) (place : Place) (list : List (ℕ × List ℕ)) (places : List ℕ) : Type 0 where
  pub first : List (ℕ × List ℕ)
  pub first_places : List ℕ
  pub others : List (ℕ × List ℕ)
  pub other_places : List ℕ
  pub left : LeftIn (bytes_at image a.start j.size) a place first first_places
  pub listed : list ≡ first ++ others
  pub placed : places ≡ first_places ++ other_places
  pub goes_on : (next : Place) (rest : List (ℕ × List ℕ)) (later : List ℕ) → next.newer ≡ place.newer → LeftIn (bytes_at image a.start j.size) a next rest later
      → Left j image next (rest ++ others) (later ++ other_places)

-- a place behind the entry with these bytes, which is the first that is left
abbrev pub IsBehindEntry : List ℕ → OpenArea → Place → List ℕ → List (ℕ × List ℕ) → List ℕ → Place → Type 0
IsBehindEntry bytes a place entry list places next =
    (rest : List (ℕ × List ℕ)) × (at : ℕ) × (later : List ℕ) × (list ≡ (next.last, entry) ∷ rest) × (places ≡ at ∷ later)
    × LeftIn bytes a next rest later × (next.newer ≡ place.newer)

-- a place in a batch, from which the same entries are left, of which one is in the batch
abbrev pub LeftInBatch : List ℕ → OpenArea → Place → List (ℕ × List ℕ) → List ℕ → Place → Type 0
LeftInBatch bytes a place list places next = LeftIn bytes a next list places × (next.newer ≡ place.newer)

-- a place within an area, in a batch of which an entry is left
pub record IsInBatch (span : Span) (place next : Place) : Type 0 where
  pub order : next.at ≤ next.end
  pub inside : next.end ≤ span.size
  pub some : 0 < next.left
  pub number : next.last ≡ place.last

-- entries are left in an area from a place of it on; or none is left
abbrev pub IsAhead : JournalView → List ℕ → List (ℕ × List ℕ) → List ℕ → Option (OpenArea × Place) → Type 0
IsAhead j image list places None = list ≡ []
IsAhead j image list places (Some x) = LeftAt j image x.0 x.1 list places

-- The older area has no further entry, so that those of the newer are left.
pub record IsPast (j : JournalView) (image : List ℕ) (list : List (ℕ × List ℕ)) (places : List ℕ) : Type 0 where
  pub newer : List (List ℕ)
  pub newer_is : IsLaid j.volume j.size image j.newer newer
  pub listed : list ≡ numbered_in j.newer newer
  pub placed : places ≡ places_in j.size image j.newer

-- where on the disk an area begins, where one is open
abbrev pub start_in : Option OpenArea → ℕ
start_in None = 0
start_in (Some a) = a.start

-- where on the disk a place is, in bytes from its start
abbrev pub position_of : JournalView → Place → ℕ
position_of j place = min (start_in (if place.newer then j.newer else j.older) + place.at) (2 ^ 64 - 1)
