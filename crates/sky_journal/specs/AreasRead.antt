-- What was read of the areas of a disk.
use Rattle.std.specs.Prelude.{◌≡◌, ◌⊎◌, ℕ, ◌+◌, ◌<◌, ◌≤◌, Bool, true, false, not, ◌==◌, nat_lt, List, [], ◌++◌, IfSome}
use Rattle.sky_base.specs.Limits.{max_number}
use Rattle.sky_journal.specs.Layout.{is_open, number_8, volume_place, area_header}
use Rattle.sky_journal.specs.Text.{Area, base_of, numbered, first_area, second_area}
use Rattle.sky_journal.specs.Laid.{IsLaid, BeginsAt, IsFree}
use Rattle.sky_journal.specs.Journal.{JournalView, IsOpenArea, AreInOrder, numbered_in}
use Rattle.sky_journal.specs.Looking.{area_in}
use Rattle.sky_journal.specs.OnePass.{IsFilled}
use Rattle.sky_journal.specs.declared.open_area.OpenArea.{OpenArea}
use Rattle.sky_journal.specs.declared.area.Base.{Base}
use Rattle.sky_journal.specs.declared.area.Base.TheVariants.{UpTo, Exactly}
use Rattle.sky_journal.specs.declared.areas.Areas.{Areas}
use Rattle.sky_journal.specs.declared.span.Span.{Span}

-- whether a base is not one that an area may have here
abbrev pub is_foreign_base : Base → ℕ → Bool
is_foreign_base (UpTo covers) base = nat_lt covers base
is_foreign_base (Exactly number) base = not (base == number)

-- an area that was read lies in its span, behind its header, and its numbers are below 2^62
pub record IsInSpan (span : Span) (a : OpenArea) : Type 0 where
  pub start : a.start ≡ span.start
  pub header : area_header ≤ a.end
  pub within : a.end < span.size
  pub order : a.base ≤ a.last
  pub number : a.last < max_number

-- what is known of an area is so, and these are its entries with their numbers
pub record IsReadArea (volume : ℕ) (area : Area) (a : OpenArea) (list : List (ℕ × List ℕ)) : Type 0 where
  pub entries : List (List ℕ)
  pub listed : list ≡ numbered a.base entries
  pub volume_is : number_8 volume_place area.bytes ≡ volume
  pub base : base_of area ≡ a.base
  pub filled : IsFilled a.base area.bytes a.last a.end entries
  pub closed : is_open a.end area.bytes ≡ false

-- the same of an older area and a newer
pub record AreRead (volume : ℕ) (older newer : Area) (areas : OpenArea × OpenArea) (list : List (ℕ × List ℕ)) : Type 0 where
  pub first : List (ℕ × List ℕ)
  pub second : List (ℕ × List ℕ)
  pub listed : list ≡ first ++ second
  pub older_is : IsReadArea volume older areas.0 first
  pub newer_is : IsReadArea volume newer areas.1 second

-- the open areas of a disk are as they are known, and these are their entries with their numbers
pub record AreLaid (volume size : ℕ) (image : List ℕ) (areas : Areas) (list : List (ℕ × List ℕ)) : Type 0 where
  pub older : List (List ℕ)
  pub newer : List (List ℕ)
  pub listed : list ≡ numbered_in areas.older older ++ numbered_in areas.newer newer
  pub older_is : IsLaid volume size image areas.older older
  pub newer_is : IsLaid volume size image areas.newer newer
  pub others : (start : ℕ) → (start ≡ 0) ⊎ (start ≡ size) → (BeginsAt start areas.older → ⊥) → (BeginsAt start areas.newer → ⊥) → IsFree size start image

-- they lie within the disk's halves, and the newer goes on from the older
pub record AreKnown (size : ℕ) (areas : Areas) : Type 0 where
  pub older : IfSome areas.older (IsOpenArea size)
  pub newer : IfSome areas.newer (IsOpenArea size)
  pub in_order : AreInOrder size areas.older areas.newer

-- ---- where the areas lie

-- a span is one half of a disk
abbrev pub IsHalf : Span → Type 0
IsHalf span = (span.start ≡ 0) ⊎ (span.start ≡ span.size)

-- two spans are both halves
pub record AreBeside (spans : Span × Span) : Type 0 where
  pub same : spans.1.size ≡ spans.0.size
  pub sum : spans.0.start + spans.1.start ≡ spans.0.size
  pub older : IsHalf spans.0
  pub newer : IsHalf spans.1

-- both spans hold an open area
abbrev pub AreOpen : Span × Span → List ℕ → Type 0
AreOpen spans image = (is_open 0 (area_in spans.0 image).bytes ≡ true) × (is_open 0 (area_in spans.1 image).bytes ≡ true)

-- the same of the halves of a disk
abbrev pub AreBothOpen : ℕ → List ℕ → Type 0
AreBothOpen size image = (is_open 0 (first_area size image).bytes ≡ true) × (is_open 0 (second_area size image).bytes ≡ true)

-- a span alone holds an open area
pub record IsOnlyOpen (span : Span) (image : List ℕ) : Type 0 where
  pub gate : is_open 0 (area_in span image).bytes ≡ true
  pub others : (start : ℕ) → (start ≡ 0) ⊎ (start ≡ span.size) → (start ≡ span.start → ⊥) → IsFree span.size start image

-- ---- the journal

-- the journal with these areas and nothing pending
abbrev pub as_read : ℕ → ℕ → ℕ → Areas → ℕ → JournalView
as_read volume size disk areas spare = record {
  volume = volume;
  size = size;
  disk = disk;
  older = areas.older;
  newer = areas.newer;
  pending = [];
  spare = spare;
  down = false;
}
