-- How an opening leaves the areas of a journal.
use Rattle.std.specs.Prelude.{ℕ, Bool, false, nat_lt, [], Option, Some, None, if◌then◌else◌}
use Rattle.sky_journal.specs.Journal.{JournalView, new_area}

-- ---- the rule, for areas of which the number of the last entry is known

-- an open area, which is closed where all of its entries are kept elsewhere: those up to covers are
abbrev pub unless_covered : {A : Type 0} → (last : A → ℕ) → (covers : ℕ) → Option A → Option A
unless_covered last covers None = None
unless_covered last covers (Some a) = if nat_lt covers (last a) then Some a else None

-- whether the newer area has an entry above covers
abbrev pub has_above : {A : Type 0} → (last : A → ℕ) → (covers : ℕ) → Option A → Bool
has_above last covers None = false
has_above last covers (Some a) = nat_lt covers (last a)

-- Where an entry is above covers, the newer area stays as it was read, and so does the older, unless it is covered. Else all areas are closed,
-- and a fresh one is opened behind covers.
abbrev pub settled_older : {A : Type 0} → (last : A → ℕ) → (covers : ℕ) → (older newer : Option A) → Option A
settled_older last covers older newer = if has_above last covers newer then unless_covered last covers older else None

abbrev pub settled_newer : {A : Type 0} → (last : A → ℕ) → (fresh : A) → (covers : ℕ) → (newer : Option A) → Option A
settled_newer last fresh covers newer = if has_above last covers newer then newer else Some fresh

-- ---- a journal

-- The journal as an opening leaves it, of the journal as it was read from its disk, where the entries up to covers are kept elsewhere too. A fresh
-- area lies at the disk's start. Nothing is pending, there is no memory for more, and no call of the disk failed.
abbrev pub settled : (covers : ℕ) → (read : JournalView) → JournalView
settled covers read = record read {
  older = settled_older (λ a. a.last) covers read.older read.newer;
  newer = settled_newer (λ a. a.last) (new_area 0 covers) covers read.newer;
  pending = [];
  spare = 0;
  down = false;
}
