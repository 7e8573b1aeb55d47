-- The changes that the journal of a disk has.
use Rattle.std.specs.Prelude.{◌≡◌, ℕ, Bool, ◌==◌, nat_lt, List, [], ◌∷◌, length, Option, Some, None, is_some, IsTrue, if◌then◌else◌}
use Rattle.std.specs.List.{AllByRecursion}
use Rattle.std.specs.Option.{option_and_then}
use Rattle.sky_nfs.specs.declared.call.Change.{Change}
use Rattle.sky_entry.specs.Entry.{entry_bytes}
use Rattle.sky_entry.specs.Reading.{entry_at}
use Rattle.sky_journal.specs.Text.{Read, entries_of}

-- the change with whose entry bytes begin, where that entry is all of them
abbrev pub if_whole : List ℕ → Change × ℕ → Option Change
if_whole bytes found = if found.1 == length bytes then Some found.0 else None

-- the change whose entry these bytes are
unfoldable pub change_of : List ℕ → Option Change
change_of bytes = option_and_then (if_whole bytes) (entry_at bytes)

-- whether bytes are the entry of a change
abbrev pub is_of_change : List ℕ → Bool
is_of_change bytes = is_some (change_of bytes)

-- a change whose entry is read as that change
abbrev pub IsStorable : Change → Type 0
IsStorable change = change_of (entry_bytes change) ≡ Some change

-- what a disk says as the journal of a volume: the entries of changes with their numbers, or the place at which it is foreign
abbrev pub journal_of : (volume size covers : ℕ) → (image : List ℕ) → Read (List (ℕ × List ℕ))
journal_of volume size covers image = entries_of is_of_change volume size covers image

-- the entries that are numbered above this
abbrev pub entries_above : ℕ → List (ℕ × List ℕ) → List (ℕ × List ℕ)
entries_above covers [] = []
entries_above covers (e ∷ more) = if nat_lt covers e.0 then e ∷ entries_above covers more else entries_above covers more

-- this change and then those, where there is one
abbrev pub with_change : Option Change → List Change → List Change
with_change (Some change) changes = change ∷ changes
with_change None changes = changes

-- the changes of entries
abbrev pub changes_in : List (ℕ × List ℕ) → List Change
changes_in [] = []
changes_in (e ∷ more) = with_change (change_of e.1) (changes_in more)

-- the number of the last entry; where there is none, this one
abbrev pub last_number : ℕ → List (ℕ × List ℕ) → ℕ
last_number number [] = number
last_number number (e ∷ more) = last_number e.0 more

-- each of these entries is that of a change
abbrev pub AreOfChanges : List (ℕ × List ℕ) → Type 0
AreOfChanges entries = AllByRecursion (λ e. IsTrue (is_of_change e.1)) entries
