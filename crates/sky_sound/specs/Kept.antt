-- What is kept of a volume between two steps: its history, how much of it is on the disk and in the cloud, and what of its journal decides how
-- much room there is and what an opening leaves.
use Rattle.std.specs.Prelude.{ℕ, ◌+◌, ◌-◌, ◌==◌, cond, Option, None, Some, if◌then◌else◌}
use Rattle.std.specs.Option.{option_map}
use Rattle.sky_base.specs.Limits.{max_number}
use Rattle.sky_journal.specs.Journal.{JournalView, bytes_of}
use Rattle.sky_journal.specs.Layout.{area_header, batch_header}
use Rattle.sky_journal.specs.declared.open_area.OpenArea.{OpenArea}
use Rattle.sky_nfs.specs.History.{History, history_length}
use Rattle.sky_sound.specs.Settled.{settled_newer, settled_older}

-- an open area of the journal: the number before its first entry, that of its last one, and how many of its bytes are used
pub record AreaState : Type 0 where
  pub base : ℕ
  pub last : ℕ
  pub end : ℕ

-- a journal: how many bytes an area has, the older of two open areas, the newer of them or the only one that is open, and how many bytes the
-- entries have that wait to be brought to the disk
pub record JournalState : Type 0 where
  pub size : ℕ
  pub older : Option AreaState
  pub newer : Option AreaState
  pub waiting : ℕ

-- what is kept
pub record Kept : Type 0 where
  -- the changes so far, and the tree that they lead to
  pub history : History
  -- the mark: how many of the changes each crash leaves
  pub mark : ℕ
  -- how many of them are stored, on the journal's disk or in the cloud; the entries of the others wait
  pub stored : ℕ
  -- how many of them the cloud has for good: those that a restart without the journal goes back to
  pub completed : ℕ
  pub journal : JournalState

-- ---- the journal that the program has

abbrev pub area_state : OpenArea → AreaState
area_state a = record { base = a.base; last = a.last; end = a.end }

abbrev pub journal_state : JournalView → JournalState
journal_state j = record {
  size = j.size;
  older = option_map area_state j.older;
  newer = option_map area_state j.newer;
  waiting = bytes_of j.pending;
}

-- ---- its room

-- how many bytes are left in an area for a batch and the gate behind it, where the last change has this number: none where no area is open, or
-- where no number is left
abbrev pub room_behind : (size last : ℕ) → Option AreaState → ℕ
room_behind size last None = 0
room_behind size last (Some a) = if last + 1 == max_number then 0 else size - a.end

abbrev pub room_left : Kept → ℕ
room_left kept = room_behind kept.journal.size (history_length kept.history) kept.journal.newer

-- how many bytes a batch of all that waits and of one entry of this length would take, with the gate behind it
abbrev pub room_wanted : Kept → ℕ → ℕ
room_wanted kept entry = batch_header + kept.journal.waiting + entry + 1

-- ---- how it moves

-- with an entry more, of this length, that waits
abbrev pub with_waiting : ℕ → JournalState → JournalState
with_waiting entry j = record j { waiting = j.waiting + entry }

-- how many bytes a batch takes of so many changes, whose entries have so many bytes; there is none of no changes
abbrev pub batch_bytes : (count bytes : ℕ) → ℕ
batch_bytes count bytes = cond (count == 0) 0 (batch_header + bytes)

-- an area with all changes up to this number, the new ones in one batch
abbrev pub filled_to : (number bytes : ℕ) → AreaState → AreaState
filled_to number bytes a = record a { last = number; end = a.end + batch_bytes (number - a.last) bytes }

-- with all that waits on the disk, which are the changes up to this number
abbrev pub stored_to : ℕ → JournalState → JournalState
stored_to number j = record j { newer = option_map (filled_to number j.waiting) j.newer; waiting = 0 }

-- with all areas closed
abbrev pub emptied : JournalState → JournalState
emptied j = record j { older = None; newer = None; waiting = 0 }

-- as an opening leaves it, where the cloud has the changes up to covers
abbrev pub left_open : (covers : ℕ) → JournalState → JournalState
left_open covers j = record j {
  older = settled_older (λ a. a.last) covers j.older j.newer;
  newer = settled_newer (λ a. a.last) (record { base = covers; last = covers; end = area_header }) covers j.newer;
  waiting = 0;
}
