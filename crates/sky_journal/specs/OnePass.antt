-- What is read of a batch in one pass over its entries. An entry that is not of the grammar is foreign only where all of them are
-- framed, so the first such place is kept until the end.
use Rattle.std.specs.Prelude.{◌≡◌, ℕ, ◌+◌, ◌≤◌, Bool, true, false, List, ◌++◌, length, Option, Some, None, Ok, Err, ok_or}
use Rattle.sky_outside.specs.Image.{bytes_at}
use Rattle.sky_journal.specs.Text.{◌>>=◌, Read, entries_in, first_entry, all_of_grammar, Area, batches_from}
use Rattle.sky_journal.specs.Layout.{area_header, batch_header, next_batch}
use Rattle.sky_journal.specs.Laid.{joined, HasBatches}
use Rattle.sky_journal.specs.Looking.{between}
use Rattle.sky_journal.specs.declared.one_batch.Filled.{Filled}
use Rattle.sky_journal.specs.declared.one_batch.Mark.{Mark}

-- what is read, unless an earlier place is foreign
abbrev pub unless_foreign : Option ℕ → Read (Unit {0}) → Read (Unit {0})
unless_foreign None read = read
unless_foreign (Some place) read = Err place

-- so many entries of these bytes, of which the first stands at a place, in the batch at another; an earlier entry may be foreign
unfoldable pub entries_read : (List ℕ → Bool) → ℕ → ℕ → Option ℕ → ℕ → List ℕ → Read (List (List ℕ))
entries_read is_entry batch place foreign n bytes = do
  entries ← ok_or (entries_in n bytes) batch
  grammar ← unless_foreign foreign (all_of_grammar is_entry place entries)
  Ok entries

-- the first foreign place, after an entry at this place was or was not of the grammar
abbrev pub foreign_behind : Option ℕ → Bool → ℕ → Option ℕ
foreign_behind (Some earlier) is place = Some earlier
foreign_behind None true place = None
foreign_behind None false place = Some place

-- how many bytes the entry at a place before an end has: none stands there; or one of so many does, and the rest is behind it
abbrev pub IsEntrySize : List ℕ → ℕ → ℕ → Option ℕ → Type 0
IsEntrySize bytes p end None = first_entry (between p end bytes) ≡ None
IsEntrySize bytes p end (Some n) = first_entry (between p end bytes) ≡ Some (bytes_at bytes p n, between (p + n) end bytes)

-- an entry was read: the bytes do not begin with one; or one stands there, and the mark is behind it
abbrev pub IsNext : (List ℕ → Bool) → Area → ℕ → Mark → Option Mark → Type 0
IsNext is_entry area end mark None = first_entry (between mark.at end area.bytes) ≡ None
IsNext is_entry area end mark (Some next) =
    (entry : List ℕ) × (first_entry (between mark.at end area.bytes) ≡ Some (entry, between next.at end area.bytes)) × (next.at ≡ mark.at + length entry)
    × (next.foreign ≡ foreign_behind mark.foreign (is_entry entry) (area.start + mark.at))

-- A batch at p was read up to a mark, behind so many entries, and what is read of it is these, and then what is read from here on.
pub record IsRead (is_entry : List ℕ → Bool) (area : Area) (p end count read : ℕ) (mark : Mark) : Type 0 where
  pub entries : List (List ℕ)
  pub left : ℕ
  pub counts : left + read ≡ count
  pub goes_on : entries_read is_entry (area.start + p) (area.start + (p + batch_header)) None count (between (p + batch_header) end area.bytes)
      ≡ (entries_read is_entry (area.start + p) (area.start + mark.at) mark.foreign left (between mark.at end area.bytes) >>= λ others. Ok (entries ++ others))

-- an area was read behind one batch more, which has these entries
abbrev pub IsBehind : Area → Filled → Filled → List (List ℕ) → Type 0
IsBehind area filled next entries = (next.end ≡ next_batch filled.end area.bytes) × (next.last ≡ filled.last + length entries)

-- how far an area was read, from its first batch on, behind an entry of the number base
pub record IsFilled (base : ℕ) (bytes : List ℕ) (last end : ℕ) (entries : List (List ℕ)) : Type 0 where
  pub batches : List (List (List ℕ))
  pub has : HasBatches bytes area_header batches end
  pub entries_are : joined batches ≡ entries
  pub numbers : last ≡ base + length entries

-- An area was read so far, and what is read of it is these entries, and then what is read from here on.
pub record IsReadTo (is_entry : List ℕ → Bool) (area : Area) (base last end : ℕ) : Type 0 where
  pub entries : List (List ℕ)
  pub filled : IsFilled base area.bytes last end entries
  pub bound : ℕ
  pub enough : length area.bytes ≤ bound + end
  pub goes_on : batches_from is_entry area (length area.bytes) area_header base ≡ (batches_from is_entry area bound end last >>= λ others. Ok (entries ++ others))
