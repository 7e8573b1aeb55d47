-- The calls of a record, as it keeps them.
use Rattle.std.specs.Prelude.{ℕ, ◌+◌, ◌≤◌, List, length, All, vec_len, vec_capacity}
use Rattle.sky_outside.specs.Image.{bytes_at}
use Rattle.sky_memory.specs.Past.{Call, IsAllowed}
use Rattle.sky_memory.specs.declared.record.Entry.{Entry}
use Rattle.sky_memory.specs.declared.record.Record.TheInside.{Inside}

-- the call of an entry, among these bytes
abbrev pub call_of : List ℕ → Entry → Call
call_of bytes entry = record { step = entry.step; bytes = bytes_at bytes entry.from entry.length; happened = entry.happened }

-- an entry whose bytes lie among so many, and whose step is allowed
pub record IsKept (count : ℕ) (entry : Entry) : Type 0 where
  pub within : entry.from + entry.length ≤ count
  pub allowed : IsAllowed entry.step

-- its memory is reserved, and each entry's bytes are there
pub record IsWithinRoom (r : Inside) : Type 0 where
  pub calls : vec_len r.entries ≤ r.most
  pub bytes : vec_len r.bytes ≤ r.room
  pub calls_reserved : r.most ≤ vec_capacity r.entries
  pub bytes_reserved : r.room ≤ vec_capacity r.bytes
  pub kept : All (IsKept (length r.bytes.items)) r.entries.items
