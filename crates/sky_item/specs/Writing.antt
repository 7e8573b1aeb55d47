-- What contracts see of an output into a caller's buffer: bytes of any length, one piece behind the other.
use Rattle.std.specs.Prelude.{◌≡◌, ℕ, ◌+◌, ◌-◌, ◌<◌, List, ◌++◌, length, take, drop, Result, Ok, Err}
use Rattle.std.specs.Borrow.{GName}
use Rattle.sky_xdr.specs.declared.fault.NoRoom.{NoRoom}
use Rattle.sky_item.specs.declared.output.Output.{Output}

-- the bytes written so far, with which the buffer begins
abbrev pub written_of : Output → List ℕ
written_of w = take w.place w.buffer.now

-- the bytes of the buffer behind those, which were not written yet
abbrev pub unwritten_of : Output → List ℕ
unwritten_of w = drop w.place w.buffer.now

-- how many bytes still fit
abbrev pub room_of : Output → ℕ
room_of w = length w.buffer.now - w.place

-- which buffer it is
abbrev pub name_of : Output → GName
name_of w = w.buffer.ghost_name

-- text was written behind what was written before, and nothing else of the buffer changed
pub record Appends (text : List ℕ) (old new : Output) : Type 0 where
  pub written : written_of new ≡ written_of old ++ text
  pub unwritten : unwritten_of new ≡ drop (length text) (unwritten_of old)
  pub room : room_of new + length text ≡ room_of old
  pub same_buffer : name_of new ≡ name_of old

-- a call wrote text, or there was no room for it
abbrev pub Puts : {X : Type 0} → Result X NoRoom → List ℕ → Output → Output → Type 0
Puts (Ok x) text old new = Appends text old new
Puts (Err e) text old new = room_of old < length text
