-- A write behind what was written before.
--   puts_then, stops_then     two writes, one behind the other, and where the first has no room
--   appends_stops             where one of a list has no room
use Rattle.std.proofs.Common.{ℕ, ◌<◌, Result, Ok, Err, List, ◌++◌, get_or, length, take, drop, sym, ap, ◌∙◌, append_assoc, arith}
use Rattle.std.proofs.lemmas.List.{length-append, drop-drop}
use Rattle.std.proofs.lemmas.List.Folds.{length-flat_map-take}
use Rattle.std.specs.List.{flat_map}
use Rattle.sky_xdr.specs.declared.fault.NoRoom.{NoRoom}
use Rattle.sky_item.specs.declared.output.Output.{Output}
use Rattle.sky_item.specs.Writing.{Appends, Puts, written_of, unwritten_of, room_of}

-- two texts, one behind the other
pub appends_then : (a b : List ℕ) (old mid new : Output) → Appends a old mid → Appends b mid new → Appends (a ++ b) old new
appends_then a b old mid new first second = record {
  written = second.written ∙ ap (λ (t : List ℕ). t ++ b) first.written ∙ append_assoc (written_of old) a b;
  unwritten = second.unwritten ∙ ap (drop (length b)) first.unwritten ∙ drop-drop (length b) (length a) (unwritten_of old) ∙ ap (λ (k : ℕ). drop k (unwritten_of old)) (sym (length-append a b));
  room = omega (arith, length-append a b, first.room, second.room);
  same_buffer = second.same_buffer ∙ first.same_buffer;
}

-- a text, and then a call that writes the rest
pub puts_then : {X : Type 0} (r : Result X NoRoom) (a b : List ℕ) (old mid new : Output) → Appends a old mid → Puts r b mid new → Puts r (a ++ b) old new
puts_then (Ok x) a b old mid new first second = appends_then a b old mid new first second
puts_then (Err e) a b old mid new first second = omega (arith, length-append a b, first.room, second)

-- where a text has no room, none that begins with it has
pub stops_then : (a b : List ℕ) (old : Output) → room_of old < length a → room_of old < length (a ++ b)
stops_then a b old short = omega (arith, length-append a b, short)

-- where one of a list has no room, the list has none

pub appends_stops : {X : Type 0} (f : X → List ℕ) (xs : List X) (i : ℕ) (d : X) (old mid : Output) → i < length xs
    → Appends (flat_map f (take i xs)) old mid → room_of mid < length (f (get_or xs i d)) → room_of old < length (flat_map f xs)
appends_stops f xs i d old mid within first short = omega (arith, length-flat_map-take f xs i d within, first.room, short)
