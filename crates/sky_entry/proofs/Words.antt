-- The further groups of a caller, as they are written: each is of its type.
use Rattle.std.proofs.Common.{◌≡◌, ℕ, zero, suc, ◌+◌, ◌*◌, ◌^◌, ◌<◌, ◌≤◌, ◌↔◌, List, [], ◌∷◌, ◌++◌, length, drop, get_or, Result, Ok, Err, IsOk, OnOk, sym, ap, ◌∙◌, arith, inl, inr}
use Rattle.std.specs.List.{AllByRecursion}
use Rattle.std.proofs.lemmas.Bool.{cases_lt}
use Rattle.sky_xdr.specs.declared.fault.NoRoom.{NoRoom}
use Rattle.sky_xdr.specs.declared.writer.Writer.{Writer}
use Rattle.sky_xdr.specs.Writing.{Puts, written_of, unwritten_of, room_of, name_of}
use Rattle.sky_rpc.specs.Call.{uints}
use Rattle.sky_rpc.proofs.Replies.{length-uints}
use Rattle.sky_args.specs.Sizes.{FitsUint}

pub all_fit : (ns : List ℕ) → ((i : ℕ) → get_or ns i 0 < 2 ^ 32) → AllByRecursion FitsUint ns
all_fit [] fit = tt
all_fit (n ∷ ns) fit = (fit zero, all_fit ns (λ i. fit (suc i)))

-- a call that wrote words, and says so of each part of the buffer
pub puts_words : (r : Result (Unit {0}) NoRoom) (words : List ℕ) (old new : Writer)
    → IsOk r ↔ (4 * length words ≤ room_of old)
    → OnOk r (written_of new ≡ written_of old ++ uints words)
    → OnOk r (unwritten_of new ≡ drop (4 * length words) (unwritten_of old))
    → OnOk r (room_of new + 4 * length words ≡ room_of old)
    → name_of new ≡ name_of old
    → Puts r (uints words) old new
puts_words (Ok x) words old new fits written unwritten room same = record {
  written = written;
  unwritten = unwritten ∙ ap (λ (k : ℕ). drop k (unwritten_of old)) (sym (length-uints words));
  room = omega (arith, room, length-uints words);
  same_buffer = same;
}
puts_words (Err e) words old new fits written unwritten room same = elim (cases_lt (room_of old) (length (uints words))) [
  | inl short ↦ short
  | inr long ↦ absurd (let there : 4 * length words ≤ room_of old = omega (arith, long, length-uints words) in let ok = fits.1 there in cc)
]
