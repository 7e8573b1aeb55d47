-- A write behind what was written before.
--   put_prefix, take-put, drop-put      the buffer then, its prefix, and what stands behind that
--   appends_then, puts_then, stops_then  two writes, one behind the other, and where the first has no room
--   opaque_written                     the length, the bytes and the zeros of opaque data, one after the other
use Rattle.std.proofs.Common.{◌≡◌, ℕ, ◌+◌, ◌-◌, ◌≤◌, ◌<◌, Result, Ok, Err, List, ◌++◌, length, replicate, take, drop, sym, ap, ◌∙◌, append_assoc, arith}
use Rattle.std.proofs.Math.ListN.{drop_of_length-le}
use Rattle.std.proofs.lemmas.List.{append-nil, take_at, drop_at, length-append, length-drop, length-take, drop-drop, take_rest}
use borrow.Rule.Slice.PartMut.{put_mid}
use Rattle.sky_xdr.specs.declared.fault.NoRoom.{NoRoom}
use Rattle.sky_xdr.specs.declared.writer.Writer.{Writer}
use Rattle.sky_xdr.specs.Encoding.{padding, uint, opaque}
use Rattle.sky_xdr.specs.Writing.{Appends, Puts, written_of, unwritten_of, room_of}
use Rattle.sky_xdr.proofs.Numbers.{length-uint}

-- a write of text to the start of what stands from place p on
pub put_prefix : (p k : ℕ) (xs text ys : List ℕ) → ys ≡ text ++ drop k (take (length xs - p) (drop p xs)) → put_mid p (length xs - p) xs ys ≡ take p xs ++ (text ++ drop k (drop p xs))
put_prefix p k xs text ys is =
    let nothing = drop_of_length-le (drop p xs) {i = length xs - p} (omega (arith, length-drop p xs)) in
    ap (λ (r : List ℕ). take p xs ++ (ys ++ r)) nothing ∙ ap (λ (r : List ℕ). take p xs ++ r) (append-nil ys)
    ∙ ap (λ (r : List ℕ). take p xs ++ r) is ∙ ap (λ (r : List ℕ). take p xs ++ (text ++ drop k r)) (take_rest xs p)

pub take-put : (p k : ℕ) (xs text ys : List ℕ) → p ≤ length xs → length text ≡ k → ys ≡ text ++ drop k (take (length xs - p) (drop p xs)) → take (p + k) (put_mid p (length xs - p) xs ys) ≡ take p xs ++ text
take-put p k xs text ys within size is =
    let all = put_prefix p k xs text ys is ∙ sym (append_assoc (take p xs) text (drop k (drop p xs))) in
    ap (λ (r : List ℕ). take (p + k) r) all ∙ take_at (take p xs ++ text) (drop k (drop p xs)) (p + k) (omega (arith, length-append (take p xs) text, length-take p xs))

pub drop-put : (p k : ℕ) (xs text ys : List ℕ) → p ≤ length xs → length text ≡ k → ys ≡ text ++ drop k (take (length xs - p) (drop p xs)) → drop (p + k) (put_mid p (length xs - p) xs ys) ≡ drop k (drop p xs)
drop-put p k xs text ys within size is =
    let all = put_prefix p k xs text ys is ∙ sym (append_assoc (take p xs) text (drop k (drop p xs))) in
    ap (λ (r : List ℕ). drop (p + k) r) all ∙ drop_at (take p xs ++ text) (drop k (drop p xs)) (p + k) (omega (arith, length-append (take p xs) text, length-take p xs))

-- the length, the bytes and the zeros, one after the other
pub opaque_written : (n : ℕ) (out first v bytes second zeros : List ℕ) → n ≡ length v → first ≡ uint n ++ drop 4 out
    → bytes ≡ v ++ drop n (take (length first - 4) (drop 4 first)) → second ≡ put_mid 4 (length first - 4) first bytes
    → zeros ≡ replicate (padding n) 0 ++ drop (padding n) (take (length second - (4 + n)) (drop (4 + n) second))
    → put_mid (4 + n) (length second - (4 + n)) second zeros ≡ opaque v ++ drop (4 + n + padding n) out
opaque_written n out first v bytes second zeros size one two is three =
    let p : ℕ = padding n in
    let prefix : take 4 first ≡ uint n = ap (λ (r : List ℕ). take 4 r) one ∙ take_at (uint n) (drop 4 out) 4 (length-uint n) in
    let behind : drop 4 first ≡ drop 4 out = ap (λ (r : List ℕ). drop 4 r) one ∙ drop_at (uint n) (drop 4 out) 4 (length-uint n) in
    let both : second ≡ (uint n ++ v) ++ drop n (drop 4 out) =
    is ∙ put_prefix 4 n first v bytes two ∙ ap (λ (r : List ℕ). r ++ (v ++ drop n (drop 4 first))) prefix
    ∙ ap (λ (r : List ℕ). uint n ++ (v ++ drop n r)) behind ∙ sym (append_assoc (uint n) v (drop n (drop 4 out))) in
    let len : length (uint n ++ v) ≡ 4 + n = omega (arith, length-append (uint n) v, length-uint n) in
    let front2 : take (4 + n) second ≡ uint n ++ v = ap (λ (r : List ℕ). take (4 + n) r) both ∙ take_at (uint n ++ v) (drop n (drop 4 out)) (4 + n) len in
    let behind2 : drop (4 + n) second ≡ drop (4 + n) out = ap (λ (r : List ℕ). drop (4 + n) r) both ∙ drop_at (uint n ++ v) (drop n (drop 4 out)) (4 + n) len ∙ drop-drop n 4 out in
    let last : drop p (drop (4 + n) second) ≡ drop (4 + n + p) out = ap (λ (r : List ℕ). drop p r) behind2 ∙ drop-drop p (4 + n) out in
    put_prefix (4 + n) p second (replicate p 0) zeros three
    ∙ ap (λ (r : List ℕ). r ++ (replicate p 0 ++ drop p (drop (4 + n) second))) front2
    ∙ ap (λ (r : List ℕ). (uint n ++ v) ++ (replicate p 0 ++ r)) last
    ∙ sym (append_assoc (uint n ++ v) (replicate p 0) (drop (4 + n + p) out))
    ∙ ap (λ (m : ℕ). (uint m ++ v ++ replicate (padding m) 0) ++ drop (4 + n + p) out) size

-- ---- writes one behind the other

-- two texts, one behind the other
pub appends_then : (a b : List ℕ) (old mid new : Writer) → Appends a old mid → Appends b mid new → Appends (a ++ b) old new
appends_then a b old mid new first second = record {
  written = second.written ∙ ap (λ (t : List ℕ). t ++ b) first.written ∙ append_assoc (written_of old) a b;
  unwritten = second.unwritten ∙ ap (drop (length b)) first.unwritten ∙ drop-drop (length b) (length a) (unwritten_of old) ∙ ap (λ (k : ℕ). drop k (unwritten_of old)) (sym (length-append a b));
  room = omega (arith, length-append a b, first.room, second.room);
  same_buffer = second.same_buffer ∙ first.same_buffer;
}

-- a text, and then a call that writes the rest
pub puts_then : {X : Type 0} (r : Result X NoRoom) (a b : List ℕ) (old mid new : Writer) → Appends a old mid → Puts r b mid new → Puts r (a ++ b) old new
puts_then (Ok x) a b old mid new first second = appends_then a b old mid new first second
puts_then (Err e) a b old mid new first second = omega (arith, length-append a b, first.room, second)

-- where a text has no room, none that begins with it has
pub stops_then : (a b : List ℕ) (old : Writer) → room_of old < length a → room_of old < length (a ++ b)
stops_then a b old short = omega (arith, length-append a b, short)
