-- A list that is gone through part by part, as a loop does with what is left of it.
use Rattle.std.proofs.Common.{◌≡◌, ℕ, ◌+◌, ◌-◌, ◌≤◌, List, ◌++◌, length, take, drop, sym, ap, ◌∙◌, arith}
use Rattle.std.proofs.Math.Seq.{take-add, take-length, take-append-add}
use Rattle.std.proofs.lemmas.List.{length-append, length-drop, length-take-le, take-append-le}
use borrow.Rule.Slice.PartMut.{put_mid}

-- what is left, as a slice to the end
rest_is : (bytes : List ℕ) (at : ℕ) → take (length bytes - at) (drop at bytes) ≡ drop at bytes
rest_is bytes at =
    let e : length (drop at bytes) ≡ length bytes - at = length-drop at bytes in
    rw (← e) (take-length (drop at bytes))

-- a prefix, and the next n of what is left
pub next_part : (bytes : List ℕ) (at n : ℕ) → take at bytes ++ take n (take (length bytes - at) (drop at bytes)) ≡ take (at + n) bytes
next_part bytes at n = rw (rest_is bytes at) (sym (take-add at n bytes))

-- a prefix that stays, and the next n of what was written behind it
pub next_written : (bytes new : List ℕ) (at n : ℕ) → at ≤ length bytes → n ≤ length new → take at bytes ++ take n new ≡ take (at + n) (put_mid at (length bytes - at) bytes new)
next_written bytes new at n within fits =
    let prefix : length (take at bytes) ≡ at = length-take-le at bytes within in
    let left : List ℕ = drop (length bytes - at) (drop at bytes) in
    let split : take (at + n) (take at bytes ++ (new ++ left)) ≡ take at bytes ++ take n (new ++ left) =
    ap (λ (k : ℕ). take (k + n) (take at bytes ++ (new ++ left))) (sym prefix) ∙ take-append-add (take at bytes) (new ++ left) n in
    sym (split ∙ ap (λ (x : List ℕ). take at bytes ++ x) (take-append-le n new left fits))

-- the next n of what is left end within the list
pub part_within : (bytes : List ℕ) (at n : ℕ) → at ≤ length bytes → n ≤ length (take (length bytes - at) (drop at bytes)) → at + n ≤ length bytes
part_within bytes at n within fits =
    let e : length (take (length bytes - at) (drop at bytes)) ≡ length bytes - at = ap length (rest_is bytes at) ∙ length-drop at bytes in
    omega (arith, e)

-- and so they do after they were written
pub written_within : (bytes new : List ℕ) (at n : ℕ) → at ≤ length bytes → n ≤ length new → at + n ≤ length (put_mid at (length bytes - at) bytes new)
written_within bytes new at n within fits =
    let left : List ℕ = drop (length bytes - at) (drop at bytes) in
    omega (arith, length-take-le at bytes within, length-append (take at bytes) (new ++ left), length-append new left)
