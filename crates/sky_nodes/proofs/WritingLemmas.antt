-- What a write does to bytes.
use Rattle.std.proofs.Common.{◌≡◌, ℕ, ◌+◌, ◌-◌, ◌≤◌, ◌<◌, List, ◌++◌, length, take, drop, replicate, ap, sym, ◌∙◌, arith, true, false, append-nil}
use Rattle.std.proofs.lemmas.Bool.{cases_Bool, leb-true, leb-false}
use Rattle.std.proofs.lemmas.List.{take_all, drop_all, take-append-le, take-replicate}
use Rattle.std.proofs.Math.Seq.{take-append-add}
use Rattle.std.specs.Prelude.{◌⊎◌, nat_le}
use Rattle.std.proofs.Common.{inl, inr}
use Rattle.sky_nfs.specs.Changes.{resized, written}
use Rattle.sky_nfs.proofs.KeptLemmas.{length-resized}

append-none : (bs : List ℕ) (n : ℕ) → n ≡ 0 → bs ++ replicate n 0 ≡ bs
append-none bs n e = rw e (append-nil bs)

-- bytes up to a place in them or at their end are cut there
pub cut_within : (bs : List ℕ) (o : ℕ) → o ≤ length bs → take o bs ≡ resized bs o
cut_within bs o h = sym (append-none (take o bs) (o - length bs) (omega arith))

-- bytes that were continued with zeros, cut before where they end
pub cut_zeros : (bs : List ℕ) (o e : ℕ) → length bs ≤ e → o ≤ e → take o (resized bs e) ≡ resized bs o
cut_zeros bs o e short within = rw (take_all e bs short) (go (cases_Bool (nat_le o (length bs))))
  where
    go : (nat_le o (length bs) ≡ true) ⊎ (nat_le o (length bs) ≡ false) → take o (bs ++ replicate (e - length bs) 0) ≡ resized bs o
    go (inl h) =
        let le : o ≤ length bs = leb-true o (length bs) h in
        take-append-le o bs (replicate (e - length bs) 0) le ∙ cut_within bs o le
    go (inr h) =
        let more : length bs < o = leb-false o (length bs) h in
        let split : o ≡ length bs + (o - length bs) = omega arith in
        let fits : o - length bs ≤ e - length bs = omega arith in
        let all : take o bs ≡ bs = take_all o bs (omega arith) in
        let cut = ap (λ (n : ℕ). take n (bs ++ replicate (e - length bs) 0)) split ∙ take-append-add bs (replicate (e - length bs) 0) (o - length bs) ∙ ap (λ (z : List ℕ). bs ++ z) (take-replicate (o - length bs) (e - length bs) 0 fits) in
        cut ∙ ap (λ (z : List ℕ). z ++ replicate (o - length bs) 0) (sym all)

-- nothing stands behind bytes that were continued
pub rest_of_zeros : (bs : List ℕ) (e : ℕ) → length bs ≤ e → drop e (resized bs e) ≡ drop e bs
rest_of_zeros bs e short =
    let long : length (resized bs e) ≤ e = omega (arith, length-resized bs e) in
    drop_all e (resized bs e) long ∙ sym (drop_all e bs short)

-- a piece over bytes that were continued up to its end
pub written_longer : (bs ds : List ℕ) (n o : ℕ) (piece : List ℕ) → n ≡ length bs → n < o + length piece
    → ds ≡ take (o + length piece) bs ++ replicate (o + length piece - n) 0
    → take o ds ++ piece ++ drop (o + length piece) ds ≡ written bs o piece
written_longer bs ds n o piece long short grown =
    let e = o + length piece in
    let all : ds ≡ resized bs e = grown ∙ ap (λ (k : ℕ). take e bs ++ replicate (e - k) 0) long in
    let front : take o ds ≡ resized bs o = ap (take o) all ∙ cut_zeros bs o e (omega arith) (omega arith) in
    let behind : drop e ds ≡ drop e bs = ap (drop e) all ∙ rest_of_zeros bs e (omega arith) in
    ap (λ (z : List ℕ). z ++ piece ++ drop e ds) front ∙ ap (λ (z : List ℕ). resized bs o ++ piece ++ z) behind

-- a piece over bytes that reach its end
pub written_within : (bs : List ℕ) (o : ℕ) (piece : List ℕ) → o + length piece ≤ length bs
    → take o bs ++ piece ++ drop (o + length piece) bs ≡ written bs o piece
written_within bs o piece long = ap (λ (z : List ℕ). z ++ piece ++ drop (o + length piece) bs) (cut_within bs o (omega arith))
