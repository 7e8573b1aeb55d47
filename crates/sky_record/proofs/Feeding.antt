-- What a feed keeps, as far as it has come.
use Rattle.std.proofs.Common.{◌≡◌, ℕ, ◌+◌, ◌-◌, ◌<◌, ◌≤◌, Bool, true, false, List, ◌++◌, length, take, drop, sym, ap, subst, ◌∙◌, append_assoc, arith, length-drop, length-take, length-append, ◌⊎◌, inl, inr}
use Rattle.std.proofs.Math.Seq.{take-add}
use Rattle.std.proofs.lemmas.List.{take_all, take-append-drop, nil_from_length}
use Rattle.sky_record.proofs.Reading.{one_text, closed_reads_on}
use Rattle.std.specs.Prelude.{IsTrue, ◌↔◌}
use Rattle.sky_record.specs.Stream.{Received, IsOpen, Comes, ReadsRecords}

pub record GoesOn (old new : Received) (taken : ℕ) (piece : List ℕ) : Type 0 where
  pub within : taken ≤ length piece
  pub first : taken ≡ 0 → IsOpen new.progress
  pub goes : (text : List ℕ) → Comes text old → Comes (text ++ take taken piece) new

-- the rest of a piece, as the code writes it
pub rest-is : (taken : ℕ) (piece : List ℕ) → take (length piece - taken) (drop taken piece) ≡ drop taken piece
rest-is taken piece = take_all (length piece - taken) (drop taken piece) (omega (arith, length-drop taken piece))

pub not_ready : (ready : Bool) (P : Type 0) → (IsTrue ready ↔ P) → ready ≡ false → P → ⊥
not_ready true P h e p = absurd cc
not_ready false P h e p = let t : IsTrue false = h.1 p in absurd cc

-- some bytes more, of the rest of the piece
pub goes_further : (old now new : Received) (taken more : ℕ) (piece rest : List ℕ) → rest ≡ take (length piece - taken) (drop taken piece) → GoesOn old now taken piece → 0 < more → more ≤ length rest
    → ((text : List ℕ) → Comes text now → Comes (text ++ take more rest) new) → GoesOn old new (taken + more) piece
goes_further old now new taken more piece rest rest-is h some within goes =
    let is : rest ≡ drop taken piece = rest-is ∙ take_all (length piece - taken) (drop taken piece) (omega (arith, length-drop taken piece)) in
    record {
      within = omega (arith, length-drop taken piece, ap length is, h.within);
      first = λ e. absurd (omega arith);
      goes = λ text comes.
          let e : (text ++ take taken piece) ++ take more rest ≡ text ++ take (taken + more) piece =
          append_assoc text (take taken piece) (take more rest) ∙ ap (λ (t : List ℕ). text ++ (take taken piece ++ take more t)) is ∙ ap (λ (t : List ℕ). text ++ t) (sym (take-add taken more piece)) in
          subst (λ (t : List ℕ). Comes t new) e (goes (text ++ take taken piece) (h.goes text comes));
    }

-- a feed stops where a record ends, or a header passes the limit
pub stops : (text piece : List ℕ) (taken count : ℕ) (new other : Received) → Comes (text ++ take taken piece) new → Comes (text ++ take count piece) other
    → taken ≤ length piece → count ≤ length piece → (IsOpen new.progress → taken ≡ length piece) → (IsOpen other.progress → ⊥) → (taken ≡ count) × (new ≡ other)
stops text piece taken count new other p q taken_le count_le all closed =
    let whole : (n : ℕ) → (text ++ take n piece) ++ drop n piece ≡ text ++ piece = λ n. append_assoc text (take n piece) (drop n piece) ∙ ap (λ (t : List ℕ). text ++ t) (take-append-drop n piece) in
    let one = one_text (text ++ take taken piece) (drop taken piece) (text ++ take count piece) (drop count piece) new other p q (whole taken ∙ sym (whole count))
    (λ o. nil_from_length (drop taken piece) (omega (arith, length-drop taken piece, all o))) (λ o. absurd (closed o)) in
    (omega (arith, ap length one.0, length-append text (take taken piece), length-append text (take count piece), length-take taken piece, length-take count piece), one.1)

-- a whole piece is read
pub piece_read : (stream piece : List ℕ) (records : List (List ℕ)) (now : Received) (taken : ℕ) → ReadsRecords (stream ++ take taken piece) records now → ((IsOpen now.progress → ⊥) ⊎ (length piece ≤ taken)) → ReadsRecords (stream ++ piece) records now
piece_read stream piece records now taken h (inr le) = subst (λ (t : List ℕ). ReadsRecords (stream ++ t) records now) (take_all taken piece le) h
piece_read stream piece records now taken h (inl closed) =
    let e : (stream ++ take taken piece) ++ drop taken piece ≡ stream ++ piece = append_assoc stream (take taken piece) (drop taken piece) ∙ ap (λ (t : List ℕ). stream ++ t) (take-append-drop taken piece) in
    subst (λ (t : List ℕ). ReadsRecords t records now) e (closed_reads_on (stream ++ take taken piece) (drop taken piece) records now.bytes now.progress h closed)

-- a piece is read further
pub reads_further : (old : Received) (records now_records new_records : List (List ℕ)) (now new : Received) (taken more : ℕ) (piece : List ℕ)
    → ((stream : List ℕ) → ReadsRecords stream records old → ReadsRecords (stream ++ take taken piece) now_records now)
    → ((stream : List ℕ) → ReadsRecords stream now_records now → ReadsRecords (stream ++ take more (take (length piece - taken) (drop taken piece))) new_records new)
    → (stream : List ℕ) → ReadsRecords stream records old → ReadsRecords (stream ++ take (taken + more) piece) new_records new
reads_further old records now_records new_records now new taken more piece so_far next stream h =
    let rest : List ℕ = take (length piece - taken) (drop taken piece) in
    let e : (stream ++ take taken piece) ++ take more rest ≡ stream ++ take (taken + more) piece =
    append_assoc stream (take taken piece) (take more rest) ∙ ap (λ (t : List ℕ). stream ++ (take taken piece ++ take more t)) (rest-is taken piece) ∙ ap (λ (t : List ℕ). stream ++ t) (sym (take-add taken more piece)) in
    subst (λ (t : List ℕ). ReadsRecords t new_records new) e (next (stream ++ take taken piece) (so_far stream h))
