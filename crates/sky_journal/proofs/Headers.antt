-- What stands in the bytes of headers that were written in memory.
use Rattle.std.proofs.Common.{◌≡◌, ◌+◌, ◌-◌, ◌<◌, ◌≤◌, ◌^◌, ℕ, List, length, take, drop, replicate, Some, false, refl, sym, ◌∙◌, ap, subst, arith}
use Rattle.std.specs.Int.{w32, w64, to_be_bytes, from_be_bytes}
use Rattle.std.proofs.lemmas.List.{length-take-le, length-drop}
use Rattle.std.proofs.lemmas.Nat.{from_be_bytes-to_be_bytes_4, from_be_bytes-to_be_bytes_8}
use Rattle.sky_outside.specs.Image.{written, bytes_at, Torn}
use Rattle.sky_outside.proofs.ImageLaws.{Torn-written}
use Rattle.sky_journal.specs.Layout.{is_open, number_4, number_8}
use Rattle.sky_journal.specs.Written.{IsBehindBatchGate, IsBehindAreaGate}
use Rattle.sky_journal.specs.Journal.{bytes_of}
use Rattle.sky_journal.specs.Pending.{body_in}
use Rattle.sky_journal.specs.Text.{entries_in}
use Rattle.sky_journal.proofs.Entries.{entries_in-length, entries_in-bytes}
use Rattle.sky_journal.proofs.Frames.{bytes_at-before, bytes_at-behind, written-there, is_open-within, take-shorter}

-- what stands behind an area's gate
pub area_gate : (volume base : ℕ) → volume < 2 ^ 64 → base < 2 ^ 64
    → IsBehindAreaGate (written (written (replicate 64 0) 7 (to_be_bytes w64 volume)) 15 (to_be_bytes w64 base)) volume base
unfolding number_8
area_gate volume base fits base_fits = record {
  volume_is = from_be_bytes-to_be_bytes_8 volume fits;
  base_is = from_be_bytes-to_be_bytes_8 base base_fits;
  closed = refl;
  length_is = refl;
  unused = refl;
  unused_later = refl;
}

-- a batch in memory after its numbers were written
abbrev pub numbered_batch : List ℕ → ℕ → ℕ → List ℕ
numbered_batch batch count size = written (written batch 3 (to_be_bytes w32 count)) 7 (to_be_bytes w64 size)

module _ (batch : List ℕ) (count size : ℕ) (least : 16 ≤ length batch) where
  first : Torn 3 4 batch (written batch 3 (to_be_bytes w32 count))
  first = Torn-written batch 3 (to_be_bytes w32 count) (omega (arith, least))

  second : Torn 7 8 (written batch 3 (to_be_bytes w32 count)) (numbered_batch batch count size)
  second = Torn-written (written batch 3 (to_be_bytes w32 count)) 7 (to_be_bytes w64 size) (omega (arith, least, first.size))

  -- it is as long as before, and as before behind them
  pub numbered-length : length (numbered_batch batch count size) ≡ length batch
  numbered-length = second.size ∙ first.size

  pub numbered-behind : (p n : ℕ) → 15 ≤ p → bytes_at (numbered_batch batch count size) p n ≡ bytes_at batch p n
  numbered-behind p n le =
      bytes_at-behind 7 8 (written batch 3 (to_be_bytes w32 count)) (numbered_batch batch count size) p n second (omega (arith, le))
      ∙ bytes_at-behind 3 4 batch (written batch 3 (to_be_bytes w32 count)) p n first (omega (arith, le))

  -- what is before them is as before
  pub numbered-before : take 3 (numbered_batch batch count size) ≡ take 3 batch
  numbered-before = take-shorter 3 7 (numbered_batch batch count size) (written batch 3 (to_be_bytes w32 count)) (omega arith) second.before ∙ first.before

  -- the numbers stand in it
  pub numbered-count : count < 2 ^ 32 → number_4 3 (numbered_batch batch count size) ≡ count
  unfolding number_4
  numbered-count fits =
      ap (λ (l : List ℕ). from_be_bytes w32 l)
      (bytes_at-before 7 8 (written batch 3 (to_be_bytes w32 count)) (numbered_batch batch count size) 3 4 second (omega arith)
      ∙ written-there batch 3 (to_be_bytes w32 count) (omega (arith, least)))
      ∙ from_be_bytes-to_be_bytes_4 count fits

  pub numbered-size : size < 2 ^ 64 → number_8 7 (numbered_batch batch count size) ≡ size
  unfolding number_8
  numbered-size fits =
      ap (λ (l : List ℕ). from_be_bytes w64 l) (written-there (written batch 3 (to_be_bytes w32 count)) 7 (to_be_bytes w64 size) (omega (arith, least, first.size)))
      ∙ from_be_bytes-to_be_bytes_8 size fits

  -- a gate behind them is as before
  pub numbered-gate : (p : ℕ) → 15 ≤ p → is_open p (numbered_batch batch count size) ≡ is_open p batch
  numbered-gate p le =
      let same : is_open (p + 0) (numbered_batch batch count size) ≡ is_open (p + 0) batch =
      is_open-within p 1 0 (numbered_batch batch count size) (omega arith) ∙ ap (λ (l : List ℕ). is_open 0 l) (numbered-behind p 1 le)
      ∙ sym (is_open-within p 1 0 batch (omega arith)) in
      let none : p + 0 ≡ p = omega arith in
      subst (λ (q : ℕ). is_open q (numbered_batch batch count size) ≡ is_open q batch) none same

-- what stands behind the gate of a batch
pub batch_gate : (batch : List ℕ) (count : ℕ) (entries : List (List ℕ)) → 16 ≤ length batch → count < 2 ^ 32 → length batch < 2 ^ 64
    → is_open (length batch - 1) batch ≡ false → take 3 batch ≡ replicate 3 0 → entries_in count (body_in batch) ≡ Some entries
    → IsBehindBatchGate (numbered_batch batch count (length batch - 16)) entries
batch_gate batch count entries least fits size_fits closed unused is =
    let number : length entries ≡ count = entries_in-length count (body_in batch) entries is in
    let long : length (body_in batch) ≡ length batch - 16 = length-take-le (length batch - 16) (drop 15 batch) (omega (arith, least, length-drop 15 batch)) in
    let size : bytes_of entries ≡ length batch - 16 = entries_in-bytes count (body_in batch) entries is ∙ long in
    let new : List ℕ = numbered_batch batch count (length batch - 16) in
    let body : take (bytes_of entries) (drop 15 new) ≡ body_in batch =
    numbered-behind batch count (length batch - 16) least 15 (bytes_of entries) (omega arith) ∙ ap (λ (n : ℕ). take n (drop 15 batch)) size in
    let place : 15 + bytes_of entries ≡ length batch - 1 = omega (arith, size, least) in
    record {
      count = numbered-count batch count (length batch - 16) least fits ∙ sym number;
      size = numbered-size batch count (length batch - 16) least (omega (arith, size_fits)) ∙ sym size;
      body = ap (λ (n : ℕ). entries_in n (take (bytes_of entries) (drop 15 new))) number ∙ ap (λ (l : List ℕ). entries_in count l) body ∙ is;
      closed = numbered-gate batch count (length batch - 16) least (15 + bytes_of entries) (omega arith) ∙ ap (λ (n : ℕ). is_open n batch) place ∙ closed;
      length_is = numbered-length batch count (length batch - 16) least ∙ omega (arith, size, least);
      unused = numbered-before batch count (length batch - 16) least ∙ unused;
    }

-- a batch in memory after the bytes of its header that are not used were written
abbrev pub clean_batch : List ℕ → List ℕ
clean_batch batch = written batch 0 (replicate 3 0)

module _ (batch : List ℕ) (least : 16 ≤ length batch) where
  cleaned : Torn 0 3 batch (clean_batch batch)
  cleaned = Torn-written batch 0 (replicate 3 0) (omega (arith, least))

  pub clean-length : length (clean_batch batch) ≡ length batch
  clean-length = cleaned.size

  pub clean-unused : take 3 (clean_batch batch) ≡ replicate 3 0
  clean-unused = written-there batch 0 (replicate 3 0) (omega (arith, least))

  -- it is as before behind them
  pub clean-body : body_in (clean_batch batch) ≡ body_in batch
  clean-body = ap (λ (n : ℕ). take (n - 16) (drop 15 (clean_batch batch))) cleaned.size ∙ bytes_at-behind 0 3 batch (clean_batch batch) 15 (length batch - 16) cleaned (omega arith)

  clean-gate-at : (p : ℕ) → 3 ≤ p → is_open (p + 0) (clean_batch batch) ≡ is_open (p + 0) batch
  clean-gate-at p le =
      is_open-within p 1 0 (clean_batch batch) (omega arith) ∙ ap (λ (l : List ℕ). is_open 0 l) (bytes_at-behind 0 3 batch (clean_batch batch) p 1 cleaned (omega (arith, le)))
      ∙ sym (is_open-within p 1 0 batch (omega arith))

  pub clean-gate : is_open (length (clean_batch batch) - 1) (clean_batch batch) ≡ is_open (length batch - 1) batch
  clean-gate =
      let none : (length batch - 1) + 0 ≡ length batch - 1 = omega arith in
      ap (λ (n : ℕ). is_open (n - 1) (clean_batch batch)) cleaned.size
      ∙ subst (λ (q : ℕ). is_open q (clean_batch batch) ≡ is_open q batch) none (clean-gate-at (length batch - 1) (omega (arith, least)))
