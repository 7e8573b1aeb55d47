-- What is read of the batches of an area, one after the other.
use Rattle.std.proofs.Common.{◌≡◌, ℕ, zero, suc, ◌+◌, ◌<◌, ◌≤◌, Bool, true, false, List, [], ◌∷◌, ◌++◌, length, Ok, Err, refl, sym, ap, ◌∙◌, subst, arith, append_assoc, length-append}
use Rattle.std.proofs.lemmas.List.{append-nil}
use Rattle.sky_journal.specs.Layout.{is_open, area_header, next_batch}
use Rattle.sky_journal.specs.Text.{◌>>=◌, Read, Area, batch_at, batches_from}
use Rattle.sky_journal.specs.Laid.{joined, IsBatch, HasBatches}
use Rattle.sky_journal.specs.OnePass.{IsFilled, IsReadTo}
use Rattle.sky_journal.proofs.Passes.{behind_none}
use Rattle.sky_journal.proofs.BatchReads.{batch_is}

-- one batch more stands behind others
HasBatches-one : (bytes : List ℕ) (p : ℕ) (batches : List (List (List ℕ))) (end next : ℕ) (entries : List (List ℕ)) → HasBatches bytes p batches end → IsBatch bytes end entries
    → next ≡ next_batch end bytes → next < length bytes → HasBatches bytes p (batches ++ entries ∷ []) next
unfolding HasBatches
HasBatches-one bytes p [] end next entries has batch is within =
    (subst (λ (q : ℕ). IsBatch bytes q entries) (sym has.0) batch, (ap (λ (q : ℕ). next_batch q bytes) has.0 ∙ sym is, within))
HasBatches-one bytes p (b ∷ bs) end next entries has batch is within = (has.0, HasBatches-one bytes (next_batch p bytes) bs end next entries has.1 batch is within)

joined-one : (batches : List (List (List ℕ))) (entries : List (List ℕ)) → joined (batches ++ entries ∷ []) ≡ joined batches ++ entries
unfolding joined
joined-one [] entries = append-nil entries
joined-one (b ∷ bs) entries = ap (λ (l : List (List ℕ)). b ++ l) (joined-one bs entries) ∙ sym (append_assoc b (joined bs) entries)

nothing : (bytes : List ℕ) (base : ℕ) → area_header < length bytes → IsFilled base bytes base area_header []
unfolding HasBatches joined
nothing bytes base header = record { batches = []; has = (refl, header); entries_are = refl; numbers = omega arith }

-- nothing was read of it yet
pub area_start : (is_entry : List ℕ → Bool) (area : Area) (base : ℕ) → area_header < length area.bytes → IsReadTo is_entry area base base area_header
area_start is_entry area base header = record {
  entries = [];
  filled = nothing area.bytes base header;
  bound = length area.bytes;
  enough = omega arith;
  goes_on = behind_none (batches_from is_entry area (length area.bytes) area_header base);
}

filled_on : (base : ℕ) (bytes : List ℕ) (last end last' end' : ℕ) (entries more : List (List ℕ)) → IsFilled base bytes last end entries → IsBatch bytes end more
    → end' ≡ next_batch end bytes → end' < length bytes → last' ≡ last + length more → IsFilled base bytes last' end' (entries ++ more)
filled_on base bytes last end last' end' entries more filled batch is within number = record {
  batches = filled.batches ++ more ∷ [];
  has = HasBatches-one bytes area_header filled.batches end end' more filled.has batch is within;
  entries_are = joined-one filled.batches more ∙ ap (λ (l : List (List ℕ)). l ++ more) filled.entries_are;
  numbers = omega (arith, filled.numbers, number, length-append entries more);
}

open_first : (is_entry : List ℕ → Bool) (area : Area) (bound p last : ℕ) → is_open p area.bytes ≡ true
    → batches_from is_entry area (suc bound) p last ≡ (batch_at is_entry area p last >>= λ entries. batches_from is_entry area bound (next_batch p area.bytes) (last + length entries) >>= λ others. Ok (entries ++ others))
unfolding batches_from
open_first is_entry area bound p last gate = rw gate refl

behind_more : (es more : List (List ℕ)) (read : Read (List (List ℕ)))
    → ((read >>= λ others. Ok (more ++ others)) >>= λ others. Ok (es ++ others)) ≡ (read >>= λ others. Ok ((es ++ more) ++ others))
behind_more es more (Ok others) = ap (λ (l : List (List ℕ)). Ok l) (sym (append_assoc es more others))
behind_more es more (Err place) = refl

on_at : (is_entry : List ℕ → Bool) (area : Area) (base last end last' end' bound : ℕ) (entries more : List (List ℕ)) → IsFilled base area.bytes last end entries → length area.bytes ≤ bound + end
    → batches_from is_entry area (length area.bytes) area_header base ≡ (batches_from is_entry area bound end last >>= λ others. Ok (entries ++ others))
    → end < length area.bytes → is_open end area.bytes ≡ true → batch_at is_entry area end last ≡ Ok more → end' ≡ next_batch end area.bytes → end' < length area.bytes → last' ≡ last + length more
    → IsReadTo is_entry area base last' end'
on_at is_entry area base last end last' end' zero entries more filled enough goes_on inside gate batch is within number = absurd (omega arith)
on_at is_entry area base last end last' end' (suc bound) entries more filled enough goes_on inside gate batch is within number =
    let next : next_batch end area.bytes < length area.bytes = omega arith in
    let rest : ℕ → ℕ → Read (List (List ℕ)) = λ p l. batches_from is_entry area bound p l >>= λ others. Ok (more ++ others) in
    let one : batches_from is_entry area (suc bound) end last ≡ rest end' last' =
    open_first is_entry area bound end last gate
    ∙ ap (λ (read : Read (List (List ℕ))). read >>= λ es. batches_from is_entry area bound (next_batch end area.bytes) (last + length es) >>= λ others. Ok (es ++ others)) batch
    ∙ ap (λ (p : ℕ). rest p (last + length more)) (sym is)
    ∙ ap (λ (l : ℕ). rest end' l) (sym number) in
    record {
      entries = entries ++ more;
      filled = filled_on base area.bytes last end last' end' entries more filled (batch_is is_entry area end last more next gate batch) is within number;
      bound = bound;
      enough = omega (arith, enough, is);
      goes_on = goes_on ∙ ap (λ (read : Read (List (List ℕ))). read >>= λ others. Ok (entries ++ others)) one ∙ behind_more entries more (batches_from is_entry area bound end' last');
    }

-- one batch more was read
pub area_on : (is_entry : List ℕ → Bool) (area : Area) (base last end last' end' : ℕ) (more : List (List ℕ)) → IsReadTo is_entry area base last end → end < length area.bytes
    → is_open end area.bytes ≡ true → batch_at is_entry area end last ≡ Ok more → end' ≡ next_batch end area.bytes → end' < length area.bytes → last' ≡ last + length more
    → IsReadTo is_entry area base last' end'
area_on is_entry area base last end last' end' more so_far inside gate batch is within number =
    on_at is_entry area base last end last' end' so_far.bound so_far.entries more so_far.filled so_far.enough so_far.goes_on inside gate batch is within number

foreign_at : (is_entry : List ℕ → Bool) (area : Area) (base last end bound place : ℕ) (entries : List (List ℕ)) → length area.bytes ≤ bound + end
    → batches_from is_entry area (length area.bytes) area_header base ≡ (batches_from is_entry area bound end last >>= λ others. Ok (entries ++ others))
    → end < length area.bytes → is_open end area.bytes ≡ true → batch_at is_entry area end last ≡ Err place
    → batches_from is_entry area (length area.bytes) area_header base ≡ Err place
foreign_at is_entry area base last end zero place entries enough goes_on inside gate batch = absurd (omega arith)
foreign_at is_entry area base last end (suc bound) place entries enough goes_on inside gate batch =
    let one : batches_from is_entry area (suc bound) end last ≡ Err place =
    open_first is_entry area bound end last gate
    ∙ ap (λ (read : Read (List (List ℕ))). read >>= λ es. batches_from is_entry area bound (next_batch end area.bytes) (last + length es) >>= λ others. Ok (es ++ others)) batch in
    goes_on ∙ ap (λ (read : Read (List (List ℕ))). read >>= λ others. Ok (entries ++ others)) one

-- the next batch is foreign
pub area_foreign : (is_entry : List ℕ → Bool) (area : Area) (base last end place : ℕ) → IsReadTo is_entry area base last end → end < length area.bytes → is_open end area.bytes ≡ true
    → batch_at is_entry area end last ≡ Err place → batches_from is_entry area (length area.bytes) area_header base ≡ Err place
area_foreign is_entry area base last end place so_far inside gate batch =
    foreign_at is_entry area base last end so_far.bound place so_far.entries so_far.enough so_far.goes_on inside gate batch

closed_first : (is_entry : List ℕ → Bool) (area : Area) (bound p last : ℕ) → is_open p area.bytes ≡ false → batches_from is_entry area bound p last ≡ Ok []
unfolding batches_from
closed_first is_entry area zero p last gate = refl
closed_first is_entry area (suc bound) p last gate = rw gate refl

-- the next gate is closed
pub area_done : (is_entry : List ℕ → Bool) (area : Area) (base last end : ℕ) → IsReadTo is_entry area base last end → is_open end area.bytes ≡ false
    → (entries : List (List ℕ)) × (batches_from is_entry area (length area.bytes) area_header base ≡ Ok entries) × IsFilled base area.bytes last end entries
area_done is_entry area base last end so_far gate = (
  so_far.entries,
  so_far.goes_on ∙ ap (λ (read : Read (List (List ℕ))). read >>= λ others. Ok (so_far.entries ++ others)) (closed_first is_entry area so_far.bound end last gate)
      ∙ ap (λ (l : List (List ℕ)). Ok l) (append-nil so_far.entries),
  so_far.filled,
)
