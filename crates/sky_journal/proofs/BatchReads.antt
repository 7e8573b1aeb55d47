-- What is read of one batch.
use Rattle.std.specs.Prelude.{nat_le, ◌==◌, ok_or}
use Rattle.std.proofs.Common.{◌≡◌, ℕ, ◌+◌, ◌-◌, ◌<◌, ◌≤◌, Bool, true, false, List, length, take, drop, Option, Some, None, Ok, Err, refl, sym, ap, ◌∙◌, arith}
use Rattle.std.proofs.lemmas.Bool.{le-leb, lt-leb, eq-eqb, ne_eqb, eqb-false}
use Rattle.sky_base.specs.Limits.{max_number}
use Rattle.sky_journal.specs.Layout.{is_open, batch_header, count_at, size_at, body_at, next_batch}
use Rattle.sky_journal.specs.Text.{◌>>=◌, Read, Area, foreign_where, entries_in, all_of_grammar, batch_at}
use Rattle.sky_journal.specs.Laid.{IsBatch}
use Rattle.sky_journal.specs.Looking.{between}
use Rattle.sky_journal.specs.OnePass.{unless_foreign, entries_read}
use Rattle.sky_journal.proofs.Entries.{entries_in-length}
use Rattle.sky_journal.proofs.Passes.{batch_read}

-- it has no entry
pub batch_none : (is_entry : List ℕ → Bool) (area : Area) (p last : ℕ) → count_at p area.bytes ≡ 0 → batch_at is_entry area p last ≡ Err (area.start + p)
unfolding batch_at
batch_none is_entry area p last none = let t : (count_at p area.bytes == 0) ≡ true = eq-eqb _ _ none in rw t refl

far_at : (none : Bool) (far : Bool) (place : ℕ) (rest : Read (List (List ℕ))) → far ≡ true → (foreign_where none place >>= λ _. foreign_where far place >>= λ _. rest) ≡ Err place
far_at true far place rest is = refl
far_at false true place rest is = refl
far_at false false place rest is = absurd cc

-- it does not end within its area
pub batch_far : (is_entry : List ℕ → Bool) (area : Area) (p last : ℕ) → length area.bytes ≤ next_batch p area.bytes → batch_at is_entry area p last ≡ Err (area.start + p)
unfolding batch_at
batch_far is_entry area p last far = far_at (count_at p area.bytes == 0) (nat_le (length area.bytes) (next_batch p area.bytes)) (area.start + p) _ (le-leb _ _ far)

many_at : (is_entry : List ℕ → Bool) (last place first : ℕ) (o : Option (List (List ℕ))) → ((es : List (List ℕ)) → o ≡ Some es → max_number ≤ last + length es)
    → (ok_or o place >>= λ es. foreign_where (nat_le max_number (last + length es)) place >>= λ _. all_of_grammar is_entry first es >>= λ _. Ok es) ≡ Err place
many_at is_entry last place first None many = refl
many_at is_entry last place first (Some es) many = let t : nat_le max_number (last + length es) ≡ true = le-leb _ _ (many es refl) in rw t refl

few_at : (is_entry : List ℕ → Bool) (last place first : ℕ) (o : Option (List (List ℕ))) → ((es : List (List ℕ)) → o ≡ Some es → last + length es < max_number)
    → (ok_or o place >>= λ es. foreign_where (nat_le max_number (last + length es)) place >>= λ _. all_of_grammar is_entry first es >>= λ _. Ok es)
    ≡ (ok_or o place >>= λ es. unless_foreign None (all_of_grammar is_entry first es) >>= λ _. Ok es)
few_at is_entry last place first None few = refl
few_at is_entry last place first (Some es) few = let t : nat_le max_number (last + length es) ≡ false = lt-leb _ _ (few es refl) in rw t refl

-- it has more entries than there are numbers
pub batch_many : (is_entry : List ℕ → Bool) (area : Area) (p last : ℕ) → 0 < count_at p area.bytes → next_batch p area.bytes < length area.bytes → max_number ≤ last + count_at p area.bytes
    → batch_at is_entry area p last ≡ Err (area.start + p)
unfolding batch_at
batch_many is_entry area p last some within many =
    let n : (count_at p area.bytes == 0) ≡ false = ne_eqb _ _ (omega arith) in
    let t : nat_le (length area.bytes) (next_batch p area.bytes) ≡ false = lt-leb _ _ within in
    rw (n, t) (many_at is_entry last (area.start + p) (area.start + p + batch_header) (entries_in (count_at p area.bytes) (body_at p area.bytes))
    (λ es is. omega (arith, many, entries_in-length (count_at p area.bytes) (body_at p area.bytes) es is)))

body_between : (p : ℕ) (bytes : List ℕ) → body_at p bytes ≡ between (p + batch_header) (next_batch p bytes) bytes
body_between p bytes = let n : size_at p bytes ≡ next_batch p bytes - (p + batch_header) = omega arith in ap (λ (k : ℕ). take k (drop (p + batch_header) bytes)) n

-- it is read in one pass
pub batch_passes : (is_entry : List ℕ → Bool) (area : Area) (p last : ℕ) → 0 < count_at p area.bytes → next_batch p area.bytes < length area.bytes → last + count_at p area.bytes < max_number
    → batch_at is_entry area p last ≡ batch_read is_entry area p (next_batch p area.bytes) (count_at p area.bytes)
unfolding batch_at entries_read
batch_passes is_entry area p last some within few =
    let n : (count_at p area.bytes == 0) ≡ false = ne_eqb _ _ (omega arith) in
    let t : nat_le (length area.bytes) (next_batch p area.bytes) ≡ false = lt-leb _ _ within in
    let count : ℕ = count_at p area.bytes in
    let place : ℕ = area.start + p in
    let first : place + batch_header ≡ area.start + (p + batch_header) = omega arith in
    let read : List ℕ → ℕ → Read (List (List ℕ)) = λ body at. ok_or (entries_in count body) place >>= λ es. unless_foreign None (all_of_grammar is_entry at es) >>= λ _. Ok es in
    rw (n, t) (few_at is_entry last place (place + batch_header) (entries_in count (body_at p area.bytes)) (λ es is. omega (arith, few, entries_in-length count (body_at p area.bytes) es is))
    ∙ ap (λ (body : List ℕ). read body (place + batch_header)) (body_between p area.bytes)
    ∙ ap (λ (at : ℕ). read (between (p + batch_header) (next_batch p area.bytes) area.bytes) at) first)

passed : (es entries : List (List ℕ)) (a b : Read (Unit {0})) → (a >>= λ _. b >>= λ _. Ok es) ≡ Ok entries → Some es ≡ Some entries
passed es entries (Err place) b e = absurd cc
passed es entries (Ok x) (Err place) e = absurd cc
passed es entries (Ok x) (Ok y) e = cc

pub is_batch_at : (is_entry : List ℕ → Bool) (last place first : ℕ) (o : Option (List (List ℕ))) (entries : List (List ℕ))
    → (ok_or o place >>= λ es. foreign_where (nat_le max_number (last + length es)) place >>= λ _. all_of_grammar is_entry first es >>= λ _. Ok es) ≡ Ok entries → o ≡ Some entries
is_batch_at is_entry last place first None entries e = absurd cc
is_batch_at is_entry last place first (Some es) entries e = passed es entries (foreign_where (nat_le max_number (last + length es)) place) (all_of_grammar is_entry first es) e

some_where : (none : Bool) (place : ℕ) (rest : Read (List (List ℕ))) (entries : List (List ℕ)) → (foreign_where none place >>= λ _. rest) ≡ Ok entries → none ≡ false
some_where true place rest entries e = absurd cc
some_where false place rest entries e = refl

-- a batch that is read is one
pub batch_is : (is_entry : List ℕ → Bool) (area : Area) (p last : ℕ) (entries : List (List ℕ)) → next_batch p area.bytes < length area.bytes → is_open p area.bytes ≡ true
    → batch_at is_entry area p last ≡ Ok entries → IsBatch area.bytes p entries
unfolding batch_at
batch_is is_entry area p last entries within gate e =
    let t : nat_le (length area.bytes) (next_batch p area.bytes) ≡ false = lt-leb _ _ within in
    let o = (some_where (count_at p area.bytes == 0) (area.start + p) _ entries e) in
    let n : (count_at p area.bytes == 0) ≡ false = o in
    let rest = rw (n, t) at e in
    record { gate = gate; some = omega (arith, eqb-false _ _ n); within = within; holds = is_batch_at is_entry last (area.start + p) (area.start + p + batch_header) (entries_in (count_at p area.bytes) (body_at p area.bytes)) entries rest }

-- it is what is read in one pass of so many entries up to an end
pub batch_same : (is_entry : List ℕ → Bool) (area : Area) (p last count end : ℕ) → count ≡ count_at p area.bytes → 0 < count → end ≡ next_batch p area.bytes → end < length area.bytes → last + count < max_number
    → batch_at is_entry area p last ≡ batch_read is_entry area p end count
batch_same is_entry area p last count end counts some ends within few =
    batch_passes is_entry area p last (omega arith) (omega arith) (omega arith)
    ∙ ap (λ (n : ℕ). batch_read is_entry area p n (count_at p area.bytes)) (sym ends)
    ∙ ap (λ (n : ℕ). batch_read is_entry area p end n) (sym counts)
