-- What is read of an open area: its header, and then its batches.
use Rattle.std.specs.Prelude.{nat_le, ◌==◌}
use Rattle.std.proofs.Common.{◌≡◌, ◌≢◌, ℕ, ◌+◌, ◌<◌, ◌≤◌, Bool, true, false, List, [], ◌∷◌, length, Ok, Err, refl, ap, arith}
use Rattle.std.proofs.lemmas.Bool.{eq-eqb, ne_eqb, le-leb, lt-leb}
use Rattle.sky_base.specs.Limits.{max_number}
use Rattle.sky_journal.specs.Layout.{is_open, number_8, volume_place, base_place, area_header}
use Rattle.sky_journal.specs.Text.{◌>>=◌, Area, base_of, numbered, batches_from, area_entries}
use Rattle.sky_journal.specs.Laid.{IsArea}
use Rattle.sky_journal.specs.AreasRead.{IsReadArea}
use Rattle.sky_journal.specs.declared.open_area.OpenArea.{OpenArea}

-- an area of another volume
pub area_other : (is_entry : List ℕ → Bool) (volume : ℕ) (area : Area) (foreign : Bool) → number_8 volume_place area.bytes ≢ volume → area_entries is_entry volume area foreign ≡ Err (area.start + volume_place)
unfolding area_entries
area_other is_entry volume area foreign other = let t : (number_8 volume_place area.bytes == volume) ≡ false = ne_eqb _ _ other in rw t refl

-- with a base that is too large
pub area_large : (is_entry : List ℕ → Bool) (volume : ℕ) (area : Area) (foreign : Bool) → number_8 volume_place area.bytes ≡ volume → max_number ≤ base_of area
    → area_entries is_entry volume area foreign ≡ Err (area.start + base_place)
unfolding area_entries
area_large is_entry volume area foreign same large =
    let t : (number_8 volume_place area.bytes == volume) ≡ true = eq-eqb _ _ same in
    let b : nat_le max_number (base_of area) ≡ true = le-leb _ _ large in
    rw (t, b) refl

-- with a base that it may not have
pub area_base : (is_entry : List ℕ → Bool) (volume : ℕ) (area : Area) (foreign : Bool) → number_8 volume_place area.bytes ≡ volume → base_of area < max_number → foreign ≡ true
    → area_entries is_entry volume area foreign ≡ Err (area.start + base_place)
unfolding area_entries
area_base is_entry volume area foreign same small is =
    let t : (number_8 volume_place area.bytes == volume) ≡ true = eq-eqb _ _ same in
    let b : nat_le max_number (base_of area) ≡ false = lt-leb _ _ small in
    rw (t, b, is) refl

-- and one with a fine header
pub area_batches : (is_entry : List ℕ → Bool) (volume : ℕ) (area : Area) (foreign : Bool) (base : ℕ) → number_8 volume_place area.bytes ≡ volume → base_of area ≡ base → base < max_number → foreign ≡ false
    → area_entries is_entry volume area foreign ≡ (batches_from is_entry area (length area.bytes) area_header base >>= λ entries. Ok (numbered base entries))
unfolding area_entries
area_batches is_entry volume area foreign base same is_base small is =
    let t : (number_8 volume_place area.bytes == volume) ≡ true = eq-eqb _ _ same in
    let b : nat_le max_number (base_of area) ≡ false = lt-leb _ _ (omega arith) in
    rw (t, b, is) (ap (λ (n : ℕ). batches_from is_entry area (length area.bytes) area_header n >>= λ entries. Ok (numbered n entries)) is_base)

pub numbered-length : (base : ℕ) (entries : List (List ℕ)) → length (numbered base entries) ≡ length entries
unfolding numbered
numbered-length base [] = refl
numbered-length base (e ∷ es) = omega (arith, numbered-length (base + 1) es)

-- an area that was read and is open is as it is known
pub read_is_area : (volume : ℕ) (area : Area) (a : OpenArea) (list : List (ℕ × List ℕ)) (read : IsReadArea volume area a list) → is_open 0 area.bytes ≡ true → IsArea volume area.bytes a read.entries
read_is_area volume area a list read gate = record {
  gate = gate;
  volume_is = read.volume_is;
  base = read.base;
  batches = read.filled.batches;
  has = read.filled.has;
  entries_are = read.filled.entries_are;
  closed = read.closed;
  numbers = read.filled.numbers;
}
