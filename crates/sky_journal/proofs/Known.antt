-- The definitions on disks that are made by hand: each row holds by computation.
use Rattle.std.specs.Prelude.{nat_lt, slice_index}
use Rattle.std.proofs.Common.{◌≡◌, ℕ, ◌-◌, ◌^◌, Bool, true, List, [], ◌∷◌, ◌++◌, Ok, Err, replicate, refl}
use Rattle.std.specs.Int.{w32, w64, to_be_bytes}
use Rattle.sky_journal.specs.Layout.{number_4, number_8}
use Rattle.sky_journal.specs.Text.{first_entry, entries_in, all_of_grammar, batch_at, batches_from, numbered, area_entries, open_areas, areas_entries, entries_of}

abbrev word : ℕ → List ℕ
word n = to_be_bytes w32 n

abbrev double : ℕ → List ℕ
double n = to_be_bytes w64 n

abbrev zeros : ℕ → List ℕ
zeros n = replicate n 0

-- an area's header
abbrev header : ℕ → ℕ → ℕ → List ℕ
header gate volume base = gate ∷ zeros 7 ++ double volume ++ double base ++ zeros 40

-- an open batch that says that it has this many entries and bytes
abbrev batch : ℕ → ℕ → List ℕ → List ℕ
batch count size body = 1 ∷ zeros 3 ++ word count ++ double size ++ body

-- an entry that is its length and a byte
abbrev entry : ℕ → List ℕ
entry b = word 1 ++ b ∷ []

-- every entry is of the grammar
abbrev any : List ℕ → Bool
any e = true

-- an entry is its length and a byte below 3
abbrev below_3 : List ℕ → Bool
below_3 e = nat_lt (slice_index e 4) 3

-- a disk of 100 bytes is foreign at its end
small : entries_of any 1 (2 ^ 18) 0 (zeros 100) ≡ Err 100
unfolding entries_of
small = refl

-- a disk of two closed areas has nothing
blank : entries_of any 1 128 0 (zeros 256) ≡ Ok []
unfolding entries_of areas_entries open_areas area_entries numbered batches_from batch_at all_of_grammar entries_in first_entry number_4 number_8
blank = refl

-- an open area of another volume is foreign at its volume
other_volume : entries_of any 1 128 0 (header 1 2 0 ++ zeros 192) ≡ Err 8
unfolding entries_of areas_entries open_areas area_entries numbered batches_from batch_at all_of_grammar entries_in first_entry number_4 number_8
other_volume = refl

-- a base of 2^62 is foreign there
large_base : entries_of any 1 128 (2 ^ 63) (header 1 1 (2 ^ 62) ++ zeros 192) ≡ Err 16
unfolding entries_of areas_entries open_areas area_entries numbered batches_from batch_at all_of_grammar entries_in first_entry number_4 number_8
large_base = refl

-- so is one above covers, in the area behind the first too
uncovered : entries_of any 1 128 6 (zeros 128 ++ header 1 1 7 ++ zeros 64) ≡ Err 144
unfolding entries_of areas_entries open_areas area_entries numbered batches_from batch_at all_of_grammar entries_in first_entry number_4 number_8
uncovered = refl

-- a base up to covers is not
covered : entries_of any 1 128 7 (zeros 128 ++ header 1 1 7 ++ zeros 64) ≡ Ok []
unfolding entries_of areas_entries open_areas area_entries numbered batches_from batch_at all_of_grammar entries_in first_entry number_4 number_8
covered = refl

-- an open batch whose body passes its area is foreign at the batch
long_batch : entries_of any 1 128 0 (header 1 1 0 ++ batch 1 (2 ^ 62) [] ++ zeros 192) ≡ Err 64
unfolding entries_of areas_entries open_areas area_entries numbered batches_from batch_at all_of_grammar entries_in first_entry number_4 number_8
long_batch = refl

-- so is one with no room for the gate behind it
full_area : entries_of any 1 128 0 (header 1 1 0 ++ batch 1 48 (word 44 ++ zeros 44) ++ zeros 128) ≡ Err 64
unfolding entries_of areas_entries open_areas area_entries numbered batches_from batch_at all_of_grammar entries_in first_entry number_4 number_8
full_area = refl

-- the gate behind it may be the last byte of the area
last_byte : entries_of any 1 128 0 (header 1 1 0 ++ batch 1 47 (word 43 ++ zeros 43) ++ zeros 129) ≡ Ok ((1, word 43 ++ zeros 43) ∷ [])
unfolding entries_of areas_entries open_areas area_entries numbered batches_from batch_at all_of_grammar entries_in first_entry number_4 number_8
last_byte = refl

-- an open batch of no entries is foreign
no_entries : entries_of any 1 128 0 (header 1 1 0 ++ batch 0 0 [] ++ zeros 200) ≡ Err 64
unfolding entries_of areas_entries open_areas area_entries numbered batches_from batch_at all_of_grammar entries_in first_entry number_4 number_8
no_entries = refl

-- a batch of fewer entries than it says is foreign, behind one that is not
fewer_entries : entries_of any 1 128 0 (header 1 1 0 ++ batch 1 5 (entry 1) ++ batch 2 5 (entry 2) ++ zeros 200) ≡ Err 85
unfolding entries_of areas_entries open_areas area_entries numbered batches_from batch_at all_of_grammar entries_in first_entry number_4 number_8
fewer_entries = refl

-- and one with more bytes than its entries have
more_bytes : entries_of any 1 128 0 (header 1 1 0 ++ batch 1 6 (entry 1 ++ 0 ∷ []) ++ zeros 200) ≡ Err 64
unfolding entries_of areas_entries open_areas area_entries numbered batches_from batch_at all_of_grammar entries_in first_entry number_4 number_8
more_bytes = refl

-- the last number that an entry has is 2^62 - 1
last_number : entries_of any 1 128 (2 ^ 62) (header 1 1 (2 ^ 62 - 2) ++ batch 1 5 (entry 1) ++ batch 1 5 (entry 2) ++ zeros 200) ≡ Err 85
unfolding entries_of areas_entries open_areas area_entries numbered batches_from batch_at all_of_grammar entries_in first_entry number_4 number_8
last_number = refl

-- an entry that is not of the grammar is foreign where it stands
no_entry : entries_of below_3 1 128 0 (header 1 1 0 ++ batch 3 15 (entry 1 ++ entry 3 ++ entry 4) ++ zeros 200) ≡ Err 85
unfolding entries_of areas_entries open_areas area_entries numbered batches_from batch_at all_of_grammar entries_in first_entry number_4 number_8
no_entry = refl

-- a batch of two entries, and one of one entry behind it
two_batches : entries_of any 1 128 7 (header 1 1 7 ++ batch 2 10 (entry 1 ++ entry 2) ++ batch 1 5 (entry 3) ++ zeros 200) ≡ Ok ((8, entry 1) ∷ (9, entry 2) ∷ (10, entry 3) ∷ [])
unfolding entries_of areas_entries open_areas area_entries numbered batches_from batch_at all_of_grammar entries_in first_entry number_4 number_8
two_batches = refl

-- the area with the lower base is read first
two_areas : entries_of any 1 96 0 (header 1 1 1 ++ batch 1 5 (entry 2) ++ zeros 11 ++ header 1 1 0 ++ batch 1 5 (entry 1) ++ zeros 11) ≡ Ok ((1, entry 1) ∷ (2, entry 2) ∷ [])
unfolding entries_of areas_entries open_areas area_entries numbered batches_from batch_at all_of_grammar entries_in first_entry number_4 number_8
two_areas = refl

-- the newer area begins behind the last entry of the older
a_gap : entries_of any 1 96 0 (header 1 1 0 ++ batch 1 5 (entry 1) ++ zeros 11 ++ header 1 1 2 ++ batch 1 5 (entry 3) ++ zeros 11) ≡ Err 112
unfolding entries_of areas_entries open_areas area_entries numbered batches_from batch_at all_of_grammar entries_in first_entry number_4 number_8
a_gap = refl

-- with equal bases the first area is the older
equal_bases : entries_of any 1 96 0 (header 1 1 0 ++ zeros 32 ++ header 1 1 0 ++ batch 1 5 (entry 1) ++ zeros 11) ≡ Ok ((1, entry 1) ∷ [])
unfolding entries_of areas_entries open_areas area_entries numbered batches_from batch_at all_of_grammar entries_in first_entry number_4 number_8
equal_bases = refl

-- but where the second alone has no batch, it is
equal_bases_turned : entries_of any 1 96 0 (header 1 1 0 ++ batch 1 5 (entry 1) ++ zeros 11 ++ header 1 1 0 ++ zeros 32) ≡ Ok ((1, entry 1) ∷ [])
unfolding entries_of areas_entries open_areas area_entries numbered batches_from batch_at all_of_grammar entries_in first_entry number_4 number_8
equal_bases_turned = refl

-- where both have batches, the first is the older, and the second is foreign
equal_bases_both : entries_of any 1 96 0 (header 1 1 0 ++ batch 1 5 (entry 1) ++ zeros 11 ++ header 1 1 0 ++ batch 1 5 (entry 1) ++ zeros 11) ≡ Err 112
unfolding entries_of areas_entries open_areas area_entries numbered batches_from batch_at all_of_grammar entries_in first_entry number_4 number_8
equal_bases_both = refl

-- what is foreign in the older area comes before what is in the newer, wherever they lie
older_first : entries_of any 1 96 0 (header 1 2 1 ++ zeros 32 ++ header 1 3 0 ++ zeros 32) ≡ Err 104
unfolding entries_of areas_entries open_areas area_entries numbered batches_from batch_at all_of_grammar entries_in first_entry number_4 number_8
older_first = refl

-- a gate of another byte than 1 is closed
other_byte : entries_of any 1 128 0 (header 255 2 0 ++ zeros 192) ≡ Ok []
unfolding entries_of areas_entries open_areas area_entries numbered batches_from batch_at all_of_grammar entries_in first_entry number_4 number_8
other_byte = refl
