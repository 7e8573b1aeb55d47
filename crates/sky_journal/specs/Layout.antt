-- Where things stand in the journal's areas. Numbers have the highest byte first. What stands at a place is read from the bytes
-- from there on; where these end before it does, nothing is said of it.
--   An area:   gate 1, not used 7, volume 8, base 8, not used 40, and then batches
--   A batch:   gate 1, not used 3, number of entries 4, length of the body 8, the body; the next batch follows directly
--   An entry:  length of what follows it 4, and that
use Rattle.std.specs.Prelude.{ℕ, ◌+◌, Bool, ◌==◌, List, take, drop, slice_index}
use Rattle.std.specs.Int.{w32, w64, from_be_bytes}

-- whether the gate at a place is open: its byte is 1, and every other byte is closed
abbrev pub is_open : ℕ → List ℕ → Bool
is_open p bytes = slice_index bytes p == 1

-- the number of four bytes at a place
unfoldable pub number_4 : ℕ → List ℕ → ℕ
number_4 p bytes = from_be_bytes w32 (take 4 (drop p bytes))

-- the number of eight bytes at a place
unfoldable pub number_8 : ℕ → List ℕ → ℕ
number_8 p bytes = from_be_bytes w64 (take 8 (drop p bytes))

-- where an area has its volume
abbrev pub volume_place : ℕ
volume_place = 8

-- where an area has its base: the number of the last entry before it
abbrev pub base_place : ℕ
base_place = 16

-- how many bytes an area has before its first batch
abbrev pub area_header : ℕ
area_header = 64

-- how many bytes a batch has before its body
abbrev pub batch_header : ℕ
batch_header = 16

-- how many entries the batch at a place says that it has
abbrev pub count_at : ℕ → List ℕ → ℕ
count_at p area = number_4 (p + 4) area

-- how many bytes the body of the batch at a place says that it has
abbrev pub size_at : ℕ → List ℕ → ℕ
size_at p area = number_8 (p + 8) area

-- the body of the batch at a place
abbrev pub body_at : ℕ → List ℕ → List ℕ
body_at p area = take (size_at p area) (drop (p + batch_header) area)

-- where the batch behind the one at a place has its gate
abbrev pub next_batch : ℕ → List ℕ → ℕ
next_batch p area = p + batch_header + size_at p area
