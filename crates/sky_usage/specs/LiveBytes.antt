-- How many bytes of each object of the cloud are in use.
use Rattle.std.specs.Prelude.{◌≢◌, ◌==◌, ℕ, ◌+◌, ◌-◌, ◌^◌, min, Bool, cond, List, filter, fold, sum_by, Some, unwrap_or, false}
use Rattle.std.specs.Ordering.{eq_by_cmp}
use Rattle.std.specs.FinMap.{FinMap, get, insert, remove, entries}
use Rattle.sky_base.specs.Order.{name_order, place_of_dir}
use Rattle.sky_base.specs.declared.object.Dir.{Dir}
use Rattle.sky_base.specs.declared.object.SegName.{SegName}
use Rattle.sky_base.specs.declared.place.Location.{Location}

-- bytes in use, under the names of the objects that they lie in
abbrev pub LiveBytes : Type 0
LiveBytes = FinMap name_order ℕ

-- the name of the segment that a location lies in
abbrev pub name_of : Location → SegName
name_of at = record { dir = at.dir; run = at.run; seq = at.seq; last = false }

-- whether a location lies in the object of this name
abbrev pub lies_in : SegName → Location → Bool
lies_in name at = eq_by_cmp name_order name (name_of at)

-- the bytes of an object that are in use where these locations are: the sum of the lengths of those that lie in it
abbrev pub live_bytes : List Location → SegName → ℕ
live_bytes locations name = sum_by (λ at. at.length) (filter (lies_in name) locations)

-- what is counted for a name: 0 where the name isn't there
abbrev pub counted : LiveBytes → SegName → ℕ
counted usage name = unwrap_or (get usage name) 0

-- the most bytes that are counted, for a name or together
abbrev pub max_counted : ℕ
max_counted = 2 ^ 64 - 1

-- the usage that counts n bytes for this name; where that is 0, the name isn't there
abbrev pub with_count : LiveBytes → SegName → ℕ → LiveBytes
with_count usage name n = cond (n == 0) (remove usage name) (insert usage name n)

-- the usage once a location is in use: its length is added, and a count that would pass the most stands there
abbrev pub raised : LiveBytes → Location → LiveBytes
raised usage at = with_count usage (name_of at) (min (counted usage (name_of at) + at.length) max_counted)

-- the usage once a location is no longer in use: its length is taken off, and 0 is left where less is counted
abbrev pub lowered : LiveBytes → Location → LiveBytes
lowered usage at = with_count usage (name_of at) (counted usage (name_of at) - at.length)

-- the same for each location of a list, from the first to the last
abbrev pub raised_by_all : LiveBytes → List Location → LiveBytes
raised_by_all usage locations = fold raised usage locations

abbrev pub lowered_by_all : LiveBytes → List Location → LiveBytes
lowered_by_all usage locations = fold lowered usage locations

-- no name is there for 0 bytes
abbrev pub HasNoZero : LiveBytes → Type 0
HasNoZero usage = (name : SegName) → get usage name ≢ Some 0

-- whether a name is of this directory
abbrev pub is_of : Dir → SegName → Bool
is_of dir name = place_of_dir name.dir == place_of_dir dir

-- what is counted for all names of a directory together
abbrev pub total_of : LiveBytes → Dir → ℕ
total_of usage dir = sum_by (λ e. e.1) (filter (λ e. is_of dir e.0) (entries usage))
