-- How far a record has come behind a header, or behind some bytes of a fragment, and what an assembler's state says of it.
use Rattle.std.specs.Prelude.{ℕ, ◌+◌, ◌%◌, ◌^◌, ◌<◌, ◌≤◌, Bool, List, [], length, take, nat_lt, nat_le, if◌then◌else◌}
use Rattle.std.specs.Int.{w32, from_be_bytes}
use Rattle.sky_base.specs.Limits.{max_record_bytes}
use Rattle.sky_record.specs.declared.assembler.State.{State}
use Rattle.sky_record.specs.declared.assembler.State.TheVariants as state
use Rattle.sky_record.specs.Stream.{Progress, AtHeader, InFragment, Whole, TooLong}

-- with so many bytes of a fragment due
abbrev pub with_due : Bool → ℕ → Progress
with_due last due = if nat_lt 0 due then InFragment last due else (if last then Whole else AtHeader [])

-- at a header, of which these bytes have come, behind so many bytes of the record
abbrev pub with_header : ℕ → List ℕ → Progress
with_header had part =
    let word = from_be_bytes w32 part in
    let size = word % 2 ^ 31 in
    if nat_lt (length part) 4 then AtHeader part else (if nat_lt max_record_bytes (had + size) then TooLong else with_due (nat_le (2 ^ 31) word) size)

-- what an assembler's state says, with the bytes of its header
abbrev pub progress_of : List ℕ → State → Progress
progress_of header (state.Header count) = AtHeader (take count header)
progress_of header (state.Fragment last due) = InFragment last due
progress_of header state.Message = Whole
progress_of header state.TooLong = TooLong

-- what a state keeps to, behind so many bytes of the record
abbrev pub StateFits : ℕ → State → Type 0
StateFits had (state.Header count) = (count < 4) × (had ≤ max_record_bytes)
StateFits had (state.Fragment last due) = (0 < due) × (had + due ≤ max_record_bytes)
StateFits had state.Message = had ≤ max_record_bytes
StateFits had state.TooLong = had ≤ max_record_bytes
