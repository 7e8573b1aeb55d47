-- What contracts see of an assembler, and what its fields keep to.
use Rattle.std.specs.Prelude.{◌≤◌, length}
use Rattle.std.specs.Vec.{vec_capacity}
use Rattle.sky_base.specs.Limits.{max_record_bytes}
use Rattle.sky_record.specs.declared.assembler.Assembler.TheInside.{Inside}
use Rattle.sky_record.specs.Stream.{Received}
use Rattle.sky_record.specs.Parts.{progress_of, StateFits}

-- the record's bytes, and how far it has come
abbrev pub received : Inside → Received
received a = record { bytes = a.bytes.items; progress = progress_of a.header a.state }

-- the record has its room, and the state is within the limit
pub record IsKept (a : Inside) : Type 0 where
  pub room : max_record_bytes ≤ vec_capacity a.bytes
  pub fits : StateFits (length a.bytes.items) a.state
