-- How far a record has come on a stream, and what a stream reads as (RFC 5531, section 11).
use Rattle.std.specs.Prelude.{◌≡◌, ℕ, ◌+◌, ◌^◌, ◌<◌, ◌≤◌, Bool, List, [], ◌∷◌, ◌++◌, length}
use Rattle.sky_base.specs.Limits.{max_record_bytes}
use Rattle.sky_record.specs.Record.{header, IsRecord, IsRecordPrefix}

-- how far a record has come: at a header, of which these bytes have come; in a fragment, the last one or not, of
-- which so many bytes are due; to its end; or at a header that makes it pass the limit
pub data Progress : Type 0 where
  AtHeader : List ℕ → Progress
  InFragment : Bool → ℕ → Progress
  Whole : Progress
  TooLong : Progress

-- what has come of a record: its bytes so far, without the headers, and how far it is
pub record Received : Type 0 where
  pub bytes : List ℕ
  pub progress : Progress

-- nothing of a record
abbrev pub nothing : Received
nothing = record { bytes = []; progress = AtHeader [] }

-- the record is neither whole nor too long, so it goes on with the next byte
abbrev pub IsOpen : Progress → Type 0
IsOpen (AtHeader part) = Unit {0}
IsOpen (InFragment last due) = Unit {0}
IsOpen Whole = ⊥
IsOpen TooLong = ⊥

-- The text is whole fragments, and then fewer than the four bytes of a header.
pub record StopsAtHeader (text bytes part : List ℕ) : Type 0 where
  pub prefix : List ℕ
  pub is_prefix : IsRecordPrefix prefix bytes
  pub text_is : text ≡ prefix ++ part
  pub short : length part < 4

-- The text is whole fragments, a header within the limit, and all but `due` bytes of its fragment.
pub record StopsInFragment (text bytes : List ℕ) (last : Bool) (due : ℕ) : Type 0 where
  pub prefix : List ℕ
  pub before : List ℕ
  pub part : List ℕ
  pub is_prefix : IsRecordPrefix prefix before
  pub text_is : text ≡ prefix ++ (header last (length part + due) ++ part)
  pub bytes_is : bytes ≡ before ++ part
  pub some_due : 0 < due
  pub within : length bytes + due ≤ max_record_bytes

-- The text is whole fragments, and then a header that makes the record pass the limit.
pub record StopsTooLong (text bytes : List ℕ) : Type 0 where
  pub prefix : List ℕ
  pub last : Bool
  pub size : ℕ
  pub is_prefix : IsRecordPrefix prefix bytes
  pub text_is : text ≡ prefix ++ header last size
  pub size_fits : size < 2 ^ 31
  pub passes : max_record_bytes < length bytes + size

-- with this text these bytes of a record have come, and the record has come so far
abbrev pub IsSoFar : List ℕ → List ℕ → Progress → Type 0
IsSoFar text bytes (AtHeader part) = StopsAtHeader text bytes part
IsSoFar text bytes (InFragment last due) = StopsInFragment text bytes last due
IsSoFar text bytes Whole = IsRecord text bytes
IsSoFar text bytes TooLong = StopsTooLong text bytes

-- with this text so much of a record is received
abbrev pub Comes : List ℕ → Received → Type 0
Comes text received = IsSoFar text received.bytes received.progress

-- A stream that begins with no whole record: it ends within a record, which may be before its first byte, or it has a header
-- that makes the record pass the limit, and what comes after that header does not matter.
abbrev pub Ends : List ℕ → List ℕ → Progress → Type 0
Ends stream bytes (AtHeader part) = StopsAtHeader stream bytes part
Ends stream bytes (InFragment last due) = StopsInFragment stream bytes last due
Ends stream bytes Whole = ⊥
Ends stream bytes TooLong = (text after : List ℕ) × (stream ≡ text ++ after) × StopsTooLong text bytes

-- The stream is these records, one after the other, each as some fragments, and then this end.
abbrev pub ReadsRecords : List ℕ → List (List ℕ) → Received → Type 0
ReadsRecords stream [] end = Ends stream end.bytes end.progress
ReadsRecords stream (first ∷ others) end = (text rest : List ℕ) × (stream ≡ text ++ rest) × IsRecord text first × ReadsRecords rest others end

-- With this piece behind it a stream has these further records, and then this end.
pub record Completes (stream piece : List ℕ) (records : List (List ℕ)) (end : Received) : Type 0 where
  pub before : List (List ℕ)
  pub part : Received
  pub read : ReadsRecords stream before part
  pub goes_on : ReadsRecords (stream ++ piece) (before ++ records) end
