-- The recorded session: what goes into the proxy and what comes out of it, as frames, and how they are encoded.
use Rattle.std.specs.Prelude.{ℕ, ◌<◌, ◌≤◌, ◌^◌, ◌==◌, ◌&&◌, Bool, false, nat_lt, nat_le, if◌then◌else◌, List, [], ◌∷◌, ◌++◌, length}
use Rattle.std.specs.List.{flat_map}
use Rattle.sky_base.specs.declared.moment.Moment.{Moment}
use Rattle.sky_base.specs.declared.status.Status.{Status}
use Rattle.sky_base.specs.Limits.{max_payload_bytes, max_sessions}
use Rattle.sky_base.specs.Status.{number_of, place_of}
use Rattle.sky_xdr.specs.Encoding.{uint, uhyper, bool}
use Rattle.sky_script.specs.declared.frame.Stats.{Stats}

-- a frame as it is encoded: its kind, the session that it is of, and its payload
pub record Parts : Type 0 where
  pub kind : ℕ
  pub session : ℕ
  pub payload : List ℕ

-- what begins a frame: the kind, the session, and the length of the payload
abbrev pub header : ℕ → ℕ → ℕ → List ℕ
header kind session len = kind ∷ uint session ++ uint len

-- the encoding of a frame
abbrev pub frame : Parts → List ℕ
frame f = header f.kind f.session (length f.payload) ++ f.payload

-- how many sessions a recording may have, numbered from 0
abbrev pub session_count : ℕ
session_count = max_sessions

-- the most bytes that a frame's payload has
abbrev pub payload_limit : ℕ
payload_limit = max_payload_bytes

-- how many nanoseconds a second has
abbrev pub second : ℕ
second = 1000000000

-- ---- what goes in

-- a frame of a recorded session
pub data InFrame : Type 0 where
  -- 1: the session begins
  Begin : (session : ℕ) → InFrame
  -- 2: the next bytes of the session's stream
  Bytes : (session : ℕ) (payload : List ℕ) → InFrame
  -- 3: the session ends
  Close : (session : ℕ) → InFrame
  -- 4: the moment of the steps that follow
  SetMoment : (at : Moment) → InFrame
  -- 16: what the proxy has, as numbers
  Stat : InFrame
  -- 20: the proxy is stopped, and opened again
  Restart : InFrame
  -- 21: the same, and what its journal has is given up
  RestartWithoutJournal : InFrame
  -- 99: the end of the recording
  End : InFrame

-- how each is encoded
abbrev pub parts_of : InFrame → Parts
parts_of (Begin session) = record { kind = 1; session = session; payload = [] }
parts_of (Bytes session payload) = record { kind = 2; session = session; payload = payload }
parts_of (Close session) = record { kind = 3; session = session; payload = [] }
parts_of (SetMoment at) = record { kind = 4; session = 0; payload = uint at.seconds ++ uint at.nanos }
parts_of Stat = record { kind = 16; session = 0; payload = [] }
parts_of Restart = record { kind = 20; session = 0; payload = [] }
parts_of RestartWithoutJournal = record { kind = 21; session = 0; payload = [] }
parts_of End = record { kind = 99; session = 0; payload = [] }

abbrev pub in_frame : InFrame → List ℕ
in_frame f = frame (parts_of f)

abbrev pub in_frames : List InFrame → List ℕ
in_frames fs = flat_map in_frame fs

-- whether a header is one of a frame that may go in
abbrev pub is_header : ℕ → ℕ → ℕ → Bool
is_header kind session len =
    if kind == 1 then nat_lt session session_count && (len == 0)
    else (if kind == 2 then nat_lt session session_count && nat_le len payload_limit
    else (if kind == 3 then nat_lt session session_count && (len == 0)
    else (if kind == 4 then (session == 0) && (len == 8)
    else (if kind == 16 then (session == 0) && (len == 0)
    else (if kind == 20 then (session == 0) && (len == 0)
    else (if kind == 21 then (session == 0) && (len == 0)
    else (if kind == 99 then (session == 0) && (len == 0) else false)))))))

-- a frame that may go in
abbrev pub IsInFrame : InFrame → Type 0
IsInFrame (Begin session) = session < session_count
IsInFrame (Bytes session payload) = (session < session_count) × (length payload ≤ payload_limit)
IsInFrame (Close session) = session < session_count
IsInFrame (SetMoment at) = (at.seconds < 2 ^ 32) × (at.nanos < second)
IsInFrame Stat = Unit {0}
IsInFrame Restart = Unit {0}
IsInFrame RestartWithoutJournal = Unit {0}
IsInFrame End = Unit {0}

-- ---- what comes out

-- a frame of the proxy's answers
pub data OutFrame : Type 0 where
  -- 2: the record of one reply to a session
  Reply : (session : ℕ) (bytes : List ℕ) → OutFrame
  -- 3: the proxy closes the session
  Closed : (session : ℕ) → OutFrame
  -- 16: what the proxy has
  Counted : Stats → OutFrame
  -- 19: an opening: the epoch, how many changes it found, and whether some came from the journal
  Opened : (epoch changes : ℕ) (journal : Bool) → OutFrame
  -- 99: how the run ended
  Ended : Status → OutFrame

-- the numbers of what the proxy has, one behind the other
abbrev pub stats_bytes : Stats → List ℕ
stats_bytes s =
    uhyper s.history ++ uhyper s.mark ++ uhyper s.epoch ++ uhyper s.covers
    ++ uhyper s.merged ++ uhyper s.residents ++ uhyper s.proxy_bytes ++ uhyper s.cleaner_bytes

-- how each is encoded
abbrev pub out_parts_of : OutFrame → Parts
out_parts_of (Reply session bytes) = record { kind = 2; session = session; payload = bytes }
out_parts_of (Closed session) = record { kind = 3; session = session; payload = [] }
out_parts_of (Counted stats) = record { kind = 16; session = 0; payload = stats_bytes stats }
out_parts_of (Opened epoch changes journal) =
    record { kind = 19; session = 0; payload = uhyper epoch ++ uhyper changes ++ bool journal }
out_parts_of (Ended status) =
    record { kind = 99; session = 0; payload = uint (number_of status) ++ uhyper (place_of status) }

abbrev pub out_frame : OutFrame → List ℕ
out_frame f = frame (out_parts_of f)

abbrev pub out_frames : List OutFrame → List ℕ
out_frames fs = flat_map out_frame fs

-- a frame that may come out
abbrev pub IsOutFrame : OutFrame → Type 0
IsOutFrame (Reply session bytes) = length bytes ≤ payload_limit
IsOutFrame _ = Unit {0}

-- ---- the ends

-- what both begin with: SKYREC1 and a line end
abbrev pub magic : List ℕ
magic = 83 ∷ 75 ∷ 89 ∷ 82 ∷ 69 ∷ 67 ∷ 49 ∷ 10 ∷ []
