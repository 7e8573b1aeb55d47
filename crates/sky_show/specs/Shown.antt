-- What is shown of answers: which frames were read, and which lines were written for them.
use Rattle.std.specs.Prelude.{◌≡◌, ◌≢◌, ◌==◌, ◌+◌, ◌^◌, ℕ, List, [], ◌++◌, Option, codes, length, if◌then◌else◌}
use Rattle.std.specs.Fmt.{decimal}
use Rattle.std.specs.List.{flat_map, AllByRecursion}
use Rattle.sky_outside.specs.Told.{WhereTold, Had, Given, GivenPart}
use Rattle.sky_script.specs.Frame.{Parts, frame, magic}
use Rattle.sky_show.specs.Frames.{HadSome, IsTooLong}
use Rattle.sky_show.specs.Line.{line}
use Rattle.sky_show.specs.declared.answers.AnswerFault.{AnswerFault}
use Rattle.sky_show.specs.declared.answers.AnswerFault.TheVariants as fault
use Rattle.sky_show.specs.declared.ending.Ending.{Ending}
use Rattle.sky_show.specs.declared.ending.Ending.TheVariants as ending
use Rattle.sky_show.specs.declared.showing.Stop.{Stop}
use Rattle.sky_show.specs.declared.showing.Stop.TheVariants as stop

-- what the line of a frame begins with: the session where it is of one, and else what it is
abbrev pub head_of : ℕ → ℕ → List ℕ
head_of kind session =
    if kind == 2 then codes "session " ++ decimal session ++ codes " "
    else (if kind == 3 then codes "session " ++ decimal session ++ codes " "
    else (if kind == 10 then codes "seal: "
    else (if kind == 11 then codes "upload: "
    else (if kind == 12 then codes "evict: "
    else (if kind == 13 then codes "clean: "
    else (if kind == 14 then codes "merge: "
    else (if kind == 15 then codes "collect: "
    else (if kind == 16 then codes "numbers: "
    else (if kind == 19 then codes "opened: "
    else (if kind == 99 then codes "end: "
    else codes "frame of kind " ++ decimal kind ++ codes ": "))))))))))

-- a frame of the answers, and what its line says behind its beginning
pub record Shown : Type 0 where
  pub answer : Parts
  pub text : List ℕ

-- the line of a frame: one line, whatever the text is
abbrev pub line_for : Shown → List ℕ
line_for s = line (head_of s.answer.kind s.answer.session ++ s.text)

-- the frames, one behind the other
abbrev pub frames_of : List Shown → List ℕ
frames_of shown = flat_map (λ s. frame s.answer) shown

-- and their lines, in the same order
abbrev pub lines_of : List Shown → List ℕ
lines_of shown = flat_map line_for shown

-- a frame does not end the answers
abbrev pub GoesOn : Shown → Type 0
GoesOn s = s.answer.kind ≢ 99

-- What was read of the answers and written, where no further frame is shown, by the cause.
abbrev pub StoppedBy : Stop → Option (List ℕ) → Option (List ℕ) → Option (List ℕ) → Option (List ℕ) → Type 0
-- the frame that ends the answers was shown
StoppedBy stop.End had left before after =
    (s : Shown) × (s.answer.kind ≡ 99) × Had had left (frame s.answer) × Given before after (line_for s)
-- the payload would be too long
StoppedBy stop.Malformed had left before after =
    (taken : List ℕ) × IsTooLong taken × Had had left taken × (after ≡ before)
-- the line of a frame was written in part
StoppedBy (stop.Ended ending.SinkFault) had left before after =
    (s : Shown) × Had had left (frame s.answer) × GivenPart before after (line_for s)
-- the answers ended
StoppedBy (stop.Ended ending.Early) had left before after =
    HadSome had left × (after ≡ before) × WhereTold left (λ rest. rest ≡ [])
-- one of the sources failed, or there was no memory: nothing more was written
StoppedBy (stop.Ended other) had left before after = HadSome had left × (after ≡ before)

-- which causes there are
abbrev pub IsStop : Stop → Type 0
IsStop stop.End = Unit {0}
IsStop stop.Malformed = Unit {0}
IsStop (stop.Ended ending.Early) = Unit {0}
IsStop (stop.Ended ending.AnswersFault) = Unit {0}
IsStop (stop.Ended ending.RecordingFault) = Unit {0}
IsStop (stop.Ended ending.SinkFault) = Unit {0}
IsStop (stop.Ended ending.Memory) = Unit {0}
IsStop (stop.Ended _) = ⊥

-- the cause that a fault of reading a frame is
abbrev pub stop_of : AnswerFault → Stop
stop_of fault.Malformed = stop.Malformed
stop_of fault.Early = stop.Ended ending.Early
stop_of fault.SourceFault = stop.Ended ending.AnswersFault

-- how the program ends then, where the next frame was due at this place
abbrev pub ending_of : Stop → ℕ → Ending
ending_of stop.End place = ending.Shown
ending_of stop.Malformed place = ending.Malformed place
ending_of (stop.Ended e) place = e

-- how many frames answers may have
abbrev pub frame_limit : ℕ
frame_limit = 2 ^ 40

-- Frames were shown, none of which ends the answers: they were read from what was had, up to what was left, and their lines were
-- written behind what was written before.
pub record WereShown (shown : List Shown) (had left before after : Option (List ℕ)) : Type 0 where
  pub read : Had had left (frames_of shown)
  pub written : Given before after (lines_of shown)
  pub go_on : AllByRecursion GoesOn shown

-- It ended so behind frames that were shown: by a cause, or since there were too many.
pub data EndedBehind (result : Ending) (place : ℕ) (shown : List Shown) (had left before after : Option (List ℕ)) : Type 0 where
  stopped : (why : Stop) → IsStop why → result ≡ ending_of why place → StoppedBy why had left before after → EndedBehind result place shown had left before after
  long : result ≡ ending.Long → length shown ≡ frame_limit → left ≡ had → after ≡ before → EndedBehind result place shown had left before after

-- Frame after frame was shown, and then it ended so. The first frame was due at this place.
pub record RanFrom (place : ℕ) (result : Ending) (had left before after : Option (List ℕ)) : Type 0 where
  pub shown : List Shown
  pub behind : Option (List ℕ)
  pub given : Option (List ℕ)
  pub were : WereShown shown had behind before given
  pub ended : EndedBehind result (place + length (frames_of shown)) shown behind left given after

-- What a run over answers is: they begin with the magic, and then frame after frame is shown; or it ended before the first frame, and nothing
-- was written.
pub data Ran (result : Ending) (had left before after : Option (List ℕ)) : Type 0 where
  began : (behind : Option (List ℕ)) → Had had behind magic → RanFrom 8 result behind left before after → Ran result had left before after
  no_magic : (taken : List ℕ) → length taken ≡ 8 → taken ≢ magic → Had had left taken → result ≡ ending.Malformed 0 → after ≡ before → Ran result had left before after
  no_start : IsStop (stop.Ended result) → result ≢ ending.SinkFault → HadSome had left → (result ≡ ending.Early → WhereTold left (λ rest. rest ≡ [])) → after ≡ before → Ran result had left before after
