-- What a run of `replay` did with its source, its sink and its site, by the status with which it ended.
use Rattle.std.specs.Prelude.{◌≡◌, ◌≢◌, ◌+◌, ◌<◌, ◌≤◌, ◌^◌, ◌⊎◌, ℕ, true, List, [], ◌∷◌, ◌++◌, length, sum_by, take, Option, None, Some}
use Rattle.std.specs.List.{AllByRecursion}
use Rattle.sky_base.specs.declared.status.Status.{Status}
use Rattle.sky_base.specs.declared.status.Status.TheVariants.{Done, Words, Malformed, Early, SourceFault, SinkFault, JournalFault, CloudFault, Memory, Foreign, Missing, Damaged, Worn, Long, Settings}
use Rattle.sky_outside.specs.Count.{Rose}
use Rattle.sky_outside.specs.CloudMap.{CloudMap}
use Rattle.sky_outside.specs.Moments.{LeavesOnly, MayLeaveNow, OfPair}
use Rattle.sky_outside.specs.Told.{WhereTold, Had, Given}
use Rattle.sky_outside.specs.declared.storage.Storage.{Ghosts}
use Rattle.sky_xdr.specs.Encoding.{AreBytes}
use Rattle.sky_recover.specs.Opening.{Found, IsFoundOn, LeavesFound, WhereBothTold}
use Rattle.sky_script.specs.Frame.{InFrame, Begin, Bytes, End as EndFrame, Restart, OutFrame, Ended, IsInFrame, session_count, in_frame, in_frames, out_frame, out_frames, magic}
use Rattle.sky_script.specs.Beginning.{IsRefused, IsCutShort}
use Rattle.sky_settings.specs.declared.settings.Fields.{Fields}
use Rattle.sky_sound.specs.Boot.{Claims, MayClaim}
use Rattle.sky_sound.specs.Recovery.{FindsSame}
use Rattle.sky_world.specs.Finding.{FindsPrefix, LeftWithin, RecordUnderWay, floor_of}
use Rattle.sky_world.specs.Laws.{NoneOutOfMemory}
use Rattle.sky_world.specs.Meaning.{State, Absent, Supply, Ample, Scarce, start, opening, session_at, Step, Steps}
use Rattle.sky_sound.specs.Kept.{Kept}
use Rattle.sky_world.specs.Opening.{IsRefusedAs, LeavesCloudAs, LeavesRefusedAs, MayRefuse}
use Rattle.sky_world.specs.World.{IsRestart, Stands, WorldView, restarts_by, tells}

-- how many frames a recording may have, the end among them
abbrev pub frame_limit : ℕ
frame_limit = 2 ^ 32

-- ---- what is handled

-- The course of a run: the state of its opening, the frames that it handled from there on, their answers, and the state after them.
pub record Course : Type 0 where
  pub first : State
  pub frames : List InFrame
  pub answers : List OutFrame
  pub last : State

-- before any frame
abbrev pub no_course : State → Course
no_course first = record { first = first; frames = []; answers = []; last = first }

-- and with a frame more, that was answered by these and led to this state
abbrev pub further : Course → InFrame → List OutFrame → State → Course
further course f outs new = record { first = course.first; frames = course.frames ++ f ∷ []; answers = course.answers ++ outs; last = new }

-- with so much memory, each frame of a course has a step, and they are what leads from its first state to its last
pub record IsCourse (memory : Supply) (course : Course) : Type 0 where
  pub formed : AllByRecursion IsInFrame course.frames
  pub steps : Steps memory course.first course.frames course.answers course.last

-- the bytes of a recording: the magic, these frames, and what follows
abbrev pub recording : List InFrame → List ℕ → List ℕ
recording frames next = magic ++ in_frames frames ++ next

-- the bytes of what is written: the magic, the frame of the opening that found this, and answers
abbrev pub session_bytes : Found → List OutFrame → List ℕ
session_bytes found answers = magic ++ out_frames (opening found ∷ answers)

-- how many of these frames are restarts, each of which claims an epoch
abbrev pub restarts_in : List InFrame → ℕ
restarts_in frames = sum_by restarts_by frames

-- ---- what a run does with its source

-- what a source had before a run, and what it has left after it, where it tells
pub record SourceUse : Type 0 where
  pub had : Option (List ℕ)
  pub left : Option (List ℕ)

-- these bytes were taken from it, and no byte more
abbrev pub Took : SourceUse → List ℕ → Type 0
Took source bytes = Had source.had source.left bytes

-- nothing was taken from it
abbrev pub TookNothing : SourceUse → Type 0
TookNothing source = source.left ≡ source.had

-- It was read as far as what is no recording: eight bytes that are not the magic, at 0, or behind these frames what is refused,
-- at its first byte.
pub data TookRefused (source : SourceUse) (frames : List InFrame) (at : ℕ) : Type 0 where
  other_magic : (taken : List ℕ) → frames ≡ [] → at ≡ 0 → length taken ≡ 8 → taken ≢ magic → Took source taken → TookRefused source frames at
  no_frame : (taken : List ℕ) → at ≡ 8 + length (in_frames frames) → IsRefused taken → Took source (recording frames taken) → TookRefused source frames at

-- It was read within the magic; or, behind these frames, within the next one.
pub data TookPart (source : SourceUse) (frames : List InFrame) : Type 0 where
  within_magic : (taken : List ℕ) → frames ≡ [] → length taken < 8 → Took source taken → TookPart source frames
  within_frame : (taken : List ℕ) → IsCutShort taken → Took source (recording frames taken) → TookPart source frames

-- a recording may go on behind so many frames
abbrev pub AreFew : List InFrame → Type 0
AreFew frames = length frames < frame_limit

-- how far it was read behind these frames, by the status, where the bytes decide that
abbrev pub ReadTo : Status → SourceUse → List InFrame → Type 0
ReadTo Done source frames = AreFew frames × Took source (recording frames (in_frame EndFrame))
ReadTo (Malformed at) source frames = AreFew frames × TookRefused source frames at
ReadTo Early source frames = AreFew frames × TookPart source frames × WhereTold source.left (λ rest. rest ≡ [])
ReadTo Long source frames = (length frames ≡ frame_limit) × Took source (recording frames [])
ReadTo _ source frames = ⊥

-- ---- what a run does with its sink

-- what a sink had been given before a run, and what after it, where it tells, and its counts of faults
pub record SinkUse : Type 0 where
  pub before : Option (List ℕ)
  pub after : Option (List ℕ)
  pub faults_before : ℕ
  pub faults_after : ℕ

-- these bytes were given to it, and no byte more
abbrev pub Gave : SinkUse → List ℕ → Type 0
Gave sink bytes = Given sink.before sink.after bytes

-- It was given the body, and of what was to follow a prefix that is not all of it.
pub record GaveUpTo (sink : SinkUse) (body more : List ℕ) : Type 0 where
  pub kept : ℕ
  pub less : kept < length more
  pub given : Gave sink (body ++ take kept more)

-- It was given the body, and then the last frame with this status: all of it, and no write failed; or less of it, and one did.
pub record GaveEnding (sink : SinkUse) (body : List ℕ) (status : Status) : Type 0 where
  pub kept : ℕ
  pub given : Gave sink (body ++ take kept (out_frame (Ended status)))
  pub whole : length (out_frame (Ended status)) ≤ kept → sink.faults_after ≡ sink.faults_before
  pub cut : kept < length (out_frame (Ended status)) → Rose sink.faults_before sink.faults_after

-- The count did not fall. It rose where the sink is blamed, and it stayed where all was written.
pub record SinkCounts (before now : ℕ) (status : Status) : Type 0 where
  pub grows : before ≤ now
  pub cause : status ≡ SinkFault → Rose before now
  pub quiet : status ≡ Done → now ≡ before

-- what a run used, and what its opening found
pub record Used : Type 0 where
  pub source : SourceUse
  pub sink : SinkUse
  pub found : Found

-- what it had written behind a course
abbrev pub written_by : Used → Course → List ℕ
written_by used course = session_bytes used.found course.answers

-- ---- what a run does with its site

-- What a crash leaves within one of the steps of a course. The answers are those of the course: those of the frames before, those of the step, and the rest.
pub record LeftBetween (course : Course) (image : List ℕ) (objects : CloudMap) : Type 0 where
  -- the frames before the step, its own, and those behind it
  pub before : List InFrame
  pub f : InFrame
  pub behind : List InFrame
  pub parts : course.frames ≡ before ++ f ∷ behind
  pub said : List OutFrame
  pub outs : List OutFrame
  pub rest : List OutFrame
  pub answers : course.answers ≡ said ++ outs ++ rest
  pub old : State
  pub new : State
  pub handled : Steps Scarce course.first before said old
  pub step : Step Scarce old f outs new
  pub goes_on : Steps Scarce new behind rest course.last
  pub left : LeftWithin old f outs image objects

-- What a run came to. The frame that was under way, where it ended within one, with its answers up to the record at which it ended. What recovery finds behind it:
-- the epoch that the next one is greater than, how many changes at least, and of which history. How many epochs were claimed. And the restart that
-- came to no end, if one did.
pub record End : Type 0 where
  pub under_way : Option (InFrame × List OutFrame)
  pub epoch : ℕ
  pub floor : ℕ
  pub kept : Kept
  pub claims : ℕ
  pub restart : Option InFrame

-- behind a course, between two steps: the mark, and each restart claimed an epoch, as the opening did
abbrev pub end_at : Course → End
end_at course = record {
  under_way = None;
  epoch = course.last.epoch;
  floor = course.last.kept.mark;
  kept = course.last.kept;
  claims = 1 + restarts_in course.frames;
  restart = None;
}

-- what a crash leaves within the frame that was under way behind a course
abbrev pub LeftInLast : State → Option (InFrame × List OutFrame) → OfPair
LeftInLast last None image objects = ⊥
LeftInLast last (Some x) image objects = LeftWithin last x.0 x.1 image objects

-- what recovery finds behind a run that came to this end
abbrev pub FindsAtEnd : End → OfPair
FindsAtEnd end image objects = FindsPrefix end.epoch end.floor end.kept image objects

-- From s to t, over a run that handled this course and came to this end. Where the site tells what it has, after a crash at any moment recovery finds the same as at
-- the start, or what a crash leaves within one of the steps or within the last frame, or what is found behind the run; and after a crash behind it, that alone. In the
-- cloud nothing was changed but by the boot objects of the epochs.
pub record LeavesOfRun {S : Type 0} (g : Ghosts S) (settings : Fields) (s t : S) (course : Course) (end : End) : Type 0 where
  pub any_moment : WhereBothTold g s (λ read held. LeavesOnly g s t (λ image objects.
      FindsSame settings.volume settings.journal_area read held image objects ⊎ LeftBetween course image objects
      ⊎ LeftInLast course.last end.under_way image objects ⊎ FindsAtEnd end image objects))
  pub behind : WhereBothTold g s (λ read held. (image : List ℕ) (objects : CloudMap) → MayLeaveNow g t image objects → FindsAtEnd end image objects)
  pub boots : Claims end.claims (g.objects s) (g.objects t)

-- ---- how a run ends

-- The sink failed at an answer to the frame that was read last: it was given the answers before the record under way, and of its own one less than all. What that
-- one acknowledges is stable all the same.
pub record AnswerFailed (used : Used) (course : Course) (end : End) : Type 0 where
  pub f : InFrame
  pub formed : IsInFrame f
  pub under : RecordUnderWay course.last f
  -- the whole frame has a step, whose answers begin so
  pub rest : List OutFrame
  pub new : State
  pub step : Step Scarce course.last f ((under.said ++ under.own) ++ rest) new
  pub took : Took used.source (recording course.frames (in_frame f))
  pub gave : GaveUpTo used.sink (session_bytes used.found (course.answers ++ under.said)) (out_frames under.own)
  pub end_is : end ≡ record {
    under_way = Some (f, under.said ++ under.own);
    epoch = under.next.epoch;
    floor = under.next.kept.mark;
    kept = under.next.kept;
    claims = 1 + restarts_in (course.frames ++ f ∷ []);
    restart = None;
  }

-- The sink failed: at the frame of the opening, before anything was read; at an answer to the frame that was read last; or at the last frame, behind the end.
pub data SinkFailed (used : Used) (course : Course) (end : End) : Type 0 where
  at_opening : course.frames ≡ [] → end ≡ end_at course → TookNothing used.source → GaveUpTo used.sink magic (out_frame (opening used.found))
      → SinkFailed used course end
  at_answer : AnswerFailed used course end → SinkFailed used course end
  at_end : end ≡ end_at course → Took used.source (recording course.frames (in_frame EndFrame)) → GaveUpTo used.sink (written_by used course) (out_frame (Ended Done))
      → SinkFailed used course end

-- A restart, which was read last, came to no end, and the run ended with this status, which such a restart may be refused with: a site that tells what
-- it has is refused for nothing but that no epoch is left. All that was written before it was given. It may have claimed its epoch.
pub record EndsInRestart (used : Used) (course : Course) (status : Status) (end : End) : Type 0 where
  pub f : InFrame
  pub restart : IsRestart f
  pub cause : MayRefuse status course.last
  pub took : Took used.source (recording course.frames (in_frame f))
  pub gave : GaveEnding used.sink (written_by used course) status
  pub claims : (end.claims ≡ 1 + restarts_in course.frames) ⊎ (end.claims ≡ 1 + restarts_in (course.frames ++ f ∷ []))
  pub end_is : end ≡ record {
    under_way = None;
    epoch = course.last.epoch;
    floor = floor_of f course.last;
    kept = course.last.kept;
    claims = end.claims;
    restart = Some f;
  }

-- A call of the journal's disk failed in a record of the frame that was read last. Of that frame, the sink was given the answers before this record, whose changes
-- are stable.
pub record RecordFailed (used : Used) (course : Course) (end : End) : Type 0 where
  pub session : ℕ
  pub payload : List ℕ
  pub formed : IsInFrame (Bytes session payload)
  pub under : RecordUnderWay course.last (Bytes session payload)
  pub unsaid : OutFrame
  pub own_is : under.own ≡ unsaid ∷ []
  pub took : Took used.source (recording course.frames (in_frame (Bytes session payload)))
  pub gave : GaveEnding used.sink (session_bytes used.found (course.answers ++ under.said)) JournalFault
  pub end_is : end ≡ record {
    under_way = Some (Bytes session payload, under.said ++ under.own);
    epoch = course.last.epoch;
    floor = under.mid.kept.mark;
    kept = under.next.kept;
    claims = 1 + restarts_in course.frames;
    restart = None;
  }

-- There was no memory for a session that had not begun before, and begins in the frame that was read last.
pub record BeginFailed (used : Used) (course : Course) (end : End) : Type 0 where
  pub session : ℕ
  pub within : session < session_count
  pub absent : session_at course.last session ≡ Absent
  pub took : Took used.source (recording course.frames (in_frame (Begin session)))
  pub gave : GaveEnding used.sink (written_by used course) Memory
  pub end_is : end ≡ end_at course

-- the run ended between two steps, and the last frame says so
pub record RanToRest (used : Used) (course : Course) (status : Status) (end : End) : Type 0 where
  pub gave : GaveEnding used.sink (written_by used course) status
  pub end_is : end ≡ end_at course

-- what was read and written behind a course, by the status, and to what it came
abbrev pub EndsBy : Status → Used → Course → End → Type 0
EndsBy Done used course end =
    ReadTo Done used.source course.frames × Gave used.sink (session_bytes used.found (course.answers ++ Ended Done ∷ [])) × (end ≡ end_at course)
EndsBy (Malformed at) used course end = ReadTo (Malformed at) used.source course.frames × RanToRest used course (Malformed at) end
EndsBy Early used course end = ReadTo Early used.source course.frames × RanToRest used course Early end
EndsBy Long used course end = ReadTo Long used.source course.frames × RanToRest used course Long end
EndsBy SourceFault used course end = AreFew course.frames × TookPart used.source course.frames × RanToRest used course SourceFault end
EndsBy SinkFault used course end = AreFew course.frames × SinkFailed used course end
EndsBy JournalFault used course end = AreFew course.frames × (RecordFailed used course end ⊎ EndsInRestart used course JournalFault end)
EndsBy Memory used course end = AreFew course.frames × (BeginFailed used course end ⊎ EndsInRestart used course Memory end)
EndsBy CloudFault used course end = AreFew course.frames × EndsInRestart used course CloudFault end
EndsBy (Foreign at) used course end = AreFew course.frames × EndsInRestart used course (Foreign at) end
EndsBy (Missing name) used course end = AreFew course.frames × EndsInRestart used course (Missing name) end
EndsBy (Damaged name damage) used course end = AreFew course.frames × EndsInRestart used course (Damaged name damage) end
EndsBy Worn used course end = AreFew course.frames × EndsInRestart used course Worn end
-- these come before an opening
EndsBy Words used course end = ⊥
EndsBy Settings used course end = ⊥

-- The last step of a run from s to t, behind a course that came to this end with this status: a site on which a world stands for the state. Up to it the
-- counts of faults were what they were at s, as no call of the devices had failed; and a restart that was refused in it for what the site has, left that as it was.
pub record LastStep {S : Type 0} (g : Ghosts S) (s t : S) (state : State) (status : Status) (end : End) : Type 0 where
  pub world : WorldView
  pub site : S
  pub stands : Stands g world site state
  pub disk : g.disk_faults site ≡ g.disk_faults s
  pub cloud : g.cloud_faults site ≡ g.cloud_faults s
  pub untouched : end.restart ≡ Some Restart → LeavesRefusedAs g site t status
  pub untouched_cloud : LeavesCloudAs g site t status

-- A run from s to t that opened the site, and ended with this status: it handled the frames of a course from the opening on, gave the sink all their
-- answers, and then ended so. For some of the calls there may have been no memory. No crash loses a change that was stable. A call
-- of the site that failed is one of the last step: none failed before it, but where the sink failed at the frame of the opening.
pub record RanOn {S : Type 0} (g : Ghosts S) (settings : Fields) (s t : S) (status : Status) (source : SourceUse) (sink : SinkUse) : Type 0 where
  pub found : Found
  pub course : Course
  pub end : End
  pub opened : IsFoundOn g settings.volume settings.journal_area s found
  pub begins : course.first ≡ start (tells g s) found
  pub handled : IsCourse Scarce course
  pub ends : EndsBy status (record { source = source; sink = sink; found = found }) course end
  pub last_step : ((status ≡ SinkFault) × (course.frames ≡ [])) ⊎ LastStep g s t course.last status end
  pub leaves : LeavesOfRun g settings s t course end

-- what was written by a run that did not open its site: nothing, where the words or the settings were refused; or the magic, and the last frame
abbrev pub GaveUnopened : Status → SinkUse → Type 0
GaveUnopened Words sink = sink.after ≡ sink.before
GaveUnopened Settings sink = sink.after ≡ sink.before
GaveUnopened SinkFault sink = GaveUpTo sink [] magic
GaveUnopened JournalFault sink = GaveEnding sink magic JournalFault
GaveUnopened CloudFault sink = GaveEnding sink magic CloudFault
GaveUnopened Memory sink = GaveEnding sink magic Memory
GaveUnopened (Foreign at) sink = GaveEnding sink magic (Foreign at)
GaveUnopened (Missing name) sink = GaveEnding sink magic (Missing name)
GaveUnopened (Damaged name damage) sink = GaveEnding sink magic (Damaged name damage)
GaveUnopened Worn sink = GaveEnding sink magic Worn
GaveUnopened _ sink = ⊥

-- A run from s to t that did not open its site, and ended with this status: nothing was read. A site that was refused for what it has is left as it
-- was, and after a crash at any moment recovery finds the same as before. In the cloud nothing was changed but by the boot object of one epoch.
pub record RanUnopened {S : Type 0} (g : Ghosts S) (settings : Fields) (s t : S) (status : Status) (source : SourceUse) (sink : SinkUse) : Type 0 where
  pub took : TookNothing source
  pub gave : GaveUnopened status sink
  pub refused : WhereBothTold g s (IsRefusedAs settings.volume settings.journal_area status)
  pub untouched : LeavesRefusedAs g s t status
  pub leaves : LeavesFound g settings.volume settings.journal_area s t
  pub boots : MayClaim 1 (g.objects s) (g.objects t)

abbrev pub Ran : {S : Type 0} → Ghosts S → Fields → S → S → Status → SourceUse → SinkUse → Type 0
Ran g settings s t status source sink = RanUnopened g settings s t status source sink ⊎ RanOn g settings s t status source sink

-- ---- what the bytes of a source ask for

-- A reading of a recording, with so much memory: a course of its frames is handled, and then it stops with this status and leaves the rest.
pub record IsReading (memory : Supply) (bytes : List ℕ) (course : Course) (status : Status) (rest : List ℕ) : Type 0 where
  pub handled : IsCourse memory course
  pub read : ReadTo status (record { had = Some bytes; left = Some rest }) course.frames

-- From each opening of a site that tells what it has, a recording has a reading with memory for every call, and no two. How much memory there is,
-- and what was found, does not matter to the frames, the status and the rest, on no site; and a reading whose answers do not tell a want
-- of memory is the one with memory for every call.
pub record HasOneReading (bytes : List ℕ) : Type 0 where
  pub some : (found : Found) → AreBytes bytes → (course : Course) × (status : Status) × (rest : List ℕ)
      × (course.first ≡ start true found) × IsReading Ample bytes course status rest
  pub one : (found : Found) (course other : Course) (status verdict : Status) (rest more : List ℕ)
      → course.first ≡ start true found → other.first ≡ start true found
      → IsReading Ample bytes course status rest → IsReading Ample bytes other verdict more
      → (course.frames ≡ other.frames) × (course.answers ≡ other.answers) × (course.last ≡ other.last) × (status ≡ verdict) × (rest ≡ more)
  pub any : (memory supply : Supply) (course other : Course) (status verdict : Status) (rest more : List ℕ)
      → IsReading memory bytes course status rest → IsReading supply bytes other verdict more
      → (course.frames ≡ other.frames) × (status ≡ verdict) × (rest ≡ more)
  pub told : (found : Found) (course : Course) (status : Status) (rest : List ℕ) → course.first ≡ start true found
      → IsReading Scarce bytes course status rest → NoneOutOfMemory course.answers
      → IsReading Ample bytes course status rest

-- the statuses that blame a device or the memory, or what the site had
abbrev pub IsFree : Status → Type 0
IsFree SourceFault = Unit {0}
IsFree SinkFault = Unit {0}
IsFree JournalFault = Unit {0}
IsFree CloudFault = Unit {0}
IsFree Memory = Unit {0}
IsFree (Foreign at) = Unit {0}
IsFree (Missing name) = Unit {0}
IsFree (Damaged name damage) = Unit {0}
IsFree Worn = Unit {0}
IsFree _ = ⊥

-- the status is that of the reading of these bytes, whatever was found, unless it blames a device, the memory, or what the site had
abbrev pub IsExact : Status → List ℕ → Type 0
IsExact status bytes =
    (memory : Supply) (course : Course) (expected : Status) (rest : List ℕ) → IsReading memory bytes course expected rest → (status ≡ expected) ⊎ IsFree status

-- a status that says what the site had is none of a site that is sound
abbrev pub IsOfDamage : Status → Type 0
IsOfDamage (Foreign at) = Unit {0}
IsOfDamage (Missing name) = Unit {0}
IsOfDamage (Damaged name damage) = Unit {0}
IsOfDamage _ = ⊥

-- a status of a run that began
abbrev pub IsReplayed : Status → Type 0
IsReplayed Words = ⊥
IsReplayed Settings = ⊥
IsReplayed _ = Unit {0}
