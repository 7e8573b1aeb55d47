-- How the payload of a frame is handled, piece by piece.
use Rattle.std.specs.Prelude.{◌≡◌, ℕ, ◌<◌, ◌^◌, Bool, true, false, IsTrue, List, [], ◌∷◌, ◌++◌, length, take, Option, Some, None, is_some}
use Rattle.sky_base.specs.declared.cred.Cred.{Cred}
use Rattle.sky_base.specs.declared.moment.Moment.{Moment}
use Rattle.sky_entry.specs.Entry.{entry_bytes}
use Rattle.sky_mount.specs.Mount as mount
use Rattle.sky_mount.specs.Values.{call_of}
use Rattle.sky_nfs.specs.declared.call.Call.{Call}
use Rattle.sky_nfs.specs.declared.status.NfsStatus.TheVariants.{Jukebox}
use Rattle.sky_outside.specs.CloudMap.{CloudMap}
use Rattle.sky_outside.specs.Moments.{BesideObjects, LeavesOnly, MayLeaveNow, SameCloud}
use Rattle.sky_outside.specs.Told.{BothTold, Given, WhereTold}
use Rattle.sky_outside.specs.declared.storage.Storage.{Ghosts}
use Rattle.sky_record.specs.Stream.{Received, TooLong, nothing, IsOpen, ReadsRecords}
use Rattle.sky_results.specs.Answers.{answer_bytes}
use Rattle.sky_rpc.specs.Reply.{Success, reply_record}
use Rattle.sky_rpc.specs.Values.{reply_of, results_count}
use Rattle.sky_script.specs.Frame.{InFrame, Bytes, OutFrame, Closed, out_frames}
use Rattle.sky_world.specs.declared.message.Message as declared
use Rattle.sky_world.specs.declared.message.Message.TheVariants as message
use Rattle.sky_world.specs.declared.sessions.Session.{Session}
use Rattle.sky_world.specs.Disk.{HoldsPrefix, LeavesPrefix, WentOn}
use Rattle.sky_world.specs.Finding.{RecordUnderWay}
use Rattle.sky_world.specs.Meaning as meaning
use Rattle.sky_world.specs.Meaning.{State, Scarce, Answered, called_by, kept_after, lacks_room, service_of, session_at, with_kept, with_session, frame_for, Step, StepRecords}
use Rattle.sky_sound.specs.Kept.{Kept}
use Rattle.sky_world.specs.Message.{procedure_count}
use Rattle.sky_world.specs.Service.{answer_to, bare_answer, reply_without_memory, takes_some}
use Rattle.sky_world.specs.World.{ServiceView, SinkGot, ServesFor, StandsAt, SessionStandsFor}

-- From s to t a record was answered, with none where the session is closed: in each state for which the service stands, it is answered
-- so, and afterwards the service stands for that state with what is kept then.
pub record Answers {S : Type 0} (g : Ghosts S) (old : ServiceView) (s : S) (bytes : List ℕ) (reply : Option (List ℕ)) (new : ServiceView) (t : S) : Type 0 where
  pub each : (state : State) → ServesFor g old s state
      → (after : Kept) × Answered Scarce state bytes reply after × ServesFor g new t (with_kept state after) × WentOn g s t state.kept.mark after

-- the image that a crash now leaves on the disk holds all changes up to the mark
abbrev pub IsStable : {S : Type 0} → Ghosts S → S → Kept → Type 0
IsStable g s kept = WhereTold (g.image s) (λ read. (image : List ℕ) → g.may_leave s image → HoldsPrefix kept.mark kept image)

-- What the answer to a record acknowledges is stable by t: in each state for which the service stood at s, the record is answered so, and a crash
-- leaves all changes up to the mark that there is then.
pub record Acknowledges {S : Type 0} (g : Ghosts S) (old : ServiceView) (s : S) (bytes : List ℕ) (reply : Option (List ℕ)) (t : S) : Type 0 where
  pub each : (state : State) → ServesFor g old s state → (after : Kept) × Answered Scarce state bytes reply after × IsStable g t after

-- From s to t a call of the disk failed for a record: in each state for which the service stands it would be answered by some reply.
pub record Fails {S : Type 0} (g : Ghosts S) (old : ServiceView) (s : S) (bytes : List ℕ) (t : S) : Type 0 where
  pub each : (state : State) → ServesFor g old s state
      → (reply : List ℕ) × (after : Kept) × Answered Scarce state bytes (Some reply) after × LeavesPrefix g s t state.kept.mark after

-- A call of NFS was answered by this record: by its procedure, or put off, or since there was no memory.
pub data Called (old : State) (xid procedure : ℕ) (cred : Cred) (call : Call) (reply : List ℕ) (after : Kept) : Type 0 where
  by_procedure : lacks_room old.kept (called_by cred call old.moment) ≡ false
      → reply ≡ reply_record xid (Success (answer_bytes (answer_to (service_of old) cred call)))
      → after ≡ kept_after old.kept (called_by cred call old.moment) → Called old xid procedure cred call reply after
  without_room : lacks_room old.kept (called_by cred call old.moment) ≡ true
      → reply ≡ reply_record xid (Success (answer_bytes (bare_answer procedure Jukebox))) → after ≡ old.kept → Called old xid procedure cred call reply after
  without_memory : IsTrue (takes_some (service_of old) cred call) → reply ≡ reply_record xid (reply_without_memory procedure) → after ≡ old.kept → Called old xid procedure cred call reply after

-- From s to t a call of NFS was answered by this record.
abbrev pub AnswersCall : {S : Type 0} → Ghosts S → ServiceView → S → ℕ → ℕ → Cred → Call → List ℕ → ServiceView → S → Type 0
AnswersCall g old s xid procedure cred call reply new t =
    (state : State) → ServesFor g old s state
    → (after : Kept) × Called state xid procedure cred call reply after × ServesFor g new t (with_kept state after) × WentOn g s t state.kept.mark after

-- From s to t a call of the disk failed for a call of NFS.
abbrev pub FailsCall : {S : Type 0} → Ghosts S → ServiceView → S → ℕ → ℕ → Cred → Call → S → Type 0
FailsCall g old s xid procedure cred call t =
    (state : State) → ServesFor g old s state
    → (reply : List ℕ) × (after : Kept) × Called state xid procedure cred call reply after × LeavesPrefix g s t state.kept.mark after

-- what a message has that is answered
abbrev pub IsFormed : declared.Message → Type 0
IsFormed (message.Refused xid reply) = results_count reply ≡ 0
IsFormed (message.Nfs xid procedure cred call) = procedure < procedure_count
IsFormed (message.OutOfMemory xid procedure) = procedure < procedure_count
IsFormed _ = Unit {0}

-- the entry of a call of NFS, at whatever moment, has fewer than 2^32 bytes
abbrev pub IsSmall : declared.Message → Type 0
IsSmall (message.Nfs xid procedure cred call) = (moment : Moment) → length (entry_bytes (called_by cred call moment)) < 2 ^ 32
IsSmall _ = Unit {0}

-- From s to t nothing happened.
abbrev pub Rests : {S : Type 0} → ServiceView → S → ServiceView → S → Type 0
Rests old s new t = (new ≡ old) × (t ≡ s)

-- a message was answered by this record, or by none
abbrev pub AnswersMessage : {S : Type 0} → Ghosts S → ServiceView → S → declared.Message → Option (List ℕ) → ServiceView → S → Type 0
AnswersMessage g old s message.Close reply new t = (reply ≡ None) × Rests old s new t
AnswersMessage g old s (message.Refused xid why) reply new t = (reply ≡ Some (reply_record xid (reply_of why []))) × Rests old s new t
AnswersMessage g old s (message.Mount xid call) reply new t = (reply ≡ Some (reply_record xid (Success (mount.results old.tree.volume (call_of call))))) × Rests old s new t
AnswersMessage g old s (message.Nfs xid procedure cred call) reply new t = (bytes : List ℕ) × (reply ≡ Some bytes) × AnswersCall g old s xid procedure cred call bytes new t
AnswersMessage g old s (message.OutOfMemory xid procedure) reply new t = (reply ≡ Some (reply_record xid (reply_without_memory procedure))) × Rests old s new t

-- a call of the disk failed for a message, which is a call of NFS
abbrev pub FailsMessage : {S : Type 0} → Ghosts S → ServiceView → S → declared.Message → S → Type 0
FailsMessage g old s (message.Nfs xid procedure cred call) t = FailsCall g old s xid procedure cred call t
FailsMessage g old s _ t = ⊥

-- where a stream ended within a record, of which `old` was received, and bytes came: it has these further records, and
-- of the next one `new` is received
abbrev pub GoesOn : Received → List ℕ → List (List ℕ) → Received → Type 0
GoesOn old bytes further new =
    (stream : List ℕ) (records : List (List ℕ)) → ReadsRecords stream records old → ReadsRecords (stream ++ bytes) (records ++ further) new

-- What became of bytes that an open session took, by what was received before and after: which frames answer them, and
-- whether the session stays open.
pub data Feeds {S : Type 0} (g : Ghosts S) (number : ℕ) (before : ServiceView) (s : S) (old : Received) (bytes : List ℕ) (outs : List OutFrame) (stays : Bool) (after : ServiceView) (t : S) (new : Received) : Type 0 where
  -- no record ended
  more : GoesOn old bytes [] new → IsOpen new.progress → outs ≡ [] → stays ≡ true → Rests before s after t → Feeds g number before s old bytes outs stays after t new
  -- a record ended, and was answered
  answered : (text : List ℕ) (reply : Option (List ℕ)) → GoesOn old bytes (text ∷ []) nothing → new ≡ nothing → Answers g before s text reply after t
      → outs ≡ frame_for number reply ∷ [] → stays ≡ is_some reply → Feeds g number before s old bytes outs stays after t new
  -- a record was too long
  too_long : (end : Received) → GoesOn old bytes [] end → end.progress ≡ TooLong → outs ≡ Closed number ∷ [] → stays ≡ false → Rests before s after t
      → Feeds g number before s old bytes outs stays after t new

-- a record ended in bytes that an open session took, and a call of the disk failed for it
pub record FeedFails {S : Type 0} (g : Ghosts S) (before : ServiceView) (s : S) (old : Received) (bytes : List ℕ) (t : S) : Type 0 where
  pub text : List ℕ
  pub goes_on : GoesOn old bytes (text ∷ []) nothing
  pub fails : Fails g before s text t

-- The payload of an open session was handled so far, and answered by these frames; the session is open still. This is kept now, and
-- `received` is what was received of the record under way. Which stream the session has does not matter.
pub record UnderWay (old : State) (number : ℕ) (stream done : List ℕ) (outs : List OutFrame) (kept : Kept) (received : Received) : Type 0 where
  pub before : List (List ℕ)
  pub part : Received
  pub records : List (List ℕ)
  pub read : ReadsRecords stream before part
  pub goes_on : ReadsRecords (stream ++ done) (before ++ records) received
  pub handled : (all : List ℕ) → StepRecords Scarce number records (with_session old number (meaning.Open all)) outs (with_kept (with_session old number (meaning.Open all)) kept)

-- ---- what a crash leaves on the disk, record by record

-- A crash within a frame that is handled from old, with these answers, left an image that holds the changes that were stable before the record
-- under way.
pub record HoldsWithin (old : State) (f : InFrame) (outs : List OutFrame) (image : List ℕ) : Type 0 where
  pub under : RecordUnderWay old f
  pub rest : List OutFrame
  pub answers : (under.said ++ under.own) ++ rest ≡ outs
  pub holds : HoldsPrefix under.mid.kept.mark under.next.kept image

-- a crash at any moment from s to t leaves that
abbrev pub LeavesHolding : {S : Type 0} → Ghosts S → S → S → State → InFrame → List OutFrame → Type 0
LeavesHolding g s t old f outs = WhereTold (g.image s) (λ read. LeavesOnly g s t (BesideObjects g s (HoldsWithin old f outs)))

-- from s to t the frame was handled with these answers, and the disk was not blamed: it tells as before, and the cloud beside it stays
pub record WentWithin {S : Type 0} (g : Ghosts S) (s t : S) (old : State) (f : InFrame) (outs : List OutFrame) : Type 0 where
  pub leaves : LeavesHolding g s t old f outs
  pub tells : BothTold (λ before after. Unit {0}) (g.image s) (g.image t)
  pub beside : SameCloud g s t

-- From s to t a write failed within a payload, for the record under way: the sink was given the answers before it, and less than all of its own one.
-- What that acknowledges is stable, and the whole payload has a step whose answers begin so.
pub record PartGiven {S : Type 0} (g : Ghosts S) (s t : S) (old : State) (f : InFrame) (sink : SinkGot) : Type 0 where
  pub under : RecordUnderWay old f
  pub kept : ℕ
  pub less : kept < length (out_frames under.own)
  pub given : Given sink.before sink.after (out_frames under.said ++ take kept (out_frames under.own))
  pub went : WentWithin g s t old f (under.said ++ under.own)
  pub stable : IsStable g t under.next.kept
  pub rest : List OutFrame
  pub last : State
  pub goes_on : Step Scarce old f ((under.said ++ under.own) ++ rest) last

-- From s to t a call of the disk failed within a payload, for the record under way: the sink was given the answers before it. What they
-- acknowledged is stable.
pub record LastUnsaid {S : Type 0} (g : Ghosts S) (s t : S) (old : State) (f : InFrame) (sink : SinkGot) : Type 0 where
  pub under : RecordUnderWay old f
  pub unsaid : OutFrame
  pub own_is : under.own ≡ unsaid ∷ []
  pub given : Given sink.before sink.after (out_frames under.said)
  pub leaves : LeavesHolding g s t old f (under.said ++ under.own)
  pub behind : WhereTold (g.image s) (λ read. (image : List ℕ) (objects : CloudMap) → MayLeaveNow g t image objects → BesideObjects g s (HoldsPrefix under.mid.kept.mark under.next.kept) image objects)

-- ---- a payload, from s to t, on an open session that had received `received`: in each state for which the service stands, and for each stream

-- It was handled, and the answers were given; the session is `next` now, and the service stands for the state that it leads to.
abbrev pub Handled : {S : Type 0} → Ghosts S → ℕ → ServiceView → S → Received → List ℕ → ServiceView → S → Session → SinkGot → Type 0
Handled g number service s received payload later t next sink =
    (old : State) (stream : List ℕ) → number < length old.sessions → session_at old number ≡ meaning.Open stream → ServesFor g service s old → StandsAt received stream
    → (session : meaning.Session) × (kept : Kept) × (outs : List OutFrame) × SessionStandsFor next session × ServesFor g later t (with_kept old kept)
    × Step Scarce old (Bytes number payload) outs (with_session (with_kept old kept) number session)
    × Given sink.before sink.after (out_frames outs) × WentWithin g s t old (Bytes number payload) outs

-- a write failed
abbrev pub HandledPart : {S : Type 0} → Ghosts S → ℕ → ServiceView → S → Received → List ℕ → S → SinkGot → Type 0
HandledPart g number service s received payload t sink =
    (old : State) (stream : List ℕ) → number < length old.sessions → session_at old number ≡ meaning.Open stream → ServesFor g service s old → StandsAt received stream
    → PartGiven g s t old (Bytes number payload) sink

-- a call of the disk failed for a record
abbrev pub HandledDown : {S : Type 0} → Ghosts S → ℕ → ServiceView → S → Received → List ℕ → S → SinkGot → Type 0
HandledDown g number service s received payload t sink =
    (old : State) (stream : List ℕ) → number < length old.sessions → session_at old number ≡ meaning.Open stream → ServesFor g service s old → StandsAt received stream
    → LastUnsaid g s t old (Bytes number payload) sink
