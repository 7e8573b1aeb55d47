-- What contracts see of the world, and which state it stands for.
use Rattle.std.specs.Prelude.{◌≡◌, ◌⊎◌, ℕ, ◌<◌, Bool, false, ◌&&◌, List, [], ◌∷◌, ◌++◌, length, slice_index_or, take, Option, IsSome, is_some}
use Rattle.sky_base.specs.declared.moment.Moment.{Moment}
use Rattle.sky_base.specs.declared.status.Status.{Status}
use Rattle.sky_base.specs.declared.status.Status.TheVariants.{SinkFault, JournalFault, Memory, CloudFault, Foreign, Missing, Damaged, Worn}
use Rattle.sky_journal.specs.Journal.{JournalView, last_of, number_behind}
use Rattle.sky_nfs.specs.History.{last_tree}
use Rattle.sky_nfs.specs.Tree.{Tree}
use Rattle.sky_outside.specs.CloudMap.{CloudMap}
use Rattle.sky_outside.specs.declared.storage.Storage.{Ghosts}
use Rattle.sky_record.specs.Stream.{Received, IsOpen, ReadsRecords}
use Rattle.sky_outside.specs.Told.{Given}
use Rattle.sky_script.specs.Frame as frame
use Rattle.sky_script.specs.Frame.{InFrame, Begin, Bytes, OutFrame, out_frames, session_count}
use Rattle.sky_script.specs.declared.frame.Stats.{Stats}
use Rattle.sky_settings.specs.declared.settings.Fields.{Fields}
use Rattle.sky_sound.specs.Boot.{Claims, MayClaim}
use Rattle.sky_sound.specs.Invariant.{Invariant}
use Rattle.sky_world.specs.declared.sessions.Session.{Session}
use Rattle.sky_world.specs.declared.sessions.Session.TheVariants.{Absent, Open, Closed}
use Rattle.sky_xdr.specs.Encoding.{AreBytes}
use Rattle.sky_world.specs.Meaning as meaning
use Rattle.sky_world.specs.Meaning.{State, session_at, Scarce, Step}
use Rattle.sky_world.specs.Finding.{FindsBehind, FindsNow, LeavesFinding, LeavesWithin, RecordUnderWay, floor_of}

-- what answers the calls, in the program: the number of this opening, the tree, the journal, and the moment
pub record ServiceView : Type 0 where
  pub epoch : ℕ
  pub tree : Tree
  pub journal : JournalView
  pub moment : Moment

-- what the world is in. It has no history, but the tree that it leads to, and no streams, but what was received of the record
-- under way in each session
pub record WorldView : Type 0 where
  -- which volume it is, and how large the areas of its journal are
  pub settings : Fields
  -- what answers the calls: the tree is the last one of the history
  pub service : ServiceView
  pub sessions : List Session
  -- whether a step answered an error
  pub ended : Bool

-- a journal that changes can go through: an area is open, and no call of the disk failed
pub record IsUp (journal : JournalView) : Type 0 where
  pub area : IsSome journal.newer
  pub up : journal.down ≡ false

-- the numbers that are shown of a world: the number of the last change, the number of the last that is on the disk, and the epoch
abbrev pub stats_shown : WorldView → Stats
stats_shown world = record {
  history = last_of world.service.journal;
  mark = number_behind world.service.journal.newer 0;
  epoch = world.service.epoch;
  covers = 0;
  merged = 0;
  residents = 0;
  proxy_bytes = 0;
  cleaner_bytes = 0;
}

-- On a site the service stands for what answers the calls of a state, and what holds between any two steps holds of what is kept, by its journal.
pub record ServesFor {S : Type 0} (g : Ghosts S) (service : ServiceView) (s : S) (state : State) : Type 0 where
  pub epoch : service.epoch ≡ state.epoch
  pub tree : service.tree ≡ last_tree state.kept.history
  pub moment : service.moment ≡ state.moment
  pub invariant : Invariant g state.epoch state.kept service.journal s

-- What was received is the end of this stream of bytes, and it can go on.
pub record StandsAt (received : Received) (stream : List ℕ) : Type 0 where
  pub bytes : AreBytes stream
  pub goes_on : IsOpen received.progress
  pub records : List (List ℕ)
  pub read : ReadsRecords stream records received

-- a session of the world stands for one of the state
abbrev pub SessionStandsFor : Session → meaning.Session → Type 0
SessionStandsFor Absent meaning.Absent = Unit {0}
SessionStandsFor (Open received) (meaning.Open stream) = StandsAt received stream
SessionStandsFor (Closed received) meaning.Closed = Unit {0}
SessionStandsFor _ _ = ⊥

-- whether a site tells what its disk and its cloud have
abbrev pub tells : {S : Type 0} → Ghosts S → S → Bool
tells g s = is_some (g.image s) && is_some (g.objects s)

-- On a site the world stands for the state.
pub record Stands {S : Type 0} (g : Ghosts S) (world : WorldView) (s : S) (state : State) : Type 0 where
  pub volume : world.settings.volume ≡ state.kept.history.tree.volume
  pub area : world.settings.journal_area ≡ state.kept.journal.size
  pub told : state.told ≡ tells g s
  pub service : ServesFor g world.service s state
  pub count : length world.sessions ≡ session_count
  pub state_count : length state.sessions ≡ session_count
  pub sessions : (number : ℕ) → SessionStandsFor (slice_index_or world.sessions number Absent) (session_at state number)

-- what a sink had been given before, and what after
pub record SinkGot : Type 0 where
  pub before : Option (List ℕ)
  pub after : Option (List ℕ)

-- In each state that the world stands for the frame has a step; the sink was given the frames that answer it, and the
-- world then stands for the state that it leads to. After a crash at any moment of it recovery finds a prefix of the history that holds what was
-- stable before the record under way (where the journal is given up: what the cloud covers), and from its end on one that holds the mark from after.
abbrev pub Stepped : {S : Type 0} → Ghosts S → WorldView → S → InFrame → WorldView → S → SinkGot → Type 0
Stepped g old s f new t sink =
    (state : State) → Stands g old s state
    → (outs : List OutFrame) × (next : State) × Step Scarce state f outs next × Stands g new t next × Given sink.before sink.after (out_frames outs)
    × LeavesWithin g s t state f outs × FindsNow g t next.epoch next.kept

-- A write failed in a frame that was handled from this state. The sink was given the answers before the record under way, and of its own one a
-- prefix that is not all of it.
pub record WriteFailed {S : Type 0} (g : Ghosts S) (state : State) (s : S) (f : InFrame) (t : S) (sink : SinkGot) : Type 0 where
  pub under : RecordUnderWay state f
  pub kept : ℕ
  pub less : kept < length (out_frames under.own)
  pub given : Given sink.before sink.after (out_frames under.said ++ take kept (out_frames under.own))
  pub leaves : LeavesWithin g s t state f (under.said ++ under.own)
  -- what the answer acknowledges is stable before a byte of it is written
  pub behind : FindsBehind g s t under.next.epoch under.next.kept.mark under.next.kept
  -- the whole frame has a step, whose answers begin so
  pub rest : List OutFrame
  pub last : State
  pub goes_on : Step Scarce state f ((under.said ++ under.own) ++ rest) last

-- A call of the disk failed in a frame that was handled from this state, for the record under way. The sink was given all answers before it, and no
-- byte of its own one.
pub record DiskFailed {S : Type 0} (g : Ghosts S) (state : State) (s : S) (f : InFrame) (t : S) (sink : SinkGot) : Type 0 where
  pub under : RecordUnderWay state f
  pub unsaid : OutFrame
  pub own_is : under.own ≡ unsaid ∷ []
  pub given : Given sink.before sink.after (out_frames under.said)
  pub leaves : LeavesWithin g s t state f (under.said ++ under.own)
  -- what the answers before it acknowledged is stable
  pub behind : FindsBehind g s t state.epoch under.mid.kept.mark under.next.kept

-- in each state that the world stands for a write failed
abbrev pub SteppedPart : {S : Type 0} → Ghosts S → WorldView → S → InFrame → S → SinkGot → Type 0
SteppedPart g old s f t sink = (state : State) → Stands g old s state → WriteFailed g state s f t sink

-- a call of the disk failed in a record of a session
abbrev pub SteppedDown : {S : Type 0} → Ghosts S → WorldView → S → InFrame → S → SinkGot → Type 0
SteppedDown g old s (Bytes number payload) t sink = (state : State) → Stands g old s state → DiskFailed g state s (Bytes number payload) t sink
SteppedDown g old s _ t sink = ⊥

-- a restart
abbrev pub IsRestart : InFrame → Type 0
IsRestart frame.Restart = Unit {0}
IsRestart frame.RestartWithoutJournal = Unit {0}
IsRestart _ = ⊥

-- how many epochs a frame claims: a restart claims one
abbrev pub restarts_by : InFrame → ℕ
restarts_by frame.Restart = 1
restarts_by frame.RestartWithoutJournal = 1
restarts_by _ = 0

-- what a frame or an opening that failed with this status did to the cloud, where it claims so many epochs: it claimed them where the sink was
-- what failed, and may have claimed them else
abbrev pub ClaimsFailed : Status → ℕ → Option CloudMap → Option CloudMap → Type 0
ClaimsFailed SinkFault n old new = Claims n old new
ClaimsFailed _ n old new = MayClaim n old new

-- A restart came to no end: nothing was written, and after a crash at any moment recovery finds a prefix of the history from before.
pub record RestartFailed {S : Type 0} (g : Ghosts S) (old : WorldView) (s : S) (f : InFrame) (t : S) (sink : SinkGot) : Type 0 where
  pub restart : IsRestart f
  pub unwritten : sink.after ≡ sink.before
  pub leaves : (state : State) → Stands g old s state → LeavesFinding g s t state.epoch (floor_of f state) state.kept

-- the frame begins a session that has not begun before
abbrev pub BeginsFirst : WorldView → InFrame → Type 0
BeginsFirst world f = (session : ℕ) × (f ≡ Begin session) × (slice_index_or world.sessions session Absent ≡ Absent)

-- nothing was written, and the site is as it was
abbrev pub DidNothing : {S : Type 0} → S → S → SinkGot → Type 0
DidNothing s t sink = (sink.after ≡ sink.before) × (t ≡ s)

-- what a step did that failed with this status
abbrev pub StepFailed : {S : Type 0} → Ghosts S → Status → WorldView → S → InFrame → S → SinkGot → Type 0
StepFailed g SinkFault old s f t sink = SteppedPart g old s f t sink
StepFailed g JournalFault old s f t sink = SteppedDown g old s f t sink ⊎ RestartFailed g old s f t sink
StepFailed g Memory old s f t sink = BeginsFirst old f × DidNothing s t sink ⊎ RestartFailed g old s f t sink
StepFailed g CloudFault old s f t sink = RestartFailed g old s f t sink
StepFailed g (Foreign at) old s f t sink = RestartFailed g old s f t sink
StepFailed g (Missing name) old s f t sink = RestartFailed g old s f t sink
StepFailed g (Damaged name damage) old s f t sink = RestartFailed g old s f t sink
StepFailed g Worn old s f t sink = RestartFailed g old s f t sink
StepFailed g _ old s f t sink = ⊥
