-- How a run opens its site, goes on by one frame, or stops, and how it then comes to its status.
use Rattle.std.specs.Prelude.{◌≡◌, ◌≢◌, ◌<◌, ◌⊎◌, ℕ, List, [], length, Option}
use Rattle.sky_base.specs.declared.status.Status.{Status}
use Rattle.sky_base.specs.declared.status.Status.TheVariants as status
use Rattle.sky_outside.specs.Count.{Rose}
use Rattle.sky_outside.specs.Told.{WhereTold, Had, Given}
use Rattle.sky_outside.specs.declared.storage.Storage.{Ghosts}
use Rattle.sky_script.specs.Frame.{InFrame, End as EndFrame, Restart, Ended, IsInFrame, in_frame, out_frame, magic}
use Rattle.sky_script.specs.Beginning.{IsRefused, IsCutShort, HadSome}
use Rattle.sky_script.specs.declared.reading.FrameFault.{FrameFault}
use Rattle.sky_script.specs.declared.reading.FrameFault.TheVariants as fault
use Rattle.sky_recover.specs.Opening.{Found, IsFoundOn, LeavesFound}
use Rattle.sky_world.specs.Meaning.{State}
use Rattle.sky_settings.specs.declared.settings.Fields.{Fields}
use Rattle.sky_sound.specs.Boot.{Claims}
use Rattle.sky_world.specs.Opening.{IsOfOpening, LeavesCloudAs, LeavesRefusedAs, MayRefuse}
use Rattle.sky_world.specs.World.{ClaimsFailed, WorldView, SinkGot, StepFailed, DidNothing, restarts_by, tells}
use Rattle.bluesky.specs.Run.{SourceUse, Took, SinkUse, Gave, GaveUpTo, GaveEnding, RanOn, session_bytes}
use Rattle.bluesky.specs.declared.frames.Stop.{Stop}
use Rattle.bluesky.specs.declared.frames.Stop.TheVariants.{End, Malformed, Early, SourceFault, Failed}

-- From s to t a site was opened with these settings, which found this: recovery finds the same at each moment, the epoch was claimed, the site tells as much as
-- before, and no call of its devices failed.
pub record Opened {S : Type 0} (g : Ghosts S) (settings : Fields) (s t : S) (found : Found) : Type 0 where
  pub size : g.bytes_of t ≡ g.bytes_of s
  pub found_on : IsFoundOn g settings.volume settings.journal_area s found
  pub leaves : LeavesFound g settings.volume settings.journal_area s t
  pub claims : Claims 1 (g.objects s) (g.objects t)
  pub tells : tells g t ≡ tells g s
  pub disk : g.disk_faults t ≡ g.disk_faults s
  pub cloud : g.cloud_faults t ≡ g.cloud_faults s

-- why a fault of a frame stops a run
abbrev pub stop_of : FrameFault → Stop
stop_of fault.Malformed = Malformed
stop_of fault.Early = Early
stop_of fault.SourceFault = SourceFault

-- a step failed, with a status that comes of one
abbrev pub IsFailed : Stop → Type 0
IsFailed (Failed how) = IsOfOpening how ⊎ (how ≡ status.SinkFault)
IsFailed _ = ⊥

-- no further frame was read; or a step failed so
abbrev pub IsStop : Stop → Type 0
IsStop (Failed how) = IsOfOpening how ⊎ (how ≡ status.SinkFault)
IsStop _ = Unit {0}

-- a restart in this state may be refused so
abbrev pub MayStop : Stop → State → Type 0
MayStop (Failed how) state = MayRefuse how state
MayStop _ state = Unit {0}

-- From s to t a step failed with this status: that of the frame that was read last.
pub record StepStopped {S : Type 0} (g : Ghosts S) (how : Status) (world : WorldView) (s t : S) (source : SourceUse) (sink : SinkGot) : Type 0 where
  pub f : InFrame
  pub formed : IsInFrame f
  pub took : Took source (in_frame f)
  pub failed : StepFailed g how world s f t sink
  pub claims : ClaimsFailed how (restarts_by f) (g.objects s) (g.objects t)
  pub untouched : f ≡ Restart → LeavesRefusedAs g s t how
  pub untouched_cloud : LeavesCloudAs g s t how

-- what is known where no further frame was read and handled, by why: what that call did from s to t, and what the world was before
abbrev pub StoppedBy : {S : Type 0} → Ghosts S → Stop → WorldView → S → S → SourceUse → SinkGot → Type 0
StoppedBy g End world s t source sink = Took source (in_frame EndFrame) × DidNothing s t sink
StoppedBy g Malformed world s t source sink = HadSome IsRefused source.had source.left × DidNothing s t sink
StoppedBy g Early world s t source sink = HadSome IsCutShort source.had source.left × WhereTold source.left (λ rest. rest ≡ []) × DidNothing s t sink
StoppedBy g SourceFault world s t source sink = HadSome IsCutShort source.had source.left × DidNothing s t sink
StoppedBy g (Failed how) world s t source sink = StepStopped g how world s t source sink

-- from a stop at this place, a run ends with this status, and does this with its sink
abbrev pub Finishes : Stop → ℕ → Status → SinkUse → Type 0
Finishes End place s sink =
    ((s ≡ status.Done) × Gave sink (out_frame (Ended status.Done)) × (sink.faults_after ≡ sink.faults_before))
    ⊎ ((s ≡ status.SinkFault) × GaveUpTo sink [] (out_frame (Ended status.Done)) × Rose sink.faults_before sink.faults_after)
Finishes Malformed place s sink = (s ≡ status.Malformed place) × GaveEnding sink [] (status.Malformed place)
Finishes Early place s sink = (s ≡ status.Early) × GaveEnding sink [] status.Early
Finishes SourceFault place s sink = (s ≡ status.SourceFault) × GaveEnding sink [] status.SourceFault
Finishes (Failed how) place s sink =
    (s ≡ how) × (how ≡ status.SinkFault → (sink.after ≡ sink.before) × (sink.faults_after ≡ sink.faults_before)) × (how ≢ status.SinkFault → GaveEnding sink [] how)

-- Frames were handled, from t to u, with this end: of each run that had opened its site, at t, read the magic, and written the
-- frame of the opening, that is what it did.
abbrev pub RanBehind : {S : Type 0} → Ghosts S → Fields → Found → S → S → Status → SourceUse → SinkUse → Type 0
RanBehind {S} g settings found t u status source sink =
    (s : S) (had before : Option (List ℕ)) → Opened g settings s t found → Had had source.had magic → Given before sink.before (session_bytes found [])
    → RanOn g settings s u status (record source { had = had }) (record sink { before = before })

-- the status of a run that found no magic
abbrev pub magic_status_of : FrameFault → Status
magic_status_of fault.Malformed = status.Malformed 0
magic_status_of fault.Early = status.Early
magic_status_of fault.SourceFault = status.SourceFault

-- eight bytes that are not the magic
abbrev pub IsOtherMagic : List ℕ → Type 0
IsOtherMagic taken = (length taken ≡ 8) × (taken ≢ magic)

-- a part of eight bytes
abbrev pub IsShort : List ℕ → Type 0
IsShort taken = length taken < 8

-- what is known where no magic was read, by why
abbrev pub NoMagic : FrameFault → (had left : Option (List ℕ)) → Type 0
NoMagic fault.Malformed had left = HadSome IsOtherMagic had left
NoMagic fault.Early had left = HadSome IsShort had left × WhereTold left (λ rest. rest ≡ [])
NoMagic fault.SourceFault had left = HadSome IsShort had left
