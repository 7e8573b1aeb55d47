-- What recovery finds of the history, after a crash at any moment of a step.
use Rattle.std.specs.Prelude.{◌≡◌, ℕ, ◌<◌, ◌≤◌, List, [], ◌++◌, length, take, Ok}
use Rattle.sky_nfs.specs.History.{history_length, tree_at_length}
use Rattle.sky_outside.specs.CloudMap.{CloudMap}
use Rattle.sky_outside.specs.Moments.{LeavesOnly, MayLeaveNow}
use Rattle.sky_outside.specs.declared.storage.Storage.{Ghosts}
use Rattle.sky_recover.specs.Opening.{WhereBothTold}
use Rattle.sky_script.specs.Frame as frame
use Rattle.sky_script.specs.Frame.{InFrame, OutFrame}
use Rattle.sky_sound.specs.Cloud.{epoch_after}
use Rattle.sky_sound.specs.Recovery.{IsSound, recovered}
use Rattle.sky_world.specs.Meaning.{State, Scarce, Step}
use Rattle.sky_sound.specs.Kept.{Kept}

-- A crash in an epoch left this image, and the cloud these objects: the site is sound, recovery finds the tree after the first n changes of the
-- history, at least so many and no more than there are, and the next opening is in a later epoch.
pub record FindsPrefix (epoch floor : ℕ) (kept : Kept) (image : List ℕ) (objects : CloudMap) : Type 0 where
  pub n : ℕ
  pub least : floor ≤ n
  pub most : n ≤ history_length kept.history
  pub sound : IsSound kept.history.tree.volume kept.journal.size image objects
  pub found : recovered kept.history.tree.volume kept.journal.size image objects ≡ Ok (record { length = n; tree = tree_at_length kept.history n })
  pub later_epoch : epoch < epoch_after objects

-- a crash at any moment from s to t leaves that, where the site tells what it has
abbrev pub LeavesFinding : {S : Type 0} → Ghosts S → S → S → (epoch floor : ℕ) → Kept → Type 0
LeavesFinding g s t epoch floor kept = WhereBothTold g s (λ image objects. LeavesOnly g s t (FindsPrefix epoch floor kept))

-- a crash at t leaves that, where the site told at s what it had
abbrev pub FindsBehind : {S : Type 0} → Ghosts S → S → S → (epoch floor : ℕ) → Kept → Type 0
FindsBehind g s t epoch floor kept = WhereBothTold g s (λ read held. (image : List ℕ) (objects : CloudMap) → MayLeaveNow g t image objects → FindsPrefix epoch floor kept image objects)

-- a crash now leaves all changes up to the mark
abbrev pub FindsNow : {S : Type 0} → Ghosts S → S → ℕ → Kept → Type 0
FindsNow g s epoch kept = FindsBehind g s s epoch kept.mark kept

-- how many changes each crash within a step leaves: those up to the mark before it; where the journal is given up, those that the cloud has for good
abbrev pub floor_of : InFrame → State → ℕ
floor_of frame.RestartWithoutJournal old = old.kept.completed
floor_of _ old = old.kept.mark

-- of which history: that with the changes of the step; a restart makes none, and the history before it is the longer one
abbrev pub reached : InFrame → State → State → Kept
reached frame.Restart old new = old.kept
reached frame.RestartWithoutJournal old new = old.kept
reached _ old new = new.kept

-- ---- one record of a frame

-- From old, a frame was handled up to mid, with the answers `said`, and then up to next, with its own one. A payload is handled record by
-- record: it is cut where the record under way begins, and where it ends. Another frame is handled at once.
abbrev pub HandlesOne : State → InFrame → (said : List OutFrame) → State → (own : List OutFrame) → State → Type 0
HandlesOne old (frame.Bytes number payload) said mid own next =
    (part up_to : ℕ) × (part ≤ up_to) × Step Scarce old (frame.Bytes number (take part payload)) said mid × Step Scarce old (frame.Bytes number (take up_to payload)) (said ++ own) next
HandlesOne old f said mid own next = (said ≡ []) × (mid ≡ old) × Step Scarce old f own next

-- The record under way in a frame that is handled from old: what was answered before it, and the state then; its own answer, which is one at
-- most, and the state behind it.
pub record RecordUnderWay (old : State) (f : InFrame) : Type 0 where
  pub said : List OutFrame
  pub mid : State
  pub own : List OutFrame
  pub next : State
  pub handled : HandlesOne old f said mid own next
  pub one : length own ≤ 1

-- A crash within a frame that is handled from old, with these answers, left this: it came while a record was under way, and leaves the changes
-- that were stable before this record.
pub record LeftWithin (old : State) (f : InFrame) (outs : List OutFrame) (image : List ℕ) (objects : CloudMap) : Type 0 where
  pub under : RecordUnderWay old f
  pub rest : List OutFrame
  pub answers : (under.said ++ under.own) ++ rest ≡ outs
  pub finds : FindsPrefix old.epoch (floor_of f under.mid) (reached f under.mid under.next) image objects

-- a crash at any moment from s to t leaves that, where the site tells what it has
abbrev pub LeavesWithin : {S : Type 0} → Ghosts S → S → S → State → InFrame → List OutFrame → Type 0
LeavesWithin g s t old f outs = WhereBothTold g s (λ image objects. LeavesOnly g s t (LeftWithin old f outs))
