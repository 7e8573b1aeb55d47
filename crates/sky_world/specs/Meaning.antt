-- What a recorded session means: how the frames that go in and those that come out belong together.
use Rattle.std.specs.Prelude.{◌≡◌, ℕ, ◌+◌, ◌-◌, Bool, true, false, cond, ◌&&◌, ◌||◌, nat_lt, is_none, List, [], ◌∷◌, ◌++◌, length, Option, Some, None, replicate, slice_index_or, slice_set, take, MatchBool}
use Rattle.sky_base.specs.declared.cred.Cred.{Cred}
use Rattle.sky_base.specs.declared.moment.Moment.{Moment}
use Rattle.sky_calls.specs.Stable.{is_stable_call}
use Rattle.sky_entry.specs.Entry.{entry_bytes}
use Rattle.sky_nfs.specs.Procedure.{refusal_of}
use Rattle.sky_nfs.specs.declared.call.Call.{Call}
use Rattle.sky_nfs.specs.declared.call.Call.TheVariants.{Commit}
use Rattle.sky_nfs.specs.declared.call.Change.{Change}
use Rattle.sky_nfs.specs.History.{History, IsLegalHistory, history_length, last_tree, is_done}
use Rattle.sky_nfs.specs.Tree.{Tree, epoch_start}
use Rattle.sky_recover.specs.Opening.{Found}
use Rattle.sky_record.specs.Stream.{Progress, TooLong, Received, Completes}
use Rattle.sky_script.specs.Frame as frame
use Rattle.sky_script.specs.Frame.{InFrame, OutFrame, Reply, Opened, Counted, session_count}
use Rattle.sky_script.specs.declared.frame.Stats.{Stats}
use Rattle.sky_sound.specs.Kept.{JournalState, Kept, emptied, journal_state, left_open, room_left, room_wanted, stored_to, with_waiting}
use Rattle.sky_world.specs.Message as message
use Rattle.sky_world.specs.Message.{Message, meaning_of}
use Rattle.sky_world.specs.Service.{Service, reply_to, reply_put_off, RunsOut}

-- a session: it has not begun, it is open with the bytes of its stream so far, or it was closed
pub data Session : Type 0 where
  Absent : Session
  Open : (stream : List ℕ) → Session
  Closed : Session

-- what the proxy is in, between two frames
pub record State : Type 0 where
  -- the number of this opening
  pub epoch : ℕ
  pub kept : Kept
  -- the moment of the calls that follow
  pub moment : Moment
  pub sessions : List Session
  -- whether the site tells what it has, so that it is known beforehand what an opening finds
  pub told : Bool

-- What is kept at an opening that found this: its history, all of which is stored, and of which the cloud has what came before it.
abbrev pub kept_of : Found → Kept
kept_of found = record {
  history = found.history;
  mark = history_length found.history;
  stored = history_length found.history;
  completed = found.history.before;
  journal = journal_state found.journal;
}

-- the state in which this is kept in an epoch, and no session has begun
abbrev pub opened_state : Bool → (epoch : ℕ) → Moment → Kept → State
opened_state told epoch moment kept = record { epoch = epoch; kept = kept; moment = moment; sessions = replicate session_count Absent; told = told }

-- the state at an opening that found this
abbrev pub start : Bool → Found → State
start told found = opened_state told found.epoch epoch_start (kept_of found)

-- the frame of an opening that led to a state: its epoch, how many changes it found, and whether there are some that the cloud does not have
abbrev pub opening_of : State → OutFrame
opening_of state =
    Opened state.epoch (history_length state.kept.history) (nat_lt state.kept.completed (history_length state.kept.history))

-- the same of an opening that found this
abbrev pub opening : Found → OutFrame
opening found = opening_of (start true found)

-- what answers the calls: the epoch, the history's last tree, and the moment
abbrev pub service_of : State → Service
service_of state = record { epoch = state.epoch; tree = last_tree state.kept.history; moment = state.moment }

-- the state in which this is kept
abbrev pub with_kept : State → Kept → State
with_kept state kept = record state { kept = kept }

-- the session of a number; behind the last one none has begun
abbrev pub session_at : State → ℕ → Session
session_at state number = slice_index_or state.sessions number Absent

-- the state with this session under a number
abbrev pub with_session : State → ℕ → Session → State
with_session state number session = record state { sessions = slice_set state.sessions number session }

-- whether a session is open
abbrev pub is_open : Session → Bool
is_open (Open stream) = true
is_open _ = false

-- a session when its client ends it: one that has not begun stays so
abbrev pub ended : Session → Session
ended Absent = Absent
ended _ = Closed

-- ---- the history

-- the history with a change more
abbrev pub with_change : History → Change → History
with_change history change = record history { changes = history.changes ++ change ∷ [] }

-- the history after a call, by this caller at this moment: a change that is answered OK is added, and nothing else
abbrev pub after_call : History → Cred → Call → Moment → History
after_call history cred call moment =
    let change : Change = record { cred = cred; moment = moment; call = call } in
    cond (is_done (last_tree history) change) (with_change history change) history

-- ---- what is stable

-- whether a call makes all changes before it stable: a COMMIT that is answered OK (RFC 1813 section 3.3.21)
abbrev pub makes_stable : Tree → Cred → Call → Bool
makes_stable tree cred (Commit file offset count) = is_none (refusal_of tree cred (Commit file offset count))
makes_stable tree cred _ = false

-- whether after a call all changes so far are stable: a change that is answered OK, unless it is a WRITE whose data may wait, or
-- a COMMIT that is answered OK
abbrev pub leaves_stable : Tree → Change → Bool
leaves_stable tree change = is_done tree change && is_stable_call change.call || makes_stable tree change.cred change.call

-- how many changes there are after a call
abbrev pub length_after : Kept → Change → ℕ
length_after kept change = history_length (after_call kept.history change.cred change.call change.moment)

-- the journal after a call: a change that is answered OK waits there, and all that waits is stored where the call leaves all changes stable
abbrev pub journal_state_after : Kept → Change → JournalState
journal_state_after kept change =
    let tree = last_tree kept.history in
    let waits = cond (is_done tree change) (with_waiting (length (entry_bytes change)) kept.journal) kept.journal in
    cond (leaves_stable tree change) (stored_to (length_after kept change) waits) waits

-- What is kept after a call. The mark, and how many changes are stored, are the length of the history where the call leaves all of them stable, and
-- else as before.
abbrev pub kept_after : Kept → Change → Kept
kept_after kept change =
    let stable = leaves_stable (last_tree kept.history) change in
    record {
      history = after_call kept.history change.cred change.call change.moment;
      mark = cond stable (length_after kept change) kept.mark;
      stored = cond stable (length_after kept change) kept.stored;
      completed = kept.completed;
      journal = journal_state_after kept change;
    }

-- a call as a change: by this caller, at this moment
abbrev pub called_by : Cred → Call → Moment → Change
called_by cred call moment = record { cred = cred; moment = moment; call = call }

-- what is kept after a record that means this
abbrev pub after_message : State → Message → Kept
after_message state (message.Nfs xid cred call) = kept_after state.kept (called_by cred call state.moment)
after_message state _ = state.kept

-- whether a change that would be answered OK has no room in the journal: what the batch with it would take is more than is left
abbrev pub lacks_room : Kept → Change → Bool
lacks_room kept change = is_done (last_tree kept.history) change && nat_lt (room_left kept) (room_wanted kept (length (entry_bytes change)))

-- whether a record that means this is put off, to be tried again
abbrev pub puts_off : State → Message → Bool
puts_off state (message.Nfs xid cred call) = lacks_room state.kept (called_by cred call state.moment)
puts_off state _ = false

-- whether there was memory for each call, or may have been none for some
pub data Supply : Type 0 where
  Ample : Supply
  Scarce : Supply

-- The answer to a record, none where the session is closed, and what is kept after it.
pub data Answered (memory : Supply) (old : State) (bytes : List ℕ) (reply : Option (List ℕ)) (after : Kept) : Type 0 where
  -- by what the record means: a call of NFS is answered by its procedure on the last tree
  by_meaning : puts_off old (meaning_of bytes) ≡ false → reply ≡ reply_to (service_of old) (meaning_of bytes) → after ≡ after_message old (meaning_of bytes)
      → Answered memory old bytes reply after
  -- the journal has no room for a change that would be answered OK: JUKEBOX (RFC 1813 section 2.6), and all stays
  put_off : puts_off old (meaning_of bytes) ≡ true → reply ≡ reply_put_off (meaning_of bytes) → after ≡ old.kept → Answered memory old bytes reply after
  -- there was no memory for a call of NFS, and all stays
  out_of_memory : memory ≡ Scarce → RunsOut (service_of old) bytes reply → after ≡ old.kept → Answered memory old bytes reply after

-- the numbers that are shown: how long the history is, the mark, and the epoch; there is no checkpoint and no object with items
abbrev pub stats_of : State → Stats
stats_of state = record {
  history = history_length state.kept.history;
  mark = state.kept.mark;
  epoch = state.epoch;
  covers = 0;
  merged = 0;
  residents = 0;
  proxy_bytes = 0;
  cleaner_bytes = 0;
}

-- ---- steps: each relates the state before, the frames of the answer, and the state after

-- nothing is answered, and the state stays
abbrev pub Passes : State → List OutFrame → State → Type 0
Passes old outs new = (outs ≡ []) × (new ≡ old)

-- one step, and then another
abbrev pub Then : (State → List OutFrame → State → Type 0) → (State → List OutFrame → State → Type 0) → State → List OutFrame → State → Type 0
Then First Second old outs new =
    (mid : State) × (first second : List OutFrame) × First old first mid × Second mid second new × (outs ≡ first ++ second)

-- a step where a session is open; else nothing happens
abbrev pub WhereOpen : ℕ → (State → List OutFrame → State → Type 0) → State → List OutFrame → State → Type 0
WhereOpen number Does old outs new = MatchBool (is_open (session_at old number)) (Does old outs new) (Passes old outs new)

-- the proxy closes a session, and says so
abbrev pub Closes : ℕ → State → List OutFrame → State → Type 0
Closes number old outs new = (outs ≡ frame.Closed number ∷ []) × (new ≡ with_session old number Closed)

-- the frame that gives a session this reply, or closes it
abbrev pub frame_for : ℕ → Option (List ℕ) → OutFrame
frame_for number None = frame.Closed number
frame_for number (Some reply) = Reply number reply

-- the state in which a session got this reply, or was closed
abbrev pub after_reply : ℕ → Option (List ℕ) → State → State
after_reply number None state = with_session state number Closed
after_reply number (Some reply) state = state

-- a record of a session
pub record StepRecord (memory : Supply) (number : ℕ) (bytes : List ℕ) (old : State) (outs : List OutFrame) (new : State) : Type 0 where
  pub reply : Option (List ℕ)
  pub after : Kept
  pub answered : Answered memory old bytes reply after
  pub answers : outs ≡ frame_for number reply ∷ []
  pub leads : new ≡ after_reply number reply (with_kept old after)

-- the records of a session in their order, as long as it is open
abbrev pub StepRecords : Supply → ℕ → List (List ℕ) → State → List OutFrame → State → Type 0
StepRecords memory number [] old outs new = Passes old outs new
StepRecords memory number (bytes ∷ records) old outs new =
    WhereOpen number (Then (StepRecord memory number bytes) (StepRecords memory number records)) old outs new

-- behind these records: a record that is too long closes the session, if it is open still
abbrev pub StepProgress : ℕ → Progress → State → List OutFrame → State → Type 0
StepProgress number TooLong old outs new = WhereOpen number (Closes number) old outs new
StepProgress number _ old outs new = Passes old outs new

-- the next bytes of a session. One that is open has them behind its stream, and the records that they complete are
-- handled; else they are passed over
abbrev pub StepBytes : Supply → Session → ℕ → List ℕ → State → List OutFrame → State → Type 0
StepBytes memory (Open stream) number payload old outs new =
    (records : List (List ℕ)) × (end : Received) × Completes stream payload records end
    × Then (StepRecords memory number records) (StepProgress number end.progress) (with_session old number (Open (stream ++ payload))) outs new
StepBytes memory Absent number payload old outs new = Passes old outs new
StepBytes memory Closed number payload old outs new = Passes old outs new

-- ---- restarts

-- the history when this many changes were made
abbrev pub cut_to : ℕ → History → History
cut_to n history = record history { changes = take (n - history.before) history.changes }

-- What is kept behind a restart that found the changes up to a number, with the journal as it was: the history is cut there, all of it is stored,
-- and the journal is as an opening leaves it.
abbrev pub kept_to : ℕ → JournalState → Kept → Kept
kept_to number journal kept = record {
  history = cut_to number kept.history;
  mark = number;
  stored = number;
  completed = kept.completed;
  journal = left_open kept.completed journal;
}

-- with the journal: the changes that are stored
abbrev pub reopened : Kept → Kept
reopened kept = kept_to kept.stored kept.journal kept

-- without it: those that the cloud has for good
abbrev pub given_up : Kept → Kept
given_up kept = kept_to kept.completed (emptied kept.journal) kept

-- what a restart may find of what is kept, on a site that does not tell what it has: some legal history of the volume, and a journal of it, as
-- large as before, in which no change waits, and for which no call of the disk failed
pub record MayBeFound (kept : Kept) (found : Found) : Type 0 where
  pub legal : IsLegalHistory found.history
  pub volume : found.history.tree.volume ≡ kept.history.tree.volume
  pub journal_volume : found.journal.volume ≡ kept.history.tree.volume
  pub journal_size : found.journal.size ≡ kept.journal.size
  pub pending : found.journal.pending ≡ []
  pub up : found.journal.down ≡ false

-- What a restart leads to: where the site tells what it has, what is known to be kept there, in the next epoch; and else what was found. It says so, and
-- no session has begun. The moment stays.
pub data Restarts (old : State) (known : Kept) (outs : List OutFrame) (new : State) : Type 0 where
  as_known : old.told ≡ true → new ≡ opened_state old.told (old.epoch + 1) old.moment known → outs ≡ opening_of new ∷ [] → Restarts old known outs new
  untold : (found : Found) → old.told ≡ false → MayBeFound old.kept found → new ≡ opened_state old.told found.epoch old.moment (kept_of found) → outs ≡ opening_of new ∷ []
      → Restarts old known outs new

-- one frame: from old, it is answered by these frames, and leads to new
abbrev pub Step : Supply → State → InFrame → List OutFrame → State → Type 0
-- a session begins anew, and its stream is empty
Step memory old (frame.Begin number) outs new = (outs ≡ []) × (new ≡ with_session old number (Open []))
Step memory old (frame.Bytes number payload) outs new = StepBytes memory (session_at old number) number payload old outs new
Step memory old (frame.Close number) outs new = (outs ≡ []) × (new ≡ with_session old number (ended (session_at old number)))
Step memory old (frame.SetMoment at) outs new = (outs ≡ []) × (new ≡ record old { moment = at })
-- what the proxy has, as numbers
Step memory old frame.Stat outs new = (outs ≡ Counted (stats_of old) ∷ []) × (new ≡ old)
-- the proxy is stopped, and opened again: it has lost what was not on its disk
Step memory old frame.Restart outs new = Restarts old (reopened old.kept) outs new
-- the same, where all that is not in the cloud is given up
Step memory old frame.RestartWithoutJournal outs new = Restarts old (given_up old.kept) outs new
-- the end is not answered by a step
Step memory old frame.End outs new = ⊥

-- frames, one after the other
abbrev pub Steps : Supply → State → List InFrame → List OutFrame → State → Type 0
Steps memory old [] outs new = Passes old outs new
Steps memory old (f ∷ fs) outs new =
    (mid : State) × (first rest : List OutFrame) × Step memory old f first mid × Steps memory mid fs rest new × (outs ≡ first ++ rest)

-- every frame but the end has a step
abbrev pub IsStep : InFrame → Type 0
IsStep frame.End = ⊥
IsStep _ = Unit {0}
