-- What becomes of the tree, of the journal and of its disk by a call of NFS, in the program.
use Rattle.std.specs.Prelude.{◌≡◌, ◌≤◌, ℕ, Bool, true, false, ◌&&◌, is_ok, cond, nat_lt, IsTrue, List, [], ◌∷◌, ◌++◌, length}
use Rattle.sky_calls.specs.Durable.{journal_after}
use Rattle.sky_journal.specs.Lasting.{HoldsMore, LeavesOldOrMore}
use Rattle.sky_calls.specs.Stable.{is_stable_call}
use Rattle.sky_calls.specs.declared.outcome.Outcome.{Outcome}
use Rattle.sky_calls.specs.declared.outcome.Outcome.TheVariants.{Done, Jukebox, Down, Memory}
use Rattle.sky_entry.specs.Entry.{entry_bytes}
use Rattle.sky_journal.specs.Journal.{JournalView, IsJournal, SameButSpare, StandsOn, after_commit, room_of, wanted_of}
use Rattle.sky_nfs.specs.History.{is_done}
use Rattle.sky_nfs.specs.Procedure.{procedure}
use Rattle.sky_nfs.specs.Tree.{Tree}
use Rattle.sky_nfs.specs.declared.answer.Answer.{Answer}
use Rattle.sky_nfs.specs.declared.answer.Answer.TheVariants.{Commit}
use Rattle.sky_nfs.specs.declared.call.Change.{Change}
use Rattle.sky_outside.specs.Moments.{SameCloud}
use Rattle.sky_outside.specs.declared.storage.Storage.{Ghosts}
use Rattle.sky_results.specs.Answers.{answer_bytes}
use Rattle.sky_sound.specs.Entries.{IsStorable}
use Rattle.sky_world.specs.Meaning.{makes_stable}
use Rattle.sky_world.specs.Service.{takes_some}
use Rattle.sky_world.specs.World.{ServiceView, IsUp}

-- the service can answer calls over this disk: changes can go through its journal, which stands there
pub record IsServing {S : Type 0} (g : Ghosts S) (service : ServiceView) (s : S) : Type 0 where
  pub up : IsUp service.journal
  pub stands : StandsOn g service.journal s

-- whether a change that would be answered OK has no room in a journal: what the batch with it would take is more than is left
abbrev pub has_no_room : Tree → JournalView → Change → Bool
has_no_room tree journal change = is_done tree change && nat_lt (room_of journal) (wanted_of journal (length (entry_bytes change)))

-- the journal after a call: with the entry of a change that is answered OK, committed where that is to be stable; a COMMIT brings all
-- pending entries to the disk
abbrev pub journal_after_call : Tree → JournalView → Change → JournalView
journal_after_call tree journal change =
    cond (is_done tree change) (journal_after (is_stable_call change.call) journal (entry_bytes change)) (cond (makes_stable tree change.cred change.call) (after_commit journal) journal)

-- the entries that a call brings to the disk: those that were pending, with that of a stable change; those that were pending, by a COMMIT;
-- and none by other calls
abbrev pub entries_brought : Tree → JournalView → Change → List (List ℕ)
entries_brought tree journal change =
    cond (is_done tree change) (cond (is_stable_call change.call) (journal.pending ++ entry_bytes change ∷ []) [])
    (cond (makes_stable tree change.cred change.call) journal.pending [])

-- From s to t a call was answered so, by its procedure: there was room for its entry, the tree and the journal are those after it, and
-- at any moment a crash leaves the entries from before, or with them those that it brings to the disk.
pub record Carries {S : Type 0} (g : Ghosts S) (old : ServiceView) (s : S) (change : Change) (answer : Answer) (new : ServiceView) (t : S) : Type 0 where
  pub answer_is : answer ≡ (procedure old.tree old.epoch change.cred change.call change.moment).answer
  pub fits : length (answer_bytes answer) ≤ 65779
  pub room : has_no_room old.tree old.journal change ≡ false
  pub tree : new.tree ≡ (procedure old.tree old.epoch change.cred change.call change.moment).tree
  pub epoch : new.epoch ≡ old.epoch
  pub moment : new.moment ≡ old.moment
  pub journal : SameButSpare (journal_after_call old.tree old.journal change) new.journal
  pub is : IsJournal new.journal
  pub serving : IsServing g new t
  pub leaves : LeavesOldOrMore g s t old.journal (entries_brought old.tree old.journal change)
  pub holds : HoldsMore g s t old.journal new.journal (entries_brought old.tree old.journal change)
  pub storable : is_done old.tree change ≡ true → IsStorable change
  pub beside : SameCloud g s t

-- all is as it was, but for the memory that the journal has
pub record Stays {S : Type 0} (old : ServiceView) (s : S) (new : ServiceView) (t : S) : Type 0 where
  pub tree : new.tree ≡ old.tree
  pub epoch : new.epoch ≡ old.epoch
  pub moment : new.moment ≡ old.moment
  pub journal : SameButSpare old.journal new.journal
  pub disk : t ≡ s

-- From s to t a call of the disk failed: there was room for the entry, and at any moment a crash leaves the entries from before, or
-- with them those that the call was to bring.
pub record CarriesDown {S : Type 0} (g : Ghosts S) (old : ServiceView) (s : S) (change : Change) (t : S) : Type 0 where
  pub room : has_no_room old.tree old.journal change ≡ false
  pub leaves : LeavesOldOrMore g s t old.journal (entries_brought old.tree old.journal change)
  pub storable : is_done old.tree change ≡ true → IsStorable change

-- an answer is that to a COMMIT which is OK
abbrev pub has_committed : Answer → Bool
has_committed (Commit result) = is_ok result
has_committed _ = false

-- what becomes of a call, by its outcome
abbrev pub Becomes : {S : Type 0} → Ghosts S → ServiceView → S → Change → Outcome → ServiceView → S → Type 0
Becomes g old s change (Done answer) new t = Carries g old s change answer new t
Becomes g old s change (Jukebox room wanted) new t = (has_no_room old.tree old.journal change ≡ true) × Stays old s new t
Becomes g old s change Down new t = CarriesDown g old s change t
Becomes g old s change Memory new t =
    IsTrue (takes_some (record { epoch = old.epoch; tree = old.tree; moment = change.moment }) change.cred change.call) × Stays old s new t
