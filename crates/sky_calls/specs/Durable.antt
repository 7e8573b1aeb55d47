-- A file tree whose changes go through a journal, and what becomes of it by a change.
use Rattle.std.specs.Prelude.{ℕ, Bool, true, false, cond, List, [], ◌∷◌, ◌++◌}
use Rattle.sky_nfs.specs.Tree.{Tree}
use Rattle.sky_nfs.specs.declared.answer.Answer.{Answer}
use Rattle.sky_outside.specs.declared.storage.Storage.{Ghosts}
use Rattle.sky_journal.specs.Journal.{JournalView, after_commit}
use Rattle.sky_journal.specs.Lasting.{LeavesMore, LeavesOldOrMore}
use Rattle.sky_calls.specs.declared.outcome.Outcome.{Outcome}
use Rattle.sky_calls.specs.declared.outcome.Outcome.TheVariants.{Done, Jukebox, Down, Memory}

-- the tree, and the journal
pub record DurableView : Type 0 where
  pub tree : Tree
  pub journal : JournalView

-- a call of the disk failed
abbrev pub is_down : Outcome → Bool
is_down Down = true
is_down _ = false

-- it was answered, and the answer has P
abbrev pub IfDone : Outcome → (Answer → Type 0) → Type 0
IfDone (Done answer) P = P answer
IfDone _ P = Unit {0}

-- neither was it answered, nor did a call of the disk fail
abbrev pub IfPutOff : Outcome → Type 0 → Type 0
IfPutOff (Jukebox room wanted) P = P
IfPutOff Memory P = P
IfPutOff _ P = Unit {0}

-- it was put off for want of room, and the numbers have P
abbrev pub IfJukebox : Outcome → (ℕ → ℕ → Type 0) → Type 0
IfJukebox (Jukebox room wanted) P = P room wanted
IfJukebox _ P = Unit {0}

-- the journal with an entry more that is pending
abbrev pub with_entry : JournalView → List ℕ → JournalView
with_entry j entry = record j { pending = j.pending ++ entry ∷ [] }

-- the journal after a change with this entry: committed, where the change is stable
abbrev pub journal_after : Bool → JournalView → List ℕ → JournalView
journal_after stable j entry = cond stable (after_commit (with_entry j entry)) (with_entry j entry)

-- the entries that an entry more brings to the disk: the pending ones and this one, where it is to be stable, and else none
abbrev pub entries_kept : Bool → JournalView → List ℕ → List (List ℕ)
entries_kept stable j entry = cond stable (j.pending ++ entry ∷ []) []

-- a crash at any moment from s to t leaves the entries from before, or those and the pending ones with one more
abbrev pub LeavesOldOrAll : {S : Type 0} → Ghosts S → S → S → JournalView → List ℕ → Type 0
LeavesOldOrAll g s t j entry = LeavesOldOrMore g s t j (j.pending ++ entry ∷ [])

-- from now on each crash leaves those
abbrev pub Lasts : {S : Type 0} → Ghosts S → S → S → JournalView → List ℕ → Type 0
Lasts g s t j entry = LeavesMore g s t j (j.pending ++ entry ∷ [])
