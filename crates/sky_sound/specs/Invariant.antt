-- What holds between any two steps of what is kept of a volume, of the journal that the program has, and of the site.
use Rattle.std.specs.Prelude.{◌≡◌, ℕ, ◌+◌, ◌-◌, ◌≤◌, List, ◌++◌, drop, map, take}
use Rattle.std.specs.List.{AllByRecursion}
use Rattle.sky_entry.specs.Entry.{entry_bytes}
use Rattle.sky_journal.specs.Journal.{JournalView, IsJournal, StandsFor, entries, first_base, number_behind}
use Rattle.sky_journal.specs.Text.{numbered}
use Rattle.sky_nfs.specs.History.{History, IsLegalHistory, history_length, tree_at_length}
use Rattle.sky_nfs.specs.Validity.{IsValidTree}
use Rattle.sky_nfs.specs.declared.call.Change.{Change}
use Rattle.sky_outside.specs.CloudMap.{CloudMap}
use Rattle.sky_outside.specs.Moments.{NothingPending}
use Rattle.sky_outside.specs.Told.{WhereTold}
use Rattle.sky_outside.specs.declared.storage.Storage.{Ghosts}
use Rattle.sky_sound.specs.Cloud.{HasNoCheckpoint, cloud_tree, covers_of, epoch_after}
use Rattle.sky_sound.specs.Entries.{IsStorable}
use Rattle.sky_sound.specs.Kept.{Kept, journal_state}

-- the entries of the changes of a history up to this number
abbrev pub entries_to : History → ℕ → List (List ℕ)
entries_to history n = map entry_bytes (take (n - history.before) history.changes)

-- those of the changes behind a number, up to another
abbrev pub entries_between : History → (base n : ℕ) → List (List ℕ)
entries_between history base n = drop (base - history.before) (entries_to history n)

-- those of the changes behind a number
abbrev pub entries_behind : History → ℕ → List (List ℕ)
entries_behind history n = map entry_bytes (drop (n - history.before) history.changes)

-- each of these changes can be read from its entry
abbrev pub AreStorable : List Change → Type 0
AreStorable changes = AllByRecursion IsStorable changes

-- A cloud has of a history the changes that were completed, and no others: it has no checkpoint of the proxy yet, and its tree is valid, and is the
-- one that those changes led to.
pub record CloudHas (kept : Kept) (objects : CloudMap) : Type 0 where
  pub no_checkpoint : HasNoCheckpoint objects
  pub covers : covers_of objects ≡ kept.completed
  pub tree : cloud_tree kept.history.tree.volume objects ≡ tree_at_length kept.history kept.completed
  pub valid : IsValidTree (tree_at_length kept.history kept.completed)

-- Over an image the journal has the entries of the changes behind its first number, up to those that are stored; and those that are appended follow
-- them. It begins where the history does, or later, but behind no change that the cloud does not have.
pub record DiskHas (kept : Kept) (journal : JournalView) (image : List ℕ) : Type 0 where
  -- the entries of both areas
  pub older : List (List ℕ)
  pub newer : List (List ℕ)
  pub laid : StandsFor journal image older newer
  pub least : kept.history.before ≤ first_base journal
  pub most : first_base journal ≤ kept.completed
  pub numbers : (more : List (List ℕ)) → entries journal older (newer ++ more)
      ≡ numbered (first_base journal) (entries_between kept.history (first_base journal) kept.stored ++ more)

-- In an epoch this is kept, by this journal, on a site.
pub record Invariant {S : Type 0} (g : Ghosts S) (epoch : ℕ) (kept : Kept) (journal : JournalView) (s : S) : Type 0 where
  -- nothing that was written waits for a sync: a crash leaves the image that the disk tells, and no other
  pub durable : NothingPending g s
  -- the history is legal, and each of its changes can be read from its entry
  pub legal : IsLegalHistory kept.history
  pub storable : AreStorable kept.history.changes
  -- the program's journal is one of the same volume, and is as it is kept
  pub is : IsJournal journal
  pub volume : journal.volume ≡ kept.history.tree.volume
  pub journal_is : journal_state journal ≡ kept.journal
  -- what is completed is stored; all that is stored is marked, as nothing is stored but by a call that is to be stable
  pub begins : kept.history.before ≤ kept.completed
  pub completed : kept.completed ≤ kept.stored
  pub marked : kept.mark ≡ kept.stored
  pub stored : kept.stored ≤ history_length kept.history
  -- the cloud has the completed changes
  pub cloud : WhereTold (g.objects s) (CloudHas kept)
  -- the disk has the others that are stored, and the entries of the rest wait
  pub disk : WhereTold (g.image s) (DiskHas kept journal)
  pub last : number_behind journal.newer 0 ≡ kept.stored
  pub waits : journal.pending ≡ entries_behind kept.history kept.stored
  -- the epoch is the last of which the cloud holds an object
  pub epoch_is : WhereTold (g.objects s) (λ objects. epoch_after objects ≡ epoch + 1)
