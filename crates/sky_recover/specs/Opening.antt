-- What an opening finds on a site, and what it leaves there.
use Rattle.std.specs.Prelude.{◌≡◌, ℕ, nat_lt, false, List, [], ◌++◌, map, Ok, IsSome}
use Rattle.std.specs.List.{AllByRecursion}
use Rattle.sky_calls.specs.Durable.{DurableView}
use Rattle.sky_entry.specs.Entry.{entry_bytes}
use Rattle.sky_journal.specs.Journal.{JournalView, IsJournal, SameButSpare, StandsFor, StandsOn, entries, first_base, number_behind}
use Rattle.sky_journal.specs.Text.{numbered}
use Rattle.sky_nfs.specs.History.{History, IsLegalHistory, history_length, last_tree}
use Rattle.sky_nfs.specs.Tree.{empty_tree}
use Rattle.sky_outside.specs.CloudMap.{CloudMap}
use Rattle.sky_outside.specs.Moments.{LeavesOnly}
use Rattle.sky_outside.specs.Told.{WhereTold}
use Rattle.sky_outside.specs.declared.storage.Storage.{Ghosts}
use Rattle.sky_sound.specs.Cloud.{HasNoCheckpoint, cloud_tree, covers_of, epoch_after}
use Rattle.sky_sound.specs.Entries.{IsStorable}
use Rattle.sky_sound.specs.Recovery.{IsSound, FindsSame, history_of}
use Rattle.sky_sound.specs.Settled.{settled}
use Rattle.sky_recover.specs.Settling.{IsRead}
use Rattle.sky_recover.specs.declared.opened.Opened.{Opened}

-- what an opening found: the number of its epoch, the history that goes on, and the journal that keeps it
pub record Found : Type 0 where
  pub epoch : ℕ
  pub history : History
  pub journal : JournalView

-- a fact of what a site has on its disk and in its cloud, where it tells both
abbrev pub WhereBothTold : {S : Type 0} → Ghosts S → S → (List ℕ → CloudMap → Type 0) → Type 0
WhereBothTold g s P = WhereTold (g.image s) (λ image. WhereTold (g.objects s) (P image))

-- what was found begins where a cloud with these objects ends: it has no checkpoint of the proxy, the history goes on from the changes that
-- it covers, and the epoch is the one behind those of which it holds an object
pub record BeginsAt (volume : ℕ) (found : Found) (objects : CloudMap) : Type 0 where
  pub no_checkpoint : HasNoCheckpoint objects
  pub before : found.history.before ≡ covers_of objects
  pub tree : found.history.tree ≡ cloud_tree volume objects
  pub epoch : found.epoch ≡ epoch_after objects

-- A journal is what an image says as the journal of this volume, with areas of this size, where the changes up to covers are in the cloud.
pub record IsReadOn (volume size covers : ℕ) (image : List ℕ) (read : JournalView) : Type 0 where
  pub is : IsJournal read
  pub volume_is : read.volume ≡ volume
  pub size_is : read.size ≡ size
  pub says : IsRead read covers image

-- The journal that was found is the one that was read from an image, as an opening leaves it, apart from how much memory it has. There is one
-- such journal: two that are read from one image are left alike.
pub record IsLeftOf (volume size : ℕ) (found : Found) (image : List ℕ) : Type 0 where
  pub read : JournalView
  pub is : IsReadOn volume size found.history.before image read
  pub left : SameButSpare (settled found.history.before read) found.journal

-- It was found on this site: a legal history, whichever the site is, that begins where its cloud ends, and a journal of the volume. Where the
-- site tells what it has, it is the history that the site stands for, and the journal is what the opening leaves of the one on the disk.
pub record IsFoundOn {S : Type 0} (g : Ghosts S) (number area : ℕ) (s : S) (found : Found) : Type 0 where
  pub legal : IsLegalHistory found.history
  pub storable : AllByRecursion IsStorable found.history.changes
  pub volume : found.history.tree.volume ≡ number
  pub journal_volume : found.journal.volume ≡ number
  pub journal_size : found.journal.size ≡ area
  -- no change waits, and no call of the disk failed
  pub pending : found.journal.pending ≡ []
  pub up : found.journal.down ≡ false
  pub history : WhereBothTold g s (λ image objects. history_of number area image objects ≡ Ok found.history)
  pub cloud : WhereTold (g.objects s) (BeginsAt number found)
  pub journal : WhereTold (g.image s) (IsLeftOf number area found)

-- two that were found are the same, apart from how much memory their journals have
pub record SameButMemory (one two : Found) : Type 0 where
  pub epoch : two.epoch ≡ one.epoch
  pub history : two.history ≡ one.history
  pub journal : SameButSpare one.journal two.journal

-- over this image the journal has the entries of the history's changes by their numbers, and those that are appended follow them
pub record HasEntries (journal : JournalView) (history : History) (image : List ℕ) : Type 0 where
  pub older : List (List ℕ)
  pub newer : List (List ℕ)
  pub laid : StandsFor journal image older newer
  pub base : first_base journal ≡ history.before
  pub numbers : (more : List (List ℕ)) → entries journal older (newer ++ more) ≡ numbered history.before (map entry_bytes history.changes ++ more)

-- What was found is open on this site: a change can be appended to the journal, which has the whole history on the disk.
pub record IsOpenOn {S : Type 0} (g : Ghosts S) (s : S) (found : Found) : Type 0 where
  pub is : IsJournal found.journal
  pub area : IsSome found.journal.newer
  pub up : found.journal.down ≡ false
  pub pending : found.journal.pending ≡ []
  pub stored : number_behind found.journal.newer 0 ≡ history_length found.history
  pub stands : StandsOn g found.journal s
  pub has : WhereTold (g.image s) (HasEntries found.journal found.history)
  -- its areas are as an opening leaves them: another one would leave them as they are
  pub stays : SameButSpare (settled found.history.before found.journal) found.journal

-- what an opening found, by its numbers
abbrev pub found_by : Opened → History → JournalView → Found
found_by opened history journal = record { epoch = opened.epoch; history = history; journal = journal }

-- An opening of a volume on the site s gave this tree with its journal and these numbers, and left the site t: the tree is the last of
-- a history that was found on s and is open on t. As long as checkpoints are not read, the history begins with the empty tree.
pub record IsOpened {S : Type 0} (g : Ghosts S) (volume size : ℕ) (s t : S) (durable : DurableView) (opened : Opened) : Type 0 where
  pub history : History
  pub found : IsFoundOn g volume size s (found_by opened history durable.journal)
  pub opens : IsOpenOn g t (found_by opened history durable.journal)
  pub tree : durable.tree ≡ last_tree history
  pub k : opened.k ≡ history_length history
  pub journal : opened.journal ≡ nat_lt history.before (history_length history)
  pub nothing_before : history.before ≡ 0
  pub begins : history.tree ≡ empty_tree volume

-- A crash at any moment from s to t leaves a site on which recovery finds the same as on s, and the next epoch is not less, where that was sound.
abbrev pub LeavesFound : {S : Type 0} → Ghosts S → ℕ → ℕ → S → S → Type 0
LeavesFound g volume size s t =
    WhereBothTold g s (λ image objects. IsSound volume size image objects → LeavesOnly g s t (FindsSame volume size image objects))
