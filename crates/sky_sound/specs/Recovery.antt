-- What recovery finds on a site, which history it stands for, and which sites are sound: all by the image of its disk and the
-- objects in its cloud.
use Rattle.std.specs.Prelude.{◌≡◌, ℕ, ◌≤◌, List, Option, Some, None, Result, Ok, Err}
use Rattle.std.specs.Result.{result_map_both}
use Rattle.sky_base.specs.declared.object.SegName.{SegName}
use Rattle.sky_base.specs.declared.place.Damage.TheVariants.{Form}
use Rattle.sky_outside.specs.CloudMap.{CloudMap}
use Rattle.sky_nfs.specs.History.{History, IsLegalHistory, tree_after_changes}
use Rattle.sky_nfs.specs.Tree.{Tree}
use Rattle.sky_sound.specs.Cloud.{checkpoint_in, covers_of, cloud_tree, epoch_after}
use Rattle.sky_sound.specs.Entries.{journal_of, entries_above, changes_in, last_number}
use Rattle.sky_sound.specs.Refusal.{Refusal, Damaged, Foreign}

-- how many changes were made, and the tree after them
pub record Recovered : Type 0 where
  pub length : ℕ
  pub tree : Tree

-- what is found of a tree that has the changes up to a number, and of a journal's entries: those above it follow, in order
abbrev pub found_from : ℕ → Tree → List (ℕ × List ℕ) → Recovered
found_from covers tree entries =
    let above = entries_above covers entries in record { length = last_number covers above; tree = tree_after_changes tree (changes_in above) }

-- the history of which this is the beginning and these are the entries
abbrev pub history_from : ℕ → Tree → List (ℕ × List ℕ) → History
history_from covers tree entries = record { before = covers; tree = tree; changes = changes_in (entries_above covers entries) }

-- this, where no checkpoint is listed. Checkpoints are not read yet: the last one that is listed is damaged in its first field
abbrev pub unless_checkpoint : {A : Type 0} → Option SegName → Result A Refusal → Result A Refusal
unless_checkpoint None found = found
unless_checkpoint (Some name) found = Err (Damaged name (Form 0))

-- What recovery finds, or why it finds nothing: the cloud's tree, and the changes of the journal that it doesn't cover.
unfoldable pub recovered : (volume size : ℕ) → (image : List ℕ) → (objects : CloudMap) → Result Recovered Refusal
recovered volume size image objects =
    unless_checkpoint (checkpoint_in objects)
    (result_map_both (found_from (covers_of objects) (cloud_tree volume objects)) Foreign (journal_of volume size (covers_of objects) image))

-- the history that a site stands for at the start, or why it stands for none: what the cloud covers came before it
unfoldable pub history_of : (volume size : ℕ) → (image : List ℕ) → (objects : CloudMap) → Result History Refusal
history_of volume size image objects =
    unless_checkpoint (checkpoint_in objects)
    (result_map_both (history_from (covers_of objects) (cloud_tree volume objects)) Foreign (journal_of volume size (covers_of objects) image))

-- A site is sound where it stands for a history that is legal: its disk is a journal of the volume, and the changes of it that the cloud
-- doesn't cover are each answered OK on the cloud's tree.
pub record IsSound (volume size : ℕ) (image : List ℕ) (objects : CloudMap) : Type 0 where
  pub history : History
  pub stands_for : history_of volume size image objects ≡ Ok history
  pub legal : IsLegalHistory history

-- A crash left this of a site: it is sound, recovery finds the same as before, and the next epoch is not less than before.
pub record FindsSame (volume size : ℕ) (image : List ℕ) (objects : CloudMap) (left : List ℕ) (held : CloudMap) : Type 0 where
  pub sound : IsSound volume size left held
  pub same : recovered volume size left held ≡ recovered volume size image objects
  pub epoch : epoch_after objects ≤ epoch_after held
