-- What doing the changes of a journal again leads to.
use Rattle.std.specs.Prelude.{◌≡◌, ◌⊎◌, ℕ, nat_lt, true, false, IsTrue, List, [], ◌∷◌, ◌++◌, length, map, Some, Ok, Err, if◌then◌else◌}
use Rattle.std.specs.List.{AllByRecursion, slice_get}
use Rattle.sky_nfs.specs.History.{are_done, is_done, tree_after_change, tree_after_changes}
use Rattle.sky_nfs.specs.Tree.{Tree}
use Rattle.sky_nfs.specs.declared.call.Change.{Change}
use Rattle.sky_entry.specs.Entry.{entry_bytes}
use Rattle.sky_outside.specs.CloudMap.{CloudMap}
use Rattle.sky_outside.specs.Image.{bytes_at}
use Rattle.sky_outside.specs.Told.{WhereTold}
use Rattle.sky_outside.specs.declared.storage.Storage.{Ghosts}
use Rattle.sky_journal.specs.EntryPlaces.{places_of}
use Rattle.sky_journal.specs.Journal.{JournalView, number_behind}
use Rattle.sky_journal.specs.Place.{Left}
use Rattle.sky_journal.specs.Text.{numbered}
use Rattle.sky_journal.specs.declared.place.Place.{Place}
use Rattle.sky_sound.specs.Cloud.{HasNoCheckpoint, cloud_tree, covers_of}
use Rattle.sky_sound.specs.Entries.{IsStorable, change_of, changes_in, entries_above, is_of_change, journal_of}
use Rattle.sky_sound.specs.Recovery.{recovered}
use Rattle.sky_sound.specs.Refusal.{Foreign}

-- ---- one entry

-- a change was done, and was answered OK
pub record IsRedone (old : Tree) (change : Change) (new : Tree) : Type 0 where
  pub done : is_done old change ≡ true
  pub tree_is : new ≡ tree_after_change old change

-- bytes are the entry of this change, and are encoded as it is
pub record IsWhose (entry : List ℕ) (change : Change) : Type 0 where
  pub change_is : change_of entry ≡ Some change
  pub encoded : entry ≡ entry_bytes change

-- bytes are the entry of a change that is not answered OK
pub record IsRefused (tree : Tree) (entry : List ℕ) : Type 0 where
  pub change : Change
  pub change_is : change_of entry ≡ Some change
  pub refused : is_done tree change ≡ false

-- these bytes lie at a place of an image
abbrev pub LiesAt : List ℕ → List ℕ → ℕ → Type 0
LiesAt image bytes at = bytes_at image at (length bytes) ≡ bytes

-- ---- the next entry of a journal

-- this is the first of some places
abbrev pub IsFirstOf : List ℕ → ℕ → Type 0
IsFirstOf places at = (later : List ℕ) × (places ≡ at ∷ later)

-- the change is that of the next entry, where one is left at a place, and behind the entry is another place
abbrev pub DoesNext : JournalView → Place → Place → Change → List ℕ → Type 0
DoesNext j place next change image =
    (e : ℕ × List ℕ) (rest : List (ℕ × List ℕ)) (places : List ℕ) → Left j image place (e ∷ rest) places → IsTrue (is_of_change e.1)
    → IsWhose e.1 change × (at : ℕ) × (later : List ℕ) × (places ≡ at ∷ later) × Left j image next rest later

-- the next entry, where one is left at a place, is that of a change that is not answered OK, and this is the entry's place
abbrev pub FailsNext : JournalView → Place → Tree → ℕ → List ℕ → Type 0
FailsNext j place tree at image =
    (e : ℕ × List ℕ) (rest : List (ℕ × List ℕ)) (places : List ℕ) → Left j image place (e ∷ rest) places → IsTrue (is_of_change e.1) → IsRefused tree e.1 × IsFirstOf places at

-- ---- all of them

-- the places of those entries that are numbered above this, of entries and the place of each
abbrev pub places_above : ℕ → List (ℕ × List ℕ) → List ℕ → List ℕ
places_above covers [] places = []
places_above covers (e ∷ more) [] = []
places_above covers (e ∷ more) (p ∷ places) = if nat_lt covers e.0 then p ∷ places_above covers more places else places_above covers more places

-- The changes of those entries of an image that are above covers fail at a place: from a tree on each of the first ones is answered OK, and that of the
-- next entry is not. Of the places of these entries it is the one behind those of the first ones.
pub record FailsAt (start : Tree) (size covers : ℕ) (list : List (ℕ × List ℕ)) (image : List ℕ) (at : ℕ) : Type 0 where
  pub before : List (ℕ × List ℕ)
  pub entry : ℕ × List ℕ
  pub behind : List (ℕ × List ℕ)
  pub parts : entries_above covers list ≡ before ++ entry ∷ behind
  pub done : IsTrue (are_done start (changes_in before))
  pub refused : IsRefused (tree_after_changes start (changes_in before)) entry.1
  pub place : slice_get (places_above covers list (places_of size image)) (length before) ≡ Some at
  pub lies : LiesAt image entry.1 at

-- A site's disk is a journal of the volume, of whose changes, above those that the cloud covers, the one at a place fails.
pub record FailsOn (volume size : ℕ) (image : List ℕ) (objects : CloudMap) (at : ℕ) : Type 0 where
  pub no_checkpoint : HasNoCheckpoint objects
  pub list : List (ℕ × List ℕ)
  pub says : journal_of volume size (covers_of objects) image ≡ Ok list
  pub fails : FailsAt (cloud_tree volume objects) size (covers_of objects) list image at

-- A site is foreign at a place: recovery is refused for that; or it is not, and a change fails there.
abbrev pub IsForeignAt : (volume size : ℕ) → (image : List ℕ) → (objects : CloudMap) → (at : ℕ) → Type 0
IsForeignAt volume size image objects at = (recovered volume size image objects ≡ Err (Foreign at)) ⊎ FailsOn volume size image objects at

-- Doing a journal's changes again led from a tree to this one, by changes that were each answered OK: as many as the journal's last number
-- says. Where the disk tells what it has, they are those of the journal.
pub record IsReplayed {S : Type 0} (g : Ghosts S) (j : JournalView) (s : S) (start tree : Tree) : Type 0 where
  pub changes : List Change
  pub tree_is : tree ≡ tree_after_changes start changes
  pub done : IsTrue (are_done start changes)
  pub storable : AllByRecursion IsStorable changes
  pub count : length changes ≡ number_behind j.newer 0
  pub told : WhereTold (g.image s) (λ image. (list : List (ℕ × List ℕ)) → journal_of j.volume j.size 0 image ≡ Ok list → changes ≡ changes_in (entries_above 0 list))
  pub encoded : WhereTold (g.image s) (λ image. (list : List (ℕ × List ℕ)) → journal_of j.volume j.size 0 image ≡ Ok list → entries_above 0 list ≡ numbered 0 (map entry_bytes changes))
