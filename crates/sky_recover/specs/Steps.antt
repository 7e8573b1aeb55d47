-- What the steps of an opening give one another.
use Rattle.std.specs.Prelude.{◌≡◌, ◌⊎◌, ℕ, List, length, IsTrue, Ok}
use Rattle.std.specs.List.{AllByRecursion}
use Rattle.sky_calls.specs.Durable.{DurableView}
use Rattle.sky_journal.specs.Journal.{JournalView, SameButSpare, StandsOn, number_behind}
use Rattle.sky_nfs.specs.History.{are_done, tree_after_changes}
use Rattle.sky_nfs.specs.Tree.{empty_tree}
use Rattle.sky_nfs.specs.declared.call.Change.{Change}
use Rattle.sky_outside.specs.CloudMap.{CloudMap}
use Rattle.sky_outside.specs.Moments.{BesideObjects, LeavesOnly, OfPair}
use Rattle.sky_outside.specs.Told.{WhereTold}
use Rattle.sky_outside.specs.declared.storage.Storage.{Ghosts}
use Rattle.sky_sound.specs.Entries.{IsStorable, changes_in, entries_above, journal_of}
use Rattle.sky_sound.specs.Settled.{settled}
use Rattle.sky_recover.specs.Opening.{HasEntries}
use Rattle.sky_recover.specs.Settling.{KeepsAbove}

-- what may be left while an object is put: the disk as it may be left now, and the cloud's objects of now or those with the object
abbrev pub PutsOrNot : {S : Type 0} → Ghosts S → (CloudMap → CloudMap) → S → OfPair
PutsOrNot g change s image held = g.may_leave s image × WhereTold (g.objects s) (λ objects. (held ≡ objects) ⊎ (held ≡ change objects))

-- a crash at any moment from s to t leaves the entries that the disk said at s, where they are above those that are kept elsewhere
abbrev pub KeepsEntries : {S : Type 0} → Ghosts S → ℕ → ℕ → S → S → Type 0
KeepsEntries g volume size s t =
    WhereTold (g.image s) (λ image. (list : List (ℕ × List ℕ)) → journal_of volume size 0 image ≡ Ok list
    → LeavesOnly g s t (BesideObjects g s (KeepsAbove volume size 0 list)))

-- From the journal j, as it was read at s, this tree and journal came about by t: the journal's changes were done again, on the empty
-- tree, each was answered OK, and the journal's areas were settled. Where the disk tells what it has, they are the changes that it said.
pub record IsContinued {S : Type 0} (g : Ghosts S) (volume : ℕ) (j : JournalView) (s t : S) (d : DurableView) : Type 0 where
  pub changes : List Change
  pub done : IsTrue (are_done (empty_tree volume) changes)
  pub storable : AllByRecursion IsStorable changes
  pub tree_is : d.tree ≡ tree_after_changes (empty_tree volume) changes
  pub count : length changes ≡ number_behind d.journal.newer 0
  pub told : WhereTold (g.image s) (λ image. (list : List (ℕ × List ℕ)) → journal_of j.volume j.size 0 image ≡ Ok list → changes ≡ changes_in (entries_above 0 list))
  pub has : WhereTold (g.image t) (HasEntries d.journal (record { before = 0; tree = empty_tree volume; changes = changes }))
  pub settled : SameButSpare (settled 0 j) d.journal
  pub stands : StandsOn g d.journal t
