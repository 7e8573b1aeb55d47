-- What the journal's disk has of what is kept: the first changes of the history, up to the mark and maybe further.
use Rattle.std.specs.Prelude.{ℕ, ◌≤◌, max, List}
use Rattle.sky_journal.specs.Journal.{ReadsAs}
use Rattle.sky_journal.specs.Text.{numbered}
use Rattle.sky_nfs.specs.History.{history_length}
use Rattle.sky_outside.specs.Moments.{LeavesOnly, BesideObjects, SameCloud}
use Rattle.sky_outside.specs.Told.{WhereTold, BothTold}
use Rattle.sky_outside.specs.declared.storage.Storage.{Ghosts}
use Rattle.sky_sound.specs.Invariant.{AreStorable, entries_between}
use Rattle.sky_sound.specs.Kept.{Kept}
use Rattle.sky_world.specs.Meaning.{cut_to}

-- An image of the disk reads, as a journal, as the changes of the history up to this number, behind one with which the journal begins: it does so where
-- the history does, or later, but behind no change that the cloud does not have.
pub record ReadsTo (kept : Kept) (n : ℕ) (image : List ℕ) : Type 0 where
  pub base : ℕ
  pub least : kept.history.before ≤ base
  pub most : base ≤ kept.completed
  pub reads : ReadsAs kept.history.tree.volume kept.journal.size base (numbered base (entries_between kept.history base n)) image

-- it reads so for some number, with which recovery finds at least so many changes, each of which can be read from its entry
pub record HoldsPrefix (floor : ℕ) (kept : Kept) (image : List ℕ) : Type 0 where
  pub n : ℕ
  pub least : floor ≤ max n kept.completed
  pub most : n ≤ history_length kept.history
  pub reads : ReadsTo kept n image
  pub storable : AreStorable (cut_to n kept.history).changes

-- a crash at any moment from s to t leaves a prefix of the history that holds at least so many changes
abbrev pub LeavesPrefix : {S : Type 0} → Ghosts S → S → S → ℕ → Kept → Type 0
LeavesPrefix g s t floor kept = WhereTold (g.image s) (λ read. LeavesOnly g s t (BesideObjects g s (HoldsPrefix floor kept)))

-- from s to t the disk was called, and was not blamed: it tells as before, and the cloud beside it stays
pub record WentOn {S : Type 0} (g : Ghosts S) (s t : S) (floor : ℕ) (kept : Kept) : Type 0 where
  pub leaves : LeavesPrefix g s t floor kept
  pub tells : BothTold (λ old new. Unit {0}) (g.image s) (g.image t)
  pub beside : SameCloud g s t
