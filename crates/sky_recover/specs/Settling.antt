-- What an opening reads of the journal, and what stays of it while its areas are settled.
use Rattle.std.specs.Prelude.{◌≡◌, ℕ, List, Ok}
use Rattle.sky_outside.specs.Moments.{LeavesOnly, BesideObjects}
use Rattle.sky_outside.specs.Told.{WhereTold, BothTold}
use Rattle.sky_outside.specs.declared.storage.Storage.{Ghosts}
use Rattle.sky_journal.specs.Journal.{JournalView, StandsFor, entries}
use Rattle.sky_sound.specs.Entries.{journal_of, entries_above}

-- over an image the journal stands for the entries of changes that the image says, where those up to covers are kept elsewhere too
pub record IsRead (j : JournalView) (covers : ℕ) (image : List ℕ) : Type 0 where
  pub older : List (List ℕ)
  pub newer : List (List ℕ)
  pub stands : StandsFor j image older newer
  pub says : journal_of j.volume j.size covers image ≡ Ok (entries j older newer)

-- an image says the same entries above covers as these
pub record KeepsAbove (volume size covers : ℕ) (list : List (ℕ × List ℕ)) (image : List ℕ) : Type 0 where
  pub read : List (ℕ × List ℕ)
  pub says : journal_of volume size covers image ≡ Ok read
  pub above : entries_above covers read ≡ entries_above covers list

-- from s to t the disk of a journal says the same entries above covers
abbrev pub StaysAbove : {S : Type 0} → Ghosts S → S → S → JournalView → ℕ → Type 0
StaysAbove g s t j covers =
    BothTold (λ old new. (list : List (ℕ × List ℕ)) → journal_of j.volume j.size covers old ≡ Ok list → KeepsAbove j.volume j.size covers list new) (g.image s) (g.image t)

-- a crash at any moment from s to t leaves an image that says them
abbrev pub LeavesAbove : {S : Type 0} → Ghosts S → S → S → JournalView → ℕ → Type 0
LeavesAbove g s t j covers =
    WhereTold (g.image s) (λ image. (list : List (ℕ × List ℕ)) → journal_of j.volume j.size covers image ≡ Ok list
    → LeavesOnly g s t (BesideObjects g s (KeepsAbove j.volume j.size covers list)))
