-- What a call of a journal leaves of its entries, at any moment of it and behind it.
use Rattle.std.specs.Prelude.{◌⊎◌, List, ◌++◌, ℕ}
use Rattle.sky_outside.specs.Moments.{LeavesOnly, BesideObjects}
use Rattle.sky_outside.specs.Told.{WhereTold, BothTold}
use Rattle.sky_outside.specs.declared.storage.Storage.{Ghosts}
use Rattle.sky_journal.specs.Journal.{JournalView, StandsFor, ReadsEntries}

-- a crash at any moment from s to t leaves the entries from before, or those and these
abbrev pub LeavesOldOrMore : {S : Type 0} → Ghosts S → S → S → JournalView → List (List ℕ) → Type 0
LeavesOldOrMore g s t j more =
    WhereTold (g.image s) (λ image. (older newer : List (List ℕ)) → StandsFor j image older newer
    → LeavesOnly g s t (BesideObjects g s (λ left. ReadsEntries j older newer left ⊎ ReadsEntries j older (newer ++ more) left)))

-- from now on each crash leaves the entries from before, and these
abbrev pub LeavesMore : {S : Type 0} → Ghosts S → S → S → JournalView → List (List ℕ) → Type 0
LeavesMore g s t j more =
    WhereTold (g.image s) (λ image. (older newer : List (List ℕ)) → StandsFor j image older newer
    → (left : List ℕ) → g.may_leave t left → ReadsEntries j older (newer ++ more) left)

-- the journal k over what the disk t tells stands for the entries for which j stood over what s told, and these
abbrev pub HoldsMore : {S : Type 0} → Ghosts S → S → S → JournalView → JournalView → List (List ℕ) → Type 0
HoldsMore g s t j k more =
    BothTold (λ old new. (older newer : List (List ℕ)) → StandsFor j old older newer → StandsFor k new older (newer ++ more)) (g.image s) (g.image t)
