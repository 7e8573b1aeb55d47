-- A wipe: its two calls, one after the other.
use Rattle.std.proofs.Common.{◌≡◌, ◌⊎◌, ℕ, List, [], ⊎_elim, inl, inr, subst}
use Rattle.sky_outside.specs.Moments.{SameCloud, LeavesOnly, BesideObjects}
use Rattle.sky_outside.specs.Told.{WhereTold, BothTold}
use Rattle.sky_outside.specs.declared.storage.Storage.{Ghosts}
use Rattle.sky_outside.proofs.MomentLaws.{LeavesOnly-disk_then}
use Rattle.sky_journal.specs.Journal.{JournalView, StandsFor, ReadsEntries, without_newer, wiped}
use Rattle.sky_journal.proofs.Calls.{both_then}
use Rattle.sky_journal.proofs.Disks.{told_then, leaves_weaker}

-- what a call leaves that closes the newer area
abbrev pub LeavesNewer : JournalView → List (List ℕ) → List (List ℕ) → List ℕ → Type 0
LeavesNewer j older newer left = ReadsEntries j older newer left ⊎ ReadsEntries (without_newer j) [] older left

-- what a wipe leaves
abbrev pub LeavesWiped : JournalView → List (List ℕ) → List (List ℕ) → List ℕ → Type 0
LeavesWiped j older newer left = ReadsEntries j older newer left ⊎ ReadsEntries (without_newer j) [] older left ⊎ ReadsEntries (wiped j) [] [] left

-- what the first call leaves
first_leaves : (j : JournalView) (older newer : List (List ℕ)) (left : List ℕ) → LeavesNewer j older newer left → LeavesWiped j older newer left
first_leaves j older newer left read = ⊎_elim (λ before. inl before) (λ gone. inr (inl gone)) read

-- what the second leaves
second_leaves : (j m : JournalView) (spare : ℕ) → m ≡ record (without_newer j) { spare = spare } → (older newer : List (List ℕ)) (left : List ℕ) → LeavesNewer m [] older left
    → LeavesWiped j older newer left
second_leaves j m spare same older newer left read =
    ⊎_elim (λ before. inr (inl (subst (λ (v : JournalView). ReadsEntries v [] older left) same before)))
    (λ gone. inr (inr (subst (λ (v : JournalView). ReadsEntries (without_newer v) [] [] left) same gone))) read

module _ {S : Type 0} (g : Ghosts S) where
  -- where the first call fails
  pub wipe_fails : (a b : S) (j : JournalView)
      → WhereTold (g.image a) (λ image. (older newer : List (List ℕ)) → StandsFor j image older newer → LeavesOnly g a b (BesideObjects g a (LeavesNewer j older newer)))
      → WhereTold (g.image a) (λ image. (older newer : List (List ℕ)) → StandsFor j image older newer → LeavesOnly g a b (BesideObjects g a (LeavesWiped j older newer)))
  wipe_fails a b j first =
      told_then (λ image. (older newer : List (List ℕ)) → StandsFor j image older newer → LeavesOnly g a b (BesideObjects g a (LeavesNewer j older newer)))
      (λ image. (older newer : List (List ℕ)) → StandsFor j image older newer → LeavesOnly g a b (BesideObjects g a (LeavesWiped j older newer))) (g.image a) first
      (λ image told leaves older newer stands.
      leaves_weaker g a b (LeavesNewer j older newer) (LeavesWiped j older newer) (leaves older newer stands) (first_leaves j older newer))

  -- where it does not
  pub wipe_moments : (a b c : S) (j m : JournalView) (spare : ℕ) → m ≡ record (without_newer j) { spare = spare } → SameCloud g a b
      → BothTold (λ old new. (older newer : List (List ℕ)) → StandsFor j old older newer → StandsFor m new [] older) (g.image a) (g.image b)
      → WhereTold (g.image a) (λ image. (older newer : List (List ℕ)) → StandsFor j image older newer → LeavesOnly g a b (BesideObjects g a (LeavesNewer j older newer)))
      → WhereTold (g.image b) (λ image. (older newer : List (List ℕ)) → StandsFor m image older newer → LeavesOnly g b c (BesideObjects g b (LeavesNewer m older newer)))
      → WhereTold (g.image a) (λ image. (older newer : List (List ℕ)) → StandsFor j image older newer → LeavesOnly g a c (BesideObjects g a (LeavesWiped j older newer)))
  wipe_moments a b c j m spare same beside holds first second =
      both_then (λ old new. (older newer : List (List ℕ)) → StandsFor j old older newer → StandsFor m new [] older)
      (λ image. (older newer : List (List ℕ)) → StandsFor j image older newer → LeavesOnly g a b (BesideObjects g a (LeavesNewer j older newer)))
      (λ image. (older newer : List (List ℕ)) → StandsFor m image older newer → LeavesOnly g b c (BesideObjects g b (LeavesNewer m older newer)))
      (λ image. (older newer : List (List ℕ)) → StandsFor j image older newer → LeavesOnly g a c (BesideObjects g a (LeavesWiped j older newer)))
      (g.image a) (g.image b) holds first second
      (λ image after then_stands first_leaves_only second_leaves_only older newer stands.
      LeavesOnly-disk_then g a b c (LeavesNewer j older newer) (LeavesNewer m [] older) (LeavesWiped j older newer) beside
      (first_leaves_only older newer stands) (second_leaves_only [] older (then_stands older newer stands))
      (first_leaves j older newer) (second_leaves j m spare same older newer))
