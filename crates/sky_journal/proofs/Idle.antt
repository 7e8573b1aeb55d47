-- A commit where nothing is pending, and what lasts after one.
use Rattle.std.proofs.Common.{◌≡◌, ◌⊎◌, ℕ, List, [], ◌++◌, Option, Some, ap, sym, ◌∙◌, subst, inl}
use Rattle.std.proofs.lemmas.List.{append-nil}
use Rattle.sky_outside.specs.Moments.{LeavesOnly, BesideObjects}
use Rattle.sky_outside.specs.Told.{WhereTold, BothTold}
use Rattle.sky_outside.specs.declared.storage.Storage.{Ghosts}
use Rattle.sky_outside.proofs.ToldLaws.{WhereTold-from}
use Rattle.sky_outside.proofs.MomentLaws.{LeavesOnly-disk_start, only_read}
use Rattle.sky_journal.specs.Journal.{JournalView, IsJournal, StandsFor, StandsOn, ReadsEntries, after_commit}
use Rattle.sky_journal.proofs.Disks.{both_at, both_same}
use Rattle.sky_journal.proofs.Journals.{IsJournal-but, IsJournal-after_commit}
use Rattle.sky_journal.proofs.Reading.{reads, ReadsEntries-after_commit}

-- what a crash may leave at each moment of a commit, and what it leaves afterwards
abbrev pub CommitMoments : {S : Type 0} → Ghosts S → S → S → JournalView → Type 0
CommitMoments g s t j = WhereTold (g.image s) (λ image. (older newer : List (List ℕ)) → StandsFor j image older newer
    → LeavesOnly g s t (BesideObjects g s (λ left. ReadsEntries j older newer left ⊎ ReadsEntries j older (newer ++ j.pending) left)))

abbrev pub CommitLasts : {S : Type 0} → Ghosts S → S → S → JournalView → Type 0
CommitLasts g s t j = WhereTold (g.image s) (λ image. (older newer : List (List ℕ)) → StandsFor j image older newer
    → (left : List ℕ) → g.may_leave t left → ReadsEntries j older (newer ++ j.pending) left)

module _ {S : Type 0} (g : Ghosts S) (s : S) (j : JournalView) (is : IsJournal j) (stands : StandsOn g j s) where
  -- what is read is all that a crash now leaves
  left_reads : (image left : List ℕ) (older newer : List (List ℕ)) → g.image s ≡ Some image → StandsFor j image older newer → g.may_leave s left → ReadsEntries j older newer left
  left_reads image left older newer told here leaves =
      subst (λ (l : List ℕ). ReadsEntries j older newer l) (sym (only_read g s image told stands.durable left leaves)) (reads j image older newer is here)

  pub idle_moments : CommitMoments g s s j
  idle_moments =
      WhereTold-from (g.image s) (λ image. (older newer : List (List ℕ)) → StandsFor j image older newer
      → LeavesOnly g s s (BesideObjects g s (λ left. ReadsEntries j older newer left ⊎ ReadsEntries j older (newer ++ j.pending) left)))
      (λ image told older newer here. LeavesOnly-disk_start g s (λ left. ReadsEntries j older newer left ⊎ ReadsEntries j older (newer ++ j.pending) left)
      (λ left leaves. inl (left_reads image left older newer told here leaves)))

  pub idle_lasts : j.pending ≡ [] → CommitLasts g s s j
  idle_lasts none =
      WhereTold-from (g.image s) (λ image. (older newer : List (List ℕ)) → StandsFor j image older newer
      → (left : List ℕ) → g.may_leave s left → ReadsEntries j older (newer ++ j.pending) left)
      (λ image told older newer here left leaves.
      subst (λ (es : List (List ℕ)). ReadsEntries j older es left) (sym (ap (λ (p : List (List ℕ)). newer ++ p) none ∙ append-nil newer)) (left_reads image left older newer told here leaves))

  pub commit_lasts : (t : S) (k : JournalView) → k ≡ record (after_commit j) { spare = k.spare }
      → BothTold (λ old new. (older newer : List (List ℕ)) → StandsFor j old older newer → StandsFor k new older (newer ++ j.pending)) (g.image s) (g.image t)
      → StandsOn g k t → CommitLasts g s t j
  commit_lasts t k same holds after =
      WhereTold-from (g.image s) (λ image. (older newer : List (List ℕ)) → StandsFor j image older newer
      → (left : List ℕ) → g.may_leave t left → ReadsEntries j older (newer ++ j.pending) left)
      (λ image told older newer here left leaves.
      let now = both_at (λ old new. (older newer : List (List ℕ)) → StandsFor j old older newer → StandsFor k new older (newer ++ j.pending)) (g.image s) (g.image t) image told holds in
      let journal : IsJournal k = subst IsJournal (sym same) (IsJournal-but (after_commit j) k.spare j.down (IsJournal-after_commit j is)) in
      let read : ReadsEntries k older (newer ++ j.pending) now.0 = reads k now.0 older (newer ++ j.pending) journal (now.2 older newer here) in
      let read_here : ReadsEntries j older (newer ++ j.pending) now.0 =
      ReadsEntries-after_commit j now.0 older (newer ++ j.pending) (subst (λ (v : JournalView). ReadsEntries v older (newer ++ j.pending) now.0) same read) in
      subst (λ (l : List ℕ). ReadsEntries j older (newer ++ j.pending) l) (sym (only_read g t now.0 now.1 after.durable left leaves)) read_here)

-- with nothing pending the journal stands for the same entries
pub idle_holds : (j : JournalView) → j.pending ≡ [] → (told : Option (List ℕ))
    → BothTold (λ old new. (older newer : List (List ℕ)) → StandsFor j old older newer → StandsFor j new older (newer ++ j.pending)) told told
idle_holds j none told =
    both_same (λ old new. (older newer : List (List ℕ)) → StandsFor j old older newer → StandsFor j new older (newer ++ j.pending)) told
    (λ image older newer stands. subst (λ (es : List (List ℕ)). StandsFor j image older es) (sym (ap (λ (p : List (List ℕ)). newer ++ p) none ∙ append-nil newer)) stands)
