-- What a commit leaves on the disk, at each moment and at its end.
use Rattle.std.proofs.Common.{◌≡◌, ◌⊎◌, ◌+◌, ◌≤◌, ℕ, List, [], ◌∷◌, ◌++◌, length, Option, Some, IfSome, arith, ap, sym, ◌∙◌, subst, ⊎_elim, inl, inr}
use Rattle.std.specs.Option.{option_map}
use Rattle.sky_outside.specs.Image.{written}
use Rattle.sky_outside.specs.Moments.{LeavesOnly, BesideObjects, NothingPending}
use Rattle.sky_outside.specs.Told.{WhereTold, BothTold}
use Rattle.sky_outside.specs.declared.storage.Storage.{Ghosts}
use Rattle.sky_journal.specs.Written.{IsBehindBatchGate, IsOpening}
use Rattle.sky_journal.specs.Journal.{JournalView, IsJournal, IsOpenArea, ArePending, StandsFor, StandsOn, ReadsEntries, batch_size, after_commit}
use Rattle.sky_journal.specs.declared.open_area.OpenArea.{OpenArea}
use Rattle.sky_journal.proofs.Appending.{batch_size-some}
use Rattle.sky_journal.proofs.Crash.{body_torn, gate_torn, committed}
use Rattle.sky_journal.proofs.Disks.{told_then, told_from, both_from, leaves_weaker}
use Rattle.sky_journal.proofs.Journals.{IsJournal-after_commit, StandsFor-but}
use Rattle.sky_journal.proofs.Reading.{reads, ReadsEntries-after_commit}

-- the newer area, as it is known
pub newer_area : (j : JournalView) (a : OpenArea) → IsJournal j → j.newer ≡ Some a → IsOpenArea j.size a
newer_area j a is newer = subst (λ (o : Option OpenArea). IfSome o (IsOpenArea j.size)) newer is.newer

pub pending_fits : (j : JournalView) (a : OpenArea) → IsJournal j → j.newer ≡ Some a → ArePending j.size (Some a) j.pending
pending_fits j a is newer = subst (λ (o : Option OpenArea). ArePending j.size o j.pending) newer is.pending

-- what is left while a batch is written reads as the entries before it, or with all of it
pub commit_leaves : (j : JournalView) (a : OpenArea) (bytes image left : List ℕ) (older newer : List (List ℕ)) → IsJournal j → j.newer ≡ Some a
    → IsBehindBatchGate bytes j.pending → (j.pending ≡ [] → ⊥) → StandsFor j image older newer → IsOpening (a.start + a.end) bytes image left
    → ReadsEntries j older newer left ⊎ ReadsEntries j older (newer ++ j.pending) left
commit_leaves j a bytes image left older newer is e behind some stands (inl torn) =
    let fits : a.end + 1 + length bytes ≤ j.size = omega (arith, behind.length_is, batch_size-some j.pending some, (pending_fits j a is e).1) in
    inl (reads j left older newer is (body_torn j a image left older newer (length bytes) is stands e torn fits))
commit_leaves j a bytes image left older newer is e behind some stands (inr torn) =
    ⊎_elim (λ before. inl (reads j left older newer is before))
    (λ after. inr (ReadsEntries-after_commit j left older (newer ++ j.pending) (reads (after_commit j) left older (newer ++ j.pending) (IsJournal-after_commit j is) after)))
    (gate_torn j a bytes image left older newer is stands e behind some torn)

-- how far a batch reaches
pub commit_within : (j : JournalView) (a : OpenArea) (n : ℕ) → IsJournal j → j.newer ≡ Some a → n ≡ batch_size j.pending → a.start + a.end + 1 + n ≤ j.disk
commit_within j a n is e long =
    let opens = newer_area j a is e in
    ⊎_elim (λ first. omega (arith, first, long, (pending_fits j a is e).1, is.fits)) (λ second. omega (arith, second, long, (pending_fits j a is e).1, is.fits)) opens.start

module _ {S : Type 0} (g : Ghosts S) (s t : S) (j : JournalView) (a : OpenArea) (bytes : List ℕ) (is : IsJournal j) (e : j.newer ≡ Some a)
    (behind : IsBehindBatchGate bytes j.pending) (some : j.pending ≡ [] → ⊥) where
  -- at each moment
  pub commit_moments : WhereTold (g.image s) (λ image. LeavesOnly g s t (BesideObjects g s (IsOpening (a.start + a.end) bytes image)))
      → WhereTold (g.image s) (λ image. (older newer : List (List ℕ)) → StandsFor j image older newer
      → LeavesOnly g s t (BesideObjects g s (λ left. ReadsEntries j older newer left ⊎ ReadsEntries j older (newer ++ j.pending) left)))
  commit_moments leaves =
      told_then (λ image. LeavesOnly g s t (BesideObjects g s (IsOpening (a.start + a.end) bytes image)))
      (λ image. (older newer : List (List ℕ)) → StandsFor j image older newer
      → LeavesOnly g s t (BesideObjects g s (λ left. ReadsEntries j older newer left ⊎ ReadsEntries j older (newer ++ j.pending) left))) (g.image s) leaves
      (λ image told l older newer stands.
      leaves_weaker g s t (IsOpening (a.start + a.end) bytes image) (λ left. ReadsEntries j older newer left ⊎ ReadsEntries j older (newer ++ j.pending) left) l
      (λ left opening. commit_leaves j a bytes image left older newer is e behind some stands opening))

  holds_after : (k : JournalView) (spare : ℕ) → k ≡ record (after_commit j) { spare = spare } → (image : List ℕ) (older newer : List (List ℕ)) → StandsFor j image older newer
      → StandsFor k (written (written image (a.start + a.end + 1) bytes) (a.start + a.end) (1 ∷ [])) older (newer ++ j.pending)
  holds_after k spare same image older newer stands =
      let new : List ℕ = written (written image (a.start + a.end + 1) bytes) (a.start + a.end) (1 ∷ []) in
      subst (λ (v : JournalView). StandsFor v new older (newer ++ j.pending)) (sym same)
      (StandsFor-but (after_commit j) [] spare j.down new older (newer ++ j.pending) (committed j a bytes image older newer is stands e behind some))

  -- at its end
  pub commit_holds : (k : JournalView) (spare : ℕ) → k ≡ record (after_commit j) { spare = spare }
      → g.image t ≡ option_map (λ image. written (written image (a.start + a.end + 1) bytes) (a.start + a.end) (1 ∷ [])) (g.image s)
      → BothTold (λ old new. (older newer : List (List ℕ)) → StandsFor j old older newer → StandsFor k new older (newer ++ j.pending)) (g.image s) (g.image t)
  commit_holds k spare same wrote =
      both_from (λ old new. (older newer : List (List ℕ)) → StandsFor j old older newer → StandsFor k new older (newer ++ j.pending)) (g.image s) (g.image t)
      (λ image. written (written image (a.start + a.end + 1) bytes) (a.start + a.end) (1 ∷ [])) wrote
      (λ image told older newer stands. holds_after k spare same image older newer stands)

  pub commit_stands : (k : JournalView) (spare : ℕ) → k ≡ record (after_commit j) { spare = spare }
      → g.image t ≡ option_map (λ image. written (written image (a.start + a.end + 1) bytes) (a.start + a.end) (1 ∷ [])) (g.image s)
      → NothingPending g t → g.bytes_of t ≡ g.bytes_of s → StandsOn g j s → StandsOn g k t
  commit_stands k spare same wrote durable size stands = record {
    size = size ∙ stands.size ∙ sym (ap (λ (v : JournalView). v.disk) same);
    durable = durable;
    laid = told_from (λ image. (older newer : List (List ℕ)) × StandsFor j image older newer) (λ image. (older newer : List (List ℕ)) × StandsFor k image older newer) (g.image s) (g.image t)
        (λ image. written (written image (a.start + a.end + 1) bytes) (a.start + a.end) (1 ∷ [])) wrote stands.laid
        (λ image told laid. (laid.0, laid.1 ++ j.pending, holds_after k spare same image laid.0 laid.1 laid.2));
  }
