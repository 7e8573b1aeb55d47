-- A call of a journal that writes to its disk: what crashes leave while it goes on, and for what the journal stands at its end.
use Rattle.std.proofs.Common.{◌≡◌, ◌⊎◌, ℕ, List, Option, None, Some, sym, subst, ◌∙◌, inl}
use Rattle.std.specs.Option.{option_map}
use Rattle.sky_outside.specs.Moments.{LeavesOnly, BesideObjects, NothingPending}
use Rattle.sky_outside.specs.Told.{WhereTold, BothTold}
use Rattle.sky_outside.specs.declared.storage.Storage.{Ghosts}
use Rattle.sky_outside.proofs.MomentLaws.{LeavesOnly-disk_start, only_read}
use Rattle.sky_outside.proofs.ToldLaws.{WhereTold-from}
use Rattle.sky_journal.specs.Journal.{JournalView, IsJournal, StandsFor, StandsOn, ReadsEntries}
use Rattle.sky_journal.proofs.Disks.{told_then, told_from, both_from, leaves_weaker}
use Rattle.sky_journal.proofs.Reading.{reads}

-- where both are told, what holds of the first and of the second leads to more of the first
pub both_then : {A : Type 0} (R : A → A → Type 0) (P Q T : A → Type 0) (old new : Option A) → BothTold R old new → WhereTold old P → WhereTold new Q
    → ((x y : A) → R x y → P x → Q y → T x) → WhereTold old T
both_then R P Q T None new both p q leads = tt
both_then R P Q T (Some x) None both p q leads = absurd both
both_then R P Q T (Some x) (Some y) both p q leads = leads x y both p q

module _ {S : Type 0} (g : Ghosts S) (s t : S) (j : JournalView) where
  -- at each moment of it
  pub moments_from : (W : List ℕ → List ℕ → Type 0) (Q : List (List ℕ) → List (List ℕ) → List ℕ → Type 0)
      → WhereTold (g.image s) (λ image. LeavesOnly g s t (BesideObjects g s (W image)))
      → ((image left : List ℕ) (older newer : List (List ℕ)) → StandsFor j image older newer → W image left → Q older newer left)
      → WhereTold (g.image s) (λ image. (older newer : List (List ℕ)) → StandsFor j image older newer → LeavesOnly g s t (BesideObjects g s (Q older newer)))
  moments_from W Q leaves leads =
      told_then (λ image. LeavesOnly g s t (BesideObjects g s (W image)))
      (λ image. (older newer : List (List ℕ)) → StandsFor j image older newer → LeavesOnly g s t (BesideObjects g s (Q older newer))) (g.image s) leaves
      (λ image told l older newer stands. leaves_weaker g s t (W image) (Q older newer) l (λ left w. leads image left older newer stands w))

  -- at its end, where the image is made by f of the one before, and the journal then stands for A and B
  pub holds_from : (k : JournalView) (f : List ℕ → List ℕ) (A B : List (List ℕ) → List (List ℕ) → List (List ℕ)) → g.image t ≡ option_map f (g.image s)
      → ((image : List ℕ) (older newer : List (List ℕ)) → StandsFor j image older newer → StandsFor k (f image) (A older newer) (B older newer))
      → BothTold (λ old new. (older newer : List (List ℕ)) → StandsFor j old older newer → StandsFor k new (A older newer) (B older newer)) (g.image s) (g.image t)
  holds_from k f A B wrote leads =
      both_from (λ old new. (older newer : List (List ℕ)) → StandsFor j old older newer → StandsFor k new (A older newer) (B older newer)) (g.image s) (g.image t) f wrote
      (λ image told older newer stands. leads image older newer stands)

  pub stands_from : (k : JournalView) (f : List ℕ → List ℕ) (A B : List (List ℕ) → List (List ℕ) → List (List ℕ)) → g.image t ≡ option_map f (g.image s)
      → ((image : List ℕ) (older newer : List (List ℕ)) → StandsFor j image older newer → StandsFor k (f image) (A older newer) (B older newer))
      → k.disk ≡ j.disk → NothingPending g t → g.bytes_of t ≡ g.bytes_of s → StandsOn g j s → StandsOn g k t
  stands_from k f A B wrote leads disk durable size stands = record {
    size = size ∙ stands.size ∙ sym disk;
    durable = durable;
    laid = told_from (λ image. (older newer : List (List ℕ)) × StandsFor j image older newer) (λ image. (older newer : List (List ℕ)) × StandsFor k image older newer) (g.image s) (g.image t)
        f wrote stands.laid (λ image told laid. (A laid.0 laid.1, B laid.0 laid.1, leads image laid.0 laid.1 laid.2));
  }

-- A call that does nothing: what a crash leaves reads as the journal's entries.
pub still_from : {S : Type 0} (g : Ghosts S) (s : S) (j : JournalView) (Q : List (List ℕ) → List (List ℕ) → List ℕ → Type 0) → IsJournal j → NothingPending g s
    → WhereTold (g.image s) (λ image. (older newer : List (List ℕ)) → StandsFor j image older newer
    → LeavesOnly g s s (BesideObjects g s (λ left. ReadsEntries j older newer left ⊎ Q older newer left)))
still_from g s j Q is nothing =
    WhereTold-from (g.image s) (λ image. (older newer : List (List ℕ)) → StandsFor j image older newer
    → LeavesOnly g s s (BesideObjects g s (λ left. ReadsEntries j older newer left ⊎ Q older newer left)))
    (λ image told older newer stands. LeavesOnly-disk_start g s (λ left. ReadsEntries j older newer left ⊎ Q older newer left)
    (λ left may. inl (reads j left older newer is (subst (λ (l : List ℕ). StandsFor j l older newer) (sym (only_read g s image told nothing left may)) stands))))
