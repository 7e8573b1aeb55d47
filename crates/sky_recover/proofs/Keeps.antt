-- What a crash may leave of the journal's entries from one call of an opening to the next. Crates above cite this.
use Rattle.std.proofs.Common.{◌≡◌, ℕ, List, Some, Ok, refl, sym, ◌∙◌, subst}
use Rattle.sky_outside.specs.Moments.{BesideObjects, LeavesOnly, MayLeaveNow, NothingPending, OnlyLooks}
use Rattle.sky_outside.specs.declared.storage.Storage.{Ghosts}
use Rattle.sky_outside.proofs.ToldLaws.{WhereTold-at, WhereTold-from}
use Rattle.sky_outside.proofs.MomentLaws.{LeavesOnly-disk_start, LeavesOnly-disk_then, LeavesOnly-then, only_read}
use Rattle.sky_sound.specs.Entries.{journal_of}
use Rattle.sky_recover.specs.Settling.{KeepsAbove}
use Rattle.sky_recover.specs.Steps.{KeepsEntries}

-- an image says its own entries
itself : (volume size : ℕ) (image : List ℕ) (list : List (ℕ × List ℕ)) → journal_of volume size 0 image ≡ Ok list → KeepsAbove volume size 0 list image
itself volume size image list says = record { read = list; says = says; above = refl }

module _ {S : Type 0} (g : Ghosts S) (volume size : ℕ) where
  -- where nothing is pending, what may be left now says the entries of now
  kept_now : (s : S) (image : List ℕ) (list : List (ℕ × List ℕ)) → g.image s ≡ Some image → NothingPending g s → journal_of volume size 0 image ≡ Ok list
      → (left : List ℕ) → g.may_leave s left → KeepsAbove volume size 0 list left
  kept_now s image list told nothing says left may = subst (λ (l : List ℕ). KeepsAbove volume size 0 list l) (sym (only_read g s image told nothing left may)) (itself volume size image list says)

  -- looks, of which nothing is left but what was there
  looked : (s t : S) (P : List ℕ → Type 0) → OnlyLooks g s t → ((left : List ℕ) → g.may_leave s left → P left) → LeavesOnly g s t (BesideObjects g s P)
  looked s t P looks here =
      LeavesOnly-then g s s t (BesideObjects g s P) (MayLeaveNow g s) (BesideObjects g s P) (LeavesOnly-disk_start g s P here) looks.moments (λ image held p. p) (λ image held now. (here image now.0, now.1))

  abbrev Kept : S → S → List ℕ → Type 0
  Kept s t image = (list : List (ℕ × List ℕ)) → journal_of volume size 0 image ≡ Ok list → LeavesOnly g s t (BesideObjects g s (KeepsAbove volume size 0 list))

  pub keeps_start : (s : S) → NothingPending g s → KeepsEntries g volume size s s
  keeps_start s nothing =
      WhereTold-from (g.image s) (Kept s s) (λ image told list says. LeavesOnly-disk_start g s (KeepsAbove volume size 0 list) (kept_now s image list told nothing says))

  pub keeps_looks : (s t : S) → NothingPending g s → OnlyLooks g s t → KeepsEntries g volume size s t
  keeps_looks s t nothing looks =
      WhereTold-from (g.image s) (Kept s t) (λ image told list says. looked s t (KeepsAbove volume size 0 list) looks (kept_now s image list told nothing says))

  pub keeps_then : (s t u : S) → NothingPending g s → OnlyLooks g s t → KeepsEntries g volume size t u → KeepsEntries g volume size s u
  keeps_then s t u nothing looks keeps =
      WhereTold-from (g.image s) (Kept s u)
      (λ image told list says.
      LeavesOnly-disk_then g s t u (KeepsAbove volume size 0 list) (KeepsAbove volume size 0 list) (KeepsAbove volume size 0 list) looks.cloud
      (looked s t (KeepsAbove volume size 0 list) looks (kept_now s image list told nothing says))
      (WhereTold-at (g.image t) (Kept t u) image (looks.image ∙ told) keeps list says) (λ left p. p) (λ left q. q))
