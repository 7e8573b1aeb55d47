-- How what the steps of an opening say of their own beginnings is said of its beginning. Crates above cite this.
use Rattle.std.proofs.Common.{◌≡◌, ℕ, List, Option, Some, Ok, Err, sym, ap, ◌∙◌, subst}
use Rattle.sky_nfs.specs.Tree.{empty_tree}
use Rattle.sky_outside.specs.Moments.{OnlyLooks}
use Rattle.sky_outside.specs.Told.{WhereTold}
use Rattle.sky_outside.specs.declared.storage.Storage.{Ghosts}
use Rattle.sky_outside.proofs.ToldLaws.{WhereTold-at, WhereTold-from}
use Rattle.sky_journal.specs.Journal.{JournalView, entries}
use Rattle.sky_sound.specs.Entries.{journal_of}
use Rattle.sky_recover.specs.Replaying.{FailsAt}
use Rattle.sky_recover.specs.Settling.{IsRead}

-- what is said of the numbers that a setting was read as
pub at_settings : (P : ℕ → ℕ → Type 0) (v w a b : ℕ) → v ≡ w → a ≡ b → P v a → P w b
at_settings P v w a b e f holds = subst (λ (n : ℕ). P w n) f (subst (λ (n : ℕ). P n a) e holds)

module _ {S : Type 0} (g : Ghosts S) (v a : ℕ) (s t : S) (looks : OnlyLooks g s t) where
  abbrev Unread : S → List ℕ → Type 0
  Unread u image = (at : ℕ) → journal_of v a 0 image ≡ Err at → g.objects u ≡ g.objects s

  -- the cloud was only listed
  pub unread_listed : WhereTold (g.image s) (λ image. (at : ℕ) → journal_of v a 0 image ≡ Err at → g.objects t ≡ g.objects s)
  unread_listed = WhereTold-from (g.image s) (Unread t) (λ image told at foreign. looks.cloud.objects)

  -- nothing was put, if the disk is foreign
  pub unread_put : (u : S) → WhereTold (g.image t) (λ image. (at : ℕ) → journal_of v a 0 image ≡ Err at → g.objects u ≡ g.objects t)
      → WhereTold (g.image s) (λ image. (at : ℕ) → journal_of v a 0 image ≡ Err at → g.objects u ≡ g.objects s)
  unread_put u unread =
      WhereTold-from (g.image s) (Unread u)
      (λ image told at foreign.
      WhereTold-at (g.image t) (λ x. (n : ℕ) → journal_of v a 0 x ≡ Err n → g.objects u ≡ g.objects t) image (looks.image ∙ told) unread at foreign ∙ looks.cloud.objects)

  -- it is foreign
  pub foreign_there : (at : ℕ) → WhereTold (g.image t) (λ image. journal_of v a 0 image ≡ Err at) → WhereTold (g.image s) (λ image. journal_of v a 0 image ≡ Err at)
  foreign_there at foreign = subst (λ (o : Option (List ℕ)). WhereTold o (λ image. journal_of v a 0 image ≡ Err at)) looks.image foreign

  module _ (u : S) (j : JournalView) (volume_is : j.volume ≡ v) (size_is : j.size ≡ a) (same : g.image u ≡ g.image t) (read : WhereTold (g.image u) (IsRead j 0)) where
    read_at : (image : List ℕ) → g.image s ≡ Some image → IsRead j 0 image
    read_at image told = WhereTold-at (g.image u) (IsRead j 0) image (same ∙ looks.image ∙ told) read

    says : (image : List ℕ) (reads : IsRead j 0 image) → journal_of v a 0 image ≡ Ok (entries j reads.older reads.newer)
    says image reads = ap (λ (n : ℕ). journal_of n a 0 image) (sym volume_is) ∙ ap (λ (n : ℕ). journal_of j.volume n 0 image) (sym size_is) ∙ reads.says

    -- the disk is not foreign
    pub unread_read : (w : S) → WhereTold (g.image s) (λ image. (at : ℕ) → journal_of v a 0 image ≡ Err at → g.objects w ≡ g.objects s)
    unread_read w =
        WhereTold-from (g.image s) (Unread w)
        (λ image told at foreign. let reads = read_at image told in let list = entries j reads.older reads.newer in let is : journal_of v a 0 image ≡ Ok list = says image reads in absurd cc)

    -- one of its changes fails
    pub fails_there : (at : ℕ)
        → WhereTold (g.image u) (λ image. (list : List (ℕ × List ℕ)) → journal_of j.volume j.size 0 image ≡ Ok list → FailsAt (empty_tree v) j.size 0 list image at)
        → WhereTold (g.image s) (λ image. (list : List (ℕ × List ℕ)) × (journal_of v a 0 image ≡ Ok list) × FailsAt (empty_tree v) a 0 list image at)
    fails_there at fails =
        WhereTold-from (g.image s) (λ image. (list : List (ℕ × List ℕ)) × (journal_of v a 0 image ≡ Ok list) × FailsAt (empty_tree v) a 0 list image at)
        (λ image told.
        let reads = read_at image told in
        let list : List (ℕ × List ℕ) = entries j reads.older reads.newer in (
          list,
          says image reads,
          subst (λ (n : ℕ). FailsAt (empty_tree v) n 0 list image at) size_is
              (WhereTold-at (g.image u) (λ x. (l : List (ℕ × List ℕ)) → journal_of j.volume j.size 0 x ≡ Ok l → FailsAt (empty_tree v) j.size 0 l x at) image (same ∙ looks.image ∙ told) fails list reads.says),
        ))
