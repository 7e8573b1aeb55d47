-- Closing an area: by the fields of a journal, and what it leaves on the disk.
use Rattle.std.proofs.Common.{◌≡◌, ◌⊎◌, ◌-◌, Bool, false, ℕ, List, [], ◌∷◌, length, Some, None, Vec, vec_len, vec_capacity, sym, subst, ap, ◌∙◌, ⊎_elim, inl, inr}
use Rattle.std.specs.Option.{option_map}
use Rattle.std.specs.declared.alloc.Global.{Global}
use Rattle.sky_outside.specs.Image.{Torn, written}
use Rattle.sky_outside.specs.Moments.{LeavesOnly, BesideObjects, NothingPending}
use Rattle.sky_outside.specs.Told.{WhereTold, BothTold}
use Rattle.sky_outside.specs.declared.storage.Storage.{Ghosts}
use Rattle.sky_journal.specs.Journal.{JournalView, IsJournal, StandsFor, StandsOn, ReadsEntries, without_older, without_newer}
use Rattle.sky_journal.specs.contracts.journal.Journal.{the_view}
use Rattle.sky_journal.specs.declared.journal.Journal.TheInside.{Inside}
use Rattle.sky_journal.specs.declared.open_area.OpenArea.{OpenArea}
use Rattle.sky_journal.proofs.Calls.{moments_from, holds_from, stands_from}
use Rattle.sky_journal.proofs.Committing.{settled, settled_view}
use Rattle.sky_journal.proofs.Crash.{older_torn, older_closed, newer_torn, newer_closed}
use Rattle.sky_journal.proofs.Journals.{StandsFor-but, IsJournal-without_older, IsJournal-without_newer}
use Rattle.sky_journal.proofs.Reading.{reads}

-- ---- the fields

-- the journal without its older area
pub older_gone_view : (j : Inside) (v : JournalView) → the_view j ≡ v → v.down ≡ false → the_view (record j { older = None; down = false }) ≡ without_older v
older_gone_view j v is up =
    ap (λ (w : JournalView). record w { older = None; down = false }) is
    ∙ ap (λ (b : Bool). record (without_older v) { down = b }) (sym up)

-- the journal without its newer area, nor pending entries
pub newer_gone_view : (j : Inside) (v : JournalView) (batch : Vec ℕ Global) → the_view j ≡ v → v.down ≡ false → length batch.items ≡ 16
    → the_view (settled j None j.older batch) ≡ record (without_newer v) { spare = vec_capacity batch - vec_len batch }
newer_gone_view j v batch is up empty =
    let spare = vec_capacity batch - vec_len batch in
    settled_view j None j.older batch empty
    ∙ ap (λ (w : JournalView). record w { older = None; newer = w.older; pending = []; spare = spare; down = false }) is
    ∙ ap (λ (b : Bool). record (without_newer v) { spare = spare; down = b }) (sym up)

-- ---- the older area

module _ (j : JournalView) (a : OpenArea) (is : IsJournal j) (e : j.older ≡ Some a) where
  -- what is left while it is closed reads as the entries of both, or of the newer
  older_leaves : (image left : List ℕ) (older newer : List (List ℕ)) → StandsFor j image older newer → Torn a.start 1 image left
      → ReadsEntries j older newer left ⊎ ReadsEntries (without_older j) [] newer left
  older_leaves image left older newer stands torn =
      ⊎_elim (λ before. inl (reads j left older newer is before)) (λ after. inr (reads (without_older j) left [] newer (IsJournal-without_older j is) after))
      (older_torn j a image left older newer is stands e torn)

  older_after : (k : JournalView) → k ≡ without_older j → (image : List ℕ) (older newer : List (List ℕ)) → StandsFor j image older newer
      → StandsFor k (written image a.start (0 ∷ [])) [] newer
  older_after k same image older newer stands =
      subst (λ (v : JournalView). StandsFor v (written image a.start (0 ∷ [])) [] newer) (sym same) (older_closed j a image older newer is stands e)

module _ {S : Type 0} (g : Ghosts S) (s t : S) (j : JournalView) (a : OpenArea) (is : IsJournal j) (e : j.older ≡ Some a) where
  -- at each moment
  pub older_moments : WhereTold (g.image s) (λ image. LeavesOnly g s t (BesideObjects g s (Torn a.start 1 image)))
      → WhereTold (g.image s) (λ image. (older newer : List (List ℕ)) → StandsFor j image older newer
      → LeavesOnly g s t (BesideObjects g s (λ left. ReadsEntries j older newer left ⊎ ReadsEntries (without_older j) [] newer left)))
  older_moments leaves =
      moments_from g s t j (λ image left. Torn a.start 1 image left) (λ older newer left. ReadsEntries j older newer left ⊎ ReadsEntries (without_older j) [] newer left) leaves
      (older_leaves j a is e)

  -- at its end
  pub older_holds : (k : JournalView) → k ≡ without_older j → g.image t ≡ option_map (λ image. written image a.start (0 ∷ [])) (g.image s)
      → BothTold (λ old new. (older newer : List (List ℕ)) → StandsFor j old older newer → StandsFor k new [] newer) (g.image s) (g.image t)
  older_holds k same wrote =
      holds_from g s t j k (λ image. written image a.start (0 ∷ [])) (λ older newer. []) (λ older newer. newer) wrote (older_after j a is e k same)

  pub older_stands : (k : JournalView) → k ≡ without_older j → g.image t ≡ option_map (λ image. written image a.start (0 ∷ [])) (g.image s)
      → NothingPending g t → g.bytes_of t ≡ g.bytes_of s → StandsOn g j s → StandsOn g k t
  older_stands k same wrote =
      stands_from g s t j k (λ image. written image a.start (0 ∷ [])) (λ older newer. []) (λ older newer. newer) wrote (older_after j a is e k same)
      (ap (λ (v : JournalView). v.disk) same)

-- ---- the newer or only area

module _ (j : JournalView) (a : OpenArea) (is : IsJournal j) (e : j.newer ≡ Some a) where
  -- what is left while it is closed reads as the entries of both, or of the older
  newer_leaves : (image left : List ℕ) (older newer : List (List ℕ)) → StandsFor j image older newer → Torn a.start 1 image left
      → ReadsEntries j older newer left ⊎ ReadsEntries (without_newer j) [] older left
  newer_leaves image left older newer stands torn =
      ⊎_elim (λ before. inl (reads j left older newer is before)) (λ after. inr (reads (without_newer j) left [] older (IsJournal-without_newer j is) after))
      (newer_torn j a image left older newer is stands e torn)

  newer_after : (k : JournalView) (spare : ℕ) → k ≡ record (without_newer j) { spare = spare } → (image : List ℕ) (older newer : List (List ℕ)) → StandsFor j image older newer
      → StandsFor k (written image a.start (0 ∷ [])) [] older
  newer_after k spare same image older newer stands =
      subst (λ (v : JournalView). StandsFor v (written image a.start (0 ∷ [])) [] older) (sym same)
      (StandsFor-but (without_newer j) [] spare j.down (written image a.start (0 ∷ [])) [] older (newer_closed j a image older newer is stands e))

module _ {S : Type 0} (g : Ghosts S) (s t : S) (j : JournalView) (a : OpenArea) (is : IsJournal j) (e : j.newer ≡ Some a) where
  -- at each moment
  pub newer_moments : WhereTold (g.image s) (λ image. LeavesOnly g s t (BesideObjects g s (Torn a.start 1 image)))
      → WhereTold (g.image s) (λ image. (older newer : List (List ℕ)) → StandsFor j image older newer
      → LeavesOnly g s t (BesideObjects g s (λ left. ReadsEntries j older newer left ⊎ ReadsEntries (without_newer j) [] older left)))
  newer_moments leaves =
      moments_from g s t j (λ image left. Torn a.start 1 image left) (λ older newer left. ReadsEntries j older newer left ⊎ ReadsEntries (without_newer j) [] older left) leaves
      (newer_leaves j a is e)

  -- at its end
  pub newer_holds : (k : JournalView) (spare : ℕ) → k ≡ record (without_newer j) { spare = spare } → g.image t ≡ option_map (λ image. written image a.start (0 ∷ [])) (g.image s)
      → BothTold (λ old new. (older newer : List (List ℕ)) → StandsFor j old older newer → StandsFor k new [] older) (g.image s) (g.image t)
  newer_holds k spare same wrote =
      holds_from g s t j k (λ image. written image a.start (0 ∷ [])) (λ older newer. []) (λ older newer. older) wrote (newer_after j a is e k spare same)

  pub newer_stands : (k : JournalView) (spare : ℕ) → k ≡ record (without_newer j) { spare = spare } → g.image t ≡ option_map (λ image. written image a.start (0 ∷ [])) (g.image s)
      → NothingPending g t → g.bytes_of t ≡ g.bytes_of s → StandsOn g j s → StandsOn g k t
  newer_stands k spare same wrote =
      stands_from g s t j k (λ image. written image a.start (0 ∷ [])) (λ older newer. []) (λ older newer. older) wrote (newer_after j a is e k spare same)
      (ap (λ (v : JournalView). v.disk) same)
