-- A rotation: by the fields of a journal, and what it leaves on the disk.
use Rattle.std.specs.Prelude.{IfSome}
use Rattle.std.proofs.Common.{◌≡◌, ◌+◌, ◌<◌, ◌≤◌, Bool, false, ℕ, List, [], ◌∷◌, length, Option, Some, None, sym, subst, ap, ◌∙◌, ⊎_elim, inl, inr, arith}
use Rattle.std.specs.Option.{option_map}
use Rattle.sky_base.specs.Limits.{max_number}
use Rattle.sky_outside.specs.Image.{Torn, written}
use Rattle.sky_outside.specs.Moments.{LeavesOnly, BesideObjects, NothingPending}
use Rattle.sky_outside.specs.Told.{WhereTold, BothTold}
use Rattle.sky_outside.specs.declared.storage.Storage.{Ghosts}
use Rattle.sky_journal.specs.Written.{IsBehindAreaGate, IsOpening}
use Rattle.sky_journal.specs.Journal.{JournalView, IsJournal, StandsFor, StandsOn, ReadsAs, entries, base_in, first_base, start_beside, new_area, after_rotation}
use Rattle.sky_journal.specs.contracts.journal.Journal.{the_view}
use Rattle.sky_journal.specs.declared.journal.Journal.TheInside.{Inside}
use Rattle.sky_journal.specs.declared.open_area.OpenArea.{OpenArea}
use Rattle.sky_journal.proofs.Calls.{moments_from, holds_from, stands_from}
use Rattle.sky_journal.proofs.Crash.{header_torn, area_torn, rotated}
use Rattle.sky_journal.proofs.Journals.{IsJournal-after_rotation}
use Rattle.sky_journal.proofs.Reading.{reads, reads-later, ReadsEntries-after_rotation}

-- the journal with its new area, by its fields
pub rotation_view : (j : Inside) (v : JournalView) (start base : ℕ) → the_view j ≡ v → v.down ≡ false → start ≡ start_beside v.size v.newer
    → the_view (record j { older = j.newer; newer = Some (new_area start base); down = false }) ≡ after_rotation v base
rotation_view j v start base is up at =
    ap (λ (w : JournalView). record w { older = w.newer; newer = Some (new_area start base); down = false }) is
    ∙ ap (λ (s : ℕ). record v { older = v.newer; newer = Some (new_area s base); down = false }) at
    ∙ ap (λ (b : Bool). record (after_rotation v base) { down = b }) (sym up)

-- the first base is not below the one before
base_later : (o n : Option OpenArea) (m : OpenArea) → o ≡ None → base_in o n ≤ base_in n (Some m)
base_later None None m e = omega arith
base_later None (Some a) m e = omega arith
base_later (Some b) n m e = absurd cc

-- what a rotation is called with
pub record Rotates (j : JournalView) (base : ℕ) (bytes : List ℕ) (start : ℕ) : Type 0 where
  pub is : IsJournal j
  pub free : j.older ≡ None
  pub settled : j.pending ≡ []
  pub number : base < max_number
  pub goes_on : IfSome j.newer (λ a. base ≡ a.last)
  pub header : IsBehindAreaGate bytes j.volume base
  pub at : start ≡ start_beside j.size j.newer

module _ (j : JournalView) (base : ℕ) (bytes : List ℕ) (start : ℕ) (r : Rotates j base bytes start) where
  -- an image over which the journal stands as before reads as its entries
  still_reads : (left : List ℕ) (older newer : List (List ℕ)) → StandsFor j left older newer
      → ReadsAs j.volume j.size (first_base (after_rotation j base)) (entries j older newer) left
  still_reads left older newer stands =
      reads-later j.volume j.size (first_base j) (first_base (after_rotation j base)) (entries j older newer) left (reads j left older newer r.is stands)
      (base_later j.older j.newer (new_area (start_beside j.size j.newer) base) r.free)

  -- and so does one over which it stands with its new area
  then_reads : (left : List ℕ) (older newer : List (List ℕ)) → StandsFor (after_rotation j base) left newer []
      → ReadsAs j.volume j.size (first_base (after_rotation j base)) (entries j older newer) left
  then_reads left older newer stands =
      ReadsEntries-after_rotation j base left older newer r.free
      (reads (after_rotation j base) left newer [] (IsJournal-after_rotation j base r.is r.number r.goes_on r.settled) stands)

  -- so does all that is left while it goes on
  rotation_leaves : (image left : List ℕ) (older newer : List (List ℕ)) → StandsFor j image older newer → IsOpening start bytes image left
      → ReadsAs j.volume j.size (first_base (after_rotation j base)) (entries j older newer) left
  rotation_leaves image left older newer stands (inl torn) =
      let s = start_beside j.size j.newer in
      let here : Torn (s + 1) (length bytes) image left = subst (λ (p : ℕ). Torn (p + 1) (length bytes) image left) r.at torn in
      let whole : Torn (s + 1) 64 image left = subst (λ (n : ℕ). Torn (s + 1) n image left) r.header.length_is here in
      still_reads left older newer (header_torn j image left older newer r.is stands r.free whole)
  rotation_leaves image left older newer stands (inr torn) =
      let s = start_beside j.size j.newer in
      let here : Torn s 1 (written image (s + 1) bytes) left = subst (λ (p : ℕ). Torn p 1 (written image (p + 1) bytes) left) r.at torn in
      ⊎_elim (λ before. still_reads left older newer before) (λ after. then_reads left older newer after)
      (area_torn j base bytes image left older newer r.is stands r.free r.header here)

  rotation_after : (k : JournalView) → k ≡ after_rotation j base → (image : List ℕ) (older newer : List (List ℕ)) → StandsFor j image older newer
      → StandsFor k (written (written image (start + 1) bytes) start (1 ∷ [])) newer []
  rotation_after k same image older newer stands =
      subst (λ (p : ℕ). StandsFor k (written (written image (p + 1) bytes) p (1 ∷ [])) newer []) (sym r.at)
      (subst (λ (v : JournalView). StandsFor v (written (written image (start_beside j.size j.newer + 1) bytes) (start_beside j.size j.newer) (1 ∷ [])) newer []) (sym same)
      (rotated j base bytes image older newer r.is stands r.free r.header))

module _ {S : Type 0} (g : Ghosts S) (s t : S) (j : JournalView) (base : ℕ) (bytes : List ℕ) (start : ℕ) (r : Rotates j base bytes start) where
  -- at each moment
  pub rotation_moments : WhereTold (g.image s) (λ image. LeavesOnly g s t (BesideObjects g s (IsOpening start bytes image)))
      → WhereTold (g.image s) (λ image. (older newer : List (List ℕ)) → StandsFor j image older newer
      → LeavesOnly g s t (BesideObjects g s (ReadsAs j.volume j.size (first_base (after_rotation j base)) (entries j older newer))))
  rotation_moments leaves =
      moments_from g s t j (λ image left. IsOpening start bytes image left)
      (λ older newer left. ReadsAs j.volume j.size (first_base (after_rotation j base)) (entries j older newer) left) leaves (rotation_leaves j base bytes start r)

  -- at its end
  pub rotation_holds : (k : JournalView) → k ≡ after_rotation j base → g.image t ≡ option_map (λ image. written (written image (start + 1) bytes) start (1 ∷ [])) (g.image s)
      → BothTold (λ old new. (older newer : List (List ℕ)) → StandsFor j old older newer → StandsFor k new newer []) (g.image s) (g.image t)
  rotation_holds k same wrote =
      holds_from g s t j k (λ image. written (written image (start + 1) bytes) start (1 ∷ [])) (λ older newer. newer) (λ older newer. []) wrote (rotation_after j base bytes start r k same)

  pub rotation_stands : (k : JournalView) → k ≡ after_rotation j base → g.image t ≡ option_map (λ image. written (written image (start + 1) bytes) start (1 ∷ [])) (g.image s)
      → NothingPending g t → g.bytes_of t ≡ g.bytes_of s → StandsOn g j s → StandsOn g k t
  rotation_stands k same wrote =
      stands_from g s t j k (λ image. written (written image (start + 1) bytes) start (1 ∷ [])) (λ older newer. newer) (λ older newer. []) wrote (rotation_after j base bytes start r k same)
      (ap (λ (v : JournalView). v.disk) same)
