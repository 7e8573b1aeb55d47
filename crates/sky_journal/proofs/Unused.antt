-- Bytes that are not used, as a call leaves them on the disk.
use Rattle.std.specs.Prelude.{IfSome, OnOk}
use Rattle.std.proofs.Common.{◌≡◌, ℕ, ◌+◌, ◌≤◌, List, [], ◌∷◌, length, Option, Some, Result, Ok, Err, sym, ap, ◌∙◌, subst, arith}
use Rattle.std.specs.Option.{option_map}
use Rattle.sky_outside.specs.Image.{bytes_at, written}
use Rattle.sky_outside.specs.Told.{WhereTold}
use Rattle.sky_outside.proofs.ImageLaws.{Torn-written}
use Rattle.sky_journal.specs.Written.{IsBehindBatchGate, IsBehindAreaGate, HasBatchUnused, HasAreaUnused}
use Rattle.sky_journal.specs.declared.open_area.OpenArea.{OpenArea}
use Rattle.sky_journal.proofs.Disks.{told_from}
use Rattle.sky_journal.proofs.Halves.{behind_gate}
use Rattle.sky_journal.proofs.Parts.{part_of_part}

-- the image with bytes behind a gate, and the gate open
abbrev pub opened : ℕ → List ℕ → List ℕ → List ℕ
opened gate bytes image = written (written image (gate + 1) bytes) gate (1 ∷ [])

-- a part of the bytes behind the gate
behind_part : (gate p n : ℕ) (bytes image : List ℕ) → gate + 1 + length bytes ≤ length image → p + n ≤ length bytes
    → bytes_at (opened gate bytes image) (gate + 1 + p) n ≡ bytes_at bytes p n
behind_part gate p n bytes image fits le =
    let mid : List ℕ = written image (gate + 1) bytes in
    let long : length mid ≡ length image = (Torn-written image (gate + 1) bytes fits).size in
    let behind = behind_gate gate bytes image (opened gate bytes image) fits (Torn-written mid gate (1 ∷ []) (omega (arith, long, fits))) in
    sym (part_of_part (opened gate bytes image) (gate + 1) (length bytes) p n le) ∙ ap (λ (l : List ℕ). bytes_at l p n) behind.behind

module _ (gate size : ℕ) (bytes : List ℕ) (old new : Option (List ℕ)) (long : WhereTold old (λ read. length read ≡ size)) (fits : gate + 1 + length bytes ≤ size)
    (wrote : new ≡ option_map (λ image. written (written image (gate + 1) bytes) gate (1 ∷ [])) old) where
  -- those of a batch
  pub batch_unused : (entries : List (List ℕ)) → IsBehindBatchGate bytes entries → WhereTold new (HasBatchUnused gate)
  batch_unused entries behind =
      told_from (λ read. length read ≡ size) (HasBatchUnused gate) old new (opened gate bytes) wrote long
      (λ image told is.
      let place : gate + 1 ≡ gate + 1 + 0 = omega arith in
      ap (λ (p : ℕ). bytes_at (opened gate bytes image) p 3) place
      ∙ behind_part gate 0 3 bytes image (omega (arith, fits, is)) (omega (arith, behind.length_is)) ∙ behind.unused)

  -- those of an area's header
  pub area_unused : (volume base : ℕ) → IsBehindAreaGate bytes volume base → WhereTold new (HasAreaUnused gate)
  area_unused volume base behind =
      told_from (λ read. length read ≡ size) (HasAreaUnused gate) old new (opened gate bytes) wrote long
      (λ image told is.
      let within : gate + 1 + length bytes ≤ length image = omega (arith, fits, is) in
      let first : gate + 1 ≡ gate + 1 + 0 = omega arith in
      let later : gate + 24 ≡ gate + 1 + 23 = omega arith in
      record {
        first = ap (λ (p : ℕ). bytes_at (opened gate bytes image) p 7) first ∙ behind_part gate 0 7 bytes image within (omega (arith, behind.length_is)) ∙ behind.unused;
        later = ap (λ (p : ℕ). bytes_at (opened gate bytes image) p 40) later ∙ behind_part gate 23 40 bytes image within (omega (arith, behind.length_is)) ∙ behind.unused_later;
      })

-- what a call says of its area, where that is known
pub where_open : {A E : Type 0} (result : Result A E) (o : Option OpenArea) (a : OpenArea) (P : OpenArea → Type 0) (N : Type 0) → o ≡ Some a → OnOk result (P a) → OnOk result (N → IfSome o P)
where_open (Ok x) o a P N e holds = λ some. subst (λ (w : Option OpenArea). IfSome w P) (sym e) holds
where_open (Err f) o a P N e holds = tt
