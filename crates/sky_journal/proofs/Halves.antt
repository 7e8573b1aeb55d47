-- The two halves of a journal's disk: what is torn within one leaves the other as it was.
use Rattle.std.specs.Prelude.{◌==◌, IfSome, if◌then◌else◌}
use Rattle.std.proofs.Common.{◌≡◌, ◌⊎◌, inl, inr, ℕ, ◌+◌, ◌<◌, ◌≤◌, Bool, true, false, List, [], ◌∷◌, length, take, Option, Some, None, refl, sym, ap, ◌∙◌, subst, arith}
use Rattle.std.proofs.lemmas.Bool.{eqb-true, eqb-false}
use Rattle.sky_outside.specs.Image.{bytes_at, written, Torn}
use Rattle.sky_outside.proofs.ImageLaws.{Torn-again, Torn-written}
use Rattle.sky_journal.specs.Layout.{is_open}
use Rattle.sky_journal.specs.Laid.{IsLaid, BeginsAt, IsFree}
use Rattle.sky_journal.specs.Journal.{JournalView, IsOpenArea, AreInOrder, IsJournal, start_beside}
use Rattle.sky_journal.specs.declared.open_area.OpenArea.{OpenArea}
use Rattle.sky_journal.proofs.Frames.{is_open-within, take-of-area, length-area, bytes_at-before, bytes_at-behind, Torn-wider, written-there}

-- where an area may begin
abbrev pub IsHalf : ℕ → ℕ → Type 0
IsHalf size start = (start ≡ 0) ⊎ (start ≡ size)

-- an image is torn within the area that begins here
pub record TornIn (size start : ℕ) (image left : List ℕ) : Type 0 where
  pub at : ℕ
  pub count : ℕ
  pub torn : Torn at count image left
  pub half : IsHalf size start
  pub low : start ≤ at
  pub high : at + count ≤ start + size

-- ---- the half beside it

beside_at : (size start other at count : ℕ) (image left : List ℕ) → Torn at count image left → IsHalf size start → IsHalf size other → start ≤ at → at + count ≤ start + size
    → (other ≡ start → ⊥) → bytes_at left other size ≡ bytes_at image other size
beside_at size start other at count image left torn (inl a) (inl b) low high apart = absurd (apart (omega arith))
beside_at size start other at count image left torn (inr a) (inr b) low high apart = absurd (apart (omega arith))
beside_at size start other at count image left torn (inl a) (inr b) low high apart = bytes_at-behind at count image left other size torn (omega arith)
beside_at size start other at count image left torn (inr a) (inl b) low high apart = bytes_at-before at count image left other size torn (omega arith)

-- the other area has the bytes that it had
pub beside : (size start other : ℕ) (image left : List ℕ) → TornIn size start image left → IsHalf size other → (other ≡ start → ⊥)
    → bytes_at left other size ≡ bytes_at image other size
beside size start other image left t half apart = beside_at size start other t.at t.count image left t.torn t.half half t.low t.high apart

-- an area that begins elsewhere lies on the disk as it did
pub laid_beside : (volume size start : ℕ) (image left : List ℕ) (o : Option OpenArea) (es : List (List ℕ)) → TornIn size start image left → IfSome o (IsOpenArea size)
    → (BeginsAt start o → ⊥) → IsLaid volume size image o es → IsLaid volume size left o es
laid_beside volume size start image left None es t opens apart laid = laid
laid_beside volume size start image left (Some a) es t opens apart laid =
    rw (beside size start a.start image left t opens.start apart) laid

-- a closed one is closed
pub free_beside : (size start other : ℕ) (image left : List ℕ) → TornIn size start image left → IsHalf size other → (other ≡ start → ⊥)
    → IsFree size other image → IsFree size other left
free_beside size start other image left t half apart free =
    ap (λ (l : List ℕ). is_open 0 l) (beside size start other image left t half apart) ∙ free

-- ---- where areas are

halves_apart : (size b a : ℕ) → 0 < size → IsHalf size a → b + a ≡ size → (b ≡ a → ⊥) × IsHalf size b
halves_apart size b a some (inl h) sum = ((λ e. omega arith), inr (omega arith))
halves_apart size b a some (inr h) sum = ((λ e. omega arith), inl (omega arith))

older_apart_at : (size : ℕ) (o : Option OpenArea) (a : OpenArea) → 0 < size → AreInOrder size o (Some a) → IsOpenArea size a → BeginsAt a.start o → ⊥
older_apart_at size None a some order opens begins = begins
older_apart_at size (Some b) a some order opens begins = (halves_apart size b.start a.start some opens.start order.beside).0 begins

-- what is true of a journal's newer area
pub newer_open : (j : JournalView) (a : OpenArea) → IsJournal j → j.newer ≡ Some a → IsOpenArea j.size a
newer_open j a is e = subst (λ (o : Option OpenArea). IfSome o (IsOpenArea j.size)) e is.newer

pub older_open : (j : JournalView) (a : OpenArea) → IsJournal j → j.older ≡ Some a → IsOpenArea j.size a
older_open j a is e = subst (λ (o : Option OpenArea). IfSome o (IsOpenArea j.size)) e is.older

-- the older area does not begin where the newer does
pub older_apart : (j : JournalView) (a : OpenArea) → IsJournal j → j.newer ≡ Some a → BeginsAt a.start j.older → ⊥
older_apart j a is e =
    older_apart_at j.size j.older a (omega (arith, is.least)) (subst (λ (o : Option OpenArea). AreInOrder j.size j.older o) e is.in_order) (newer_open j a is e)

newer_apart_at : (size : ℕ) (a : OpenArea) (o : Option OpenArea) → 0 < size → AreInOrder size (Some a) o → IfSome o (IsOpenArea size) → BeginsAt a.start o → ⊥
newer_apart_at size a None some order opens begins = begins
newer_apart_at size a (Some b) some order opens begins = (halves_apart size a.start b.start some opens.start order.beside).0 (sym begins)

pub newer_apart : (j : JournalView) (a : OpenArea) → IsJournal j → j.older ≡ Some a → BeginsAt a.start j.newer → ⊥
newer_apart j a is e =
    newer_apart_at j.size a j.newer (omega (arith, is.least)) (subst (λ (o : Option OpenArea). AreInOrder j.size o j.newer) e is.in_order) is.newer

-- ---- where a new area begins

-- a half in which the one area does not begin
pub record IsBeside (size : ℕ) (o : Option OpenArea) (start : ℕ) : Type 0 where
  pub half : IsHalf size start
  pub apart : BeginsAt start o → ⊥
  pub sum : IfSome o (λ a. a.start + start ≡ size)

beside_area : (size : ℕ) (a : OpenArea) (b : Bool) → (a.start == 0) ≡ b → 0 < size → IsHalf size a.start → IsBeside size (Some a) (if b then size else 0)
beside_area size a true e some half =
    let zero_at : a.start ≡ 0 = eqb-true a.start 0 e in
    record { half = inr refl; apart = λ begins. omega arith; sum = omega arith }
beside_area size a false e some (inl h) = absurd (eqb-false a.start 0 e h)
beside_area size a false e some (inr h) = record { half = inl refl; apart = λ begins. omega arith; sum = omega arith }

pub beside_is : (size : ℕ) (o : Option OpenArea) → 0 < size → IfSome o (IsOpenArea size) → IsBeside size o (start_beside size o)
beside_is size None some opens = record { half = inl refl; apart = λ begins. begins; sum = tt }
beside_is size (Some a) some opens = beside_area size a (a.start == 0) refl some opens.start

-- ---- the torn half

-- a place of an area is a place of the image
pub is_open-area : (image : List ℕ) (start size p : ℕ) → p < size → is_open p (bytes_at image start size) ≡ is_open (start + p) image
is_open-area image start size p lt = sym (is_open-within start size p image lt)

-- its first gate
pub gate-area : (image : List ℕ) (start size : ℕ) → 0 < size → is_open 0 (bytes_at image start size) ≡ is_open start image
gate-area image start size some = is_open-area image start size 0 some ∙ ap (λ (n : ℕ). is_open n image) (omega arith)

-- it has the bytes that it had up to what is torn
pub front-area : (image left : List ℕ) (start size at count p : ℕ) → Torn at count image left → p ≤ size → start + p ≤ at
    → take p (bytes_at left start size) ≡ take p (bytes_at image start size)
front-area image left start size at count p torn le before =
    take-of-area left start size p le ∙ bytes_at-before at count image left start p torn before ∙ sym (take-of-area image start size p le)

-- and the length of one
pub length-half : (j : JournalView) (start : ℕ) (image : List ℕ) → IsJournal j → IsHalf j.size start → length image ≡ j.disk
    → length (bytes_at image start j.size) ≡ j.size
length-half j start image is (inl h) long = length-area image start j.size (omega (arith, is.fits))
length-half j start image is (inr h) long = length-area image start j.size (omega (arith, is.fits))

pub long-area : (j : JournalView) (start : ℕ) (image left : List ℕ) → IsJournal j → IsHalf j.size start → length image ≡ j.disk → length left ≡ length image
    → length (bytes_at left start j.size) ≡ length (bytes_at image start j.size)
long-area j start image left is half long same = length-half j start left is half (same ∙ long) ∙ sym (length-half j start image is half long)

-- it lies on the disk
pub half_within : (j : JournalView) (start : ℕ) → IsJournal j → IsHalf j.size start → start + j.size ≤ j.disk
half_within j start is (inl h) = omega (arith, is.fits)
half_within j start is (inr h) = omega (arith, is.fits)

-- ---- a gate that may open

-- bytes stand behind a gate, of which nothing is said, and the image is otherwise as it was
pub record Behind (gate : ℕ) (bytes image left : List ℕ) : Type 0 where
  pub torn : Torn gate (1 + length bytes) image left
  pub behind : bytes_at left (gate + 1) (length bytes) ≡ bytes

pub behind_gate : (gate : ℕ) (bytes image left : List ℕ) → gate + 1 + length bytes ≤ length image → Torn gate 1 (written image (gate + 1) bytes) left
    → Behind gate bytes image left
behind_gate gate bytes image left fits torn =
    let n = length bytes in
    let mid = written image (gate + 1) bytes in
    let first : Torn (gate + 1) n image mid = Torn-written image (gate + 1) bytes fits in
    record {
      torn = Torn-again gate (1 + n) image mid left
          (Torn-wider (gate + 1) n gate (1 + n) image mid first (omega arith) (omega arith))
          (Torn-wider gate 1 gate (1 + n) mid left torn (omega arith) (omega arith));
      behind = bytes_at-behind gate 1 mid left (gate + 1) n torn (omega arith) ∙ written-there image (gate + 1) bytes fits;
    }

-- a gate that was written
pub gate_written : (image : List ℕ) (gate byte : ℕ) → gate < length image → is_open gate (written image gate (byte ∷ [])) ≡ (byte == 1)
gate_written image gate byte within =
    let there : bytes_at (written image gate (byte ∷ [])) gate 1 ≡ byte ∷ [] = written-there image gate (byte ∷ []) (omega arith) in
    sym (gate-area (written image gate (byte ∷ [])) gate 1 (omega arith)) ∙ ap (λ (l : List ℕ). is_open 0 l) there
