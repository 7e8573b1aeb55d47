-- What a crash leaves of what a journal stands for, at each write: as before it, or as after it.
use Rattle.std.specs.Option.{option_map}
use Rattle.std.proofs.Common.{◌≡◌, ◌⊎◌, inl, inr, ⊎_elim, ℕ, ◌+◌, ◌<◌, ◌≤◌, Bool, true, false, List, [], ◌∷◌, ◌++◌, length, take, drop, Option, Some, None, refl, sym, ap, ◌∙◌, subst, arith}
use Rattle.std.proofs.lemmas.Bool.{cases_eq}
use Rattle.sky_outside.specs.Image.{bytes_at, written, Torn}
use Rattle.sky_outside.proofs.ImageLaws.{Torn-written}
use Rattle.sky_journal.specs.Layout.{is_open, number_4, number_8, area_header, batch_header, count_at, size_at, body_at}
use Rattle.sky_journal.specs.Text.{entries_in}
use Rattle.sky_journal.specs.Laid.{IsBatch, IsArea, IsLaid, BeginsAt, IsFree}
use Rattle.sky_journal.specs.Journal.{JournalView, bytes_of, batch_size, IsOpenArea, ArePending, IsJournal, StandsFor, area_with, after_commit, start_beside, new_area, after_rotation, without_older, without_newer}
use Rattle.sky_journal.specs.Written.{IsBehindBatchGate, IsBehindAreaGate}
use Rattle.sky_journal.specs.declared.open_area.OpenArea.{OpenArea}
use Rattle.sky_journal.proofs.Frames.{number_4-within, number_8-within, part-within, is_open-within, is_open-same, Torn-open}
use Rattle.sky_journal.proofs.Batches.{IsArea-still, IsArea-keeps, IsArea-more, HasBatches-none, joined-none}
use Rattle.sky_journal.proofs.Halves.{IsHalf, TornIn, laid_beside, free_beside, newer_open, older_open, older_apart, newer_apart, IsBeside, beside_is, is_open-area, gate-area, front-area, length-half, long-area, half_within, Behind, behind_gate, gate_written}

-- ---- a journal over an image that is torn in one half

-- torn where its newer area is, which is then another
newer_changes : (j : JournalView) (a b : OpenArea) (pending : List (List ℕ)) (image left : List ℕ) (older newer es : List (List ℕ)) → IsJournal j
    → StandsFor j image older newer → j.newer ≡ Some a → b.start ≡ a.start → TornIn j.size a.start image left → IsArea j.volume (bytes_at left b.start j.size) b es
    → StandsFor (record j { newer = Some b; pending = pending }) left older es
newer_changes j a b pending image left older newer es is stands e same t area = record {
  size = t.torn.size ∙ stands.size;
  older_is = laid_beside j.volume j.size a.start image left j.older older t is.older (older_apart j a is e) stands.older_is;
  newer_is = area;
  others = λ start half not_older not_newer.
      let apart : start ≡ a.start → ⊥ = λ s. not_newer (same ∙ sym s) in
      let was : BeginsAt start j.newer → ⊥ = λ begins. apart (sym (subst (λ (o : Option OpenArea). BeginsAt start o) e begins)) in
      free_beside j.size a.start start image left t half apart (stands.others start half not_older was);
}

-- torn where no area is, and where none is open then
free_changes : (j : JournalView) (s : ℕ) (image left : List ℕ) (older newer : List (List ℕ)) → IsJournal j → StandsFor j image older newer
    → (BeginsAt s j.older → ⊥) → (BeginsAt s j.newer → ⊥) → TornIn j.size s image left → IsFree j.size s left → StandsFor j left older newer
free_changes j s image left older newer is stands not_older not_newer t free = record {
  size = t.torn.size ∙ stands.size;
  older_is = laid_beside j.volume j.size s image left j.older older t is.older not_older stands.older_is;
  newer_is = laid_beside j.volume j.size s image left j.newer newer t is.newer not_newer stands.newer_is;
  others = λ start half is_older is_newer. ⊎_elim
      (λ (here : start ≡ s). subst (λ (n : ℕ). IsFree j.size n left) (sym here) free)
      (λ (apart : start ≡ s → ⊥). free_beside j.size s start image left t half apart (stands.others start half is_older is_newer))
      (cases_eq start s);
}

-- the newer area of a journal, as it lies on its image
newer_area : (j : JournalView) (a : OpenArea) (image : List ℕ) (older newer : List (List ℕ)) → StandsFor j image older newer → j.newer ≡ Some a
    → IsArea j.volume (bytes_at image a.start j.size) a newer
newer_area j a image older newer stands e = subst (λ (o : Option OpenArea). IsLaid j.volume j.size image o newer) e stands.newer_is

older_area : (j : JournalView) (a : OpenArea) (image : List ℕ) (older newer : List (List ℕ)) → StandsFor j image older newer → j.older ≡ Some a
    → IsArea j.volume (bytes_at image a.start j.size) a older
older_area j a image older newer stands e = subst (λ (o : Option OpenArea). IsLaid j.volume j.size image o older) e stands.older_is

-- ---- a commit

-- the newer area as it was known is again the journal
newer_stays : (j : JournalView) (a : OpenArea) (image left : List ℕ) (older newer : List (List ℕ)) → IsJournal j → StandsFor j image older newer → j.newer ≡ Some a
    → TornIn j.size a.start image left → IsArea j.volume (bytes_at left a.start j.size) a newer → StandsFor j left older newer
newer_stays j a image left older newer is stands e t area =
    subst (λ (o : Option OpenArea). StandsFor (record j { newer = o }) left older newer) (sym e)
    (newer_changes j a a j.pending image left older newer newer is stands e refl t area)

-- While the bytes behind the next gate are written, the journal stands for what it did.
pub body_torn : (j : JournalView) (a : OpenArea) (image left : List ℕ) (older newer : List (List ℕ)) (n : ℕ) → IsJournal j → StandsFor j image older newer → j.newer ≡ Some a
    → Torn (a.start + a.end + 1) n image left → a.end + 1 + n ≤ j.size → StandsFor j left older newer
body_torn j a image left older newer n is stands e torn fits =
    let opens = newer_open j a is e in
    let t : TornIn j.size a.start image left = record { at = a.start + a.end + 1; count = n; torn = torn; half = opens.start; low = omega arith; high = omega arith } in
    newer_stays j a image left older newer is stands e t
    (IsArea-keeps j.volume (bytes_at image a.start j.size) (bytes_at left a.start j.size) a newer (newer_area j a image older newer stands e) opens.header
    (front-area image left a.start j.size (a.start + a.end + 1) n (a.end + 1) torn (omega arith) (omega arith))
    (long-area j a.start image left is opens.start stands.size torn.size))

-- where there are entries, their batch has a header
batch_size-is : (pending : List (List ℕ)) → (pending ≡ [] → ⊥) → batch_size pending ≡ batch_header + bytes_of pending
batch_size-is [] some = absurd (some refl)
batch_size-is (e ∷ es) some = refl

some_long : (pending : List (List ℕ)) → (pending ≡ [] → ⊥) → 0 < length pending
some_long [] some = absurd (some refl)
some_long (e ∷ es) some = omega arith

-- what the newer area has behind its end, once bytes stand behind the gate there
record HasBehind (area bytes : List ℕ) (q : ℕ) (pending : List (List ℕ)) : Type 0 where
  count : count_at q area ≡ length pending
  size : size_at q area ≡ bytes_of pending
  body : take (bytes_of pending) (drop (q + batch_header) area) ≡ take (bytes_of pending) (drop 15 bytes)
  closed : is_open (q + (batch_header + bytes_of pending)) area ≡ false

has_behind : (area bytes : List ℕ) (q : ℕ) (pending : List (List ℕ)) → IsBehindBatchGate bytes pending → bytes_at area (q + 1) (length bytes) ≡ bytes
    → HasBehind area bytes q pending
has_behind area bytes q pending is there =
    let n = length bytes in
    let m = bytes_of pending in
    let long : n ≡ 16 + m = is.length_is in
    record {
      count = ap (λ (p : ℕ). number_4 p area) (omega arith) ∙ number_4-within (q + 1) n 3 area (omega arith) ∙ ap (λ (l : List ℕ). number_4 3 l) there ∙ is.count;
      size = ap (λ (p : ℕ). number_8 p area) (omega arith) ∙ number_8-within (q + 1) n 7 area (omega arith) ∙ ap (λ (l : List ℕ). number_8 7 l) there ∙ is.size;
      body = ap (λ (p : ℕ). take m (drop p area)) (omega arith) ∙ part-within (q + 1) n 15 m area (omega arith) ∙ ap (λ (l : List ℕ). take m (drop 15 l)) there;
      closed = ap (λ (p : ℕ). is_open p area) (omega arith) ∙ is_open-within (q + 1) n (15 + m) area (omega arith) ∙ ap (λ (l : List ℕ). is_open (15 + m) l) there ∙ is.closed;
    }

-- so there is a batch, once that gate is open
batch_behind : (area bytes : List ℕ) (q : ℕ) (pending : List (List ℕ)) → IsBehindBatchGate bytes pending → HasBehind area bytes q pending
    → (pending ≡ [] → ⊥) → is_open q area ≡ true → q + (batch_header + bytes_of pending) < length area → IsBatch area q pending
batch_behind area bytes q pending is has some gate fits = record {
  gate = gate;
  some = omega (arith, has.count, some_long pending some);
  within = omega (arith, has.size);
  holds = ap (λ (n : ℕ). entries_in n (body_at q area)) has.count
      ∙ ap (λ (s : ℕ). entries_in (length pending) (take s (drop (q + batch_header) area))) has.size
      ∙ ap (λ (l : List ℕ). entries_in (length pending) l) has.body ∙ is.body;
}

-- the bytes behind a gate of an area, in the area
behind_in_area : (a : OpenArea) (size : ℕ) (bytes image left : List ℕ) → Behind (a.start + a.end) bytes image left → a.end + 1 + length bytes ≤ size
    → bytes_at (bytes_at left a.start size) (a.end + 1) (length bytes) ≡ bytes
behind_in_area a size bytes image left b fits =
    sym (part-within a.start size (a.end + 1) (length bytes) left fits) ∙ ap (λ (p : ℕ). take (length bytes) (drop p left)) (omega arith) ∙ b.behind

-- how far the batch of the pending entries reaches
pending_fits : (j : JournalView) (a : OpenArea) → IsJournal j → j.newer ≡ Some a → (j.pending ≡ [] → ⊥) → a.end + (batch_header + bytes_of j.pending) < j.size
pending_fits j a is e some =
    let fits = subst (λ (o : Option OpenArea). ArePending j.size o j.pending) e is.pending in
    omega (arith, fits.1, batch_size-is j.pending some)

-- what an image is torn to while its gate opens
gate_opens_in : (j : JournalView) (a : OpenArea) (bytes image left : List ℕ) → IsJournal j → j.newer ≡ Some a → a.end + 1 + length bytes ≤ j.size
    → Behind (a.start + a.end) bytes image left → TornIn j.size a.start image left
gate_opens_in j a bytes image left is e fits b = record {
  at = a.start + a.end;
  count = 1 + length bytes;
  torn = b.torn;
  half = (newer_open j a is e).start;
  low = omega arith;
  high = omega arith;
}

-- a gate that is still closed changes nothing
gate_closed : (j : JournalView) (a : OpenArea) (bytes image left : List ℕ) (older newer : List (List ℕ)) → IsJournal j → StandsFor j image older newer → j.newer ≡ Some a
    → a.end + 1 + length bytes ≤ j.size → Behind (a.start + a.end) bytes image left → is_open (a.start + a.end) left ≡ false → StandsFor j left older newer
gate_closed j a bytes image left older newer is stands e fits b closed =
    let opens = newer_open j a is e in
    newer_stays j a image left older newer is stands e (gate_opens_in j a bytes image left is e fits b)
    (IsArea-still j.volume (bytes_at image a.start j.size) (bytes_at left a.start j.size) a newer (newer_area j a image older newer stands e) opens.header
    (front-area image left a.start j.size (a.start + a.end) (1 + length bytes) a.end b.torn (omega arith) (omega arith))
    (long-area j a.start image left is opens.start stands.size b.torn.size)
    (is_open-area left a.start j.size a.end opens.within ∙ closed))

-- an open one has the pending entries on the disk
gate_opened : (j : JournalView) (a : OpenArea) (bytes image left : List ℕ) (older newer : List (List ℕ)) → IsJournal j → StandsFor j image older newer → j.newer ≡ Some a
    → IsBehindBatchGate bytes j.pending → (j.pending ≡ [] → ⊥) → Behind (a.start + a.end) bytes image left → is_open (a.start + a.end) left ≡ true
    → StandsFor (after_commit j) left older (newer ++ j.pending)
gate_opened j a bytes image left older newer is stands e written_is some b opened =
    let opens = newer_open j a is e in
    let size = j.size in
    let area = bytes_at left a.start size in
    let within : a.end + (batch_header + bytes_of j.pending) < size = pending_fits j a is e some in
    let fits : a.end + 1 + length bytes ≤ size = omega (arith, written_is.length_is) in
    let same_long : length area ≡ length (bytes_at image a.start size) = long-area j a.start image left is opens.start stands.size b.torn.size in
    let long : length area ≡ size = length-half j a.start left is opens.start (b.torn.size ∙ stands.size) in
    let has = has_behind area bytes a.end j.pending written_is (behind_in_area a size bytes image left b fits) in
    let batch = batch_behind area bytes a.end j.pending written_is has some (is_open-area left a.start size a.end opens.within ∙ opened) (omega (arith, long)) in
    let sized : batch_size j.pending ≡ batch_header + bytes_of j.pending = batch_size-is j.pending some in
    let more = IsArea-more j.volume (bytes_at image a.start size) area a newer j.pending (newer_area j a image older newer stands e) opens.header
    (front-area image left a.start size (a.start + a.end) (1 + length bytes) a.end b.torn (omega arith) (omega arith)) same_long batch
    (omega (arith, has.size, sized)) (ap (λ (p : ℕ). is_open (a.end + p) area) sized ∙ has.closed) in
    subst (λ (o : Option OpenArea). StandsFor (record j { newer = option_map (area_with j.pending) o; pending = [] }) left older (newer ++ j.pending)) (sym e)
    (newer_changes j a (area_with j.pending a) [] image left older newer (newer ++ j.pending) is stands e refl (gate_opens_in j a bytes image left is e fits b) more)

gate_either : (j : JournalView) (a : OpenArea) (bytes image left : List ℕ) (older newer : List (List ℕ)) (b : Bool) → is_open (a.start + a.end) left ≡ b → IsJournal j
    → StandsFor j image older newer → j.newer ≡ Some a → IsBehindBatchGate bytes j.pending → (j.pending ≡ [] → ⊥) → a.end + 1 + length bytes ≤ j.size
    → Behind (a.start + a.end) bytes image left → StandsFor j left older newer ⊎ StandsFor (after_commit j) left older (newer ++ j.pending)
gate_either j a bytes image left older newer true opened is stands e written_is some fits b = inr (gate_opened j a bytes image left older newer is stands e written_is some b opened)
gate_either j a bytes image left older newer false closed is stands e written_is some fits b = inl (gate_closed j a bytes image left older newer is stands e fits b closed)

-- the bytes of the batch of the pending entries, with the gate behind it, fit into the area behind its end
body_fits : (j : JournalView) (a : OpenArea) (bytes : List ℕ) → IsJournal j → j.newer ≡ Some a → IsBehindBatchGate bytes j.pending → (j.pending ≡ [] → ⊥)
    → a.end + 1 + length bytes ≤ j.size
body_fits j a bytes is e written_is some = omega (arith, pending_fits j a is e some, written_is.length_is)

-- and onto the disk
disk_fits : (j : JournalView) (a : OpenArea) (bytes image : List ℕ) → IsJournal j → j.newer ≡ Some a → length image ≡ j.disk → a.end + 1 + length bytes ≤ j.size
    → a.start + a.end + 1 + length bytes ≤ length image
disk_fits j a bytes image is e long fits = omega (arith, half_within j a.start is (newer_open j a is e).start)

-- While the gate before these bytes is opened, the journal stands for what it did, or also for the pending entries.
pub gate_torn : (j : JournalView) (a : OpenArea) (bytes image left : List ℕ) (older newer : List (List ℕ)) → IsJournal j → StandsFor j image older newer → j.newer ≡ Some a
    → IsBehindBatchGate bytes j.pending → (j.pending ≡ [] → ⊥) → Torn (a.start + a.end) 1 (written image (a.start + a.end + 1) bytes) left
    → StandsFor j left older newer ⊎ StandsFor (after_commit j) left older (newer ++ j.pending)
gate_torn j a bytes image left older newer is stands e written_is some torn =
    let fits = body_fits j a bytes is e written_is some in
    gate_either j a bytes image left older newer (is_open (a.start + a.end) left) refl is stands e written_is some fits
    (behind_gate (a.start + a.end) bytes image left (disk_fits j a bytes image is e stands.size fits) torn)

-- Once the gate is open, the journal stands for the pending entries too.
pub committed : (j : JournalView) (a : OpenArea) (bytes image : List ℕ) (older newer : List (List ℕ)) → IsJournal j → StandsFor j image older newer → j.newer ≡ Some a
    → IsBehindBatchGate bytes j.pending → (j.pending ≡ [] → ⊥)
    → StandsFor (after_commit j) (written (written image (a.start + a.end + 1) bytes) (a.start + a.end) (1 ∷ [])) older (newer ++ j.pending)
committed j a bytes image older newer is stands e written_is some =
    let gate = a.start + a.end in
    let mid = written image (gate + 1) bytes in
    let fits : gate + 1 + length bytes ≤ length image = disk_fits j a bytes image is e stands.size (body_fits j a bytes is e written_is some) in
    let long : length mid ≡ length image = (Torn-written image (gate + 1) bytes fits).size in
    gate_opened j a bytes image (written mid gate (1 ∷ [])) older newer is stands e written_is some
    (behind_gate gate bytes image (written mid gate (1 ∷ [])) fits (Torn-written mid gate (1 ∷ []) (omega arith)))
    (gate_written mid gate 1 (omega arith))

-- ---- a rotation

-- where the new area begins, no area is
rotation_at : (j : JournalView) → IsJournal j → IsBeside j.size j.newer (start_beside j.size j.newer)
rotation_at j is = beside_is j.size j.newer (omega (arith, is.least)) is.newer

none_begins : (o : Option OpenArea) (s : ℕ) → o ≡ None → BeginsAt s o → ⊥
none_begins o s e begins = subst (λ (o : Option OpenArea). BeginsAt s o) e begins

-- While a header is written behind a closed gate, the journal stands for what it did.
pub header_torn : (j : JournalView) (image left : List ℕ) (older newer : List (List ℕ)) → IsJournal j → StandsFor j image older newer → j.older ≡ None
    → Torn (start_beside j.size j.newer + 1) 64 image left → StandsFor j left older newer
header_torn j image left older newer is stands e torn =
    let s = start_beside j.size j.newer in
    let place = rotation_at j is in
    let t : TornIn j.size s image left = record { at = s + 1; count = 64; torn = torn; half = place.half; low = omega arith; high = omega (arith, is.least) } in
    let front : take 1 (bytes_at left s j.size) ≡ take 1 (bytes_at image s j.size) =
    front-area image left s j.size (s + 1) 64 1 torn (omega (arith, is.least)) (omega arith) in
    let was : is_open 0 (bytes_at image s j.size) ≡ false = stands.others s place.half (none_begins j.older s e) place.apart in
    free_changes j s image left older newer is stands (none_begins j.older s e) place.apart t (is_open-same 0 1 _ _ (omega arith) front ∙ was)

-- what an image is torn to while the gate of an area opens
area_opens_in : (j : JournalView) (bytes image left : List ℕ) → IsJournal j → length bytes ≡ 64 → Behind (start_beside j.size j.newer) bytes image left
    → TornIn j.size (start_beside j.size j.newer) image left
area_opens_in j bytes image left is long b = record {
  at = start_beside j.size j.newer;
  count = 1 + length bytes;
  torn = b.torn;
  half = (rotation_at j is).half;
  low = omega arith;
  high = omega (arith, is.least);
}

-- an area of no entries, from the bytes behind its gate
area_behind : (area bytes : List ℕ) (volume base start : ℕ) → IsBehindAreaGate bytes volume base → bytes_at area 1 (length bytes) ≡ bytes → is_open 0 area ≡ true
    → 64 < length area → IsArea volume area (new_area start base) []
area_behind area bytes volume base start is there gate long =
    let n = length bytes in
    let n_is : n ≡ 64 = is.length_is in
    record {
      gate = gate;
      volume_is = number_8-within 1 n 7 area (omega arith) ∙ ap (λ (l : List ℕ). number_8 7 l) there ∙ is.volume_is;
      base = number_8-within 1 n 15 area (omega arith) ∙ ap (λ (l : List ℕ). number_8 15 l) there ∙ is.base_is;
      batches = [];
      has = HasBatches-none area area_header long;
      entries_are = joined-none;
      closed = is_open-within 1 n 63 area (omega arith) ∙ ap (λ (l : List ℕ). is_open 63 l) there ∙ is.closed;
      numbers = omega arith;
    }

-- an open gate has the new area on the disk
area_opened : (j : JournalView) (base : ℕ) (bytes image left : List ℕ) (older newer : List (List ℕ)) → IsJournal j → StandsFor j image older newer → j.older ≡ None
    → IsBehindAreaGate bytes j.volume base → Behind (start_beside j.size j.newer) bytes image left → is_open (start_beside j.size j.newer) left ≡ true
    → StandsFor (after_rotation j base) left newer []
area_opened j base bytes image left older newer is stands e written_is b opened =
    let s = start_beside j.size j.newer in
    let place = rotation_at j is in
    let t = area_opens_in j bytes image left is written_is.length_is b in
    let area = bytes_at left s j.size in
    let n = length bytes in
    let n_is : n ≡ 64 = written_is.length_is in
    let there : bytes_at area 1 n ≡ bytes = sym (part-within s j.size 1 n left (omega (arith, is.least))) ∙ b.behind in
    let long : length area ≡ j.size = length-half j s left is place.half (b.torn.size ∙ stands.size) in
    record {
      size = b.torn.size ∙ stands.size;
      older_is = laid_beside j.volume j.size s image left j.newer newer t is.newer place.apart stands.newer_is;
      newer_is = area_behind area bytes j.volume base s written_is there (gate-area left s j.size (omega (arith, is.least)) ∙ opened) (omega (arith, is.least, long));
      others = λ start half not_older not_newer.
          let apart : start ≡ s → ⊥ = λ h. not_newer (sym h) in
          free_beside j.size s start image left t half apart (stands.others start half (none_begins j.older start e) not_older);
    }

-- one that is closed changes nothing
area_closed : (j : JournalView) (bytes image left : List ℕ) (older newer : List (List ℕ)) → IsJournal j → StandsFor j image older newer → j.older ≡ None
    → length bytes ≡ 64 → Behind (start_beside j.size j.newer) bytes image left → is_open (start_beside j.size j.newer) left ≡ false → StandsFor j left older newer
area_closed j bytes image left older newer is stands e long b closed =
    let s = start_beside j.size j.newer in
    free_changes j s image left older newer is stands (none_begins j.older s e) (rotation_at j is).apart (area_opens_in j bytes image left is long b)
    (gate-area left s j.size (omega (arith, is.least)) ∙ closed)

area_either : (j : JournalView) (base : ℕ) (bytes image left : List ℕ) (older newer : List (List ℕ)) (o : Bool) → is_open (start_beside j.size j.newer) left ≡ o → IsJournal j
    → StandsFor j image older newer → j.older ≡ None → IsBehindAreaGate bytes j.volume base → Behind (start_beside j.size j.newer) bytes image left
    → StandsFor j left older newer ⊎ StandsFor (after_rotation j base) left newer []
area_either j base bytes image left older newer true opened is stands e written_is b = inr (area_opened j base bytes image left older newer is stands e written_is b opened)
area_either j base bytes image left older newer false closed is stands e written_is b =
    inl (area_closed j bytes image left older newer is stands e written_is.length_is b closed)

-- the header of a new area fits onto the disk
header_fits : (j : JournalView) (bytes image : List ℕ) → IsJournal j → length image ≡ j.disk → length bytes ≡ 64
    → start_beside j.size j.newer + 1 + length bytes ≤ length image
header_fits j bytes image is long bytes_long = omega (arith, half_within j (start_beside j.size j.newer) is (rotation_at j is).half, is.least)

-- While the gate before this header is opened, the journal stands for what it did, or for that with a new area.
pub area_torn : (j : JournalView) (base : ℕ) (bytes image left : List ℕ) (older newer : List (List ℕ)) → IsJournal j → StandsFor j image older newer → j.older ≡ None
    → IsBehindAreaGate bytes j.volume base → Torn (start_beside j.size j.newer) 1 (written image (start_beside j.size j.newer + 1) bytes) left
    → StandsFor j left older newer ⊎ StandsFor (after_rotation j base) left newer []
area_torn j base bytes image left older newer is stands e written_is torn =
    let s = start_beside j.size j.newer in
    area_either j base bytes image left older newer (is_open s left) refl is stands e written_is
    (behind_gate s bytes image left (header_fits j bytes image is stands.size written_is.length_is) torn)

-- Once that gate is open, the journal stands for the same entries, with a new area.
pub rotated : (j : JournalView) (base : ℕ) (bytes image : List ℕ) (older newer : List (List ℕ)) → IsJournal j → StandsFor j image older newer → j.older ≡ None
    → IsBehindAreaGate bytes j.volume base
    → StandsFor (after_rotation j base) (written (written image (start_beside j.size j.newer + 1) bytes) (start_beside j.size j.newer) (1 ∷ [])) newer []
rotated j base bytes image older newer is stands e written_is =
    let s = start_beside j.size j.newer in
    let mid = written image (s + 1) bytes in
    let fits : s + 1 + length bytes ≤ length image = header_fits j bytes image is stands.size written_is.length_is in
    let long : length mid ≡ length image = (Torn-written image (s + 1) bytes fits).size in
    area_opened j base bytes image (written mid s (1 ∷ [])) older newer is stands e written_is
    (behind_gate s bytes image (written mid s (1 ∷ [])) fits (Torn-written mid s (1 ∷ []) (omega arith)))
    (gate_written mid s 1 (omega arith))

-- ---- closing an area

-- what an image is torn to while the gate of an area closes
area_closes_in : (j : JournalView) (a : OpenArea) (image left : List ℕ) → IsJournal j → IsOpenArea j.size a → Torn a.start 1 image left → TornIn j.size a.start image left
area_closes_in j a image left is opens torn =
    record { at = a.start; count = 1; torn = torn; half = opens.start; low = omega arith; high = omega (arith, is.least) }

-- a half whose gate closed is free, and another that was is
closed_is : (j : JournalView) (a : OpenArea) (image left : List ℕ) (start : ℕ) → IsJournal j → TornIn j.size a.start image left → is_open a.start left ≡ false → IsHalf j.size start
    → ((start ≡ a.start → ⊥) → IsFree j.size start image) → IsFree j.size start left
closed_is j a image left start is t closed half others = ⊎_elim
    (λ (here : start ≡ a.start). subst (λ (n : ℕ). IsFree j.size n left) (sym here) (gate-area left a.start j.size (omega (arith, is.least)) ∙ closed))
    (λ (apart : start ≡ a.start → ⊥). free_beside j.size a.start start image left t half apart (others apart))
    (cases_eq start a.start)

-- where the gate of its older area is closed, the journal stands for the newer's entries
older_gone : (j : JournalView) (a : OpenArea) (image left : List ℕ) (older newer : List (List ℕ)) → IsJournal j → StandsFor j image older newer → j.older ≡ Some a
    → Torn a.start 1 image left → is_open a.start left ≡ false → StandsFor (without_older j) left [] newer
older_gone j a image left older newer is stands e torn closed =
    let t = area_closes_in j a image left is (older_open j a is e) torn in record {
      size = torn.size ∙ stands.size;
      older_is = refl;
      newer_is = laid_beside j.volume j.size a.start image left j.newer newer t is.newer (newer_apart j a is e) stands.newer_is;
      others = λ start half not_older not_newer. closed_is j a image left start is t closed half
          (λ apart. stands.others start half (λ begins. apart (sym (subst (λ (o : Option OpenArea). BeginsAt start o) e begins))) not_newer);
    }

-- where that of its newer area is, for the older's
newer_gone : (j : JournalView) (a : OpenArea) (image left : List ℕ) (older newer : List (List ℕ)) → IsJournal j → StandsFor j image older newer → j.newer ≡ Some a
    → Torn a.start 1 image left → is_open a.start left ≡ false → StandsFor (without_newer j) left [] older
newer_gone j a image left older newer is stands e torn closed =
    let t = area_closes_in j a image left is (newer_open j a is e) torn in record {
      size = torn.size ∙ stands.size;
      older_is = refl;
      newer_is = laid_beside j.volume j.size a.start image left j.older older t is.older (older_apart j a is e) stands.older_is;
      others = λ start half not_older not_newer. closed_is j a image left start is t closed half
          (λ apart. stands.others start half not_newer (λ begins. apart (sym (subst (λ (o : Option OpenArea). BeginsAt start o) e begins))));
    }

-- an open gate of an area that stays open is as it was
stays_open : (j : JournalView) (a : OpenArea) (image left : List ℕ) (older newer es : List (List ℕ)) → IsJournal j → StandsFor j image older newer → IsOpenArea j.size a
    → IsArea j.volume (bytes_at image a.start j.size) a es → Torn a.start 1 image left → is_open a.start left ≡ true → StandsFor j left older newer
stays_open j a image left older newer es is stands opens area torn opened =
    let within : a.start < length image = omega (arith, half_within j a.start is opens.start, is.least, stands.size) in
    let was : is_open a.start image ≡ true = sym (gate-area image a.start j.size (omega (arith, is.least))) ∙ area.gate in
    subst (λ (l : List ℕ). StandsFor j l older newer) (sym (Torn-open a.start image left torn within was opened)) stands

older_either : (j : JournalView) (a : OpenArea) (image left : List ℕ) (older newer : List (List ℕ)) (b : Bool) → is_open a.start left ≡ b → IsJournal j
    → StandsFor j image older newer → j.older ≡ Some a → Torn a.start 1 image left → StandsFor j left older newer ⊎ StandsFor (without_older j) left [] newer
older_either j a image left older newer true opened is stands e torn =
    inl (stays_open j a image left older newer older is stands (older_open j a is e) (older_area j a image older newer stands e) torn opened)
older_either j a image left older newer false closed is stands e torn = inr (older_gone j a image left older newer is stands e torn closed)

newer_either : (j : JournalView) (a : OpenArea) (image left : List ℕ) (older newer : List (List ℕ)) (b : Bool) → is_open a.start left ≡ b → IsJournal j
    → StandsFor j image older newer → j.newer ≡ Some a → Torn a.start 1 image left → StandsFor j left older newer ⊎ StandsFor (without_newer j) left [] older
newer_either j a image left older newer true opened is stands e torn =
    inl (stays_open j a image left older newer newer is stands (newer_open j a is e) (newer_area j a image older newer stands e) torn opened)
newer_either j a image left older newer false closed is stands e torn = inr (newer_gone j a image left older newer is stands e torn closed)

-- While the gate of its older area is closed, the journal stands for what it did, or for the newer's entries.
pub older_torn : (j : JournalView) (a : OpenArea) (image left : List ℕ) (older newer : List (List ℕ)) → IsJournal j → StandsFor j image older newer → j.older ≡ Some a
    → Torn a.start 1 image left → StandsFor j left older newer ⊎ StandsFor (without_older j) left [] newer
older_torn j a image left older newer is stands e torn = older_either j a image left older newer (is_open a.start left) refl is stands e torn

-- While that of its newer area is closed, it stands for what it did, or for the older's.
pub newer_torn : (j : JournalView) (a : OpenArea) (image left : List ℕ) (older newer : List (List ℕ)) → IsJournal j → StandsFor j image older newer → j.newer ≡ Some a
    → Torn a.start 1 image left → StandsFor j left older newer ⊎ StandsFor (without_newer j) left [] older
newer_torn j a image left older newer is stands e torn = newer_either j a image left older newer (is_open a.start left) refl is stands e torn

-- a gate that is closed, and is within the disk
close_written : (j : JournalView) (a : OpenArea) (image : List ℕ) → IsJournal j → IsOpenArea j.size a → length image ≡ j.disk
    → Torn a.start 1 image (written image a.start (0 ∷ [])) × (is_open a.start (written image a.start (0 ∷ [])) ≡ false)
close_written j a image is opens long =
    let within : a.start < length image = omega (arith, half_within j a.start is opens.start, is.least) in
    (Torn-written image a.start (0 ∷ []) (omega arith), gate_written image a.start 0 within)

-- Once the gate of its older area is closed, the journal stands for the newer's entries.
pub older_closed : (j : JournalView) (a : OpenArea) (image : List ℕ) (older newer : List (List ℕ)) → IsJournal j → StandsFor j image older newer → j.older ≡ Some a
    → StandsFor (without_older j) (written image a.start (0 ∷ [])) [] newer
older_closed j a image older newer is stands e =
    let w = close_written j a image is (older_open j a is e) stands.size in
    older_gone j a image (written image a.start (0 ∷ [])) older newer is stands e w.0 w.1

-- Once that of its newer area is closed, it stands for the older's.
pub newer_closed : (j : JournalView) (a : OpenArea) (image : List ℕ) (older newer : List (List ℕ)) → IsJournal j → StandsFor j image older newer → j.newer ≡ Some a
    → StandsFor (without_newer j) (written image a.start (0 ∷ [])) [] older
newer_closed j a image older newer is stands e =
    let w = close_written j a image is (newer_open j a is e) stands.size in
    newer_gone j a image (written image a.start (0 ∷ [])) older newer is stands e w.0 w.1
