-- Where the next entry of a journal lies on the disk: the first of the places of what is left.
use Rattle.std.specs.Prelude.{min, if◌then◌else◌, IfSome}
use Rattle.std.proofs.Common.{◌≡◌, ⊎_elim, ℕ, ◌+◌, ◌-◌, ◌<◌, ◌≤◌, ◌^◌, Bool, true, false, List, [], ◌∷◌, ◌++◌, length, drop, Option, Some, None, refl, sym, ap, ◌∙◌, subst, arith}
use Rattle.std.proofs.lemmas.List.{append-nil, length-take}
use Rattle.sky_outside.specs.Image.{bytes_at}
use Rattle.sky_journal.specs.EntryPlaces.{batch_places, places_from}
use Rattle.sky_journal.specs.Journal.{JournalView, IsJournal, IsOpenArea, numbered_in}
use Rattle.sky_journal.specs.Laid.{IsArea, IsLaid, joined}
use Rattle.sky_journal.specs.Layout.{body_at, count_at, next_batch}
use Rattle.sky_journal.specs.Looking.{between}
use Rattle.sky_journal.specs.Place.{IsPast, Left, LeftFrom, LeftIn, LeftOf, LeftOlder, area_of, places_in, start_in}
use Rattle.sky_journal.specs.Text.{numbered}
use Rattle.sky_journal.specs.declared.open_area.OpenArea.{OpenArea}
use Rattle.sky_journal.specs.declared.place.Place.{Place}
use Rattle.sky_journal.proofs.Ahead.{older_done, older_none, past_none, start_left, start_place}
use Rattle.sky_journal.proofs.AreaWords.{numbered-length}
use Rattle.sky_journal.proofs.Batches.{HasBatches-within}
use Rattle.sky_journal.proofs.Entries.{entries_in-length}
use Rattle.sky_journal.proofs.Places.{next_batch_left}
use Rattle.sky_recover.specs.Replaying.{IsFirstOf}

-- this place of an area is the first of some places, and lies within the area
record IsFirstIn (places : List ℕ) (start size at : ℕ) : Type 0 where
  first : IsFirstOf places (start + at)
  within : at ≤ size

-- ---- the first of some places

first_of : (at : ℕ) (es : List (List ℕ)) (more : List ℕ) → 0 < length es → IsFirstOf (places_from at es ++ more) at
unfolding places_from
first_of at [] more some = absurd (omega (arith, some))
first_of at (e ∷ es) more some = (places_from (at + length e) es ++ more, refl)

first_with : (places more : List ℕ) (at : ℕ) → IsFirstOf places at → IsFirstOf (places ++ more) at
first_with places more at first = (first.0 ++ more, ap (λ (l : List ℕ). l ++ more) first.1)

-- ---- in an area

module _ (image : List ℕ) (start size : ℕ) (a : OpenArea) (place : Place) (e : ℕ × List ℕ) (rest : List (ℕ × List ℕ)) (places : List ℕ)
    (left : LeftIn (bytes_at image start size) a place (e ∷ rest) places) where
  short : length (bytes_at image start size) ≤ size
  short = omega (arith, length-take size (drop start image))

  -- of the place's batch
  in_batch : 0 < place.left → IsFirstIn places a.start size place.at
  in_batch some =
      let bytes = bytes_at image start size in
      let count : length left.entries ≡ place.left = entries_in-length place.left (between place.at place.end bytes) left.entries left.holds in
      let inside = HasBatches-within bytes place.end left.batches a.end left.has in
      record {
        first = subst (λ (l : List ℕ). IsFirstOf l (a.start + place.at)) (sym left.placed)
            (first_of (a.start + place.at) left.entries (batch_places (area_of a bytes) place.end left.batches) (omega (arith, count, some)));
        within = omega (arith, left.order, inside, short);
      }

  -- of the batch behind it
  behind_batch : place.left ≡ 0 → IsFirstIn places a.start size (place.end + 16)
  behind_batch none =
      let bytes = bytes_at image start size in
      let counted : length (e ∷ rest) ≡ length (left.entries ++ joined left.batches) = ap length left.listed ∙ numbered-length place.last (left.entries ++ joined left.batches) in
      let next = next_batch_left bytes a place (e ∷ rest) places left none (omega (arith, left.numbers, counted)) in
      let count : length next.0 ≡ count_at place.end bytes = entries_in-length (count_at place.end bytes) (body_at place.end bytes) next.0 next.2.holds in
      record {
        first = subst (λ (l : List ℕ). IsFirstOf l (a.start + (place.end + 16))) (sym next.6)
            (first_of (a.start + (place.end + 16)) next.0 (batch_places (area_of a bytes) (next_batch place.end bytes) next.1) (omega (arith, count, next.2.some)));
        within = omega (arith, next.2.within, short);
      }

-- ---- on the disk

-- where on the disk a place of the newer or of the older area is
abbrev pub at_of : JournalView → Bool → ℕ → ℕ
at_of j newer at = min (start_in (if newer then j.newer else j.older) + at) (2 ^ 64 - 1)

placed : (j : JournalView) (a : OpenArea) (newer : Bool) (places : List ℕ) (at : ℕ) → IsJournal j → IsOpenArea j.size a → (if newer then j.newer else j.older) ≡ Some a
    → IsFirstIn places a.start j.size at → IsFirstOf places (at_of j newer at)
placed j a newer places at is opens here lies =
    let start : start_in (if newer then j.newer else j.older) ≡ a.start = ap start_in here in
    let low : a.start ≤ j.size = ⊎_elim (λ (e : a.start ≡ 0). omega (arith, e)) (λ (e : a.start ≡ j.size). omega (arith, e)) opens.start in
    let same : a.start + at ≡ at_of j newer at = omega (arith, start, low, lies.within, is.most) in
    subst (λ (k : ℕ). IsFirstOf places k) same lies.first

opened : (size : ℕ) (o : Option OpenArea) (a : OpenArea) → o ≡ Some a → IfSome o (IsOpenArea size) → IsOpenArea size a
opened size o a is opens = subst (λ (x : Option OpenArea). IfSome x (IsOpenArea size)) is opens

module _ (j : JournalView) (image : List ℕ) (place : Place) (e : ℕ × List ℕ) (rest : List (ℕ × List ℕ)) (places : List ℕ) (is : IsJournal j)
    (left : Left j image place (e ∷ rest) places) where
  -- the older area has no entry further: it is the newer's first one
  past_by : (n : Option OpenArea) → j.newer ≡ n → IsPast j image (e ∷ rest) places → IsFirstOf places (at_of j true 80)
  past_by None none x = let nothing : e ∷ rest ≡ [] = past_none j image (e ∷ rest) places none x in absurd cc
  past_by (Some b) here x =
      let bytes = bytes_at image b.start j.size in
      let laid : IsArea j.volume bytes b x.newer = subst (λ (o : Option OpenArea). IsLaid j.volume j.size image o x.newer) here x.newer_is in
      let listed : numbered b.base x.newer ≡ e ∷ rest = sym (x.listed ∙ ap (λ (o : Option OpenArea). numbered_in o x.newer) here) in
      let there : places_in j.size image (Some b) ≡ places = sym (x.placed ∙ ap (λ (o : Option OpenArea). places_in j.size image o) here) in
      let from : LeftIn bytes b (start_place true b) (e ∷ rest) places =
      subst (λ (p : List ℕ). LeftIn bytes b (start_place true b) (e ∷ rest) p) there
      (subst (λ (l : List (ℕ × List ℕ)). LeftIn bytes b (start_place true b) l (places_in j.size image (Some b))) listed (start_left true j.volume bytes b x.newer laid)) in
      placed j b true places 80 is (opened j.size j.newer b here is.newer) here (behind_batch image b.start j.size b (start_place true b) e rest places from refl)

  is_past : (o : Option OpenArea) → j.older ≡ o → place.newer ≡ false → IfSome o (λ a. place.last ≡ a.last) → IsPast j image (e ∷ rest) places
  is_past None none there same = older_none j image place (e ∷ rest) places there none left
  is_past (Some a) here there same = older_done j image a place (e ∷ rest) places there here (omega (arith, same)) left

  pub past_lies : place.newer ≡ false → IfSome j.older (λ a. place.last ≡ a.last) → IsFirstOf places (at_of j true 80)
  past_lies there same = past_by j.newer refl (is_past j.older refl there same)

-- the place's own area has an entry further
pub record IsHere (j : JournalView) (image : List ℕ) (place : Place) (e : ℕ × List ℕ) (places : List ℕ) : Type 0 where
  pub area : OpenArea
  pub here : (if place.newer then j.newer else j.older) ≡ Some area
  pub opens : IsOpenArea j.size area
  pub behind : List (ℕ × List ℕ)
  pub own : List ℕ
  pub more : List ℕ
  pub parts : places ≡ own ++ more
  pub left : LeftIn (bytes_at image area.start j.size) area place (e ∷ behind) own

newer_here : (j : JournalView) (image : List ℕ) (place : Place) (e : ℕ × List ℕ) (rest : List (ℕ × List ℕ)) (places : List ℕ) (n : Option OpenArea) → j.newer ≡ n → IsJournal j → place.newer ≡ true
    → LeftOf j.size image n place (e ∷ rest) places → IsHere j image place e places
newer_here j image place e rest places None here is there left = let nothing : e ∷ rest ≡ [] = left.0 in absurd cc
newer_here j image place e rest places (Some a) here is there left = record {
  area = a;
  here = ap (λ (b : Bool). if b then j.newer else j.older) there ∙ here;
  opens = opened j.size j.newer a here is.newer;
  behind = rest;
  own = places;
  more = [];
  parts = sym (append-nil places);
  left = left;
}

-- the older's entries come first, where it has one
first_same : (xs ys : List (ℕ × List ℕ)) (e : ℕ × List ℕ) (rest : List (ℕ × List ℕ)) → e ∷ rest ≡ xs ++ ys → 0 < length xs → (behind : List (ℕ × List ℕ)) × (xs ≡ e ∷ behind)
first_same [] ys e rest is some = absurd (omega (arith, some))
first_same (x ∷ xs) ys e rest is some = let same : e ≡ x = cc in (xs, ap (λ (y : ℕ × List ℕ). y ∷ xs) (sym same))

some_left : (bytes : List ℕ) (a : OpenArea) (place : Place) (list : List (ℕ × List ℕ)) (places : List ℕ) → LeftIn bytes a place list places → (place.last ≡ a.last → ⊥) → 0 < length list
some_left bytes a place list places left apart =
    let counted : length list ≡ length (left.entries ++ joined left.batches) = ap length left.listed ∙ numbered-length place.last (left.entries ++ joined left.batches) in
    omega (arith, left.numbers, counted, apart)

older_here : (j : JournalView) (image : List ℕ) (place : Place) (e : ℕ × List ℕ) (rest : List (ℕ × List ℕ)) (places : List ℕ) (o : Option OpenArea) → j.older ≡ o → IsJournal j
    → place.newer ≡ false → IfSome o (λ a. place.last ≡ a.last → ⊥) → (o ≡ None → ⊥) → LeftOlder j image place (e ∷ rest) places → IsHere j image place e places
older_here j image place e rest places None here is there apart some x = absurd (some refl)
older_here j image place e rest places (Some a) here is there apart some x =
    let bytes = bytes_at image a.start j.size in
    let left : LeftIn bytes a place x.older x.older_places = subst (λ (o : Option OpenArea). LeftOf j.size image o place x.older x.older_places) here x.left in
    let first = first_same x.older (numbered_in j.newer x.newer) e rest x.listed (some_left bytes a place x.older x.older_places left apart) in
    record {
      area = a;
      here = ap (λ (b : Bool). if b then j.newer else j.older) there ∙ here;
      opens = opened j.size j.older a here is.older;
      behind = first.0;
      own = x.older_places;
      more = places_in j.size image j.newer;
      parts = x.placed;
      left = subst (λ (l : List (ℕ × List ℕ)). LeftIn bytes a place l x.older_places) first.1 left;
    }

here_by : (j : JournalView) (image : List ℕ) (place : Place) (e : ℕ × List ℕ) (rest : List (ℕ × List ℕ)) (places : List ℕ) (b : Bool) → place.newer ≡ b → IsJournal j
    → (place.newer ≡ false → IfSome j.older (λ a. place.last ≡ a.last → ⊥)) → (place.newer ≡ false → j.older ≡ None → ⊥) → LeftFrom b j image place (e ∷ rest) places
    → IsHere j image place e places
here_by j image place e rest places true there is apart some left = newer_here j image place e rest places j.newer refl is there left
here_by j image place e rest places false there is apart some left = older_here j image place e rest places j.older refl is there (apart there) (some there) left

pub is_here : (j : JournalView) (image : List ℕ) (place : Place) (e : ℕ × List ℕ) (rest : List (ℕ × List ℕ)) (places : List ℕ) → IsJournal j
    → (place.newer ≡ false → IfSome j.older (λ a. place.last ≡ a.last → ⊥)) → (place.newer ≡ false → j.older ≡ None → ⊥) → Left j image place (e ∷ rest) places → IsHere j image place e places
is_here j image place e rest places is apart some left = here_by j image place e rest places place.newer refl is apart some left

-- the first of its own places is the first of all
own_first : (j : JournalView) (image : List ℕ) (place : Place) (e : ℕ × List ℕ) (places : List ℕ) (at : ℕ) → IsJournal j → (x : IsHere j image place e places)
    → IsFirstIn x.own x.area.start j.size at → IsFirstOf places (at_of j place.newer at)
own_first j image place e places at is x first =
    subst (λ (l : List ℕ). IsFirstOf l (at_of j place.newer at)) (sym x.parts)
    (first_with x.own x.more (at_of j place.newer at) (placed j x.area place.newer x.own at is x.opens x.here first))

-- in the place's batch
pub own_lies : (j : JournalView) (image : List ℕ) (place : Place) (e : ℕ × List ℕ) (places : List ℕ) → IsJournal j → 0 < place.left → IsHere j image place e places
    → IsFirstOf places (at_of j place.newer place.at)
own_lies j image place e places is some x =
    own_first j image place e places place.at is x (in_batch image x.area.start j.size x.area place e x.behind x.own x.left some)

-- and in the one behind it
pub next_lies : (j : JournalView) (image : List ℕ) (place : Place) (e : ℕ × List ℕ) (places : List ℕ) → IsJournal j → place.left ≡ 0 → IsHere j image place e places
    → IsFirstOf places (at_of j place.newer (place.end + 16))
next_lies j image place e places is none x =
    own_first j image place e places (place.end + 16) is x (behind_batch image x.area.start j.size x.area place e x.behind x.own x.left none)
