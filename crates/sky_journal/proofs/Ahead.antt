-- The area in which the next entry of a journal is.
use Rattle.std.proofs.Common.{◌≡◌, ℕ, ◌+◌, ◌≤◌, Bool, true, false, List, [], ◌++◌, length, Option, Some, None, refl, sym, ap, ◌∙◌, subst, arith}
use Rattle.std.proofs.lemmas.List.{append-nil}
use Rattle.sky_outside.specs.Image.{bytes_at}
use Rattle.sky_journal.specs.EntryPlaces.{batch_places, area_places, open_batches, places_from, places_of}
use Rattle.sky_journal.specs.Text.{entries_in, numbered}
use Rattle.sky_journal.specs.Laid.{IsArea, IsLaid}
use Rattle.sky_journal.specs.Journal.{JournalView, IsJournal, StandsFor, entries, numbered_in}
use Rattle.sky_journal.specs.Looking.{between}
use Rattle.sky_journal.specs.Place.{area_of, places_in, LeftIn, LeftOf, LeftOlder, LeftFrom, Left, LeftAt, IsPast, IsBehindEntry, GivesNext}
use Rattle.sky_journal.specs.declared.open_area.OpenArea.{OpenArea}
use Rattle.sky_journal.specs.declared.place.Place.{Place}
use Rattle.sky_journal.proofs.EntryPlaces.{area_batches, places_laid}
use Rattle.sky_journal.proofs.Places.{left_none, left_nowhere, numbered_none}

-- the place before an area's first batch
abbrev pub start_place : Bool → OpenArea → Place
start_place newer a = record { newer = newer; at = 64; left = 0; end = 64; last = a.base }

nothing_between : (bytes : List ℕ) → entries_in 0 (between 64 64 bytes) ≡ Some []
unfolding entries_in
nothing_between bytes = refl

-- all entries of an area are left there
nothing_placed : (a : OpenArea) (bytes : List ℕ) (batches : List (List (List ℕ))) → open_batches bytes (length bytes) 64 ≡ batches
    → area_places (area_of a bytes) ≡ places_from (a.start + 64) [] ++ batch_places (area_of a bytes) 64 batches
unfolding places_from
nothing_placed a bytes batches is = ap (λ (bs : List (List (List ℕ))). batch_places (area_of a bytes) 64 bs) is

pub start_left : (newer : Bool) (volume : ℕ) (bytes : List ℕ) (a : OpenArea) (es : List (List ℕ)) → IsArea volume bytes a es
    → LeftIn bytes a (start_place newer a) (numbered a.base es) (area_places (area_of a bytes))
start_left newer volume bytes a es is = record {
  entries = [];
  batches = is.batches;
  order = omega arith;
  holds = nothing_between bytes;
  has = is.has;
  listed = ap (λ (l : List (List ℕ)). numbered a.base l) (sym is.entries_are);
  placed = nothing_placed a bytes is.batches (area_batches volume bytes a es is);
  numbers = is.numbers ∙ ap (λ (l : List (List ℕ)). a.base + length l) (sym is.entries_are);
}

-- ---- the first place

pub first_older : (j : JournalView) (image : List ℕ) (a : OpenArea) (older newer : List (List ℕ)) → j.older ≡ Some a → IsJournal j → StandsFor j image older newer
    → Left j image (start_place false a) (entries j older newer) (places_of j.size image)
first_older j image a older newer is journal stands =
    let there : IsArea j.volume (bytes_at image a.start j.size) a older = subst (λ (o : Option OpenArea). IsLaid j.volume j.size image o older) is stands.older_is in
    let here : List ℕ = area_places (area_of a (bytes_at image a.start j.size)) in
    record {
      older = numbered a.base older;
      older_places = here;
      newer = newer;
      left = subst (λ (o : Option OpenArea). LeftOf j.size image o (start_place false a) (numbered a.base older) here) (sym is) (start_left false j.volume (bytes_at image a.start j.size) a older there);
      newer_is = stands.newer_is;
      listed = ap (λ (o : Option OpenArea). numbered_in o older ++ numbered_in j.newer newer) is;
      placed = places_laid j image older newer journal stands ∙ ap (λ (o : Option OpenArea). places_in j.size image o ++ places_in j.size image j.newer) is;
    }

-- where no older area is open, the places are those of the newer
only_newer : (j : JournalView) (image : List ℕ) (older newer : List (List ℕ)) (n : Option OpenArea) → j.older ≡ None → j.newer ≡ n → IsJournal j → StandsFor j image older newer
    → places_of j.size image ≡ places_in j.size image n
only_newer j image older newer n none is journal stands =
    places_laid j image older newer journal stands ∙ ap (λ (o : Option OpenArea). places_in j.size image o ++ places_in j.size image j.newer) none ∙ ap (λ (o : Option OpenArea). places_in j.size image o) is

pub first_newer : (j : JournalView) (image : List ℕ) (a : OpenArea) (older newer : List (List ℕ)) → j.older ≡ None → j.newer ≡ Some a → IsJournal j → StandsFor j image older newer
    → Left j image (start_place true a) (entries j older newer) (places_of j.size image)
first_newer j image a older newer none is journal stands =
    let there : IsArea j.volume (bytes_at image a.start j.size) a newer = subst (λ (o : Option OpenArea). IsLaid j.volume j.size image o newer) is stands.newer_is in
    let list : entries j older newer ≡ numbered a.base newer = ap (λ (o : Option OpenArea). numbered_in o older ++ numbered_in j.newer newer) none ∙ ap (λ (o : Option OpenArea). numbered_in o newer) is in
    let here : List ℕ = area_places (area_of a (bytes_at image a.start j.size)) in
    subst (λ (l : List (ℕ × List ℕ)). LeftOf j.size image j.newer (start_place true a) l (places_of j.size image)) (sym list)
    (subst (λ (p : List ℕ). LeftOf j.size image j.newer (start_place true a) (numbered a.base newer) p) (sym (only_newer j image older newer (Some a) none is journal stands))
    (subst (λ (o : Option OpenArea). LeftOf j.size image o (start_place true a) (numbered a.base newer) here) (sym is) (start_left true j.volume (bytes_at image a.start j.size) a newer there)))

pub first_nowhere : (j : JournalView) (image : List ℕ) (place : Place) (older newer : List (List ℕ)) → place.newer ≡ true → j.older ≡ None → j.newer ≡ None → IsJournal j
    → StandsFor j image older newer → Left j image place (entries j older newer) (places_of j.size image)
first_nowhere j image place older newer there none empty journal stands =
    let list : entries j older newer ≡ [] = ap (λ (o : Option OpenArea). numbered_in o older ++ numbered_in j.newer newer) none ∙ ap (λ (o : Option OpenArea). numbered_in o newer) empty in
    subst (λ (b : Bool). LeftFrom b j image place (entries j older newer) (places_of j.size image)) (sym there)
    (subst (λ (o : Option OpenArea). LeftOf j.size image o place (entries j older newer) (places_of j.size image)) (sym empty) (list, only_newer j image older newer None none empty journal stands))

-- ---- the newer area

in_newer : (j : JournalView) (image : List ℕ) (a : OpenArea) (place : Place) (list : List (ℕ × List ℕ)) (places : List ℕ) → place.newer ≡ true → j.newer ≡ Some a
    → LeftIn (bytes_at image a.start j.size) a place list places → LeftAt j image a place list places
in_newer j image a place list places there is left = record {
  first = list;
  first_places = places;
  others = [];
  other_places = [];
  left = left;
  listed = sym (append-nil list);
  placed = sym (append-nil places);
  goes_on = λ next rest later same behind.
      subst (λ (l : List (ℕ × List ℕ)). Left j image next l (later ++ [])) (sym (append-nil rest))
      (subst (λ (p : List ℕ). Left j image next rest p) (sym (append-nil later))
      (subst (λ (b : Bool). LeftFrom b j image next rest later) (sym (same ∙ there)) (subst (λ (o : Option OpenArea). LeftOf j.size image o next rest later) (sym is) behind)));
}

left_newer : (j : JournalView) (image : List ℕ) (o : Option OpenArea) (place : Place) (list : List (ℕ × List ℕ)) (places : List ℕ) → place.newer ≡ true → j.newer ≡ o → Left j image place list places
    → LeftOf j.size image o place list places
left_newer j image o place list places there is left =
    let here : LeftOf j.size image j.newer place list places = subst (λ (b : Bool). LeftFrom b j image place list places) there left in
    subst (λ (x : Option OpenArea). LeftOf j.size image x place list places) is here

pub newer_ahead : (j : JournalView) (image : List ℕ) (a : OpenArea) (place : Place) (list : List (ℕ × List ℕ)) (places : List ℕ) → place.newer ≡ true → j.newer ≡ Some a
    → Left j image place list places → LeftAt j image a place list places
newer_ahead j image a place list places there is left = in_newer j image a place list places there is (left_newer j image (Some a) place list places there is left)

pub newer_done : (j : JournalView) (image : List ℕ) (a : OpenArea) (place : Place) (list : List (ℕ × List ℕ)) (places : List ℕ) → place.newer ≡ true → j.newer ≡ Some a → a.last ≤ place.last
    → Left j image place list places → list ≡ []
newer_done j image a place list places there is behind left =
    left_none (bytes_at image a.start j.size) a place list places (left_newer j image (Some a) place list places there is left) behind

pub newer_none : (j : JournalView) (image : List ℕ) (place : Place) (list : List (ℕ × List ℕ)) (places : List ℕ) → place.newer ≡ true → j.newer ≡ None → Left j image place list places → list ≡ []
newer_none j image place list places there is left = (left_newer j image None place list places there is left).0

-- ---- the older area

left_older : (j : JournalView) (image : List ℕ) (place : Place) (list : List (ℕ × List ℕ)) (places : List ℕ) → place.newer ≡ false → Left j image place list places
    → LeftOlder j image place list places
left_older j image place list places there left = subst (λ (b : Bool). LeftFrom b j image place list places) there left

pub older_ahead : (j : JournalView) (image : List ℕ) (a : OpenArea) (place : Place) (list : List (ℕ × List ℕ)) (places : List ℕ) → place.newer ≡ false → j.older ≡ Some a
    → Left j image place list places → LeftAt j image a place list places
older_ahead j image a place list places there is all =
    let x = left_older j image place list places there all in
    record {
      first = x.older;
      first_places = x.older_places;
      others = numbered_in j.newer x.newer;
      other_places = places_in j.size image j.newer;
      left = subst (λ (o : Option OpenArea). LeftOf j.size image o place x.older x.older_places) is x.left;
      listed = x.listed;
      placed = x.placed;
      goes_on = λ next rest later same behind.
          subst (λ (b : Bool). LeftFrom b j image next (rest ++ numbered_in j.newer x.newer) (later ++ places_in j.size image j.newer)) (sym (same ∙ there)) (record {
            older = rest;
            older_places = later;
            newer = x.newer;
            left = subst (λ (o : Option OpenArea). LeftOf j.size image o next rest later) (sym is) behind;
            newer_is = x.newer_is;
            listed = refl;
            placed = refl;
          });
    }

past : (j : JournalView) (image : List ℕ) (place : Place) (list : List (ℕ × List ℕ)) (places : List ℕ) (x : LeftOlder j image place list places) → x.older ≡ [] → x.older_places ≡ []
    → IsPast j image list places
past j image place list places x none nowhere = record {
  newer = x.newer;
  newer_is = x.newer_is;
  listed = x.listed ∙ ap (λ (l : List (ℕ × List ℕ)). l ++ numbered_in j.newer x.newer) none;
  placed = x.placed ∙ ap (λ (p : List ℕ). p ++ places_in j.size image j.newer) nowhere;
}

pub older_done : (j : JournalView) (image : List ℕ) (a : OpenArea) (place : Place) (list : List (ℕ × List ℕ)) (places : List ℕ) → place.newer ≡ false → j.older ≡ Some a → a.last ≤ place.last
    → Left j image place list places → IsPast j image list places
older_done j image a place list places there is behind all =
    let x = left_older j image place list places there all in
    let left : LeftIn (bytes_at image a.start j.size) a place x.older x.older_places = subst (λ (o : Option OpenArea). LeftOf j.size image o place x.older x.older_places) is x.left in
    let none = left_none (bytes_at image a.start j.size) a place x.older x.older_places left behind in
    past j image place list places x none (left_nowhere (bytes_at image a.start j.size) a place x.older x.older_places left behind)

pub older_none : (j : JournalView) (image : List ℕ) (place : Place) (list : List (ℕ × List ℕ)) (places : List ℕ) → place.newer ≡ false → j.older ≡ None → Left j image place list places
    → IsPast j image list places
older_none j image place list places there is all =
    let x = left_older j image place list places there all in
    let left : LeftOf j.size image None place x.older x.older_places = subst (λ (o : Option OpenArea). LeftOf j.size image o place x.older x.older_places) is x.left in
    past j image place list places x left.0 left.1

-- ---- from the older area to the newer

pub past_none : (j : JournalView) (image : List ℕ) (list : List (ℕ × List ℕ)) (places : List ℕ) → j.newer ≡ None → IsPast j image list places → list ≡ []
past_none j image list places is x = x.listed ∙ ap (λ (o : Option OpenArea). numbered_in o x.newer) is

past_area : (j : JournalView) (image : List ℕ) (a : OpenArea) (list : List (ℕ × List ℕ)) (places : List ℕ) → j.newer ≡ Some a → (x : IsPast j image list places)
    → IsArea j.volume (bytes_at image a.start j.size) a x.newer
past_area j image a list places is x = subst (λ (o : Option OpenArea). IsLaid j.volume j.size image o x.newer) is x.newer_is

pub past_ahead : (j : JournalView) (image : List ℕ) (a : OpenArea) (list : List (ℕ × List ℕ)) (places : List ℕ) → j.newer ≡ Some a → IsPast j image list places
    → LeftAt j image a (start_place true a) list places
past_ahead j image a list places is x =
    let listed : list ≡ numbered a.base x.newer = x.listed ∙ ap (λ (o : Option OpenArea). numbered_in o x.newer) is in
    let placed : places ≡ places_in j.size image (Some a) = x.placed ∙ ap (λ (o : Option OpenArea). places_in j.size image o) is in
    in_newer j image a (start_place true a) list places refl is
    (subst (λ (l : List (ℕ × List ℕ)). LeftIn (bytes_at image a.start j.size) a (start_place true a) l places) (sym listed)
    (subst (λ (p : List ℕ). LeftIn (bytes_at image a.start j.size) a (start_place true a) (numbered a.base x.newer) p) (sym placed)
    (start_left true j.volume (bytes_at image a.start j.size) a x.newer (past_area j image a list places is x))))

pub past_done : (j : JournalView) (image : List ℕ) (a : OpenArea) (list : List (ℕ × List ℕ)) (places : List ℕ) → j.newer ≡ Some a → a.last ≤ a.base → IsPast j image list places → list ≡ []
past_done j image a list places is behind x =
    let there = past_area j image a list places is x in
    x.listed ∙ ap (λ (o : Option OpenArea). numbered_in o x.newer) is ∙ numbered_none a.base x.newer (omega (arith, there.numbers, behind))

-- ---- an entry is given

pub gives_next : (j : JournalView) (image : List ℕ) (a : OpenArea) (from next : Place) (entry : List ℕ) (list : List (ℕ × List ℕ)) (places : List ℕ) (at : LeftAt j image a from list places)
    → IsBehindEntry (bytes_at image a.start j.size) a from entry at.first at.first_places next → GivesNext j image (Some next.last) entry next list places
gives_next j image a from next entry list places at behind = (
  behind.0 ++ at.others,
  behind.1,
  behind.2 ++ at.other_places,
  at.listed ∙ ap (λ (l : List (ℕ × List ℕ)). l ++ at.others) behind.3,
  at.placed ∙ ap (λ (p : List ℕ). p ++ at.other_places) behind.4,
  at.goes_on next behind.0 behind.2 behind.6 behind.5,
)
