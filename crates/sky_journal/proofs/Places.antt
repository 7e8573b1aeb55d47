-- Going on from a place to the next.
use Rattle.std.proofs.Common.{◌≡◌, ℕ, zero, suc, ◌+◌, ◌-◌, ◌<◌, ◌≤◌, List, [], ◌∷◌, ◌++◌, length, take, drop, Option, Some, None, refl, sym, ap, ◌∙◌, subst, arith, length-append, length-drop}
use Rattle.std.specs.Prelude.{IsSomeAnd}
use Rattle.std.specs.Option.{option_and_then, option_map}
use Rattle.std.proofs.lemmas.List.{length-take-le}
use Rattle.std.proofs.lemmas.Option.{same_Some}
use Rattle.sky_outside.specs.Image.{bytes_at}
use Rattle.sky_journal.specs.EntryPlaces.{batch_places, places_from}
use Rattle.sky_journal.specs.Layout.{number_4, number_8, body_at, count_at, next_batch}
use Rattle.sky_journal.specs.Text.{Area, first_entry, entries_in, numbered}
use Rattle.sky_journal.specs.Laid.{joined, HasBatches, IsBatch}
use Rattle.sky_journal.specs.Looking.{between}
use Rattle.sky_journal.specs.OnePass.{IsEntrySize}
use Rattle.sky_journal.specs.Place.{area_of, LeftIn, LeftInBatch, IsBehindEntry}
use Rattle.sky_journal.specs.declared.open_area.OpenArea.{OpenArea}
use Rattle.sky_journal.specs.declared.place.Place.{Place}
use Rattle.sky_journal.proofs.Batches.{HasBatches-within}
use Rattle.sky_journal.proofs.Entries.{entries_in-length}

-- ---- lists of entries

none_in : (bytes : List ℕ) (es : List (List ℕ)) → entries_in 0 bytes ≡ Some es → es ≡ []
unfolding entries_in
none_in [] es e = let f : [] ≡ es = cc in sym f
none_in (b ∷ bs) es e = absurd cc

pub numbered_none : (last : ℕ) (es : List (List ℕ)) → length es ≡ 0 → numbered last es ≡ []
unfolding numbered
numbered_none last [] none = refl
numbered_none last (e ∷ es) none = absurd (omega arith)

-- no entry is left in an area at its last number
pub left_none : (bytes : List ℕ) (a : OpenArea) (place : Place) (list : List (ℕ × List ℕ)) (places : List ℕ) → LeftIn bytes a place list places → a.last ≤ place.last → list ≡ []
left_none bytes a place list places left behind =
    left.listed ∙ numbered_none place.last (left.entries ++ joined left.batches) (omega (arith, left.numbers, behind))

no_entries : (es : List (List ℕ)) → length es ≡ 0 → es ≡ []
no_entries [] none = refl
no_entries (e ∷ es) none = absurd (omega arith)

pub no_batches : (bytes : List ℕ) (p : ℕ) (bs : List (List (List ℕ))) (end : ℕ) → HasBatches bytes p bs end → length (joined bs) ≡ 0 → bs ≡ []
unfolding HasBatches joined
no_batches bytes p [] end has none = refl
no_batches bytes p (b ∷ bs) end has none =
    absurd (omega (arith, has.0.some, entries_in-length (count_at p bytes) (body_at p bytes) b has.0.holds, length-append b (joined bs)))

none_placed : (area : Area) (at p : ℕ) (es : List (List ℕ)) (bs : List (List (List ℕ))) → es ≡ [] → bs ≡ [] → places_from at es ++ batch_places area p bs ≡ []
unfolding places_from batch_places
none_placed area at p es bs none nothing =
    ap (λ (l : List (List ℕ)). places_from at l ++ batch_places area p bs) none ∙ ap (λ (l : List (List (List ℕ))). batch_places area p l) nothing

-- nor a place
pub left_nowhere : (bytes : List ℕ) (a : OpenArea) (place : Place) (list : List (ℕ × List ℕ)) (places : List ℕ) → LeftIn bytes a place list places → a.last ≤ place.last → places ≡ []
left_nowhere bytes a place list places left behind =
    let both = length-append left.entries (joined left.batches) in
    left.placed
    ∙ none_placed (area_of a bytes) (a.start + place.at) place.end left.entries left.batches (no_entries left.entries (omega (arith, left.numbers, both, behind)))
    (no_batches bytes place.end left.batches a.end left.has (omega (arith, left.numbers, both, behind)))

-- ---- the next batch

-- behind a batch of which nothing is left, an area goes on with one that has entries
next_of : (bytes : List ℕ) (a : OpenArea) (place : Place) (list : List (ℕ × List ℕ)) (places : List ℕ) (entries : List (List ℕ)) (batches : List (List (List ℕ))) → entries ≡ []
    → HasBatches bytes place.end batches a.end → list ≡ numbered place.last (entries ++ joined batches)
    → places ≡ places_from (a.start + place.at) entries ++ batch_places (area_of a bytes) place.end batches → a.last ≡ place.last + length (entries ++ joined batches) → place.last < a.last
    → (b : List (List ℕ)) × (bs : List (List (List ℕ))) × IsBatch bytes place.end b × HasBatches bytes (next_batch place.end bytes) bs a.end
    × (list ≡ numbered place.last (b ++ joined bs)) × (a.last ≡ place.last + length (b ++ joined bs))
    × (places ≡ places_from (a.start + (place.end + 16)) b ++ batch_places (area_of a bytes) (next_batch place.end bytes) bs)
unfolding HasBatches joined places_from batch_places
next_of bytes a place list places entries [] none has listed placed numbers more =
    absurd (let l : length (entries ++ []) ≡ 0 = ap (λ (es : List (List ℕ)). length (es ++ [])) none in omega (arith, l))
next_of bytes a place list places entries (b ∷ bs) none has listed placed numbers more =
    let rest : List ℕ = batch_places (area_of a bytes) (next_batch place.end bytes) bs in
    let first : a.start + place.end + 16 ≡ a.start + (place.end + 16) = omega arith in (
      b,
      bs,
      has.0,
      has.1,
      listed ∙ ap (λ (es : List (List ℕ)). numbered place.last (es ++ (b ++ joined bs))) none,
      numbers ∙ ap (λ (es : List (List ℕ)). place.last + length (es ++ (b ++ joined bs))) none,
      placed ∙ ap (λ (es : List (List ℕ)). places_from (a.start + place.at) es ++ (places_from (a.start + place.end + 16) b ++ rest)) none ∙ ap (λ (n : ℕ). places_from n b ++ rest) first,
    )

pub next_batch_left : (bytes : List ℕ) (a : OpenArea) (place : Place) (list : List (ℕ × List ℕ)) (places : List ℕ) → LeftIn bytes a place list places → place.left ≡ 0 → place.last < a.last
    → (b : List (List ℕ)) × (bs : List (List (List ℕ))) × IsBatch bytes place.end b × HasBatches bytes (next_batch place.end bytes) bs a.end
    × (list ≡ numbered place.last (b ++ joined bs)) × (a.last ≡ place.last + length (b ++ joined bs))
    × (places ≡ places_from (a.start + (place.end + 16)) b ++ batch_places (area_of a bytes) (next_batch place.end bytes) bs)
next_batch_left bytes a place list places left none more =
    let empty = none_in (between place.at place.end bytes) left.entries (subst (λ (n : ℕ). entries_in n (between place.at place.end bytes) ≡ Some left.entries) none left.holds) in
    next_of bytes a place list places left.entries left.batches empty left.has left.listed left.placed left.numbers more

-- the place before its first entry
pub batch_left : (bytes : List ℕ) (a : OpenArea) (place : Place) (list : List (ℕ × List ℕ)) (places : List ℕ) (count body : ℕ) → LeftIn bytes a place list places → place.left ≡ 0
    → place.last < a.last → count ≡ number_4 (place.end + 4) bytes → body ≡ number_8 (place.end + 8) bytes
    → LeftInBatch bytes a place list places (record { newer = place.newer; at = place.end + 16; left = count; end = place.end + 16 + body; last = place.last })
batch_left bytes a place list places count body left none more counts bodies =
    let next = next_batch_left bytes a place list places left none more in
    let n : body ≡ place.end + 16 + body - (place.end + 16) = omega arith in
    let same : between (place.end + 16) (place.end + 16 + body) bytes ≡ body_at place.end bytes =
    ap (λ (k : ℕ). take k (drop (place.end + 16) bytes)) (sym n ∙ bodies) in
    let ends : next_batch place.end bytes ≡ place.end + 16 + body = omega (arith, bodies) in (
      record {
        entries = next.0;
        batches = next.1;
        order = omega arith;
        holds = ap (λ (l : List ℕ). entries_in count l) same ∙ ap (λ (k : ℕ). entries_in k (body_at place.end bytes)) counts ∙ next.2.holds;
        has = subst (λ (k : ℕ). HasBatches bytes k next.1 a.end) ends next.3;
        listed = next.4;
        placed = next.6 ∙ ap (λ (k : ℕ). places_from (a.start + (place.end + 16)) next.0 ++ batch_places (area_of a bytes) k next.1) ends;
        numbers = next.5;
      },
      refl,
    )

-- it lies within the area, and has an entry
pub batch_room : (bytes : List ℕ) (a : OpenArea) (place : Place) (list : List (ℕ × List ℕ)) (places : List ℕ) → LeftIn bytes a place list places → place.left ≡ 0 → place.last < a.last
    → (next_batch place.end bytes < length bytes) × (0 < number_4 (place.end + 4) bytes)
batch_room bytes a place list places left none more = let next = next_batch_left bytes a place list places left none more in (next.2.within, next.2.some)

-- ---- the next entry

one_more : (n : ℕ) (bytes : List ℕ) (x : List ℕ × List ℕ) (o : Option (List (List ℕ))) (es : List (List ℕ)) → first_entry bytes ≡ Some x → entries_in n x.1 ≡ o
    → option_map (λ entries. x.0 ∷ entries) o ≡ Some es
    → (e : List ℕ) × (rest : List ℕ) × (others : List (List ℕ)) × (first_entry bytes ≡ Some (e, rest)) × (entries_in n rest ≡ Some others) × (es ≡ e ∷ others)
one_more n bytes x None es first rest e = absurd cc
one_more n bytes x (Some others) es first rest e = let f : x.0 ∷ others ≡ es = cc in (x.0, x.1, others, first, rest, sym f)

one_of : (n : ℕ) (bytes : List ℕ) (o : Option (List ℕ × List ℕ)) (es : List (List ℕ)) → first_entry bytes ≡ o
    → option_and_then (λ x. option_map (λ entries. x.0 ∷ entries) (entries_in n x.1)) o ≡ Some es
    → (e : List ℕ) × (rest : List ℕ) × (others : List (List ℕ)) × (first_entry bytes ≡ Some (e, rest)) × (entries_in n rest ≡ Some others) × (es ≡ e ∷ others)
one_of n bytes None es first e = absurd cc
one_of n bytes (Some x) es first e = one_more n bytes x (entries_in n x.1) es first refl e

pub entries_next : (left : ℕ) (bytes : List ℕ) (es : List (List ℕ)) → 0 < left → entries_in left bytes ≡ Some es
    → (e : List ℕ) × (rest : List ℕ) × (others : List (List ℕ)) × (first_entry bytes ≡ Some (e, rest)) × (entries_in (left - 1) rest ≡ Some others) × (es ≡ e ∷ others)
unfolding entries_in
entries_next zero bytes es some e = absurd (omega arith)
entries_next (suc n) bytes es some e =
    let k : n ≡ suc n - 1 = omega arith in
    let x = one_of n bytes (first_entry bytes) es refl e in
    (x.0, x.1, x.2, x.3, ap (λ (m : ℕ). entries_in m x.1) (sym k) ∙ x.4, x.5)

first_numbered : (last : ℕ) (es : List (List ℕ)) (e : List ℕ) (others : List (List ℕ)) → es ≡ e ∷ others → numbered last es ≡ (last + 1, e) ∷ numbered (last + 1) others
unfolding numbered
first_numbered last es e others is = ap (λ (l : List (List ℕ)). numbered last l) is

same_parts : (p q : List ℕ × List ℕ) → Some p ≡ Some q → (p.0 ≡ q.0) × (p.1 ≡ q.1)
same_parts p q e = let s : p ≡ q = same_Some p q e in (ap (λ (x : List ℕ × List ℕ). x.0) s, ap (λ (x : List ℕ × List ℕ). x.1) s)

not_none : (x : List ℕ × List ℕ) → Some x ≡ None → ⊥
not_none x e = absurd cc

-- an entry stands at a place of which some are left
pub entry_stands : (bytes : List ℕ) (a : OpenArea) (place : Place) (list : List (ℕ × List ℕ)) (places : List ℕ) → LeftIn bytes a place list places → 0 < place.left
    → IsEntrySize bytes place.at place.end None → ⊥
entry_stands bytes a place list places left some none =
    let x = entries_next place.left (between place.at place.end bytes) left.entries some left.holds in
    not_none (x.0, x.1) (sym x.3 ∙ none)

-- the first of some entries is the first that is placed
first_placed : (at : ℕ) (es : List (List ℕ)) (e : List ℕ) (others : List (List ℕ)) → es ≡ e ∷ others → places_from at es ≡ at ∷ places_from (at + length e) others
unfolding places_from
first_placed at es e others is = ap (λ (l : List (List ℕ)). places_from at l) is

-- the place behind it
pub entry_left : (bytes : List ℕ) (a : OpenArea) (place : Place) (list : List (ℕ × List ℕ)) (places : List ℕ) (n : ℕ) (entry : List ℕ) → LeftIn bytes a place list places → 0 < place.left
    → place.at + n ≤ place.end → IsEntrySize bytes place.at place.end (Some n) → entry ≡ bytes_at bytes place.at n
    → IsBehindEntry bytes a place entry list places (record { newer = place.newer; at = place.at + n; left = place.left - 1; end = place.end; last = place.last + 1 })
entry_left bytes a place list places n entry left some fits first is =
    let x = entries_next place.left (between place.at place.end bytes) left.entries some left.holds in
    let found : List ℕ × List ℕ = (x.0, x.1) in
    let whole : List ℕ × List ℕ = (bytes_at bytes place.at n, between (place.at + n) place.end bytes) in
    let both = same_parts found whole (sym x.3 ∙ first) in
    let same : x.0 ≡ entry = both.0 ∙ sym is in
    let rest : x.1 ≡ between (place.at + n) place.end bytes = both.1 in
    let all : left.entries ++ joined left.batches ≡ entry ∷ (x.2 ++ joined left.batches) =
    ap (λ (es : List (List ℕ)). es ++ joined left.batches) (x.5 ∙ ap (λ (e : List ℕ). e ∷ x.2) same) in
    let inside = HasBatches-within bytes place.end left.batches a.end left.has in
    let long : length entry ≡ n = ap length is ∙ length-take-le n (drop place.at bytes) (omega (arith, length-drop place.at bytes, inside, fits)) in
    let behind : List ℕ = batch_places (area_of a bytes) place.end left.batches in
    let next : a.start + place.at + length entry ≡ a.start + (place.at + n) = omega (arith, long) in (
      numbered (place.last + 1) (x.2 ++ joined left.batches),
      a.start + place.at,
      places_from (a.start + (place.at + n)) x.2 ++ behind,
      left.listed ∙ first_numbered place.last (left.entries ++ joined left.batches) entry (x.2 ++ joined left.batches) all,
      left.placed ∙ ap (λ (l : List ℕ). l ++ behind) (first_placed (a.start + place.at) left.entries entry x.2 (x.5 ∙ ap (λ (e : List ℕ). e ∷ x.2) same))
          ∙ ap (λ (k : ℕ). (a.start + place.at) ∷ (places_from k x.2 ++ behind)) next,
      record {
        entries = x.2;
        batches = left.batches;
        order = fits;
        holds = ap (λ (l : List ℕ). entries_in (place.left - 1) l) (sym rest) ∙ x.4;
        has = left.has;
        listed = refl;
        placed = refl;
        numbers = omega (arith, left.numbers, ap (λ (es : List (List ℕ)). length es) all);
      },
      refl,
    )

-- a place behind an entry is so from each place of the same area
pub behind_from : (bytes : List ℕ) (a : OpenArea) (place from : Place) (entry : List ℕ) (list : List (ℕ × List ℕ)) (places : List ℕ) (found : Option Place) → place.newer ≡ from.newer
    → IsSomeAnd found (IsBehindEntry bytes a place entry list places) → IsSomeAnd found (IsBehindEntry bytes a from entry list places)
behind_from bytes a place from entry list places None same behind = behind
behind_from bytes a place from entry list places (Some next) same behind = (behind.0, behind.1, behind.2, behind.3, behind.4, behind.5, behind.6 ∙ same)
