-- Where the entries of a journal lie.
--   area_batches    the batches of an area that is known
--   places_laid     the places of the entries for which a journal stands
--   places_lie      there is a place for each entry that an image says, and the entry lies there. Crates above cite this
use Rattle.std.specs.Prelude.{nat_lt, nat_le, ◌==◌, not, ◌||◌, if◌then◌else◌, IfSome, IsTrue}
use Rattle.std.specs.List.{AllByRecursion, concat}
use Rattle.std.specs.Option.{unwrap_or}
use Rattle.std.proofs.Common.{◌≡◌, ⊎_elim, inl, inr, ℕ, zero, suc, ◌+◌, ◌*◌, ◌<◌, ◌≤◌, Bool, true, false, List, [], ◌∷◌, ◌++◌, length, map, take, drop, Option, Some, None, Ok, Err, refl, sym, ap, ◌∙◌, subst, arith, length-append, length-drop}
use Rattle.std.proofs.lemmas.Bool.{leb-false}
use Rattle.std.proofs.lemmas.List.{drop-drop, drop-take, drop_at, length-take, length-take-le, map-append, take-take, take_at}
use Rattle.sky_base.specs.Limits.{max_number}
use Rattle.sky_outside.specs.Image.{bytes_at}
use Rattle.sky_journal.specs.EntryPlaces.{LieAt, area_places, areas_places, batch_entries, batch_places, open_batches, places_from, places_of}
use Rattle.sky_journal.specs.Journal.{AreInOrder, IsJournal, IsOpenArea, JournalView, StandsFor, entries, first_base}
use Rattle.sky_journal.specs.Laid.{BeginsAt, HasBatches, IsArea, IsFree, IsLaid, joined}
use Rattle.sky_journal.specs.Layout.{is_open, number_8, volume_place, base_place, area_header, batch_header, body_at, count_at, next_batch, size_at}
use Rattle.sky_journal.specs.Place.{area_of, places_in}
use Rattle.sky_journal.specs.Text.{◌>>=◌, Area, Read, area_entries, areas_entries, base_of, batch_at, batches_from, entries_in, entries_of, first_area, foreign_where, numbered, open_areas, second_area, second_is_older}
use Rattle.sky_journal.specs.declared.open_area.OpenArea.{OpenArea}
use Rattle.sky_journal.proofs.BatchReads.{is_batch_at}
use Rattle.sky_journal.proofs.Entries.{entries_found}
use Rattle.sky_journal.proofs.Halves.{IsHalf}
use Rattle.sky_journal.proofs.Parts.{part_of_part}
use Rattle.sky_journal.proofs.Places.{no_batches}
use Rattle.sky_journal.proofs.Reading.{HaveNone, IsOpen, first_is_older, in_first, in_second, open_both, open_first, open_none, open_second, reads, second_is_older_if}

-- ---- the batches of an area

batches_found : (area : List ℕ) (bound p : ℕ) (bs : List (List (List ℕ))) (end : ℕ) → HasBatches area p bs end → is_open end area ≡ false → length area ≤ p + bound
    → open_batches area bound p ≡ bs
unfolding open_batches HasBatches
batches_found area zero p [] end has closed long = refl
batches_found area (suc n) p [] end has closed long =
    let gate : is_open p area ≡ false = ap (λ (q : ℕ). is_open q area) has.0 ∙ closed in
    rw gate refl
batches_found area zero p (b ∷ bs) end has closed long = absurd (omega (arith, has.0.within))
batches_found area (suc n) p (b ∷ bs) end has closed long =
    let gate : is_open p area ≡ true = has.0.gate in
    let first : batch_entries p area ≡ b = ap (λ (o : Option (List (List ℕ))). unwrap_or o []) has.0.holds in
    let others : open_batches area n (next_batch p area) ≡ bs = batches_found area n (next_batch p area) bs end has.1 closed (omega arith) in
    rw (gate, first, others) refl

pub area_batches : (volume : ℕ) (bytes : List ℕ) (a : OpenArea) (es : List (List ℕ)) → (is : IsArea volume bytes a es) → open_batches bytes (length bytes) area_header ≡ is.batches
area_batches volume bytes a es is = batches_found bytes (length bytes) area_header is.batches a.end is.has is.closed (omega arith)

-- an area without entries has no batch, and no place
area_nowhere : (volume : ℕ) (area : Area) (a : OpenArea) (es : List (List ℕ)) → IsArea volume area.bytes a es → es ≡ [] → area_places area ≡ []
unfolding batch_places
area_nowhere volume area a es is none =
    let count : length (joined is.batches) ≡ 0 = ap (λ (l : List (List ℕ)). length l) (is.entries_are ∙ none) in
    ap (λ (bs : List (List (List ℕ))). batch_places area area_header bs) (area_batches volume area.bytes a es is ∙ no_batches area.bytes area_header is.batches a.end is.has count)

-- ---- the areas of a journal

first_is : (size : ℕ) (image : List ℕ) (a : OpenArea) → a.start ≡ 0 → first_area size image ≡ area_of a (bytes_at image a.start size)
first_is size image a at = ap (λ (s : ℕ). let area : Area = record { start = s; bytes = take size (drop s image) } in area) (sym at)

second_is : (size : ℕ) (image : List ℕ) (a : OpenArea) → a.start ≡ size → second_area size image ≡ area_of a (bytes_at image a.start size)
second_is size image a at = ap (λ (s : ℕ). let area : Area = record { start = s; bytes = take size (drop s image) } in area) (sym at)

-- the places of one area, and of two
one_place : (area : Area) (areas : List Area) → areas ≡ area ∷ [] → areas_places areas ≡ area_places area
unfolding areas_places
one_place area areas is = ap (λ (l : List Area). areas_places l) is

two_places : (a b : Area) (areas : List Area) → areas ≡ a ∷ b ∷ [] → areas_places areas ≡ area_places a ++ area_places b
unfolding areas_places
two_places a b areas is = ap (λ (l : List Area). areas_places l) is

no_place : (areas : List Area) → areas ≡ [] → areas_places areas ≡ []
unfolding areas_places
no_place areas is = ap (λ (l : List Area). areas_places l) is

abbrev both_areas : ℕ → List ℕ → List Area
both_areas size image = open_areas (first_area size image) (second_area size image)

-- one area
one_placed : (volume size : ℕ) (image : List ℕ) (a : OpenArea) (es : List (List ℕ)) → 0 < size → IsOpenArea size a → IsHalf size a.start → IsArea volume (bytes_at image a.start size) a es
    → ((start : ℕ) → IsHalf size start → (a.start ≡ start → ⊥) → IsFree size start image) → areas_places (both_areas size image) ≡ places_in size image (Some a)
one_placed volume size image a es some opens (inl at) is others =
    let known = in_first volume size image a es is opens at in
    let free : is_open 0 (second_area size image).bytes ≡ false = others size (inr refl) (λ e. omega arith) in
    one_place (first_area size image) (both_areas size image) (open_first (first_area size image) (second_area size image) known.is.gate free) ∙ ap area_places (first_is size image a at)
one_placed volume size image a es some opens (inr at) is others =
    let known = in_second volume size image a es is opens at in
    let free : is_open 0 (first_area size image).bytes ≡ false = others 0 (inl refl) (λ e. omega arith) in
    one_place (second_area size image) (both_areas size image) (open_second (first_area size image) (second_area size image) free known.is.gate) ∙ ap area_places (second_is size image a at)

-- two areas, the older first
older_first : (volume : ℕ) (a b : Area) (x y : OpenArea) (es fs : List (List ℕ)) → IsOpen volume a x es → IsOpen volume b y fs → y.base ≡ x.last
    → areas_places (open_areas a b) ≡ area_places a ++ area_places b
older_first volume a b x y es fs first second goes_on =
    let turned : second_is_older a b ≡ false = first_is_older volume a b x y es fs first second goes_on in
    let both : open_areas a b ≡ a ∷ b ∷ [] = rw (open_both a b first.is.gate second.is.gate, turned) refl in
    two_places a b (open_areas a b) both

-- two areas, the older second
older_second : (volume : ℕ) (a b : Area) (x y : OpenArea) (es fs : List (List ℕ)) → IsOpen volume a x es → IsOpen volume b y fs → x.base ≡ y.last
    → areas_places (open_areas a b) ≡ area_places b ++ area_places a
older_second volume a b x y es fs first second goes_on = ⊎_elim
    (λ (turned : second_is_older a b ≡ true).
    let both : open_areas a b ≡ b ∷ a ∷ [] = rw (open_both a b first.is.gate second.is.gate, turned) refl in
    two_places b a (open_areas a b) both)
    (λ (none : HaveNone a b es fs).
    let turned : second_is_older a b ≡ false = none.first_read in
    let both : open_areas a b ≡ a ∷ b ∷ [] = rw (open_both a b first.is.gate second.is.gate, turned) refl in
    let left : area_places a ≡ [] = area_nowhere volume a x es first.is none.first_none in
    let right : area_places b ≡ [] = area_nowhere volume b y fs second.is none.second_none in
    two_places a b (open_areas a b) both ∙ cc (left, right))
    (second_is_older_if volume a b x y es fs first second goes_on)

two_placed : (volume size : ℕ) (image : List ℕ) (x y : OpenArea) (es fs : List (List ℕ)) → IsOpenArea size x → IsOpenArea size y → x.start + y.start ≡ size → y.base ≡ x.last
    → IsHalf size x.start → IsArea volume (bytes_at image x.start size) x es → IsArea volume (bytes_at image y.start size) y fs
    → areas_places (both_areas size image) ≡ places_in size image (Some x) ++ places_in size image (Some y)
two_placed volume size image x y es fs x_opens y_opens beside goes_on (inl at) is_x is_y =
    let other : y.start ≡ size = omega (arith, beside, at) in
    older_first volume (first_area size image) (second_area size image) x y es fs (in_first volume size image x es is_x x_opens at) (in_second volume size image y fs is_y y_opens other) goes_on
    ∙ ap (λ (l : Area). area_places l ++ area_places (second_area size image)) (first_is size image x at) ∙ ap (λ (l : Area). places_in size image (Some x) ++ area_places l) (second_is size image y other)
two_placed volume size image x y es fs x_opens y_opens beside goes_on (inr at) is_x is_y =
    let other : y.start ≡ 0 = omega (arith, beside, at) in
    older_second volume (first_area size image) (second_area size image) y x fs es (in_first volume size image y fs is_y y_opens other) (in_second volume size image x es is_x x_opens at) goes_on
    ∙ ap (λ (l : Area). area_places l ++ area_places (first_area size image)) (second_is size image x at) ∙ ap (λ (l : Area). places_in size image (Some x) ++ area_places l) (first_is size image y other)

disk_placed : (volume size : ℕ) (image : List ℕ) (o n : Option OpenArea) (es fs : List (List ℕ)) → 0 < size → IfSome o (IsOpenArea size) → IfSome n (IsOpenArea size) → AreInOrder size o n
    → IsLaid volume size image o es → IsLaid volume size image n fs
    → ((start : ℕ) → IsHalf size start → (BeginsAt start o → ⊥) → (BeginsAt start n → ⊥) → IsFree size start image)
    → areas_places (both_areas size image) ≡ places_in size image o ++ places_in size image n
disk_placed volume size image None None es fs some o_open n_open order o_laid n_laid others =
    let first : is_open 0 (first_area size image).bytes ≡ false = others 0 (inl refl) (λ e. e) (λ e. e) in
    let second : is_open 0 (second_area size image).bytes ≡ false = others size (inr refl) (λ e. e) (λ e. e) in
    no_place (both_areas size image) (open_none (first_area size image) (second_area size image) first second)
disk_placed volume size image None (Some a) es fs some o_open n_open order o_laid n_laid others =
    one_placed volume size image a fs some n_open n_open.start n_laid (λ start half apart. others start half (λ e. e) apart)
disk_placed volume size image (Some a) None es fs some o_open n_open order o_laid n_laid others = absurd order
disk_placed volume size image (Some a) (Some b) es fs some o_open n_open order o_laid n_laid others =
    two_placed volume size image a b es fs o_open n_open order.beside order.number o_open.start o_laid n_laid

-- the places of an image over which a journal stands are those of its areas
pub places_laid : (j : JournalView) (image : List ℕ) (older newer : List (List ℕ)) → IsJournal j → StandsFor j image older newer
    → places_of j.size image ≡ places_in j.size image j.older ++ places_in j.size image j.newer
unfolding places_of
places_laid j image older newer is stands =
    disk_placed j.volume j.size image j.older j.newer older newer (omega (arith, is.least)) is.older is.newer is.in_order stands.older_is stands.newer_is stands.others

-- ---- the entries that an image says lie at their places

lie_append : (image : List ℕ) (es fs : List (List ℕ)) (ps qs : List ℕ) → LieAt image es ps → LieAt image fs qs → LieAt image (es ++ fs) (ps ++ qs)
unfolding LieAt
lie_append image [] fs [] qs first second = second
lie_append image [] fs (p ∷ ps) qs first second = absurd first
lie_append image (e ∷ es) fs [] qs first second = absurd first
lie_append image (e ∷ es) fs (p ∷ ps) qs first second = (first.0, lie_append image es fs ps qs first.1 second)

lie_nowhere : (image : List ℕ) (area : Area) (p : ℕ) (es : List (List ℕ)) → [] ≡ es → LieAt image es (batch_places area p [])
unfolding LieAt batch_places
lie_nowhere image area p es none = subst (λ (l : List (List ℕ)). LieAt image l []) none tt

-- entries that are bytes of an image, one directly behind the other
lie_from : (image : List ℕ) (at : ℕ) (es : List (List ℕ)) → concat es ≡ bytes_at image at (length (concat es)) → LieAt image es (places_from at es)
unfolding LieAt places_from
lie_from image at [] is = tt
lie_from image at (e ∷ es) is =
    let rest : List ℕ = concat es in
    let there : List ℕ = drop at image in
    let both : length (e ++ rest) ≡ length e + length rest = length-append e rest in
    let whole : e ++ rest ≡ take (length e + length rest) there = is ∙ ap (λ (n : ℕ). take n there) both in
    let first : take (length e) there ≡ e =
    sym (take-take (length e) (length e + length rest) there (omega arith)) ∙ ap (λ (l : List ℕ). take (length e) l) (sym whole) ∙ take_at e rest (length e) refl in
    let others : rest ≡ bytes_at image (at + length e) (length rest) =
    sym (drop_at e rest (length e) refl) ∙ ap (λ (l : List ℕ). drop (length e) l) whole ∙ drop-take (length e) (length rest) there ∙ ap (λ (l : List ℕ). take (length rest) l) (drop-drop (length e) at image) in
    (first, lie_from image (at + length e) es others)

-- the bytes of an area of an image
abbrev IsOf : List ℕ → ℕ → Area → Type 0
IsOf image size area = area.bytes ≡ bytes_at image area.start size

-- the entries of a batch
batch_lies : (image : List ℕ) (size : ℕ) (area : Area) (p : ℕ) (es : List (List ℕ)) → IsOf image size area → next_batch p area.bytes < length area.bytes
    → entries_in (count_at p area.bytes) (body_at p area.bytes) ≡ Some es → LieAt image es (places_from (area.start + p + batch_header) es)
batch_lies image size area p es of within holds =
    let n = size_at p area.bytes in
    let at = area.start + (p + batch_header) in
    let first : at ≡ area.start + p + batch_header = omega arith in
    let parts : concat es ≡ take n (drop (p + batch_header) area.bytes) = (entries_found (count_at p area.bytes) (body_at p area.bytes) es holds).parts in
    let long : length (concat es) ≡ n = ap length parts ∙ length-take-le n (drop (p + batch_header) area.bytes) (omega (arith, within, length-drop (p + batch_header) area.bytes)) in
    let short : length area.bytes ≤ size = omega (arith, ap length of, length-take size (drop area.start image)) in
    let there : concat es ≡ bytes_at image at n =
    parts ∙ ap (λ (l : List ℕ). bytes_at l (p + batch_header) n) of ∙ part_of_part image area.start size (p + batch_header) n (omega (arith, within, short)) in
    subst (λ (k : ℕ). LieAt image es (places_from k es)) first (lie_from image at es (there ∙ ap (λ (k : ℕ). bytes_at image at k) (sym long)))

-- what comes first in a reading that gives something
pub read_first : {A B : Type 0} (first : Read A) (next : A → Read B) (y : B) → (first >>= next) ≡ Ok y → (x : A) × (first ≡ Ok x) × (next x ≡ Ok y)
read_first (Ok x) next y e = (x, refl, e)
read_first (Err place) next y e = absurd cc

fine_where : {A : Type 0} (holds : Bool) (place : ℕ) (rest : Read A) (y : A) → (foreign_where holds place >>= λ _. rest) ≡ Ok y → (holds ≡ false) × (rest ≡ Ok y)
fine_where true place rest y e = absurd cc
fine_where false place rest y e = (refl, e)

same_ok : {A : Type 0} (x y : A) (f : Read A) → f ≡ Ok x → f ≡ Ok y → x ≡ y
same_ok x y f e d = cc

-- a batch that is read ends within its area, and its body is made of its entries
batch_read_as : (is_entry : List ℕ → Bool) (area : Area) (p last : ℕ) (es : List (List ℕ)) → batch_at is_entry area p last ≡ Ok es
    → (next_batch p area.bytes < length area.bytes) × (entries_in (count_at p area.bytes) (body_at p area.bytes) ≡ Some es)
unfolding batch_at
batch_read_as is_entry area p last es e =
    let first = fine_where (count_at p area.bytes == 0) (area.start + p) _ es e in
    let second = fine_where (nat_le (length area.bytes) (next_batch p area.bytes)) (area.start + p) _ es first.1 in
    let far : nat_le (length area.bytes) (next_batch p area.bytes) ≡ false = second.0 in (
      leb-false _ _ far,
      is_batch_at is_entry last (area.start + p) (area.start + p + batch_header) (entries_in (count_at p area.bytes) (body_at p area.bytes)) es second.1,
    )

numbered-bytes : (base : ℕ) (es : List (List ℕ)) → map (λ (e : ℕ × List ℕ). e.1) (numbered base es) ≡ es
unfolding numbered
numbered-bytes base [] = refl
numbered-bytes base (e ∷ es) = ap (λ (l : List (List ℕ)). e ∷ l) (numbered-bytes (base + 1) es)

module _ (is_entry : List ℕ → Bool) (image : List ℕ) (size : ℕ) (area : Area) (of : IsOf image size area) where
  -- one batch more, where its gate is open
  batches_at : (b : Bool) (n p last : ℕ) (es : List (List ℕ))
      → ((other : ℕ) (others : List (List ℕ)) → batches_from is_entry area n (next_batch p area.bytes) other ≡ Ok others
      → LieAt image others (batch_places area (next_batch p area.bytes) (open_batches area.bytes n (next_batch p area.bytes))))
      → (if b then (batch_at is_entry area p last >>= λ found. batches_from is_entry area n (next_batch p area.bytes) (last + length found) >>= λ others. Ok (found ++ others)) else Ok []) ≡ Ok es
      → LieAt image es (batch_places area p (if b then batch_entries p area.bytes ∷ open_batches area.bytes n (next_batch p area.bytes) else []))
  unfolding batch_places
  batches_at true n p last es rest e =
      let first = read_first (batch_at is_entry area p last) (λ found. batches_from is_entry area n (next_batch p area.bytes) (last + length found) >>= λ others. Ok (found ++ others)) es e in
      let second = read_first (batches_from is_entry area n (next_batch p area.bytes) (last + length first.0)) (λ others. Ok (first.0 ++ others)) es first.2 in
      let whole : first.0 ++ second.0 ≡ es = same_ok (first.0 ++ second.0) es (Ok (first.0 ++ second.0)) refl second.2 in
      let is = batch_read_as is_entry area p last first.0 first.1 in
      let found : first.0 ≡ batch_entries p area.bytes = sym (ap (λ (o : Option (List (List ℕ))). unwrap_or o []) is.1) in
      let behind : List ℕ = batch_places area (next_batch p area.bytes) (open_batches area.bytes n (next_batch p area.bytes)) in
      let at : ℕ = area.start + p + batch_header in
      subst (λ (l : List (List ℕ)). LieAt image l (places_from at (batch_entries p area.bytes) ++ behind)) whole
      (lie_append image first.0 second.0 (places_from at (batch_entries p area.bytes)) behind
      (subst (λ (l : List (List ℕ)). LieAt image first.0 (places_from at l)) found (batch_lies image size area p first.0 of is.0 is.1)) (rest (last + length first.0) second.0 second.1))
  batches_at false n p last es rest e = lie_nowhere image area p es (same_ok [] es (Ok []) refl e)

  batches_lie : (bound p last : ℕ) (es : List (List ℕ)) → batches_from is_entry area bound p last ≡ Ok es → LieAt image es (batch_places area p (open_batches area.bytes bound p))
  unfolding batches_from open_batches
  batches_lie zero p last es e = lie_nowhere image area p es (same_ok [] es (Ok []) refl e)
  batches_lie (suc n) p last es e =
      batches_at (is_open p area.bytes) n p last es (λ other others is. batches_lie n (next_batch p area.bytes) other others is) e

  -- of an area
  area_lies : (volume : ℕ) (foreign : Bool) (list : List (ℕ × List ℕ)) → area_entries is_entry volume area foreign ≡ Ok list → LieAt image (map (λ (e : ℕ × List ℕ). e.1) list) (area_places area)
  unfolding area_entries
  area_lies volume foreign list e =
      let first = fine_where (not (number_8 volume_place area.bytes == volume)) (area.start + volume_place) _ list e in
      let second = fine_where (nat_le max_number (base_of area) || foreign) (area.start + base_place) _ list first.1 in
      let third = read_first (batches_from is_entry area (length area.bytes) area_header (base_of area)) (λ entries. Ok (numbered (base_of area) entries)) list second.1 in
      let listed : numbered (base_of area) third.0 ≡ list = same_ok (numbered (base_of area) third.0) list (Ok (numbered (base_of area) third.0)) refl third.2 in
      subst (λ (l : List (List ℕ)). LieAt image l (area_places area)) (sym (numbered-bytes (base_of area) third.0) ∙ ap (λ (l : List (ℕ × List ℕ)). map (λ (e : ℕ × List ℕ). e.1) l) listed)
      (batches_lie (length area.bytes) area_header (base_of area) third.0 third.1)

-- each of some areas is of an image
abbrev AreOf : List ℕ → ℕ → List Area → Type 0
AreOf image size [] = Unit {0}
AreOf image size (a ∷ more) = IsOf image size a × AreOf image size more

-- of the areas that are read
areas_lie : (is_entry : List ℕ → Bool) (volume covers : ℕ) (image : List ℕ) (size : ℕ) (areas : List Area) (list : List (ℕ × List ℕ)) → AreOf image size areas
    → areas_entries is_entry volume covers areas ≡ Ok list → LieAt image (map (λ (e : ℕ × List ℕ). e.1) list) (areas_places areas)
unfolding areas_entries areas_places LieAt
areas_lie is_entry volume covers image size [] list of e =
    let none : [] ≡ list = same_ok [] list (Ok []) refl e in
    subst (λ (l : List (ℕ × List ℕ)). LieAt image (map (λ (e : ℕ × List ℕ). e.1) l) []) none tt
areas_lie is_entry volume covers image size (a ∷ []) list of e = area_lies is_entry image size a of.0 volume (nat_lt covers (base_of a)) list e
areas_lie is_entry volume covers image size (a ∷ b ∷ more) list of e =
    let newer_read : List (ℕ × List ℕ) → Read (List (ℕ × List ℕ)) = λ older. area_entries is_entry volume b (not (base_of b == base_of a + length older)) >>= λ newer. Ok (older ++ newer) in
    let first = read_first (area_entries is_entry volume a (nat_lt covers (base_of a))) newer_read list e in
    let second = read_first (area_entries is_entry volume b (not (base_of b == base_of a + length first.0))) (λ newer. Ok (first.0 ++ newer)) list first.2 in
    let whole : first.0 ++ second.0 ≡ list = same_ok (first.0 ++ second.0) list (Ok (first.0 ++ second.0)) refl second.2 in
    let bytes : List (ℕ × List ℕ) → List (List ℕ) = λ l. map (λ (e : ℕ × List ℕ). e.1) l in
    subst (λ (l : List (List ℕ)). LieAt image l (area_places a ++ area_places b)) (sym (map-append (λ (e : ℕ × List ℕ). e.1) first.0 second.0) ∙ ap bytes whole)
    (lie_append image (bytes first.0) (bytes second.0) (area_places a) (area_places b)
    (area_lies is_entry image size a of.0 volume (nat_lt covers (base_of a)) first.0 first.1)
    (area_lies is_entry image size b of.1.0 volume (not (base_of b == base_of a + length first.0)) second.0 second.1))

-- the open areas are of their image
chosen_of : (image : List ℕ) (size : ℕ) (turned : Bool) (a b : Area) → IsOf image size a → IsOf image size b → AreOf image size (if turned then b ∷ a ∷ [] else a ∷ b ∷ [])
chosen_of image size true a b first second = (second, (first, tt))
chosen_of image size false a b first second = (first, (second, tt))

open_of : (image : List ℕ) (size : ℕ) (x y turned : Bool) (a b : Area) → IsOf image size a → IsOf image size b
    → AreOf image size (if x then (if y then (if turned then b ∷ a ∷ [] else a ∷ b ∷ []) else a ∷ []) else (if y then b ∷ [] else []))
open_of image size true true turned a b first second = chosen_of image size turned a b first second
open_of image size true false turned a b first second = (first, tt)
open_of image size false true turned a b first second = (second, tt)
open_of image size false false turned a b first second = tt

areas_of : (image : List ℕ) (size : ℕ) → AreOf image size (both_areas size image)
unfolding open_areas
areas_of image size =
    open_of image size (is_open 0 (first_area size image).bytes) (is_open 0 (second_area size image).bytes) (second_is_older (first_area size image) (second_area size image))
    (first_area size image) (second_area size image) refl refl

-- There is a place for each entry that an image says as a journal, and the entry lies there.
pub places_lie : (is_entry : List ℕ → Bool) (volume size covers : ℕ) (image : List ℕ) (list : List (ℕ × List ℕ)) → entries_of is_entry volume size covers image ≡ Ok list
    → LieAt image (map (λ (e : ℕ × List ℕ). e.1) list) (places_of size image)
unfolding entries_of places_of
places_lie is_entry volume size covers image list e =
    let large = fine_where (nat_lt (length image) (2 * size)) (length image) _ list e in
    areas_lie is_entry volume covers image size (both_areas size image) list (areas_of image size) large.1

any_grammar : (list : List (ℕ × List ℕ)) → AllByRecursion (λ (e : ℕ × List ℕ). IsTrue true) list
any_grammar [] = tt
any_grammar (e ∷ list) = (refl, any_grammar list)

-- So do those for which a journal stands.
pub entries_lie : (j : JournalView) (image : List ℕ) (older newer : List (List ℕ)) → IsJournal j → StandsFor j image older newer
    → LieAt image (map (λ (e : ℕ × List ℕ). e.1) (entries j older newer)) (places_of j.size image)
entries_lie j image older newer is stands =
    let any : List ℕ → Bool = λ e. true in
    places_lie any j.volume j.size (first_base j) image (entries j older newer)
    (reads j image older newer is stands any (first_base j) (any_grammar (entries j older newer)) (omega arith))
