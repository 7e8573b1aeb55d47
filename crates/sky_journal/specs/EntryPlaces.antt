-- Where on a disk the entries lie that its image says as a journal. They are gone through as `entries_of` reads them: the older open area before the
-- newer, the batches of an area up to the first closed gate, and the entries of a batch. So the first place is that of the first entry, and so on.
use Rattle.std.specs.Prelude.{◌≡◌, ℕ, zero, suc, ◌+◌, List, [], ◌∷◌, ◌++◌, length, if◌then◌else◌}
use Rattle.std.specs.Option.{unwrap_or}
use Rattle.sky_outside.specs.Image.{bytes_at}
use Rattle.sky_journal.specs.Layout.{is_open, area_header, batch_header, count_at, body_at, next_batch}
use Rattle.sky_journal.specs.Text.{Area, entries_in, open_areas, first_area, second_area}

-- where entries lie, one directly behind the other, of which the first lies at a place
unfoldable pub places_from : ℕ → List (List ℕ) → List ℕ
places_from at [] = []
places_from at (e ∷ es) = at ∷ places_from (at + length e) es

-- the entries of the batch at a place of an area; none where its body is not made of so many
abbrev pub batch_entries : ℕ → List ℕ → List (List ℕ)
batch_entries p area = unwrap_or (entries_in (count_at p area) (body_at p area)) []

-- the batches of an area from its place p on, up to the first closed gate. An area has not more batches than bytes, which bounds how many are
-- looked for.
unfoldable pub open_batches : List ℕ → ℕ → ℕ → List (List (List ℕ))
open_batches area zero p = []
open_batches area (suc bound) p = if is_open p area then batch_entries p area ∷ open_batches area bound (next_batch p area) else []

-- where the entries of batches lie, one batch directly behind the other, of which the first has its gate at a place of an area
unfoldable pub batch_places : Area → ℕ → List (List (List ℕ)) → List ℕ
batch_places area p [] = []
batch_places area p (b ∷ bs) = places_from (area.start + p + batch_header) b ++ batch_places area (next_batch p area.bytes) bs

-- where the entries of an open area lie
abbrev pub area_places : Area → List ℕ
area_places area = batch_places area area_header (open_batches area.bytes (length area.bytes) area_header)

-- where those of the open areas lie
unfoldable pub areas_places : List Area → List ℕ
areas_places [] = []
areas_places (a ∷ []) = area_places a
areas_places (a ∷ b ∷ more) = area_places a ++ area_places b

-- where the entries lie that the image of a disk says as a journal, with areas of this many bytes: the place of each, in order
unfoldable pub places_of : (size : ℕ) → (image : List ℕ) → List ℕ
places_of size image = areas_places (open_areas (first_area size image) (second_area size image))

-- each of these entries lies on an image at its place
unfoldable pub LieAt : List ℕ → List (List ℕ) → List ℕ → Type 0
LieAt image [] [] = Unit {0}
LieAt image [] (p ∷ ps) = ⊥
LieAt image (e ∷ es) [] = ⊥
LieAt image (e ∷ es) (p ∷ ps) = (bytes_at image p (length e) ≡ e) × LieAt image es ps
