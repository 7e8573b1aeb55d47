-- What a site in memory holds after each of its calls, and what a stop within one leaves.
use Rattle.std.specs.Prelude.{◌≡◌, ℕ, zero, suc, ◌+◌, ◌-◌, ◌≤◌, nat_le, ◌==◌, Bool, false, cond, List, [], ◌∷◌, length, map, take}
use Rattle.sky_outside.specs.Image.{written, Torn}
use Rattle.sky_outside.specs.CloudMap.{CloudMap, after_put, after_removal}
use Rattle.sky_memory.specs.Device.{SiteState}
use Rattle.sky_memory.specs.Objects.{IsInRange, map_of}
use Rattle.sky_memory.specs.declared.record.Step.{Step}
use Rattle.sky_memory.specs.declared.record.Step.TheVariants.{Look, Write, Sync, Put, Remove}

-- a call: what it asked for, the bytes that it wrote or put, and whether it happened
pub record Call : Type 0 where
  pub step : Step
  pub bytes : List ℕ
  pub happened : Bool

-- the image with these bytes at this place, where they fit
abbrev pub overwritten : List ℕ → ℕ → List ℕ → List ℕ
overwritten image at bytes = cond (nat_le (at + length bytes) (length image)) (written image at bytes) image

-- bytes with each bit inverted
abbrev pub inverted : List ℕ → List ℕ
inverted bytes = map (λ b. 255 - b) bytes

-- A site at one time. `image` is what a read gives, `synced` what it gave at the last sync, `inverted` the latter with
-- each write since then, its bytes inverted, and `pending` the places and lengths of these writes, the last one first.
pub record SiteAt : Type 0 where
  pub image : List ℕ
  pub synced : List ℕ
  pub inverted : List ℕ
  pub pending : List (ℕ × ℕ)
  pub objects : CloudMap

-- at first nothing is pending
abbrev pub at_first : SiteState → SiteAt
at_first first = record { image = first.image; synced = first.image; inverted = first.image; pending = []; objects = map_of first.objects }

-- after a call
abbrev pub after_step : Step → List ℕ → Bool → SiteAt → SiteAt
after_step Look bytes happened s = s
after_step (Write at) bytes happened s = record {
  image = cond happened (overwritten s.image at bytes) s.image;
  synced = s.synced;
  inverted = overwritten s.inverted at (inverted bytes);
  pending = (at, length bytes) ∷ s.pending;
  objects = s.objects;
}
after_step Sync bytes happened s = cond happened (record { image = s.image; synced = s.image; inverted = s.image; pending = []; objects = s.objects }) s
after_step (Put name) bytes happened s =
    record { image = s.image; synced = s.synced; inverted = s.inverted; pending = s.pending; objects = cond happened (after_put name bytes s.objects) s.objects }
after_step (Remove name) bytes happened s =
    record { image = s.image; synced = s.synced; inverted = s.inverted; pending = s.pending; objects = cond happened (after_removal name s.objects) s.objects }

abbrev pub after_call : Call → SiteAt → SiteAt
after_call call s = after_step call.step call.bytes call.happened s

-- after these calls, the first of them first
abbrev pub after_calls : List Call → SiteAt → SiteAt
after_calls [] s = s
after_calls (call ∷ calls) s = after_calls calls (after_call call s)

-- what a crash may make of an image by tearing these writes, of which the last comes first
abbrev pub MayTearTo : List (ℕ × ℕ) → List ℕ → List ℕ → Type 0
MayTearTo [] synced image = image ≡ synced
MayTearTo (write ∷ earlier) synced image = (before : List ℕ) × MayTearTo earlier synced before × Torn write.0 write.1 before image

-- a crash at that time may leave this image, and these objects
abbrev pub LeavesImage : SiteAt → List ℕ → Type 0
LeavesImage s image = MayTearTo s.pending s.synced image

abbrev pub Leaves : SiteAt → List ℕ → CloudMap → Type 0
Leaves s image objects = LeavesImage s image × (objects ≡ s.objects)

-- A crash after some number of the calls, no fewer than t, may leave this image and these objects.
abbrev pub LeavesSince : SiteAt → List Call → ℕ → List ℕ → CloudMap → Type 0
LeavesSince first calls t image objects = (k : ℕ) × (t ≤ k) × (k ≤ length calls) × Leaves (after_calls (take k calls) first) image objects

-- a choice by the part of a call that a stop leaves: 0, 1 and any other
abbrev pub by_part : {A : Type 0} → ℕ → A → A → A → A
by_part part none all other = cond (part == 0) none (cond (part == 1) all other)

-- What a stop within a call leaves of the disk: of a write nothing, all of it or all of it inverted; of the writes that
-- are pending where it is a sync the same; within another call the disk as it reads.
abbrev pub stopped_image : ℕ → Step → List ℕ → SiteAt → List ℕ
stopped_image part (Write at) bytes s = by_part part s.image (overwritten s.image at bytes) (overwritten s.image at (inverted bytes))
stopped_image part Sync bytes s = by_part part s.synced s.image s.inverted
stopped_image part step bytes s = s.image

-- and of the objects: those after the call, which hasn't happened where nothing of it is left
abbrev pub stopped_objects : ℕ → Call → SiteAt → CloudMap
stopped_objects part call s = (after_step call.step call.bytes (cond (part == 0) false call.happened) s).objects

-- what a stop within the call of that number leaves, and a stop after all calls where there is no such call
abbrev pub stopped_at : ℕ → List Call → ℕ → SiteAt → List ℕ × CloudMap
stopped_at part [] number s = (s.image, s.objects)
stopped_at part (call ∷ calls) zero s = (stopped_image part call.step call.bytes s, stopped_objects part call s)
stopped_at part (call ∷ calls) (suc number) s = stopped_at part calls number (after_call call s)

-- what a record takes: names in their range
abbrev pub IsAllowed : Step → Type 0
IsAllowed (Put name) = IsInRange name
IsAllowed step = Unit {0}
