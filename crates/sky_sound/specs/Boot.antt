-- The boot object, by which the proxy claims an epoch when it opens a volume.
use Rattle.std.specs.Prelude.{◌≡◌, ◌⊎◌, ℕ, zero, suc, false, List, [], Option}
use Rattle.sky_base.specs.declared.object.Dir.TheVariants.{Proxy}
use Rattle.sky_base.specs.declared.object.SegName.{SegName}
use Rattle.sky_outside.specs.CloudMap.{CloudMap, after_put}
use Rattle.sky_outside.specs.Told.{BothTold}
use Rattle.sky_segment.specs.Objects.{object_bytes}
use Rattle.sky_sound.specs.Cloud.{epoch_after}

-- its name, which is the first of the epoch
abbrev pub boot_name : ℕ → SegName
boot_name epoch = record { dir = Proxy; run = epoch; seq = 0; last = false }

-- its bytes: it is an object of no items
abbrev pub boot_bytes : ℕ → List ℕ
boot_bytes epoch = object_bytes (boot_name epoch) []

-- a cloud's objects after the next epoch was claimed
abbrev pub claimed : CloudMap → CloudMap
claimed objects = after_put (boot_name (epoch_after objects)) (boot_bytes (epoch_after objects)) objects

-- the same after so many openings, each of which claimed the next epoch
abbrev pub claimed_times : ℕ → CloudMap → CloudMap
claimed_times zero objects = objects
claimed_times (suc n) objects = claimed (claimed_times n objects)

-- between two looks at a cloud, so many openings claimed their epochs in it, and nothing else was changed
abbrev pub Claims : ℕ → Option CloudMap → Option CloudMap → Type 0
Claims n old new = BothTold (λ held holds. holds ≡ claimed_times n held) old new

-- they did, or none of them came to that, and nothing else was changed
abbrev pub MayClaim : ℕ → Option CloudMap → Option CloudMap → Type 0
MayClaim n old new = BothTold (λ held holds. (holds ≡ held) ⊎ (holds ≡ claimed_times n held)) old new
