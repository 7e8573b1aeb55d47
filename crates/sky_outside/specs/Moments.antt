-- What a crash may leave of a disk and of the cloud beside it, now and at each moment since an earlier one. Each word
-- takes the meanings of a device, and then the device at one time or at two. Where a device tells nothing of crashes,
-- no image is one that a crash may leave, and each word here asks nothing.
use Rattle.std.specs.Prelude.{◌≡◌, ◌⊎◌, ◌↔◌, ℕ, ◌≤◌, List}
use Rattle.sky_outside.specs.Told.{WhereTold}
use Rattle.sky_outside.specs.Image.{Torn}
use Rattle.sky_outside.specs.CloudMap.{CloudMap}
use Rattle.sky_outside.specs.declared.storage.Storage.{Ghosts}

-- a fact of an image and of the cloud's objects beside it
abbrev pub OfPair : Type 1
OfPair = List ℕ → CloudMap → Type 0

-- the cloud holds these objects now; where it doesn't tell, these may be any
abbrev pub HoldsNow : {S : Type 0} → Ghosts S → S → CloudMap → Type 0
HoldsNow g s objects = WhereTold (g.objects s) (λ told. objects ≡ told)

-- a crash now may leave this image, and the cloud these objects
abbrev pub MayLeaveNow : {S : Type 0} → Ghosts S → S → List ℕ → CloudMap → Type 0
MayLeaveNow g s image objects = g.may_leave s image × HoldsNow g s objects

-- it tells what a crash may leave
abbrev pub TellsCrashes : {S : Type 0} → Ghosts S → S → Type 0
TellsCrashes g s = (image : List ℕ) × g.may_leave s image

-- a crash now leaves what a read gives, and nothing else
abbrev pub NothingPending : {S : Type 0} → Ghosts S → S → Type 0
NothingPending g s = WhereTold (g.image s) (λ read. (image : List ℕ) → g.may_leave s image → image ≡ read)

-- a crash may leave no more than before
abbrev pub LeavesNoMore : {S : Type 0} → Ghosts S → S → S → Type 0
LeavesNoMore g old new = (image : List ℕ) → g.may_leave new image → g.may_leave old image

-- a crash may leave what it might before, with any bytes in this range
abbrev pub MayTear : {S : Type 0} → Ghosts S → ℕ → ℕ → S → S → Type 0
MayTear g at n old new = (image : List ℕ) → g.may_leave new image → (before : List ℕ) × g.may_leave old before × Torn at n before image

-- what a read gives and what a crash may leave are as before
pub record SameDisk {S : Type 0} (g : Ghosts S) (old new : S) : Type 0 where
  pub image : g.image new ≡ g.image old
  pub may_leave : (image : List ℕ) → g.may_leave new image ↔ g.may_leave old image

-- the objects and the put that stands are as before
pub record SameCloud {S : Type 0} (g : Ghosts S) (old new : S) : Type 0 where
  pub objects : g.objects new ≡ g.objects old
  pub standing : g.standing new ≡ g.standing old

-- One call goes by. A crash since an earlier moment may have left what it might have left by then, or what it may leave
-- now; and nothing that it might have left is forgotten.
pub record Elapses {S : Type 0} (g : Ghosts S) (old new : S) : Type 0 where
  pub later : g.moment old ≤ g.moment new
  pub no_more : (t : ℕ) (image : List ℕ) (objects : CloudMap) → t ≤ g.moment old → g.left_since new t image objects → g.left_since old t image objects ⊎ MayLeaveNow g new image objects
  pub no_less : (t : ℕ) (image : List ℕ) (objects : CloudMap) → t ≤ g.moment old → g.left_since old t image objects → g.left_since new t image objects
  pub tells : TellsCrashes g old → TellsCrashes g new

-- A crash at any moment from `old` to `new`, within a call or between two, leaves a pair that has P.
pub record LeavesOnly {S : Type 0} (g : Ghosts S) (old new : S) (P : OfPair) : Type 0 where
  pub later : g.moment old ≤ g.moment new
  pub since : (image : List ℕ) (objects : CloudMap) → g.left_since new (g.moment old) image objects → P image objects
  -- for a run that began earlier
  pub before : (t : ℕ) (image : List ℕ) (objects : CloudMap) → t ≤ g.moment old → g.left_since new t image objects → g.left_since old t image objects ⊎ P image objects

-- Calls that only look: what a read gives and what is held stay, a crash may leave no more than before, and at any
-- moment of them it leaves what it might before. The counts of faults may rise.
pub record OnlyLooks {S : Type 0} (g : Ghosts S) (old new : S) : Type 0 where
  pub image : g.image new ≡ g.image old
  pub crash : LeavesNoMore g old new
  pub cloud : SameCloud g old new
  pub size : g.bytes_of new ≡ g.bytes_of old
  pub moments : LeavesOnly g old new (MayLeaveNow g old)

-- an image that has P, and the objects that the cloud holds at this time
abbrev pub BesideObjects : {S : Type 0} → Ghosts S → S → (List ℕ → Type 0) → OfPair
BesideObjects g s P image objects = P image × HoldsNow g s objects
