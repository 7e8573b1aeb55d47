-- How calls go on from one another: what a crash may leave within several of them. Crates above cite these.
use Rattle.std.proofs.Common.{◌≡◌, ⊎_elim, inl, inr, ℕ, List, Option, Some, arith, refl, sym, ◌∙◌, subst}
use Rattle.sky_outside.specs.CloudMap.{CloudMap}
use Rattle.sky_outside.specs.Image.{Torn}
use Rattle.sky_outside.specs.Told.{WhereTold}
use Rattle.sky_outside.specs.Moments.{OfPair, HoldsNow, MayLeaveNow, NothingPending, LeavesNoMore, SameDisk, SameCloud, MayTear, Elapses, LeavesOnly, OnlyLooks, BesideObjects}
use Rattle.sky_outside.proofs.ImageLaws.{Torn-none}
use Rattle.sky_outside.proofs.ToldLaws.{WhereTold-at, WhereTold-from}
use Rattle.sky_outside.specs.declared.storage.Storage.{Ghosts}

module _ {S : Type 0} (g : Ghosts S) where
  -- no call yet: what a crash now may leave has P
  pub LeavesOnly-start : (a : S) (P : OfPair) → ((image : List ℕ) (objects : CloudMap) → MayLeaveNow g a image objects → P image objects) → LeavesOnly g a a P
  LeavesOnly-start a P here = record {
    later = omega arith;
    since = λ image objects left. here image objects (g.only_now a image objects left);
    before = λ t image objects le left. inl left;
  }

  -- Calls one after the other: what the first may leave, and what the second may leave.
  pub LeavesOnly-then : (a b c : S) (P Q R : OfPair) → LeavesOnly g a b P → LeavesOnly g b c Q
      → ((image : List ℕ) (objects : CloudMap) → P image objects → R image objects) → ((image : List ℕ) (objects : CloudMap) → Q image objects → R image objects) → LeavesOnly g a c R
  LeavesOnly-then a b c P Q R first second from_first from_second = record {
    later = omega (arith, first.later, second.later);
    since = λ image objects left.
        ⊎_elim (λ by_then. from_first image objects (first.since image objects by_then)) (λ q. from_second image objects q) (second.before (g.moment a) image objects first.later left);
    before = λ t image objects le left.
        ⊎_elim (λ by_then. ⊎_elim inl (λ p. inr (from_first image objects p)) (first.before t image objects le by_then)) (λ q. inr (from_second image objects q))
        (second.before t image objects (omega (arith, le, first.later)) left);
  }

  -- One call of a device: what a crash may leave before it has P, and so has what a crash may leave after it.
  pub LeavesOnly-call : (a b : S) (P : OfPair) → Elapses g a b
      → ((image : List ℕ) (objects : CloudMap) → MayLeaveNow g a image objects → P image objects) → ((image : List ℕ) (objects : CloudMap) → MayLeaveNow g b image objects → P image objects)
      → LeavesOnly g a b P
  LeavesOnly-call a b P time here there = record {
    later = time.later;
    since = λ image objects left.
        ⊎_elim (λ by_then. here image objects (g.only_now a image objects by_then)) (there image objects) (time.no_more (g.moment a) image objects (omega arith) left);
    before = λ t image objects le left. ⊎_elim inl (λ now. inr (there image objects now)) (time.no_more t image objects le left);
  }

  -- the same objects are held beside it
  pub HoldsNow-same : (a b : S) (objects : CloudMap) → g.objects b ≡ g.objects a → HoldsNow g b objects → HoldsNow g a objects
  HoldsNow-same a b objects same holds = subst (λ (told : Option CloudMap). WhereTold told (λ held. objects ≡ held)) same holds

  -- one call of a disk, of which the images before and after have P
  pub LeavesOnly-disk : (a b : S) (P : List ℕ → Type 0) → Elapses g a b → SameCloud g a b
      → ((image : List ℕ) → g.may_leave a image → P image) → ((image : List ℕ) → g.may_leave b image → P image) → LeavesOnly g a b (BesideObjects g a P)
  LeavesOnly-disk a b P time beside here there =
      LeavesOnly-call a b (BesideObjects g a P) time (λ image objects now. (here image now.0, now.1)) (λ image objects now. (there image now.0, HoldsNow-same a b objects beside.objects now.1))

  -- Disk calls one after the other.
  pub LeavesOnly-disk_then : (a b c : S) (P Q R : List ℕ → Type 0) → SameCloud g a b → LeavesOnly g a b (BesideObjects g a P) → LeavesOnly g b c (BesideObjects g b Q)
      → ((image : List ℕ) → P image → R image) → ((image : List ℕ) → Q image → R image) → LeavesOnly g a c (BesideObjects g a R)
  LeavesOnly-disk_then a b c P Q R beside first second from_first from_second =
      LeavesOnly-then a b c (BesideObjects g a P) (BesideObjects g b Q) (BesideObjects g a R) first second (λ image objects p. (from_first image p.0, p.1))
      (λ image objects q. (from_second image q.0, HoldsNow-same a b objects beside.objects q.1))

  -- no disk call yet
  pub LeavesOnly-disk_start : (a : S) (P : List ℕ → Type 0) → ((image : List ℕ) → g.may_leave a image → P image) → LeavesOnly g a a (BesideObjects g a P)
  LeavesOnly-disk_start a P here = LeavesOnly-start a (BesideObjects g a P) (λ image objects now. (here image now.0, now.1))

  -- where nothing is pending, a crash now leaves what is read
  pub only_read : (a : S) (read : List ℕ) → g.image a ≡ Some read → NothingPending g a → (image : List ℕ) → g.may_leave a image → image ≡ read
  only_read a read is nothing = WhereTold-at (g.image a) (λ r. (image : List ℕ) → g.may_leave a image → image ≡ r) read is nothing

  -- what a crash may leave after a write, where nothing was pending before
  pub torn_from : (a b : S) (at n : ℕ) (read : List ℕ) → g.image a ≡ Some read → NothingPending g a → MayTear g at n a b → (image : List ℕ) → g.may_leave b image → Torn at n read image
  torn_from a b at n read is nothing tear image left =
      let was = tear image left in subst (λ (l : List ℕ). Torn at n l image) (only_read a read is nothing was.0 was.1) was.2

  -- a write where nothing was pending
  pub LeavesOnly-write : (a b : S) (at n : ℕ) (read : List ℕ) → g.image a ≡ Some read → NothingPending g a → MayTear g at n a b → Elapses g a b → SameCloud g a b
      → LeavesOnly g a b (BesideObjects g a (Torn at n read))
  LeavesOnly-write a b at n read is nothing tear time beside =
      LeavesOnly-disk a b (Torn at n read) time beside (λ image left. subst (λ (l : List ℕ). Torn at n read l) (sym (only_read a read is nothing image left)) (Torn-none at n read))
      (torn_from a b at n read is nothing tear)

  -- a read or a sync, before which what a crash may leave has P
  pub LeavesOnly-no_more : (a b : S) (P : List ℕ → Type 0) → Elapses g a b → SameCloud g a b → LeavesNoMore g a b → ((image : List ℕ) → g.may_leave a image → P image)
      → LeavesOnly g a b (BesideObjects g a P)
  LeavesOnly-no_more a b P time beside no_more here = LeavesOnly-disk a b P time beside here (λ image left. here image (no_more image left))

  -- a read or a sync leaves nothing pending where nothing was
  pub NothingPending-no_more : (a b : S) → g.image b ≡ g.image a → LeavesNoMore g a b → NothingPending g a → NothingPending g b
  NothingPending-no_more a b same no_more nothing =
      WhereTold-from (g.image b) (λ read. (image : List ℕ) → g.may_leave b image → image ≡ read) (λ read is image left. only_read a read (sym same ∙ is) nothing image (no_more image left))

  -- and so does a cloud call
  pub NothingPending-same : (a b : S) → SameDisk g a b → NothingPending g a → NothingPending g b
  NothingPending-same a b same nothing = NothingPending-no_more a b same.image (λ image left. (same.may_leave image).0 left) nothing

  -- no look yet
  pub OnlyLooks-none : (a : S) → OnlyLooks g a a
  OnlyLooks-none a = record {
    image = refl;
    crash = λ image left. left;
    cloud = record { objects = refl; standing = refl };
    size = refl;
    moments = LeavesOnly-start a (MayLeaveNow g a) (λ image objects now. now);
  }

  -- what may be left now might be left before
  looks_now : (a b : S) → LeavesNoMore g a b → SameCloud g a b → (image : List ℕ) (objects : CloudMap) → MayLeaveNow g b image objects → MayLeaveNow g a image objects
  looks_now a b no_more beside image objects now = (no_more image now.0, HoldsNow-same a b objects beside.objects now.1)

  -- one look at the disk
  pub OnlyLooks-read : (a b : S) → Elapses g a b → g.image b ≡ g.image a → LeavesNoMore g a b → SameCloud g a b → g.bytes_of b ≡ g.bytes_of a → OnlyLooks g a b
  OnlyLooks-read a b time same no_more beside size = record {
    image = same;
    crash = no_more;
    cloud = beside;
    size = size;
    moments = LeavesOnly-call a b (MayLeaveNow g a) time (λ image objects now. now) (looks_now a b no_more beside);
  }

  -- and one at the cloud
  pub OnlyLooks-cloud : (a b : S) → Elapses g a b → SameDisk g a b → SameCloud g a b → g.bytes_of b ≡ g.bytes_of a → OnlyLooks g a b
  OnlyLooks-cloud a b time same beside size = OnlyLooks-read a b time same.image (λ image left. (same.may_leave image).0 left) beside size

  -- looks one after the other
  pub OnlyLooks-then : (a b c : S) → OnlyLooks g a b → OnlyLooks g b c → OnlyLooks g a c
  OnlyLooks-then a b c first second = record {
    image = second.image ∙ first.image;
    crash = λ image left. first.crash image (second.crash image left);
    cloud = record { objects = second.cloud.objects ∙ first.cloud.objects; standing = second.cloud.standing ∙ first.cloud.standing };
    size = second.size ∙ first.size;
    moments = LeavesOnly-then a b c (MayLeaveNow g a) (MayLeaveNow g b) (MayLeaveNow g a) first.moments second.moments (λ image objects now. now) (looks_now a b first.crash first.cloud);
  }
