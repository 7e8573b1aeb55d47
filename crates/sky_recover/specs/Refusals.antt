-- How an opening is refused by what the cloud lists.
use Rattle.std.specs.Prelude.{◌≡◌, ℕ, ◌<◌, List, Result, Ok, Err}
use Rattle.sky_base.specs.Limits.{max_number}
use Rattle.sky_base.specs.declared.place.Lost.{Lost}
use Rattle.sky_base.specs.declared.place.Lost.TheVariants as lost
use Rattle.sky_outside.specs.CloudMap.{CloudMap}
use Rattle.sky_outside.specs.declared.storage.Storage.{Ghosts}
use Rattle.sky_sound.specs.Cloud.{HasNoCheckpoint, epoch_after}
use Rattle.sky_sound.specs.Recovery.{recovered}
use Rattle.sky_sound.specs.Refusal.{Refusal, Damaged, Missing}
use Rattle.sky_recover.specs.Replaying.{IsForeignAt}
use Rattle.sky_recover.specs.declared.fault.OpenFault.{OpenFault}
use Rattle.sky_recover.specs.declared.fault.OpenFault.TheVariants as fault

-- an epoch can be claimed: no checkpoint of the proxy is listed, as none is read yet, and an epoch is left
pub record IsClaimable (objects : CloudMap) : Type 0 where
  pub no_checkpoint : HasNoCheckpoint objects
  pub epoch_left : epoch_after objects < max_number

-- why nothing is recovered, where an object is lost
abbrev pub refusal_of : Lost → Refusal
refusal_of (lost.Missing name) = Missing name
refusal_of (lost.Damaged name damage) = Damaged name damage

-- an object is lost, and so nothing is recovered, whatever the disk is
abbrev pub IsLost : CloudMap → Lost → Type 0
IsLost objects lost = (volume size : ℕ) (image : List ℕ) → recovered volume size image objects ≡ Err (refusal_of lost)

-- no checkpoint of the proxy is listed, and no epoch is left
pub record IsWorn (objects : CloudMap) : Type 0 where
  pub no_checkpoint : HasNoCheckpoint objects
  pub no_epoch : epoch_after objects ≡ max_number

-- How an opening ended, by the objects that the cloud held: `Lost` and `Worn` came exactly where this is so, unless the list failed
-- or there was no memory; every other end has an epoch that can be claimed.
abbrev pub IsJudged : {T : Type 0} → Result T OpenFault → CloudMap → Type 0
IsJudged (Ok _) objects = IsClaimable objects
IsJudged (Err fault.DiskFault) objects = IsClaimable objects
IsJudged (Err fault.CloudFault) objects = Unit {0}
IsJudged (Err fault.Memory) objects = Unit {0}
IsJudged (Err (fault.Foreign at)) objects = IsClaimable objects
IsJudged (Err (fault.Lost lost)) objects = IsLost objects lost
IsJudged (Err fault.Worn) objects = IsWorn objects

-- This fault of an opening comes of what a site has on its disk and in its cloud: `Foreign` where it is foreign there, `Lost` where recovery is refused
-- for that object, and `Worn` where there is no epoch left. The other faults come of the devices and of memory.
abbrev pub IsRefusedBy : (volume size : ℕ) → OpenFault → List ℕ → CloudMap → Type 0
IsRefusedBy volume size fault.DiskFault image objects = Unit {0}
IsRefusedBy volume size fault.CloudFault image objects = Unit {0}
IsRefusedBy volume size fault.Memory image objects = Unit {0}
IsRefusedBy volume size (fault.Foreign at) image objects = IsForeignAt volume size image objects at
IsRefusedBy volume size (fault.Lost lost) image objects = recovered volume size image objects ≡ Err (refusal_of lost)
IsRefusedBy volume size fault.Worn image objects = HasNoCheckpoint objects × (epoch_after objects ≡ max_number)

-- What an opening that was refused left as it was, from s to t: the disk's image where the journal is what was refused, and the cloud's objects too
-- where the list of the cloud was. The other faults come of the devices and of memory.
abbrev pub LeavesRefused : {S : Type 0} → Ghosts S → S → S → OpenFault → Type 0
LeavesRefused g s t (fault.Foreign at) = g.image t ≡ g.image s
LeavesRefused g s t (fault.Lost lost) = (g.image t ≡ g.image s) × (g.objects t ≡ g.objects s)
LeavesRefused g s t fault.Worn = (g.image t ≡ g.image s) × (g.objects t ≡ g.objects s)
LeavesRefused g s t fault.DiskFault = Unit {0}
LeavesRefused g s t fault.CloudFault = Unit {0}
LeavesRefused g s t fault.Memory = Unit {0}

-- on a sound site an opening is refused by no object and by no byte of its disk
abbrev pub IsOfDevices : {T : Type 0} → Result T OpenFault → Type 0
IsOfDevices (Ok _) = Unit {0}
IsOfDevices (Err fault.DiskFault) = Unit {0}
IsOfDevices (Err fault.CloudFault) = Unit {0}
IsOfDevices (Err fault.Memory) = Unit {0}
IsOfDevices (Err (fault.Foreign at)) = ⊥
IsOfDevices (Err (fault.Lost lost)) = ⊥
IsOfDevices (Err fault.Worn) = Unit {0}
