-- What an opening that was refused left as it was.
use Rattle.std.specs.Prelude.{IsErrOf}
use Rattle.std.proofs.Common.{◌≡◌, ℕ, refl, ◌∙◌}
use Rattle.sky_outside.specs.Moments.{OnlyLooks}
use Rattle.sky_outside.specs.declared.storage.Storage.{Ghosts}
use Rattle.sky_recover.specs.Faults.{of_claim, of_list, of_replay}
use Rattle.sky_recover.specs.Refusals.{LeavesRefused}
use Rattle.sky_recover.specs.declared.fault.ClaimFault.{ClaimFault}
use Rattle.sky_recover.specs.declared.fault.ClaimFault.TheVariants as claim
use Rattle.sky_recover.specs.declared.fault.ListFault.{ListFault}
use Rattle.sky_recover.specs.declared.fault.ListFault.TheVariants as list
use Rattle.sky_recover.specs.declared.fault.ReplayFault.{ReplayFault}
use Rattle.sky_recover.specs.declared.fault.ReplayFault.TheVariants as replay
use Rattle.sky_recover.proofs.Refused.{failed}

-- the list of the cloud was refused, and nothing else was done
pub listed : {S : Type 0} → (g : Ghosts S) (s t : S) → OnlyLooks g s t → (why : ListFault) → LeavesRefused g s t (of_list why)
listed g s t looks list.CloudFault = tt
listed g s t looks list.Memory = tt
listed g s t looks (list.Lost what) = (looks.image, looks.cloud.objects)
listed g s t looks list.Worn = (looks.image, looks.cloud.objects)

-- the journal was refused behind the list, or the epoch not claimed
pub read : {S : Type 0} → (g : Ghosts S) (s a t : S) → OnlyLooks g s a → g.image t ≡ g.image a → (why : ClaimFault) → LeavesRefused g s t (of_claim why)
read g s a t looks image claim.DiskFault = tt
read g s a t looks image claim.CloudFault = tt
read g s a t looks image claim.Memory = tt
read g s a t looks image (claim.Foreign at) = image ∙ looks.image

-- a change was refused behind both
pub redone : {S : Type 0} → (g : Ghosts S) (s a b t : S) → OnlyLooks g s a → g.image b ≡ g.image a → (T : Type 0) (why : ReplayFault) → ((at : ℕ) → IsErrOf (failed T why) (replay.Foreign at) → g.image t ≡ g.image b)
    → LeavesRefused g s t (of_replay why)
redone g s a b t looks image T replay.DiskFault kept = tt
redone g s a b t looks image T replay.Memory kept = tt
redone g s a b t looks image T (replay.Foreign at) kept = kept at refl ∙ image ∙ looks.image
