-- Which faults of an opening the faults of its steps are.
use Rattle.std.specs.Prelude.{Result, Ok, Err}
use Rattle.sky_journal.specs.declared.fault.JournalFault.{JournalFault}
use Rattle.sky_journal.specs.declared.fault.JournalFault.TheVariants as journal
use Rattle.sky_journal.specs.declared.fault.NextFault.{NextFault}
use Rattle.sky_journal.specs.declared.fault.NextFault.TheVariants as next
use Rattle.sky_outside.specs.declared.site.PutFault.{PutFault}
use Rattle.sky_outside.specs.declared.site.PutFault.TheVariants as cloud
use Rattle.sky_recover.specs.declared.fault.ChangeFault.{ChangeFault}
use Rattle.sky_recover.specs.declared.fault.ChangeFault.TheVariants as change
use Rattle.sky_recover.specs.declared.fault.ClaimFault.{ClaimFault}
use Rattle.sky_recover.specs.declared.fault.ClaimFault.TheVariants as claim
use Rattle.sky_recover.specs.declared.fault.ListFault.{ListFault}
use Rattle.sky_recover.specs.declared.fault.ListFault.TheVariants as list
use Rattle.sky_recover.specs.declared.fault.OpenFault.{OpenFault}
use Rattle.sky_recover.specs.declared.fault.OpenFault.TheVariants as fault
use Rattle.sky_recover.specs.declared.fault.ReplayFault.{ReplayFault}
use Rattle.sky_recover.specs.declared.fault.ReplayFault.TheVariants as replay

-- ---- of the opening

-- where the cloud's list gave no epoch
abbrev pub of_list : ListFault → OpenFault
of_list list.CloudFault = fault.CloudFault
of_list list.Memory = fault.Memory
of_list (list.Lost what) = fault.Lost what
of_list list.Worn = fault.Worn

-- where the journal was not read, or the epoch not claimed
abbrev pub of_claim : ClaimFault → OpenFault
of_claim claim.DiskFault = fault.DiskFault
of_claim claim.CloudFault = fault.CloudFault
of_claim claim.Memory = fault.Memory
of_claim (claim.Foreign at) = fault.Foreign at

-- where the changes were not done again, or the areas not made ready
abbrev pub of_replay : ReplayFault → OpenFault
of_replay replay.DiskFault = fault.DiskFault
of_replay replay.Memory = fault.Memory
of_replay (replay.Foreign at) = fault.Foreign at

-- how an opening ends that got this from the cloud's list
abbrev pub of_listing : {T : Type 0} → Result T ListFault → Result T OpenFault
of_listing (Ok x) = Ok x
of_listing (Err why) = Err (of_list why)

-- ---- of the cloud's list

-- a call of the cloud failed, or there was no memory
abbrev pub of_call : PutFault → ListFault
of_call cloud.Failed = list.CloudFault
of_call cloud.Memory = list.Memory

-- ---- of the journal and the epoch

-- the journal was not read
abbrev pub of_journal : JournalFault → ClaimFault
of_journal journal.DiskFault = claim.DiskFault
of_journal journal.Memory = claim.Memory
of_journal (journal.Foreign at) = claim.Foreign at

-- the boot object was not put
abbrev pub of_put : PutFault → ClaimFault
of_put cloud.Failed = claim.CloudFault
of_put cloud.Memory = claim.Memory

-- ---- of the changes

-- the disk failed
abbrev pub disk_failed : ReplayFault
disk_failed = replay.DiskFault

-- there was no memory
abbrev pub no_memory : ReplayFault
no_memory = replay.Memory

-- the next entry was not read
abbrev pub of_next : NextFault → ReplayFault
of_next next.DiskFault = replay.DiskFault
of_next next.Memory = replay.Memory

-- its change was not done again
abbrev pub of_change : ChangeFault → ReplayFault
of_change change.Memory = replay.Memory
of_change (change.Foreign at) = replay.Foreign at
