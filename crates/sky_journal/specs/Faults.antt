-- The faults of the journal's calls.
use Rattle.std.specs.Prelude.{Bool, true, false, Result, Ok, Err}
use Rattle.sky_journal.specs.declared.fault.JournalFault.{JournalFault}
use Rattle.sky_journal.specs.declared.fault.JournalFault.TheVariants.{DiskFault, Memory, Foreign}
use Rattle.sky_journal.specs.declared.fault.NextFault.{NextFault}
use Rattle.sky_journal.specs.declared.fault.NextFault.TheVariants.{DiskFault as NextDiskFault, Memory as NextMemory}

-- the disk failed as an entry was read
abbrev pub disk_failed : NextFault
disk_failed = NextDiskFault

-- there was no memory for it
abbrev pub no_memory : NextFault
no_memory = NextMemory

-- the same fault of the reading of a journal
abbrev pub fault_of : NextFault → JournalFault
fault_of NextDiskFault = DiskFault
fault_of NextMemory = Memory

-- whether the disk failed
abbrev pub is_disk_fault : {T : Type 0} → Result T JournalFault → Bool
is_disk_fault (Ok _) = false
is_disk_fault (Err DiskFault) = true
is_disk_fault (Err Memory) = false
is_disk_fault (Err (Foreign at)) = false

-- whether it failed as an entry was read
abbrev pub is_disk_failure : {T : Type 0} → Result T NextFault → Bool
is_disk_failure (Ok _) = false
is_disk_failure (Err NextDiskFault) = true
is_disk_failure (Err NextMemory) = false
