-- Why no entry was read, where its arguments could not be read.
use Rattle.sky_args.specs.declared.fault.ArgFault.{ArgFault}
use Rattle.sky_args.specs.declared.fault.ArgFault.TheVariants as argument
use Rattle.sky_entry.specs.declared.fault.EntryFault.{EntryFault}
use Rattle.sky_entry.specs.declared.fault.EntryFault.TheVariants.{Bad, Memory}

-- want of memory stays what it is, and all else is no entry
abbrev pub fault_of : ArgFault → EntryFault
fault_of argument.NoSuchProc = Bad
fault_of argument.Garbage = Bad
fault_of argument.Memory = Memory
