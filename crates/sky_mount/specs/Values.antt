-- What the values of the program stand for.
use Rattle.sky_mount.specs.declared.args.MountCall.{MountCall as CallValue}
use Rattle.sky_mount.specs.declared.args.MountCall.TheVariants as value
use Rattle.sky_mount.specs.Mount.{MountCall, Null, Mnt, Dump, Umnt, UmntAll, Export}

-- a call, wherever its path lies
abbrev pub call_of : CallValue → MountCall
call_of value.Null = Null
call_of (value.Mnt path) = Mnt path.now
call_of value.Dump = Dump
call_of (value.Umnt path) = Umnt path.now
call_of value.UmntAll = UmntAll
call_of value.Export = Export
