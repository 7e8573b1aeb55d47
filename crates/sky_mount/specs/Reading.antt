-- Reading arguments from left to right: the call that they belong to, or why there is none.
use Rattle.std.specs.Prelude.{ℕ, ◌==◌, List, Result, Ok, Err, if◌then◌else◌}
use Rattle.sky_base.specs.Limits.{max_mount_path_bytes}
use Rattle.sky_xdr.specs.declared.fault.XdrFault.{XdrFault}
use Rattle.sky_xdr.specs.Reading.{◌>>=◌, opaque_at, end_at}
use Rattle.sky_mount.specs.declared.args.ArgFault.{ArgFault}
use Rattle.sky_mount.specs.declared.args.ArgFault.TheVariants.{NoSuchProc, Garbage}
use Rattle.sky_mount.specs.Mount.{MountCall, Null, Mnt, Dump, Umnt, UmntAll, Export}

-- no arguments at all
unfoldable pub none_at : MountCall → List ℕ → Result MountCall XdrFault
none_at call bytes = do
  end ← end_at bytes
  Ok call

-- a path, and nothing behind it
unfoldable pub path_at : (List ℕ → MountCall) → List ℕ → Result MountCall XdrFault
path_at call bytes = do
  path ← opaque_at max_mount_path_bytes bytes
  end ← end_at path.1
  Ok (call path.0)

-- what was read, or else GARBAGE
abbrev pub or_garbage : Result MountCall XdrFault → Result MountCall ArgFault
or_garbage (Ok call) = Ok call
or_garbage (Err fault) = Err Garbage

-- the call of a procedure that has these bytes as its arguments
unfoldable pub args_at : ℕ → List ℕ → Result MountCall ArgFault
args_at procedure bytes =
    if procedure == 0 then or_garbage (none_at Null bytes)
    else (if procedure == 1 then or_garbage (path_at Mnt bytes)
    else (if procedure == 2 then or_garbage (none_at Dump bytes)
    else (if procedure == 3 then or_garbage (path_at Umnt bytes)
    else (if procedure == 4 then or_garbage (none_at UmntAll bytes)
    else (if procedure == 5 then or_garbage (none_at Export bytes)
    else Err NoSuchProc)))))
