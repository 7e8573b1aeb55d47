-- The parts that arguments share (RFC 1813 section 2.6): which bytes are a part, and how
-- a part is written, with zeros as the padding. A handle, a text and a verifier are written as `opaque` and `fixed` say.
use Rattle.std.specs.Prelude.{ℕ, ◌-◌, ◌^◌, List, ◌++◌, Option}
use Rattle.sky_base.specs.Limits.{max_handle_bytes}
use Rattle.sky_base.specs.declared.attr.Device.{Device}
use Rattle.sky_base.specs.declared.moment.Moment.{Moment}
use Rattle.sky_nfs.specs.declared.call.CreateHow.{CreateHow}
use Rattle.sky_nfs.specs.declared.call.CreateHow.TheVariants.{Unchecked, Guarded, Exclusive}
use Rattle.sky_nfs.specs.declared.call.DirOpArgs.{DirOpArgs}
use Rattle.sky_nfs.specs.declared.call.MknodData.{MknodData}
use Rattle.sky_nfs.specs.declared.call.MknodData.TheVariants.{Regular, Directory, Block, Character, SymbolicLink, Socket, Pipe}
use Rattle.sky_nfs.specs.declared.call.SetAttr.{SetAttr}
use Rattle.sky_nfs.specs.declared.call.SetTime.{SetTime}
use Rattle.sky_nfs.specs.declared.call.SetTime.TheVariants.{Keep, Server, Client}
use Rattle.sky_nfs.specs.declared.call.StableHow.{StableHow}
use Rattle.sky_nfs.specs.declared.call.StableHow.TheVariants.{Unstable, DataSync, FileSync}
use Rattle.sky_xdr.specs.Encoding.{uint, uhyper, fixed, opaque, optional}
use Rattle.sky_xdr.specs.Grammar.{◌and_then◌, IsUint, IsUhyper, IsFixedOf, IsOpaqueWithin, IsOptional}

-- the most bytes of a name, a text or data: as many as a length can say
abbrev pub max_text_bytes : ℕ
max_text_bytes = 2 ^ 32 - 1

-- the bytes of a verifier (NFS3_CREATEVERFSIZE, NFS3_COOKIEVERFSIZE, section 2.4)
abbrev pub verifier_size : ℕ
verifier_size = 8

-- a file handle (nfs_fh3)
abbrev pub IsHandle : List ℕ → List ℕ → Type 0
IsHandle = IsOpaqueWithin max_handle_bytes

-- a name of a directory's entry (filename3), the text of a symbolic link (nfspath3), or data
abbrev pub IsText : List ℕ → List ℕ → Type 0
IsText = IsOpaqueWithin max_text_bytes

-- a verifier (createverf3, cookieverf3)
abbrev pub IsVerifier : List ℕ → List ℕ → Type 0
IsVerifier = IsFixedOf verifier_size

-- a name in a directory (diropargs3)
abbrev pub IsDirOpArgs : DirOpArgs → List ℕ → Type 0
IsDirOpArgs at = IsHandle at.directory and_then IsText at.name

-- as it is written
unfoldable pub dir_op_args_bytes : DirOpArgs → List ℕ
dir_op_args_bytes at = opaque at.directory ++ opaque at.name

-- a moment (nfstime3)
abbrev pub IsMoment : Moment → List ℕ → Type 0
IsMoment m = IsUint m.seconds and_then IsUint m.nanos

-- as it is written
unfoldable pub moment_bytes : Moment → List ℕ
moment_bytes m = uint m.seconds ++ uint m.nanos

-- a device (specdata3)
abbrev pub IsDevice : Device → List ℕ → Type 0
IsDevice d = IsUint d.major and_then IsUint d.minor

-- as it is written
unfoldable pub device_bytes : Device → List ℕ
device_bytes d = uint d.major ++ uint d.minor

-- how a time is set (set_atime, set_mtime)
abbrev pub IsSetTime : SetTime → List ℕ → Type 0
IsSetTime Keep = IsUint 0
IsSetTime Server = IsUint 1
IsSetTime (Client m) = IsUint 2 and_then IsMoment m

-- as it is written
unfoldable pub set_time_bytes : SetTime → List ℕ
set_time_bytes Keep = uint 0
set_time_bytes Server = uint 1
set_time_bytes (Client m) = uint 2 ++ moment_bytes m

-- the attributes that are set (sattr3)
abbrev pub IsSetAttr : SetAttr → List ℕ → Type 0
IsSetAttr a =
    IsOptional IsUint a.mode and_then IsOptional IsUint a.uid and_then IsOptional IsUint a.gid and_then IsOptional IsUhyper a.size
    and_then IsSetTime a.atime and_then IsSetTime a.mtime

-- as it is written
unfoldable pub set_attr_bytes : SetAttr → List ℕ
set_attr_bytes a =
    optional uint a.mode ++ optional uint a.uid ++ optional uint a.gid ++ optional uhyper a.size
    ++ set_time_bytes a.atime ++ set_time_bytes a.mtime

-- the ctime that an object has to have for its attributes to be set (sattrguard3, section 3.3.2)
abbrev pub IsGuard : Option Moment → List ℕ → Type 0
IsGuard = IsOptional IsMoment

-- as it is written
unfoldable pub guard_bytes : Option Moment → List ℕ
guard_bytes guard = optional moment_bytes guard

-- the number that says how stable data is to be (stable_how, section 3.3.7)
abbrev pub stable_number : StableHow → ℕ
stable_number Unstable = 0
stable_number DataSync = 1
stable_number FileSync = 2

-- how stable data is to be: that number
abbrev pub IsStableHow : StableHow → List ℕ → Type 0
IsStableHow how = IsUint (stable_number how)

-- as it is written
unfoldable pub stable_how_bytes : StableHow → List ℕ
stable_how_bytes how = uint (stable_number how)

-- how a file is made (createhow3, section 3.3.8)
abbrev pub IsCreateHow : CreateHow → List ℕ → Type 0
IsCreateHow (Unchecked a) = IsUint 0 and_then IsSetAttr a
IsCreateHow (Guarded a) = IsUint 1 and_then IsSetAttr a
IsCreateHow (Exclusive v) = IsUint 2 and_then IsVerifier v

-- as it is written
unfoldable pub create_how_bytes : CreateHow → List ℕ
create_how_bytes (Unchecked a) = uint 0 ++ set_attr_bytes a
create_how_bytes (Guarded a) = uint 1 ++ set_attr_bytes a
create_how_bytes (Exclusive v) = uint 2 ++ fixed v

-- what a special object is: its kind, and what that kind carries (mknoddata3, section 3.3.11)
abbrev pub IsMknodData : MknodData → List ℕ → Type 0
IsMknodData Regular = IsUint 1
IsMknodData Directory = IsUint 2
IsMknodData (Block a d) = IsUint 3 and_then IsSetAttr a and_then IsDevice d
IsMknodData (Character a d) = IsUint 4 and_then IsSetAttr a and_then IsDevice d
IsMknodData SymbolicLink = IsUint 5
IsMknodData (Socket a) = IsUint 6 and_then IsSetAttr a
IsMknodData (Pipe a) = IsUint 7 and_then IsSetAttr a

-- as it is written
unfoldable pub mknod_bytes : MknodData → List ℕ
mknod_bytes Regular = uint 1
mknod_bytes Directory = uint 2
mknod_bytes (Block a d) = uint 3 ++ set_attr_bytes a ++ device_bytes d
mknod_bytes (Character a d) = uint 4 ++ set_attr_bytes a ++ device_bytes d
mknod_bytes SymbolicLink = uint 5
mknod_bytes (Socket a) = uint 6 ++ set_attr_bytes a
mknod_bytes (Pipe a) = uint 7 ++ set_attr_bytes a
