-- The arguments of the 22 procedures (RFC 1813 section 3.3): which bytes are the arguments of a call, and how they are written.
use Rattle.std.specs.Prelude.{◌≡◌, ℕ, List, [], ◌++◌}
use Rattle.sky_nfs.specs.declared.call.Call.{Call}
use Rattle.sky_nfs.specs.declared.call.Call.TheVariants.{Null, GetAttr, SetAttr, Lookup, Access, ReadLink, Read, Write, Create, Mkdir, Symlink, Mknod, Remove, Rmdir, Rename, Link, ReadDir, ReadDirPlus, FsStat, FsInfo, PathConf, Commit}
use Rattle.sky_xdr.specs.Encoding.{uint, uhyper, fixed, opaque}
use Rattle.sky_xdr.specs.Grammar.{◌and_then◌, IsUint, IsUhyper}
use Rattle.sky_args.specs.Parts.{IsHandle, IsText, IsVerifier, IsDirOpArgs, IsSetAttr, IsGuard, IsStableHow, IsCreateHow, IsMknodData, dir_op_args_bytes, set_attr_bytes, guard_bytes, stable_how_bytes, create_how_bytes, mknod_bytes}

-- bytes are the arguments of a call
abbrev pub IsArgs : List ℕ → Call → Type 0
IsArgs bytes Null = bytes ≡ []
IsArgs bytes (GetAttr object) = IsHandle object bytes
IsArgs bytes (SetAttr object set guard) = (IsHandle object and_then IsSetAttr set and_then IsGuard guard) bytes
IsArgs bytes (Lookup at) = IsDirOpArgs at bytes
IsArgs bytes (Access object rights) = (IsHandle object and_then IsUint rights) bytes
IsArgs bytes (ReadLink link) = IsHandle link bytes
IsArgs bytes (Read file offset count) = (IsHandle file and_then IsUhyper offset and_then IsUint count) bytes
IsArgs bytes (Write file offset count how piece) = (IsHandle file and_then IsUhyper offset and_then IsUint count and_then IsStableHow how and_then IsText piece) bytes
IsArgs bytes (Create at how) = (IsDirOpArgs at and_then IsCreateHow how) bytes
IsArgs bytes (Mkdir at set) = (IsDirOpArgs at and_then IsSetAttr set) bytes
IsArgs bytes (Symlink at set text) = (IsDirOpArgs at and_then IsSetAttr set and_then IsText text) bytes
IsArgs bytes (Mknod at what) = (IsDirOpArgs at and_then IsMknodData what) bytes
IsArgs bytes (Remove at) = IsDirOpArgs at bytes
IsArgs bytes (Rmdir at) = IsDirOpArgs at bytes
IsArgs bytes (Rename from to) = (IsDirOpArgs from and_then IsDirOpArgs to) bytes
IsArgs bytes (Link file at) = (IsHandle file and_then IsDirOpArgs at) bytes
IsArgs bytes (ReadDir directory cookie verifier count) = (IsHandle directory and_then IsUhyper cookie and_then IsVerifier verifier and_then IsUint count) bytes
IsArgs bytes (ReadDirPlus directory cookie verifier dircount maxcount) = (IsHandle directory and_then IsUhyper cookie and_then IsVerifier verifier and_then IsUint dircount and_then IsUint maxcount) bytes
IsArgs bytes (FsStat root) = IsHandle root bytes
IsArgs bytes (FsInfo root) = IsHandle root bytes
IsArgs bytes (PathConf object) = IsHandle object bytes
IsArgs bytes (Commit file offset count) = (IsHandle file and_then IsUhyper offset and_then IsUint count) bytes

-- the arguments of a call as they are written, with zeros as the padding
abbrev pub args_bytes : Call → List ℕ
args_bytes Null = []
args_bytes (GetAttr object) = opaque object
args_bytes (SetAttr object set guard) = opaque object ++ set_attr_bytes set ++ guard_bytes guard
args_bytes (Lookup at) = dir_op_args_bytes at
args_bytes (Access object rights) = opaque object ++ uint rights
args_bytes (ReadLink link) = opaque link
args_bytes (Read file offset count) = opaque file ++ uhyper offset ++ uint count
args_bytes (Write file offset count how piece) = opaque file ++ uhyper offset ++ uint count ++ stable_how_bytes how ++ opaque piece
args_bytes (Create at how) = dir_op_args_bytes at ++ create_how_bytes how
args_bytes (Mkdir at set) = dir_op_args_bytes at ++ set_attr_bytes set
args_bytes (Symlink at set text) = dir_op_args_bytes at ++ set_attr_bytes set ++ opaque text
args_bytes (Mknod at what) = dir_op_args_bytes at ++ mknod_bytes what
args_bytes (Remove at) = dir_op_args_bytes at
args_bytes (Rmdir at) = dir_op_args_bytes at
args_bytes (Rename from to) = dir_op_args_bytes from ++ dir_op_args_bytes to
args_bytes (Link file at) = opaque file ++ dir_op_args_bytes at
args_bytes (ReadDir directory cookie verifier count) = opaque directory ++ uhyper cookie ++ fixed verifier ++ uint count
args_bytes (ReadDirPlus directory cookie verifier dircount maxcount) = opaque directory ++ uhyper cookie ++ fixed verifier ++ uint dircount ++ uint maxcount
args_bytes (FsStat root) = opaque root
args_bytes (FsInfo root) = opaque root
args_bytes (PathConf object) = opaque object
args_bytes (Commit file offset count) = opaque file ++ uhyper offset ++ uint count
