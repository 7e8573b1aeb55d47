-- Reading arguments from left to right: a part and the bytes behind it, or the first fault.
use Rattle.std.specs.Prelude.{◌≡◌, ℕ, ◌∷◌, [], List, Option, Some, None, Result, Ok, Err, IsErr, ◌==◌, ◌||◌, ◌&&◌, nat_le, Bool, slice_get, if◌then◌else◌}
use Rattle.sky_base.specs.Limits.{max_handle_bytes}
use Rattle.sky_base.specs.declared.attr.Device.{Device}
use Rattle.sky_base.specs.declared.moment.Moment.{Moment}
use Rattle.sky_nfs.specs.declared.call.Call.{Call}
use Rattle.sky_nfs.specs.declared.call.Call.TheVariants as call
use Rattle.sky_nfs.specs.declared.call.CreateHow.{CreateHow}
use Rattle.sky_nfs.specs.declared.call.CreateHow.TheVariants.{Unchecked, Guarded, Exclusive}
use Rattle.sky_nfs.specs.declared.call.DirOpArgs.{DirOpArgs}
use Rattle.sky_nfs.specs.declared.call.MknodData.{MknodData}
use Rattle.sky_nfs.specs.declared.call.MknodData.TheVariants.{Regular, Directory, Block, Character, SymbolicLink, Socket, Pipe}
use Rattle.sky_nfs.specs.declared.call.SetAttr.{SetAttr}
use Rattle.sky_nfs.specs.declared.call.SetTime.{SetTime}
use Rattle.sky_nfs.specs.declared.call.SetTime.TheVariants.{Keep, Server, Client}
use Rattle.sky_nfs.specs.declared.call.StableHow.{StableHow}
use Rattle.sky_nfs.specs.declared.call.StableHow.TheVariants.{Unstable, DataSync, FileSync}
use Rattle.sky_xdr.specs.declared.fault.XdrFault.{XdrFault}
use Rattle.sky_xdr.specs.declared.fault.XdrFault.TheVariants.{BadEnum}
use Rattle.sky_xdr.specs.Reading.{uint_at, uhyper_at, fixed_at, opaque_at}
use Rattle.sky_xdr.specs.GrammarReading.{◌>>=◌, give, refuse, optional_at}
use Rattle.sky_args.specs.declared.fault.ArgFault.{ArgFault}
use Rattle.sky_args.specs.declared.fault.ArgFault.TheVariants as fault
use Rattle.sky_args.specs.Parts.{max_text_bytes, verifier_size}

-- ---- the parts

-- a file handle
unfoldable pub handle_at : List ℕ → Result (List ℕ × List ℕ) XdrFault
handle_at = opaque_at max_handle_bytes

-- a name, a text or data, of any length
unfoldable pub text_at : List ℕ → Result (List ℕ × List ℕ) XdrFault
text_at = opaque_at max_text_bytes

-- a verifier
unfoldable pub verifier_at : List ℕ → Result (List ℕ × List ℕ) XdrFault
verifier_at = fixed_at verifier_size

-- a name in a directory
unfoldable pub dir_op_args_at : List ℕ → Result (DirOpArgs × List ℕ) XdrFault
dir_op_args_at = do
  directory ← handle_at
  name ← text_at
  give (record { directory = directory; name = name })

-- a moment
unfoldable pub moment_at : List ℕ → Result (Moment × List ℕ) XdrFault
moment_at = do
  seconds ← uint_at
  nanos ← uint_at
  give (record { seconds = seconds; nanos = nanos })

-- a device
unfoldable pub device_at : List ℕ → Result (Device × List ℕ) XdrFault
device_at = do
  major ← uint_at
  minor ← uint_at
  give (record { major = major; minor = minor })

-- a time that the client sets
unfoldable pub client_time_at : List ℕ → Result (SetTime × List ℕ) XdrFault
client_time_at = do
  moment ← moment_at
  give (Client moment)

-- how a time is set, by the number that stands first
unfoldable pub set_time_from : ℕ → List ℕ → Result (SetTime × List ℕ) XdrFault
set_time_from n = if n == 0 then give Keep else (if n == 1 then give Server else (if n == 2 then client_time_at else refuse BadEnum))

-- how a time is set
unfoldable pub set_time_at : List ℕ → Result (SetTime × List ℕ) XdrFault
set_time_at = uint_at >>= set_time_from

-- the attributes that are set
unfoldable pub set_attr_at : List ℕ → Result (SetAttr × List ℕ) XdrFault
set_attr_at = do
  mode ← optional_at uint_at
  uid ← optional_at uint_at
  gid ← optional_at uint_at
  size ← optional_at uhyper_at
  atime ← set_time_at
  mtime ← set_time_at
  give (record { mode = mode; uid = uid; gid = gid; size = size; atime = atime; mtime = mtime })

-- the ctime that is asked for, if one is
unfoldable pub guard_at : List ℕ → Result (Option Moment × List ℕ) XdrFault
guard_at = optional_at moment_at

-- how stable data is to be, by its number
unfoldable pub stable_how_from : ℕ → List ℕ → Result (StableHow × List ℕ) XdrFault
stable_how_from n = if n == 0 then give Unstable else (if n == 1 then give DataSync else (if n == 2 then give FileSync else refuse BadEnum))

-- how stable data is to be
unfoldable pub stable_how_at : List ℕ → Result (StableHow × List ℕ) XdrFault
stable_how_at = uint_at >>= stable_how_from

-- the attributes of a file that is made without a check
unfoldable pub unchecked_at : List ℕ → Result (CreateHow × List ℕ) XdrFault
unchecked_at = do
  set ← set_attr_at
  give (Unchecked set)

-- those of a file that is made where the name is free
unfoldable pub guarded_at : List ℕ → Result (CreateHow × List ℕ) XdrFault
guarded_at = do
  set ← set_attr_at
  give (Guarded set)

-- the verifier under which a file is made
unfoldable pub exclusive_at : List ℕ → Result (CreateHow × List ℕ) XdrFault
exclusive_at = do
  verifier ← verifier_at
  give (Exclusive verifier)

-- how a file is made, by the number that stands first
unfoldable pub create_how_from : ℕ → List ℕ → Result (CreateHow × List ℕ) XdrFault
create_how_from n = if n == 0 then unchecked_at else (if n == 1 then guarded_at else (if n == 2 then exclusive_at else refuse BadEnum))

-- how a file is made
unfoldable pub create_how_at : List ℕ → Result (CreateHow × List ℕ) XdrFault
create_how_at = uint_at >>= create_how_from

-- what a block device is
unfoldable pub block_at : List ℕ → Result (MknodData × List ℕ) XdrFault
block_at = do
  set ← set_attr_at
  device ← device_at
  give (Block set device)

-- what a character device is
unfoldable pub character_at : List ℕ → Result (MknodData × List ℕ) XdrFault
character_at = do
  set ← set_attr_at
  device ← device_at
  give (Character set device)

-- what a socket is
unfoldable pub socket_at : List ℕ → Result (MknodData × List ℕ) XdrFault
socket_at = do
  set ← set_attr_at
  give (Socket set)

-- what a named pipe is
unfoldable pub pipe_at : List ℕ → Result (MknodData × List ℕ) XdrFault
pipe_at = do
  set ← set_attr_at
  give (Pipe set)

-- what a special object is, by its kind
unfoldable pub mknod_data_from : ℕ → List ℕ → Result (MknodData × List ℕ) XdrFault
mknod_data_from n =
    if n == 1 then give Regular
    else (if n == 2 then give Directory
    else (if n == 3 then block_at
    else (if n == 4 then character_at
    else (if n == 5 then give SymbolicLink
    else (if n == 6 then socket_at
    else (if n == 7 then pipe_at
    else refuse BadEnum))))))

-- what a special object is
unfoldable pub mknod_data_at : List ℕ → Result (MknodData × List ℕ) XdrFault
mknod_data_at = uint_at >>= mknod_data_from

-- ---- the arguments of each procedure

-- NULL
unfoldable pub null_at : List ℕ → Result (Call × List ℕ) XdrFault
null_at = give call.Null

-- GETATTR
unfoldable pub get_attr_at : List ℕ → Result (Call × List ℕ) XdrFault
get_attr_at = do
  object ← handle_at
  give (call.GetAttr object)

-- SETATTR
unfoldable pub set_attr_call_at : List ℕ → Result (Call × List ℕ) XdrFault
set_attr_call_at = do
  object ← handle_at
  set ← set_attr_at
  guard ← guard_at
  give (call.SetAttr object set guard)

-- LOOKUP
unfoldable pub lookup_at : List ℕ → Result (Call × List ℕ) XdrFault
lookup_at = do
  at ← dir_op_args_at
  give (call.Lookup at)

-- ACCESS
unfoldable pub access_at : List ℕ → Result (Call × List ℕ) XdrFault
access_at = do
  object ← handle_at
  rights ← uint_at
  give (call.Access object rights)

-- READLINK
unfoldable pub read_link_at : List ℕ → Result (Call × List ℕ) XdrFault
read_link_at = do
  link ← handle_at
  give (call.ReadLink link)

-- READ
unfoldable pub read_at : List ℕ → Result (Call × List ℕ) XdrFault
read_at = do
  file ← handle_at
  offset ← uhyper_at
  count ← uint_at
  give (call.Read file offset count)

-- WRITE
unfoldable pub write_at : List ℕ → Result (Call × List ℕ) XdrFault
write_at = do
  file ← handle_at
  offset ← uhyper_at
  count ← uint_at
  how ← stable_how_at
  piece ← text_at
  give (call.Write file offset count how piece)

-- CREATE
unfoldable pub create_at : List ℕ → Result (Call × List ℕ) XdrFault
create_at = do
  at ← dir_op_args_at
  how ← create_how_at
  give (call.Create at how)

-- MKDIR
unfoldable pub mkdir_at : List ℕ → Result (Call × List ℕ) XdrFault
mkdir_at = do
  at ← dir_op_args_at
  set ← set_attr_at
  give (call.Mkdir at set)

-- SYMLINK
unfoldable pub symlink_at : List ℕ → Result (Call × List ℕ) XdrFault
symlink_at = do
  at ← dir_op_args_at
  set ← set_attr_at
  text ← text_at
  give (call.Symlink at set text)

-- MKNOD
unfoldable pub mknod_at : List ℕ → Result (Call × List ℕ) XdrFault
mknod_at = do
  at ← dir_op_args_at
  what ← mknod_data_at
  give (call.Mknod at what)

-- REMOVE
unfoldable pub remove_at : List ℕ → Result (Call × List ℕ) XdrFault
remove_at = do
  at ← dir_op_args_at
  give (call.Remove at)

-- RMDIR
unfoldable pub rmdir_at : List ℕ → Result (Call × List ℕ) XdrFault
rmdir_at = do
  at ← dir_op_args_at
  give (call.Rmdir at)

-- RENAME
unfoldable pub rename_at : List ℕ → Result (Call × List ℕ) XdrFault
rename_at = do
  from ← dir_op_args_at
  to ← dir_op_args_at
  give (call.Rename from to)

-- LINK
unfoldable pub link_at : List ℕ → Result (Call × List ℕ) XdrFault
link_at = do
  file ← handle_at
  at ← dir_op_args_at
  give (call.Link file at)

-- READDIR
unfoldable pub read_dir_at : List ℕ → Result (Call × List ℕ) XdrFault
read_dir_at = do
  directory ← handle_at
  cookie ← uhyper_at
  verifier ← verifier_at
  count ← uint_at
  give (call.ReadDir directory cookie verifier count)

-- READDIRPLUS
unfoldable pub read_dir_plus_at : List ℕ → Result (Call × List ℕ) XdrFault
read_dir_plus_at = do
  directory ← handle_at
  cookie ← uhyper_at
  verifier ← verifier_at
  dircount ← uint_at
  maxcount ← uint_at
  give (call.ReadDirPlus directory cookie verifier dircount maxcount)

-- FSSTAT
unfoldable pub fs_stat_at : List ℕ → Result (Call × List ℕ) XdrFault
fs_stat_at = do
  root ← handle_at
  give (call.FsStat root)

-- FSINFO
unfoldable pub fs_info_at : List ℕ → Result (Call × List ℕ) XdrFault
fs_info_at = do
  root ← handle_at
  give (call.FsInfo root)

-- PATHCONF
unfoldable pub path_conf_at : List ℕ → Result (Call × List ℕ) XdrFault
path_conf_at = do
  object ← handle_at
  give (call.PathConf object)

-- COMMIT
unfoldable pub commit_at : List ℕ → Result (Call × List ℕ) XdrFault
commit_at = do
  file ← handle_at
  offset ← uhyper_at
  count ← uint_at
  give (call.Commit file offset count)

-- the reading functions of the procedures, in the order of their numbers
abbrev pub readers : List (List ℕ → Result (Call × List ℕ) XdrFault)
readers =
    null_at ∷ get_attr_at ∷ set_attr_call_at ∷ lookup_at ∷ access_at ∷ read_link_at ∷
    read_at ∷ write_at ∷ create_at ∷ mkdir_at ∷ symlink_at ∷ mknod_at ∷
    remove_at ∷ rmdir_at ∷ rename_at ∷ link_at ∷ read_dir_at ∷ read_dir_plus_at ∷
    fs_stat_at ∷ fs_info_at ∷ path_conf_at ∷ commit_at ∷ []

-- why no call has given bytes as its arguments
pub data ArgRefusal : Type 0 where
  -- there is no procedure of this number
  NoSuchProc : ArgRefusal
  -- the bytes are not the arguments of the procedure
  Garbage : ArgRefusal

-- a call that was read, if no byte is left behind it
abbrev pub whole : Result (Call × List ℕ) XdrFault → Result Call ArgRefusal
whole (Ok (c, [])) = Ok c
whole (Ok (c, b ∷ bs)) = Err Garbage
whole (Err e) = Err Garbage

-- the same by the procedure's reading function, if there is the procedure
abbrev pub args_with : Option (List ℕ → Result (Call × List ℕ) XdrFault) → List ℕ → Result Call ArgRefusal
args_with None bytes = Err NoSuchProc
args_with (Some reader) bytes = whole (reader bytes)

-- the call of a procedure that has these bytes as its arguments
unfoldable pub args_at : ℕ → List ℕ → Result Call ArgRefusal
args_at procedure bytes = args_with (slice_get readers procedure) bytes

-- ---- what the code returns

-- what a call returned is what reading gives, and the reader now stands behind it; or there was no memory
abbrev pub ReadsOrNoMemory : {X : Type 0} → Result X ArgFault → List ℕ → Result (X × List ℕ) XdrFault → Type 0
ReadsOrNoMemory (Ok x) now read = read ≡ Ok (x, now)
ReadsOrNoMemory (Err fault.Garbage) now read = IsErr read
ReadsOrNoMemory (Err fault.Memory) now read = Unit {0}
ReadsOrNoMemory (Err fault.NoSuchProc) now read = ⊥

-- the same of a procedure's reading function, if there is the procedure
abbrev pub ReadsProcedure : Option (List ℕ → Result (Call × List ℕ) XdrFault) → Result Call ArgFault → (old now : List ℕ) → Type 0
ReadsProcedure None result old now = result ≡ Err fault.NoSuchProc
ReadsProcedure (Some reader) result old now = ReadsOrNoMemory result now (reader old)

-- what a call returned is this; or there was no memory
abbrev pub GivesOrNoMemory : Result Call ArgFault → Result Call ArgRefusal → Type 0
GivesOrNoMemory (Ok c) read = read ≡ Ok c
GivesOrNoMemory (Err fault.NoSuchProc) read = read ≡ Err NoSuchProc
GivesOrNoMemory (Err fault.Garbage) read = read ≡ Err Garbage
GivesOrNoMemory (Err fault.Memory) read = Unit {0}

-- whether a procedure's arguments have a name, a text or data, for which memory is taken: LOOKUP, and from WRITE to LINK
abbrev pub carries_text : ℕ → Bool
carries_text procedure = procedure == 3 || nat_le 7 procedure && nat_le procedure 15
