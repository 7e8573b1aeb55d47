-- What bytes that are arguments say of the call: its fields are of their types, and it is written in as many bytes.
--   accepted_fits       the fields of a call that has arguments are of their types
--   accepted_long       its written arguments are as long as any that are accepted
use Rattle.std.proofs.Common.{◌≡◌, ℕ, true, false, Option, Some, None, List, length, IfSome, ap}
use Rattle.sky_base.specs.declared.attr.Device.{Device}
use Rattle.sky_base.specs.declared.moment.Moment.{Moment}
use Rattle.sky_nfs.specs.declared.call.Call.{Call}
use Rattle.sky_nfs.specs.declared.call.Call.TheVariants.{Null, GetAttr, SetAttr, Lookup, Access, ReadLink, Read, Write, Create, Mkdir, Symlink, Mknod, Remove, Rmdir, Rename, Link, ReadDir, ReadDirPlus, FsStat, FsInfo, PathConf, Commit}
use Rattle.sky_nfs.specs.declared.call.CreateHow.{CreateHow}
use Rattle.sky_nfs.specs.declared.call.CreateHow.TheVariants.{Unchecked, Guarded, Exclusive}
use Rattle.sky_nfs.specs.declared.call.DirOpArgs.{DirOpArgs}
use Rattle.sky_nfs.specs.declared.call.MknodData.{MknodData}
use Rattle.sky_nfs.specs.declared.call.MknodData.TheVariants.{Regular, Directory, Block, Character, SymbolicLink, Socket, Pipe}
use Rattle.sky_nfs.specs.declared.call.SetAttr as attributes
use Rattle.sky_nfs.specs.declared.call.SetTime.{SetTime}
use Rattle.sky_nfs.specs.declared.call.SetTime.TheVariants.{Keep, Server, Client}
use Rattle.sky_nfs.specs.declared.call.StableHow.{StableHow}
use Rattle.sky_xdr.specs.Encoding.{uint, uhyper, fixed, opaque, optional}
use Rattle.sky_xdr.specs.Grammar.{IsUint, IsUhyper, IsOptional}
use Rattle.sky_xdr.proofs.Grammars.{LongAs, long_then, long_3, long_4, long_5, long_6, uint_long, uhyper_long, bool_long, opaque_long, fixed_long}
use Rattle.sky_args.specs.Parts.{IsHandle, IsText, IsVerifier, IsDirOpArgs, IsMoment, IsDevice, IsSetTime, IsSetAttr, IsGuard, IsStableHow, IsCreateHow, IsMknodData, dir_op_args_bytes, moment_bytes, device_bytes, set_time_bytes, set_attr_bytes, guard_bytes, stable_number, stable_how_bytes, create_how_bytes, mknod_bytes}
use Rattle.sky_args.specs.Args.{IsArgs, args_bytes}
use Rattle.sky_args.specs.Sizes.{FitsUint, FitsUhyper, FitsDirOpArgs, FitsMoment, FitsDevice, FitsSetTime, FitsSetAttr, FitsCreateHow, FitsMknodData, FitsTypes}

-- ---- the fields are of their types

dir_op_args_fits : (at : DirOpArgs) (bytes : List ℕ) → IsDirOpArgs at bytes → FitsDirOpArgs at
dir_op_args_fits at bytes is = (is.is_first.1, is.is_second.1)

moment_fits : (m : Moment) (bytes : List ℕ) → IsMoment m bytes → FitsMoment m
moment_fits m bytes is = (is.is_first.1, is.is_second.1)

device_fits : (d : Device) (bytes : List ℕ) → IsDevice d bytes → FitsDevice d
device_fits d bytes is = (is.is_first.1, is.is_second.1)

optional_fits : {A : Type 0} (Is : A → List ℕ → Type 0) (Fits : A → Type 0) → ((x : A) (bytes : List ℕ) → Is x bytes → Fits x)
    → (value : Option A) (bytes : List ℕ) → IsOptional Is value bytes → IfSome value Fits
optional_fits Is Fits fits None bytes is = tt
optional_fits Is Fits fits (Some x) bytes is = fits x is.second is.is_second

uint_fits : (n : ℕ) (bytes : List ℕ) → IsUint n bytes → FitsUint n
uint_fits n bytes is = is.1

uhyper_fits : (n : ℕ) (bytes : List ℕ) → IsUhyper n bytes → FitsUhyper n
uhyper_fits n bytes is = is.1

set_time_fits : (t : SetTime) (bytes : List ℕ) → IsSetTime t bytes → FitsSetTime t
set_time_fits Keep bytes is = tt
set_time_fits Server bytes is = tt
set_time_fits (Client m) bytes is = moment_fits m is.second is.is_second

set_attr_fits : (a : attributes.SetAttr) (bytes : List ℕ) → IsSetAttr a bytes → FitsSetAttr a
set_attr_fits a bytes is =
    let uid = is.is_second in
    let gid = uid.is_second in
    let size = gid.is_second in
    let times = size.is_second in
    record {
      mode = optional_fits IsUint FitsUint uint_fits a.mode is.first is.is_first;
      uid = optional_fits IsUint FitsUint uint_fits a.uid uid.first uid.is_first;
      gid = optional_fits IsUint FitsUint uint_fits a.gid gid.first gid.is_first;
      size = optional_fits IsUhyper FitsUhyper uhyper_fits a.size size.first size.is_first;
      atime = set_time_fits a.atime times.first times.is_first;
      mtime = set_time_fits a.mtime times.second times.is_second;
    }

guard_fits : (guard : Option Moment) (bytes : List ℕ) → IsGuard guard bytes → IfSome guard FitsMoment
guard_fits guard bytes is = optional_fits IsMoment FitsMoment moment_fits guard bytes is

create_how_fits : (how : CreateHow) (bytes : List ℕ) → IsCreateHow how bytes → FitsCreateHow how
create_how_fits (Unchecked a) bytes is = set_attr_fits a is.second is.is_second
create_how_fits (Guarded a) bytes is = set_attr_fits a is.second is.is_second
create_how_fits (Exclusive v) bytes is = is.is_second.1

mknod_fits : (what : MknodData) (bytes : List ℕ) → IsMknodData what bytes → FitsMknodData what
mknod_fits Regular bytes is = tt
mknod_fits Directory bytes is = tt
mknod_fits (Block a d) bytes is = (set_attr_fits a is.is_second.first is.is_second.is_first, device_fits d is.is_second.second is.is_second.is_second)
mknod_fits (Character a d) bytes is = (set_attr_fits a is.is_second.first is.is_second.is_first, device_fits d is.is_second.second is.is_second.is_second)
mknod_fits SymbolicLink bytes is = tt
mknod_fits (Socket a) bytes is = set_attr_fits a is.second is.is_second
mknod_fits (Pipe a) bytes is = set_attr_fits a is.second is.is_second

pub accepted_fits : (bytes : List ℕ) (call : Call) → IsArgs bytes call → FitsTypes call
accepted_fits bytes Null is = tt
accepted_fits bytes (GetAttr object) is = is.1
accepted_fits bytes (SetAttr object set guard) is = (is.is_first.1, set_attr_fits set is.is_second.first is.is_second.is_first, guard_fits guard is.is_second.second is.is_second.is_second)
accepted_fits bytes (Lookup at) is = dir_op_args_fits at bytes is
accepted_fits bytes (Access object rights) is = (is.is_first.1, is.is_second.1)
accepted_fits bytes (ReadLink link) is = is.1
accepted_fits bytes (Read file offset count) is = (is.is_first.1, is.is_second.is_first.1, is.is_second.is_second.1)
accepted_fits bytes (Write file offset count how piece) is = (is.is_first.1, is.is_second.is_first.1, is.is_second.is_second.is_first.1, is.is_second.is_second.is_second.is_second.1)
accepted_fits bytes (Create at how) is = (dir_op_args_fits at is.first is.is_first, create_how_fits how is.second is.is_second)
accepted_fits bytes (Mkdir at set) is = (dir_op_args_fits at is.first is.is_first, set_attr_fits set is.second is.is_second)
accepted_fits bytes (Symlink at set text) is = (dir_op_args_fits at is.first is.is_first, set_attr_fits set is.is_second.first is.is_second.is_first, is.is_second.is_second.1)
accepted_fits bytes (Mknod at what) is = (dir_op_args_fits at is.first is.is_first, mknod_fits what is.second is.is_second)
accepted_fits bytes (Remove at) is = dir_op_args_fits at bytes is
accepted_fits bytes (Rmdir at) is = dir_op_args_fits at bytes is
accepted_fits bytes (Rename from to) is = (dir_op_args_fits from is.first is.is_first, dir_op_args_fits to is.second is.is_second)
accepted_fits bytes (Link file at) is = (is.is_first.1, dir_op_args_fits at is.second is.is_second)
accepted_fits bytes (ReadDir directory cookie verifier count) is = (is.is_first.1, is.is_second.is_first.1, is.is_second.is_second.is_first.1, is.is_second.is_second.is_second.1)
accepted_fits bytes (ReadDirPlus directory cookie verifier dircount maxcount) is = (is.is_first.1, is.is_second.is_first.1, is.is_second.is_second.is_first.1, is.is_second.is_second.is_second.is_first.1, is.is_second.is_second.is_second.is_second.1)
accepted_fits bytes (FsStat root) is = is.1
accepted_fits bytes (FsInfo root) is = is.1
accepted_fits bytes (PathConf object) is = is.1
accepted_fits bytes (Commit file offset count) is = (is.is_first.1, is.is_second.is_first.1, is.is_second.is_second.1)

-- ---- as many bytes

handle_long : (fh : List ℕ) → LongAs (IsHandle fh) (opaque fh)
handle_long fh = opaque_long _ fh

text_long : (text : List ℕ) → LongAs (IsText text) (opaque text)
text_long text = opaque_long _ text

verifier_long : (v : List ℕ) → LongAs (IsVerifier v) (fixed v)
verifier_long v = fixed_long _ v

dir_op_args_long : (at : DirOpArgs) → LongAs (IsDirOpArgs at) (dir_op_args_bytes at)
unfolding dir_op_args_bytes
dir_op_args_long at = long_then _ _ (handle_long at.directory) (text_long at.name)

moment_long : (m : Moment) → LongAs (IsMoment m) (moment_bytes m)
unfolding moment_bytes
moment_long m = long_then _ _ (uint_long m.seconds) (uint_long m.nanos)

device_long : (d : Device) → LongAs (IsDevice d) (device_bytes d)
unfolding device_bytes
device_long d = long_then _ _ (uint_long d.major) (uint_long d.minor)

optional_long : {A : Type 0} (Is : A → List ℕ → Type 0) (encoding : A → List ℕ) → ((x : A) → LongAs (Is x) (encoding x))
    → (value : Option A) → LongAs (IsOptional Is value) (optional encoding value)
optional_long Is encoding long None = bool_long false
optional_long Is encoding long (Some x) = long_then _ _ (bool_long true) (long x)

set_time_long : (t : SetTime) → LongAs (IsSetTime t) (set_time_bytes t)
unfolding set_time_bytes
set_time_long Keep = uint_long 0
set_time_long Server = uint_long 1
set_time_long (Client m) = long_then _ _ (uint_long 2) (moment_long m)

set_attr_long : (a : attributes.SetAttr) → LongAs (IsSetAttr a) (set_attr_bytes a)
unfolding set_attr_bytes
set_attr_long a =
    long_6 _ _ _ _ _ _ (optional_long IsUint uint uint_long a.mode) (optional_long IsUint uint uint_long a.uid) (optional_long IsUint uint uint_long a.gid)
    (optional_long IsUhyper uhyper uhyper_long a.size) (set_time_long a.atime) (set_time_long a.mtime)

guard_long : (guard : Option Moment) → LongAs (IsGuard guard) (guard_bytes guard)
unfolding guard_bytes
guard_long guard = optional_long IsMoment moment_bytes moment_long guard

stable_how_long : (how : StableHow) → LongAs (IsStableHow how) (stable_how_bytes how)
unfolding stable_how_bytes
stable_how_long how = uint_long (stable_number how)

create_how_long : (how : CreateHow) → LongAs (IsCreateHow how) (create_how_bytes how)
unfolding create_how_bytes
create_how_long (Unchecked a) = long_then _ _ (uint_long 0) (set_attr_long a)
create_how_long (Guarded a) = long_then _ _ (uint_long 1) (set_attr_long a)
create_how_long (Exclusive v) = long_then _ _ (uint_long 2) (verifier_long v)

mknod_long : (what : MknodData) → LongAs (IsMknodData what) (mknod_bytes what)
unfolding mknod_bytes
mknod_long Regular = uint_long 1
mknod_long Directory = uint_long 2
mknod_long (Block a d) = long_3 _ _ _ (uint_long 3) (set_attr_long a) (device_long d)
mknod_long (Character a d) = long_3 _ _ _ (uint_long 4) (set_attr_long a) (device_long d)
mknod_long SymbolicLink = uint_long 5
mknod_long (Socket a) = long_then _ _ (uint_long 6) (set_attr_long a)
mknod_long (Pipe a) = long_then _ _ (uint_long 7) (set_attr_long a)

pub accepted_long : (bytes : List ℕ) (call : Call) → IsArgs bytes call → length bytes ≡ length (args_bytes call)
accepted_long bytes Null is = ap length is
accepted_long bytes (GetAttr object) is = (handle_long object).same bytes is
accepted_long bytes (SetAttr object set guard) is = (long_3 _ _ _ (handle_long object) (set_attr_long set) (guard_long guard)).same bytes is
accepted_long bytes (Lookup at) is = (dir_op_args_long at).same bytes is
accepted_long bytes (Access object rights) is = (long_then _ _ (handle_long object) (uint_long rights)).same bytes is
accepted_long bytes (ReadLink link) is = (handle_long link).same bytes is
accepted_long bytes (Read file offset count) is = (long_3 _ _ _ (handle_long file) (uhyper_long offset) (uint_long count)).same bytes is
accepted_long bytes (Write file offset count how piece) is = (long_5 _ _ _ _ _ (handle_long file) (uhyper_long offset) (uint_long count) (stable_how_long how) (text_long piece)).same bytes is
accepted_long bytes (Create at how) is = (long_then _ _ (dir_op_args_long at) (create_how_long how)).same bytes is
accepted_long bytes (Mkdir at set) is = (long_then _ _ (dir_op_args_long at) (set_attr_long set)).same bytes is
accepted_long bytes (Symlink at set text) is = (long_3 _ _ _ (dir_op_args_long at) (set_attr_long set) (text_long text)).same bytes is
accepted_long bytes (Mknod at what) is = (long_then _ _ (dir_op_args_long at) (mknod_long what)).same bytes is
accepted_long bytes (Remove at) is = (dir_op_args_long at).same bytes is
accepted_long bytes (Rmdir at) is = (dir_op_args_long at).same bytes is
accepted_long bytes (Rename from to) is = (long_then _ _ (dir_op_args_long from) (dir_op_args_long to)).same bytes is
accepted_long bytes (Link file at) is = (long_then _ _ (handle_long file) (dir_op_args_long at)).same bytes is
accepted_long bytes (ReadDir directory cookie verifier count) is = (long_4 _ _ _ _ (handle_long directory) (uhyper_long cookie) (verifier_long verifier) (uint_long count)).same bytes is
accepted_long bytes (ReadDirPlus directory cookie verifier dircount maxcount) is = (long_5 _ _ _ _ _ (handle_long directory) (uhyper_long cookie) (verifier_long verifier) (uint_long dircount) (uint_long maxcount)).same bytes is
accepted_long bytes (FsStat root) is = (handle_long root).same bytes is
accepted_long bytes (FsInfo root) is = (handle_long root).same bytes is
accepted_long bytes (PathConf object) is = (handle_long object).same bytes is
accepted_long bytes (Commit file offset count) is = (long_3 _ _ _ (handle_long file) (uhyper_long offset) (uint_long count)).same bytes is
