-- What is written is of the grammar.
use Rattle.std.proofs.Common.{◌≡◌, ℕ, Option, Some, None, List, Ok, IfSome, refl, arith}
use Rattle.sky_base.specs.declared.attr.Device.{Device}
use Rattle.sky_base.specs.declared.moment.Moment.{Moment}
use Rattle.sky_nfs.specs.Calls.{procedure_of}
use Rattle.sky_nfs.specs.declared.call.Call.{Call}
use Rattle.sky_nfs.specs.declared.call.Call.TheVariants.{Null, GetAttr, SetAttr, Lookup, Access, ReadLink, Read, Write, Create, Mkdir, Symlink, Mknod, Remove, Rmdir, Rename, Link, ReadDir, ReadDirPlus, FsStat, FsInfo, PathConf, Commit}
use Rattle.sky_nfs.specs.declared.call.CreateHow.{CreateHow}
use Rattle.sky_nfs.specs.declared.call.CreateHow.TheVariants.{Unchecked, Guarded, Exclusive}
use Rattle.sky_nfs.specs.declared.call.DirOpArgs.{DirOpArgs}
use Rattle.sky_nfs.specs.declared.call.MknodData.{MknodData}
use Rattle.sky_nfs.specs.declared.call.MknodData.TheVariants.{Regular, Directory, Block, Character, SymbolicLink, Socket, Pipe}
use Rattle.sky_nfs.specs.declared.call.SetAttr as attributes
use Rattle.sky_nfs.specs.declared.call.SetTime.{SetTime}
use Rattle.sky_nfs.specs.declared.call.SetTime.TheVariants.{Keep, Server, Client}
use Rattle.sky_nfs.specs.declared.call.StableHow.{StableHow}
use Rattle.sky_nfs.specs.declared.call.StableHow.TheVariants.{Unstable, DataSync, FileSync}
use Rattle.sky_xdr.specs.Encoding.{uint, uhyper, fixed, opaque, optional}
use Rattle.sky_xdr.specs.Grammar.{IsUint, IsUhyper, IsOptional}
use Rattle.sky_xdr.proofs.Opaques.{IsOpaque-opaque}
use Rattle.sky_xdr.proofs.FixedData.{IsFixed-fixed}
use Rattle.sky_xdr.proofs.Grammars.{in_then, in_3, in_4, in_5, in_6}
use Rattle.sky_args.specs.Parts.{IsHandle, IsText, IsVerifier, IsDirOpArgs, IsMoment, IsDevice, IsSetTime, IsSetAttr, IsGuard, IsStableHow, IsCreateHow, IsMknodData, dir_op_args_bytes, moment_bytes, device_bytes, set_time_bytes, set_attr_bytes, guard_bytes, stable_how_bytes, create_how_bytes, mknod_bytes}
use Rattle.sky_args.specs.Args.{IsArgs, args_bytes}
use Rattle.sky_args.specs.Reading.{args_at}
use Rattle.sky_args.specs.Sizes.{FitsUint, FitsUhyper, FitsHandle, FitsVerifier, FitsText, FitsDirOpArgs, FitsMoment, FitsDevice, FitsSetTime, FitsSetAttr, FitsCreateHow, FitsMknodData, FitsTypes}
use Rattle.sky_args.proofs.ArgsLaws.{args_again}

-- ---- the parts

uint_found : (n : ℕ) → FitsUint n → IsUint n (uint n)
uint_found n fits = (refl, fits)

uhyper_found : (n : ℕ) → FitsUhyper n → IsUhyper n (uhyper n)
uhyper_found n fits = (refl, fits)

handle_found : (fh : List ℕ) → FitsHandle fh → IsHandle fh (opaque fh)
handle_found fh fits = (IsOpaque-opaque fh, fits)

text_found : (text : List ℕ) → FitsText text → IsText text (opaque text)
text_found text fits = (IsOpaque-opaque text, fits)

verifier_found : (v : List ℕ) → FitsVerifier v → IsVerifier v (fixed v)
verifier_found v fits = (IsFixed-fixed v, fits)

dir_op_args_found : (at : DirOpArgs) → FitsDirOpArgs at → IsDirOpArgs at (dir_op_args_bytes at)
unfolding dir_op_args_bytes
dir_op_args_found at fits = in_then _ _ (handle_found at.directory fits.0) (text_found at.name fits.1)

moment_found : (m : Moment) → FitsMoment m → IsMoment m (moment_bytes m)
unfolding moment_bytes
moment_found m fits = in_then _ _ (uint_found m.seconds fits.0) (uint_found m.nanos fits.1)

device_found : (d : Device) → FitsDevice d → IsDevice d (device_bytes d)
unfolding device_bytes
device_found d fits = in_then _ _ (uint_found d.major fits.0) (uint_found d.minor fits.1)

optional_found : {A : Type 0} (Is : A → List ℕ → Type 0) (encoding : A → List ℕ) (Fits : A → Type 0) → ((x : A) → Fits x → Is x (encoding x))
    → (value : Option A) → IfSome value Fits → IsOptional Is value (optional encoding value)
optional_found Is encoding Fits found None fits = refl
optional_found Is encoding Fits found (Some x) fits = in_then _ _ refl (found x fits)

set_time_found : (t : SetTime) → FitsSetTime t → IsSetTime t (set_time_bytes t)
unfolding set_time_bytes
set_time_found Keep fits = (refl, omega arith)
set_time_found Server fits = (refl, omega arith)
set_time_found (Client m) fits = in_then _ _ (uint_found 2 (omega arith)) (moment_found m fits)

set_attr_found : (a : attributes.SetAttr) → FitsSetAttr a → IsSetAttr a (set_attr_bytes a)
unfolding set_attr_bytes
set_attr_found a fits =
    in_6 _ _ _ _ _ _ (optional_found IsUint uint FitsUint uint_found a.mode fits.mode) (optional_found IsUint uint FitsUint uint_found a.uid fits.uid)
    (optional_found IsUint uint FitsUint uint_found a.gid fits.gid) (optional_found IsUhyper uhyper FitsUhyper uhyper_found a.size fits.size)
    (set_time_found a.atime fits.atime) (set_time_found a.mtime fits.mtime)

guard_found : (guard : Option Moment) → IfSome guard FitsMoment → IsGuard guard (guard_bytes guard)
unfolding guard_bytes
guard_found guard fits = optional_found IsMoment moment_bytes FitsMoment moment_found guard fits

stable_how_found : (how : StableHow) → IsStableHow how (stable_how_bytes how)
unfolding stable_how_bytes
stable_how_found Unstable = (refl, omega arith)
stable_how_found DataSync = (refl, omega arith)
stable_how_found FileSync = (refl, omega arith)

create_how_found : (how : CreateHow) → FitsCreateHow how → IsCreateHow how (create_how_bytes how)
unfolding create_how_bytes
create_how_found (Unchecked a) fits = in_then _ _ (uint_found 0 (omega arith)) (set_attr_found a fits)
create_how_found (Guarded a) fits = in_then _ _ (uint_found 1 (omega arith)) (set_attr_found a fits)
create_how_found (Exclusive v) fits = in_then _ _ (uint_found 2 (omega arith)) (verifier_found v fits)

mknod_found : (what : MknodData) → FitsMknodData what → IsMknodData what (mknod_bytes what)
unfolding mknod_bytes
mknod_found Regular fits = (refl, omega arith)
mknod_found Directory fits = (refl, omega arith)
mknod_found (Block a d) fits = in_3 _ _ _ (uint_found 3 (omega arith)) (set_attr_found a fits.0) (device_found d fits.1)
mknod_found (Character a d) fits = in_3 _ _ _ (uint_found 4 (omega arith)) (set_attr_found a fits.0) (device_found d fits.1)
mknod_found SymbolicLink fits = (refl, omega arith)
mknod_found (Socket a) fits = in_then _ _ (uint_found 6 (omega arith)) (set_attr_found a fits)
mknod_found (Pipe a) fits = in_then _ _ (uint_found 7 (omega arith)) (set_attr_found a fits)

-- ---- the arguments

pub written_found : (call : Call) → FitsTypes call → IsArgs (args_bytes call) call
written_found Null fits = refl
written_found (GetAttr object) fits = handle_found object fits
written_found (SetAttr object set guard) fits = in_3 _ _ _ (handle_found object fits.0) (set_attr_found set fits.1) (guard_found guard fits.2)
written_found (Lookup at) fits = dir_op_args_found at fits
written_found (Access object rights) fits = in_then _ _ (handle_found object fits.0) (uint_found rights fits.1)
written_found (ReadLink link) fits = handle_found link fits
written_found (Read file offset count) fits = in_3 _ _ _ (handle_found file fits.0) (uhyper_found offset fits.1) (uint_found count fits.2)
written_found (Write file offset count how piece) fits =
    in_5 _ _ _ _ _ (handle_found file fits.0) (uhyper_found offset fits.1) (uint_found count fits.2) (stable_how_found how) (text_found piece fits.3)
written_found (Create at how) fits = in_then _ _ (dir_op_args_found at fits.0) (create_how_found how fits.1)
written_found (Mkdir at set) fits = in_then _ _ (dir_op_args_found at fits.0) (set_attr_found set fits.1)
written_found (Symlink at set text) fits = in_3 _ _ _ (dir_op_args_found at fits.0) (set_attr_found set fits.1) (text_found text fits.2)
written_found (Mknod at what) fits = in_then _ _ (dir_op_args_found at fits.0) (mknod_found what fits.1)
written_found (Remove at) fits = dir_op_args_found at fits
written_found (Rmdir at) fits = dir_op_args_found at fits
written_found (Rename from to) fits = in_then _ _ (dir_op_args_found from fits.0) (dir_op_args_found to fits.1)
written_found (Link file at) fits = in_then _ _ (handle_found file fits.0) (dir_op_args_found at fits.1)
written_found (ReadDir directory cookie verifier count) fits =
    in_4 _ _ _ _ (handle_found directory fits.0) (uhyper_found cookie fits.1) (verifier_found verifier fits.2) (uint_found count fits.3)
written_found (ReadDirPlus directory cookie verifier dircount maxcount) fits =
    in_5 _ _ _ _ _ (handle_found directory fits.0) (uhyper_found cookie fits.1) (verifier_found verifier fits.2) (uint_found dircount fits.3) (uint_found maxcount fits.4)
written_found (FsStat root) fits = handle_found root fits
written_found (FsInfo root) fits = handle_found root fits
written_found (PathConf object) fits = handle_found object fits
written_found (Commit file offset count) fits = in_3 _ _ _ (handle_found file fits.0) (uhyper_found offset fits.1) (uint_found count fits.2)

pub written_read : (call : Call) → FitsTypes call → args_at (procedure_of call) (args_bytes call) ≡ Ok call
written_read call fits = args_again (args_bytes call) call (written_found call fits)
