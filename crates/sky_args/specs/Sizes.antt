-- The sizes that the types of a call's fields allow: which calls can be written.
use Rattle.std.specs.Prelude.{◌≡◌, ℕ, ◌^◌, ◌<◌, ◌≤◌, List, length, IfSome}
use Rattle.sky_base.specs.Limits.{max_handle_bytes}
use Rattle.sky_base.specs.declared.attr.Device.{Device}
use Rattle.sky_base.specs.declared.moment.Moment.{Moment}
use Rattle.sky_nfs.specs.declared.call.Call.{Call}
use Rattle.sky_nfs.specs.declared.call.Call.TheVariants as call
use Rattle.sky_nfs.specs.declared.call.CreateHow.{CreateHow}
use Rattle.sky_nfs.specs.declared.call.CreateHow.TheVariants.{Unchecked, Guarded, Exclusive}
use Rattle.sky_nfs.specs.declared.call.DirOpArgs.{DirOpArgs}
use Rattle.sky_nfs.specs.declared.call.MknodData.{MknodData}
use Rattle.sky_nfs.specs.declared.call.MknodData.TheVariants.{Regular, Directory, Block, Character, SymbolicLink, Socket, Pipe}
use Rattle.sky_nfs.specs.declared.call.SetAttr.{SetAttr}
use Rattle.sky_nfs.specs.declared.call.SetTime.{SetTime}
use Rattle.sky_nfs.specs.declared.call.SetTime.TheVariants.{Keep, Server, Client}
use Rattle.sky_args.specs.Parts.{max_text_bytes, verifier_size}

-- an unsigned integer has 4 bytes
abbrev pub FitsUint : ℕ → Type 0
FitsUint n = n < 2 ^ 32

-- an unsigned hyper integer has 8 bytes
abbrev pub FitsUhyper : ℕ → Type 0
FitsUhyper n = n < 2 ^ 64

-- a handle has at most 64 bytes
abbrev pub FitsHandle : List ℕ → Type 0
FitsHandle fh = length fh ≤ max_handle_bytes

-- a verifier has 8 bytes
abbrev pub FitsVerifier : List ℕ → Type 0
FitsVerifier v = length v ≡ verifier_size

-- a name, a text or data has a length that can be encoded
abbrev pub FitsText : List ℕ → Type 0
FitsText text = length text ≤ max_text_bytes

-- a name in a directory
abbrev pub FitsDirOpArgs : DirOpArgs → Type 0
FitsDirOpArgs at = FitsHandle at.directory × FitsText at.name

-- a moment
abbrev pub FitsMoment : Moment → Type 0
FitsMoment m = FitsUint m.seconds × FitsUint m.nanos

-- a device
abbrev pub FitsDevice : Device → Type 0
FitsDevice d = FitsUint d.major × FitsUint d.minor

-- how a time is set
abbrev pub FitsSetTime : SetTime → Type 0
FitsSetTime Keep = Unit {0}
FitsSetTime Server = Unit {0}
FitsSetTime (Client m) = FitsMoment m

-- the attributes that are set
pub record FitsSetAttr (a : SetAttr) : Type 0 where
  pub mode : IfSome a.mode FitsUint
  pub uid : IfSome a.uid FitsUint
  pub gid : IfSome a.gid FitsUint
  pub size : IfSome a.size FitsUhyper
  pub atime : FitsSetTime a.atime
  pub mtime : FitsSetTime a.mtime

-- how a file is made
abbrev pub FitsCreateHow : CreateHow → Type 0
FitsCreateHow (Unchecked a) = FitsSetAttr a
FitsCreateHow (Guarded a) = FitsSetAttr a
FitsCreateHow (Exclusive v) = FitsVerifier v

-- what a special object is
abbrev pub FitsMknodData : MknodData → Type 0
FitsMknodData Regular = Unit {0}
FitsMknodData Directory = Unit {0}
FitsMknodData (Block a d) = FitsSetAttr a × FitsDevice d
FitsMknodData (Character a d) = FitsSetAttr a × FitsDevice d
FitsMknodData SymbolicLink = Unit {0}
FitsMknodData (Socket a) = FitsSetAttr a
FitsMknodData (Pipe a) = FitsSetAttr a

-- each field of a call is one of its type, and each name, text or data has a length that can be encoded
abbrev pub FitsTypes : Call → Type 0
FitsTypes call.Null = Unit {0}
FitsTypes (call.GetAttr object) = FitsHandle object
FitsTypes (call.SetAttr object set guard) = FitsHandle object × FitsSetAttr set × IfSome guard FitsMoment
FitsTypes (call.Lookup at) = FitsDirOpArgs at
FitsTypes (call.Access object rights) = FitsHandle object × FitsUint rights
FitsTypes (call.ReadLink link) = FitsHandle link
FitsTypes (call.Read file offset count) = FitsHandle file × FitsUhyper offset × FitsUint count
FitsTypes (call.Write file offset count how piece) = FitsHandle file × FitsUhyper offset × FitsUint count × FitsText piece
FitsTypes (call.Create at how) = FitsDirOpArgs at × FitsCreateHow how
FitsTypes (call.Mkdir at set) = FitsDirOpArgs at × FitsSetAttr set
FitsTypes (call.Symlink at set text) = FitsDirOpArgs at × FitsSetAttr set × FitsText text
FitsTypes (call.Mknod at what) = FitsDirOpArgs at × FitsMknodData what
FitsTypes (call.Remove at) = FitsDirOpArgs at
FitsTypes (call.Rmdir at) = FitsDirOpArgs at
FitsTypes (call.Rename from to) = FitsDirOpArgs from × FitsDirOpArgs to
FitsTypes (call.Link file at) = FitsHandle file × FitsDirOpArgs at
FitsTypes (call.ReadDir directory cookie verifier count) = FitsHandle directory × FitsUhyper cookie × FitsVerifier verifier × FitsUint count
FitsTypes (call.ReadDirPlus directory cookie verifier dircount maxcount) = FitsHandle directory × FitsUhyper cookie × FitsVerifier verifier × FitsUint dircount × FitsUint maxcount
FitsTypes (call.FsStat root) = FitsHandle root
FitsTypes (call.FsInfo root) = FitsHandle root
FitsTypes (call.PathConf object) = FitsHandle object
FitsTypes (call.Commit file offset count) = FitsHandle file × FitsUhyper offset × FitsUint count
