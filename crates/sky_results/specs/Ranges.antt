-- What the types of an answer's values give: each number fits its type. Beside that, each text, name and data has
-- fewer than 2^32 bytes, since XDR tells its length in four bytes.
use Rattle.std.specs.Prelude.{ℕ, ◌<◌, ◌^◌, ⊤, List, length, Option, IfSome, IfOk, MatchResult, Result}
use Rattle.std.specs.List.{AllByRecursion}
use Rattle.sky_base.specs.declared.attr.Attr.{Attr}
use Rattle.sky_base.specs.declared.attr.Device.{Device}
use Rattle.sky_base.specs.declared.moment.Moment.{Moment}
use Rattle.sky_nfs.specs.declared.answer.AccessOk.{AccessOk}
use Rattle.sky_nfs.specs.declared.answer.Answer.{Answer}
use Rattle.sky_nfs.specs.declared.answer.Answer.TheVariants.{Null, GetAttr, SetAttr, Lookup, Access, ReadLink, Read, Write, Create, Mkdir, Symlink, Mknod, Remove, Rmdir, Rename, Link, ReadDir, ReadDirPlus, FsStat, FsInfo, PathConf, Commit}
use Rattle.sky_nfs.specs.declared.answer.CommitOk.{CommitOk}
use Rattle.sky_nfs.specs.declared.answer.CreateOk.{CreateOk}
use Rattle.sky_nfs.specs.declared.answer.FsInfoOk.{FsInfoOk}
use Rattle.sky_nfs.specs.declared.answer.FsStatOk.{FsStatOk}
use Rattle.sky_nfs.specs.declared.answer.LinkResults.{LinkResults}
use Rattle.sky_nfs.specs.declared.answer.ListedEntry.{ListedEntry}
use Rattle.sky_nfs.specs.declared.answer.ListedEntryPlus.{ListedEntryPlus}
use Rattle.sky_nfs.specs.declared.answer.LookupOk.{LookupOk}
use Rattle.sky_nfs.specs.declared.answer.PathConfOk.{PathConfOk}
use Rattle.sky_nfs.specs.declared.answer.ReadDirOk.{ReadDirOk}
use Rattle.sky_nfs.specs.declared.answer.ReadDirPlusOk.{ReadDirPlusOk}
use Rattle.sky_nfs.specs.declared.answer.ReadLinkOk.{ReadLinkOk}
use Rattle.sky_nfs.specs.declared.answer.ReadOk.{ReadOk}
use Rattle.sky_nfs.specs.declared.answer.Refused.{Refused}
use Rattle.sky_nfs.specs.declared.answer.RenameResults.{RenameResults}
use Rattle.sky_nfs.specs.declared.answer.WccAttr.{WccAttr}
use Rattle.sky_nfs.specs.declared.answer.WccData.{WccData}
use Rattle.sky_nfs.specs.declared.answer.WriteOk.{WriteOk}
use Rattle.sky_nfs.specs.declared.handle.Handle.{Handle}

-- a u32
abbrev pub IsU32 : ℕ → Type 0
IsU32 n = n < 2 ^ 32

-- a u64
abbrev pub IsU64 : ℕ → Type 0
IsU64 n = n < 2 ^ 64

-- bytes whose length four bytes can tell
abbrev pub IsOpaqueData : List ℕ → Type 0
IsOpaqueData bytes = length bytes < 2 ^ 32

-- a moment
abbrev pub MomentFits : Moment → Type 0
MomentFits t = IsU32 t.seconds × IsU32 t.nanos

-- a device
abbrev pub DeviceFits : Device → Type 0
DeviceFits d = IsU32 d.major × IsU32 d.minor

-- attributes
abbrev pub AttrFits : Attr → Type 0
AttrFits a =
    IsU32 a.mode × IsU32 a.nlink × IsU32 a.uid × IsU32 a.gid × IsU64 a.size × IsU64 a.used
    × DeviceFits a.rdev × IsU64 a.fsid × IsU64 a.fileid × MomentFits a.atime × MomentFits a.mtime × MomentFits a.ctime

-- attributes where they are told
abbrev pub ToldFits : Option Attr → Type 0
ToldFits told = IfSome told AttrFits

-- a handle of this server
abbrev pub HandleFits : Handle → Type 0
HandleFits h = IsU64 h.volume × IsU64 h.fileid

-- what tells whether an object changed
abbrev pub WccAttrFits : WccAttr → Type 0
WccAttrFits w = IsU64 w.size × MomentFits w.mtime × MomentFits w.ctime

-- an object before and after a call
abbrev pub WccFits : WccData → Type 0
WccFits w = IfSome w.before WccAttrFits × ToldFits w.after

-- results of LOOKUP
abbrev pub LookupFits : LookupOk → Type 0
LookupFits r = HandleFits r.handle × ToldFits r.object × ToldFits r.directory

-- results of ACCESS
abbrev pub AccessFits : AccessOk → Type 0
AccessFits r = ToldFits r.object × IsU32 r.rights

-- results of READLINK
abbrev pub ReadLinkFits : ReadLinkOk → Type 0
ReadLinkFits r = ToldFits r.link × IsOpaqueData r.text

-- results of READ
abbrev pub ReadFits : ReadOk → Type 0
ReadFits r = ToldFits r.file × IsOpaqueData r.«data»

-- results of WRITE
abbrev pub WriteFits : WriteOk → Type 0
WriteFits r = WccFits r.file × IsU32 r.count × IsU64 r.verifier

-- results of CREATE, MKDIR and SYMLINK
abbrev pub CreateFits : CreateOk → Type 0
CreateFits r = HandleFits r.handle × ToldFits r.object × WccFits r.directory

-- what RENAME tells of both directories
abbrev pub RenameFits : RenameResults → Type 0
RenameFits r = WccFits r.from × WccFits r.to

-- what LINK tells of the file and the directory
abbrev pub LinkFits : LinkResults → Type 0
LinkFits r = ToldFits r.file × WccFits r.directory

-- an entry of READDIR
abbrev pub EntryFits : ListedEntry → Type 0
EntryFits e = IsU64 e.fileid × IsOpaqueData e.name × IsU64 e.cookie

-- an entry of READDIRPLUS
abbrev pub EntryPlusFits : ListedEntryPlus → Type 0
EntryPlusFits e = EntryFits e.entry × ToldFits e.attributes × HandleFits e.handle

-- results of READDIR
abbrev pub ReadDirFits : ReadDirOk → Type 0
ReadDirFits r = ToldFits r.directory × AllByRecursion EntryFits r.entries

-- results of READDIRPLUS
abbrev pub ReadDirPlusFits : ReadDirPlusOk → Type 0
ReadDirPlusFits r = ToldFits r.directory × AllByRecursion EntryPlusFits r.entries

-- results of FSSTAT
abbrev pub FsStatFits : FsStatOk → Type 0
FsStatFits r =
    ToldFits r.root × IsU64 r.total_bytes × IsU64 r.free_bytes × IsU64 r.available_bytes
    × IsU64 r.total_files × IsU64 r.free_files × IsU64 r.available_files × IsU32 r.invariant_seconds

-- results of FSINFO
abbrev pub FsInfoFits : FsInfoOk → Type 0
FsInfoFits r =
    ToldFits r.root × IsU32 r.read_max × IsU32 r.read_preferred × IsU32 r.read_multiple
    × IsU32 r.write_max × IsU32 r.write_preferred × IsU32 r.write_multiple × IsU32 r.directory_preferred
    × IsU64 r.max_file_size × MomentFits r.time_delta × IsU32 r.properties

-- results of PATHCONF
abbrev pub PathConfFits : PathConfOk → Type 0
PathConfFits r = ToldFits r.object × IsU32 r.link_max × IsU32 r.name_max

-- results of COMMIT
abbrev pub CommitFits : CommitOk → Type 0
CommitFits r = WccFits r.file × IsU64 r.verifier

-- the results, or the attributes of a refusal
abbrev pub ResultsFit : {R A : Type 0} → (R → Type 0) → (A → Type 0) → Result R (Refused A) → Type 0
ResultsFit ok attributes r = MatchResult r ok (λ e. attributes e.attributes)

-- an answer
abbrev pub AnswerFits : Answer → Type 0
AnswerFits Null = ⊤
AnswerFits (GetAttr r) = IfOk r AttrFits
AnswerFits (SetAttr r) = ResultsFit WccFits WccFits r
AnswerFits (Lookup r) = ResultsFit LookupFits ToldFits r
AnswerFits (Access r) = ResultsFit AccessFits ToldFits r
AnswerFits (ReadLink r) = ResultsFit ReadLinkFits ToldFits r
AnswerFits (Read r) = ResultsFit ReadFits ToldFits r
AnswerFits (Write r) = ResultsFit WriteFits WccFits r
AnswerFits (Create r) = ResultsFit CreateFits WccFits r
AnswerFits (Mkdir r) = ResultsFit CreateFits WccFits r
AnswerFits (Symlink r) = ResultsFit CreateFits WccFits r
AnswerFits (Mknod e) = WccFits e.attributes
AnswerFits (Remove r) = ResultsFit WccFits WccFits r
AnswerFits (Rmdir r) = ResultsFit WccFits WccFits r
AnswerFits (Rename r) = ResultsFit RenameFits RenameFits r
AnswerFits (Link r) = ResultsFit LinkFits LinkFits r
AnswerFits (ReadDir r) = ResultsFit ReadDirFits ToldFits r
AnswerFits (ReadDirPlus r) = ResultsFit ReadDirPlusFits ToldFits r
AnswerFits (FsStat r) = ResultsFit FsStatFits ToldFits r
AnswerFits (FsInfo r) = ResultsFit FsInfoFits ToldFits r
AnswerFits (PathConf r) = ResultsFit PathConfFits ToldFits r
AnswerFits (Commit r) = ResultsFit CommitFits WccFits r
