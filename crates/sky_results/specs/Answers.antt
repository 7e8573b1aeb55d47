-- The one encoding of the results of each of the 22 procedures (RFC 1813 section 3.3).
use Rattle.std.specs.Prelude.{ℕ, List, [], ◌++◌, length, flat_map, Option, Some, None, Result, Ok, Err}
use Rattle.sky_base.specs.declared.attr.Attr.{Attr}
use Rattle.sky_nfs.specs.NfsStatus.{status_number}
use Rattle.sky_nfs.specs.declared.answer.Answer.{Answer}
use Rattle.sky_nfs.specs.declared.answer.Answer.TheVariants.{Null, GetAttr, SetAttr, Lookup, Access, ReadLink, Read, Write, Create, Mkdir, Symlink, Mknod, Remove, Rmdir, Rename, Link, ReadDir, ReadDirPlus, FsStat, FsInfo, PathConf, Commit}
use Rattle.sky_nfs.specs.declared.answer.Refused.{Refused}
use Rattle.sky_nfs.specs.declared.status.NfsStatus.{NfsStatus}
use Rattle.sky_xdr.specs.Encoding.{uint, opaque}
use Rattle.sky_results.specs.Attributes.{fattr3, post_op_attr}
use Rattle.sky_results.specs.Results.{lookup_ok, access_ok, readlink_ok, read_ok, write_ok, create_ok, rename_results, link_results, entry3, entryplus3, readdir_ok, readdirplus_ok, fsstat_ok, fsinfo_ok, pathconf_ok, commit_ok}
use Rattle.sky_results.specs.Wcc.{wcc_data}

-- the status: NFS3_OK, or a refusal's
abbrev pub nfsstat3 : Option NfsStatus → List ℕ
nfsstat3 status = uint (status_number status)

-- a refusal: its status, and the attributes that go with it
abbrev pub refused : {A : Type 0} → (A → List ℕ) → Refused A → List ℕ
refused attributes e = nfsstat3 (Some e.status) ++ attributes e.attributes

-- the results behind NFS3_OK, or a refusal
abbrev pub results : {R A : Type 0} → (R → List ℕ) → (A → List ℕ) → Result R (Refused A) → List ℕ
results ok attributes (Ok r) = nfsstat3 None ++ ok r
results ok attributes (Err e) = refused attributes e

-- GETATTR: the attributes behind NFS3_OK, or the status of a refusal alone (section 3.3.1)
abbrev pub getattr_results : Result Attr NfsStatus → List ℕ
getattr_results (Ok a) = nfsstat3 None ++ fattr3 a
getattr_results (Err status) = nfsstat3 (Some status)

-- the encoding of an answer: of each procedure what stands behind NFS3_OK, and what behind a refusal's status
unfoldable pub answer_bytes : Answer → List ℕ
answer_bytes Null = []
answer_bytes (GetAttr r) = getattr_results r
answer_bytes (SetAttr r) = results wcc_data wcc_data r
answer_bytes (Lookup r) = results lookup_ok post_op_attr r
answer_bytes (Access r) = results access_ok post_op_attr r
answer_bytes (ReadLink r) = results readlink_ok post_op_attr r
answer_bytes (Read r) = results read_ok post_op_attr r
answer_bytes (Write r) = results write_ok wcc_data r
answer_bytes (Create r) = results create_ok wcc_data r
answer_bytes (Mkdir r) = results create_ok wcc_data r
answer_bytes (Symlink r) = results create_ok wcc_data r
answer_bytes (Mknod e) = refused wcc_data e
answer_bytes (Remove r) = results wcc_data wcc_data r
answer_bytes (Rmdir r) = results wcc_data wcc_data r
answer_bytes (Rename r) = results rename_results rename_results r
answer_bytes (Link r) = results link_results link_results r
answer_bytes (ReadDir r) = results readdir_ok post_op_attr r
answer_bytes (ReadDirPlus r) = results readdirplus_ok post_op_attr r
answer_bytes (FsStat r) = results fsstat_ok post_op_attr r
answer_bytes (FsInfo r) = results fsinfo_ok post_op_attr r
answer_bytes (PathConf r) = results pathconf_ok post_op_attr r
answer_bytes (Commit r) = results commit_ok wcc_data r

-- the number of the procedure that is answered
abbrev pub answered : Answer → ℕ
answered Null = 0
answered (GetAttr r) = 1
answered (SetAttr r) = 2
answered (Lookup r) = 3
answered (Access r) = 4
answered (ReadLink r) = 5
answered (Read r) = 6
answered (Write r) = 7
answered (Create r) = 8
answered (Mkdir r) = 9
answered (Symlink r) = 10
answered (Mknod e) = 11
answered (Remove r) = 12
answered (Rmdir r) = 13
answered (Rename r) = 14
answered (Link r) = 15
answered (ReadDir r) = 16
answered (ReadDirPlus r) = 17
answered (FsStat r) = 18
answered (FsInfo r) = 19
answered (PathConf r) = 20
answered (Commit r) = 21

-- how many bytes of an answer have no fixed number: those of its text, its data or its entries
abbrev pub data_length : Answer → ℕ
data_length (ReadLink (Ok r)) = length (opaque r.text)
data_length (Read (Ok r)) = length (opaque r.«data»)
data_length (ReadDir (Ok r)) = length (flat_map entry3 r.entries)
data_length (ReadDirPlus (Ok r)) = length (flat_map entryplus3 r.entries)
data_length _ = 0
