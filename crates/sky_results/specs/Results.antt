-- How the results of each procedure are encoded behind the status NFS3_OK (RFC 1813 section 3.3).
use Rattle.std.specs.Prelude.{ℕ, Bool, true, false, if◌then◌else◌, List, ◌++◌, length}
use Rattle.std.specs.List.{flat_map}
use Rattle.sky_nfs.specs.declared.answer.AccessOk.{AccessOk}
use Rattle.sky_nfs.specs.declared.answer.CommitOk.{CommitOk}
use Rattle.sky_nfs.specs.declared.answer.CreateOk.{CreateOk}
use Rattle.sky_nfs.specs.declared.answer.FsInfoOk.{FsInfoOk}
use Rattle.sky_nfs.specs.declared.answer.FsStatOk.{FsStatOk}
use Rattle.sky_nfs.specs.declared.answer.LinkResults.{LinkResults}
use Rattle.sky_nfs.specs.declared.answer.ListedEntry.{ListedEntry}
use Rattle.sky_nfs.specs.declared.answer.ListedEntryPlus.{ListedEntryPlus}
use Rattle.sky_nfs.specs.declared.answer.LookupOk.{LookupOk}
use Rattle.sky_nfs.specs.declared.answer.PathConfOk.{PathConfOk}
use Rattle.sky_nfs.specs.declared.answer.ReadDirOk.{ReadDirOk}
use Rattle.sky_nfs.specs.declared.answer.ReadDirPlusOk.{ReadDirPlusOk}
use Rattle.sky_nfs.specs.declared.answer.ReadLinkOk.{ReadLinkOk}
use Rattle.sky_nfs.specs.declared.answer.ReadOk.{ReadOk}
use Rattle.sky_nfs.specs.declared.answer.RenameResults.{RenameResults}
use Rattle.sky_nfs.specs.declared.answer.WriteOk.{WriteOk}
use Rattle.sky_xdr.specs.Encoding.{uint, uhyper, bool, opaque}
use Rattle.sky_results.specs.Attributes.{nfstime3, post_op_attr, nfs_fh3, post_op_fh3}
use Rattle.sky_results.specs.Wcc.{wcc_data}

-- LOOKUP: the handle, and the attributes of the object and of the directory (section 3.3.3)
unfoldable pub lookup_ok : LookupOk → List ℕ
lookup_ok r = nfs_fh3 r.handle ++ post_op_attr r.object ++ post_op_attr r.directory

-- ACCESS (section 3.3.4)
unfoldable pub access_ok : AccessOk → List ℕ
access_ok r = post_op_attr r.object ++ uint r.rights

-- READLINK (section 3.3.5)
unfoldable pub readlink_ok : ReadLinkOk → List ℕ
readlink_ok r = post_op_attr r.link ++ opaque r.text

-- READ: the count stands before the data, and again as its length (section 3.3.6)
unfoldable pub read_ok : ReadOk → List ℕ
read_ok r = post_op_attr r.file ++ uint (length r.«data») ++ bool r.eof ++ opaque r.«data»

-- the number of stable_how: FILE_SYNC where what was written is stable, else UNSTABLE (section 3.3.7)
abbrev pub stable_how : Bool → ℕ
stable_how committed = if committed then 2 else 0

-- WRITE (section 3.3.7)
unfoldable pub write_ok : WriteOk → List ℕ
write_ok r = wcc_data r.file ++ uint r.count ++ uint (stable_how r.committed) ++ uhyper r.verifier

-- CREATE, MKDIR and SYMLINK (sections 3.3.8 to 3.3.10)
unfoldable pub create_ok : CreateOk → List ℕ
create_ok r = post_op_fh3 r.handle ++ post_op_attr r.object ++ wcc_data r.directory

-- RENAME, after a refusal too: both directories (section 3.3.14)
unfoldable pub rename_results : RenameResults → List ℕ
rename_results r = wcc_data r.from ++ wcc_data r.to

-- LINK, after a refusal too: the file and the directory (section 3.3.15)
unfoldable pub link_results : LinkResults → List ℕ
link_results r = post_op_attr r.file ++ wcc_data r.directory

-- an entry of READDIR, behind the true that says that one follows (section 3.3.16)
unfoldable pub entry3 : ListedEntry → List ℕ
entry3 e = bool true ++ uhyper e.fileid ++ opaque e.name ++ uhyper e.cookie

-- an entry of READDIRPLUS: that, attributes and a handle (section 3.3.17)
unfoldable pub entryplus3 : ListedEntryPlus → List ℕ
entryplus3 e = entry3 e.entry ++ post_op_attr e.attributes ++ post_op_fh3 e.handle

-- entries, the false that says that none follows, and whether the listing ends with them
abbrev pub dirlist3 : {E : Type 0} → (E → List ℕ) → List E → Bool → List ℕ
dirlist3 entry entries eof = flat_map entry entries ++ bool false ++ bool eof

-- READDIR: the cookie verifier is zero (section 3.3.16)
unfoldable pub readdir_ok : ReadDirOk → List ℕ
readdir_ok r = post_op_attr r.directory ++ uhyper 0 ++ dirlist3 entry3 r.entries r.eof

-- READDIRPLUS: the cookie verifier is zero (section 3.3.17)
unfoldable pub readdirplus_ok : ReadDirPlusOk → List ℕ
readdirplus_ok r = post_op_attr r.directory ++ uhyper 0 ++ dirlist3 entryplus3 r.entries r.eof

-- FSSTAT (section 3.3.18)
unfoldable pub fsstat_ok : FsStatOk → List ℕ
fsstat_ok r =
    post_op_attr r.root ++ uhyper r.total_bytes ++ uhyper r.free_bytes ++ uhyper r.available_bytes
    ++ uhyper r.total_files ++ uhyper r.free_files ++ uhyper r.available_files ++ uint r.invariant_seconds

-- FSINFO (section 3.3.19)
unfoldable pub fsinfo_ok : FsInfoOk → List ℕ
fsinfo_ok r =
    post_op_attr r.root ++ uint r.read_max ++ uint r.read_preferred ++ uint r.read_multiple
    ++ uint r.write_max ++ uint r.write_preferred ++ uint r.write_multiple ++ uint r.directory_preferred
    ++ uhyper r.max_file_size ++ nfstime3 r.time_delta ++ uint r.properties

-- PATHCONF (section 3.3.20)
unfoldable pub pathconf_ok : PathConfOk → List ℕ
pathconf_ok r =
    post_op_attr r.object ++ uint r.link_max ++ uint r.name_max ++ bool r.no_truncation
    ++ bool r.chown_restricted ++ bool r.case_insensitive ++ bool r.case_preserving

-- COMMIT (section 3.3.21)
unfoldable pub commit_ok : CommitOk → List ℕ
commit_ok r = wcc_data r.file ++ uhyper r.verifier
