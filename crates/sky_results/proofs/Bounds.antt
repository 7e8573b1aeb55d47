-- No answer has many bytes, beside its text, its data or its entries.
--   told_most, wcc_most      attributes that are told or not, and an object before and after a call
--   answer_most              an answer
use Rattle.std.proofs.Common.{◌≡◌, ◌+◌, ◌≤◌, ◌++◌, ℕ, List, length, flat_map, Option, Some, None, Ok, Err, arith, lit≤, refl}
use Rattle.std.proofs.lemmas.List.{length-append}
use Rattle.sky_base.specs.declared.attr.Attr.{Attr}
use Rattle.sky_nfs.specs.declared.answer.AccessOk.{AccessOk}
use Rattle.sky_nfs.specs.declared.answer.Answer.{Answer}
use Rattle.sky_nfs.specs.declared.answer.Answer.TheVariants.{Null, GetAttr, SetAttr, Lookup, Access, ReadLink, Read, Write, Create, Mkdir, Symlink, Mknod, Remove, Rmdir, Rename, Link, ReadDir, ReadDirPlus, FsStat, FsInfo, PathConf, Commit}
use Rattle.sky_nfs.specs.declared.answer.CommitOk.{CommitOk}
use Rattle.sky_nfs.specs.declared.answer.CreateOk.{CreateOk}
use Rattle.sky_nfs.specs.declared.answer.FsInfoOk.{FsInfoOk}
use Rattle.sky_nfs.specs.declared.answer.FsStatOk.{FsStatOk}
use Rattle.sky_nfs.specs.declared.answer.LinkResults.{LinkResults}
use Rattle.sky_nfs.specs.declared.answer.LookupOk.{LookupOk}
use Rattle.sky_nfs.specs.declared.answer.PathConfOk.{PathConfOk}
use Rattle.sky_nfs.specs.declared.answer.ReadDirOk.{ReadDirOk}
use Rattle.sky_nfs.specs.declared.answer.ReadDirPlusOk.{ReadDirPlusOk}
use Rattle.sky_nfs.specs.declared.answer.ReadLinkOk.{ReadLinkOk}
use Rattle.sky_nfs.specs.declared.answer.ReadOk.{ReadOk}
use Rattle.sky_nfs.specs.declared.answer.Refused.{Refused}
use Rattle.sky_nfs.specs.declared.answer.RenameResults.{RenameResults}
use Rattle.sky_nfs.specs.declared.answer.WccAttr.{WccAttr}
use Rattle.sky_nfs.specs.declared.answer.WccData.{WccData}
use Rattle.sky_nfs.specs.declared.answer.WriteOk.{WriteOk}
use Rattle.sky_xdr.specs.Encoding.{uint, opaque}
use Rattle.sky_xdr.proofs.Numbers.{length-uint}
use Rattle.sky_results.specs.Answers.{refused, answer_bytes, data_length}
use Rattle.sky_results.specs.Attributes.{post_op_attr}
use Rattle.sky_results.specs.Results.{lookup_ok, access_ok, readlink_ok, read_ok, write_ok, create_ok, rename_results, link_results, entry3, entryplus3, readdir_ok, readdirplus_ok, fsstat_ok, fsinfo_ok, pathconf_ok, commit_ok}
use Rattle.sky_results.specs.Wcc.{pre_op_attr, wcc_data}
use Rattle.sky_results.proofs.Sizes.{sizes}

pub told_most : (told : Option Attr) → length (post_op_attr told) ≤ 88
unfolding post_op_attr
told_most None = simp sizes (lit≤ tt)
told_most (Some a) = simp sizes (lit≤ tt)

before_most : (told : Option WccAttr) → length (pre_op_attr told) ≤ 28
unfolding pre_op_attr
before_most None = simp sizes (lit≤ tt)
before_most (Some w) = simp sizes (lit≤ tt)

pub wcc_most : (w : WccData) → length (wcc_data w) ≤ 116
unfolding wcc_data
wcc_most w = simp sizes (omega (arith, before_most w.before, told_most w.after))

lookup_most : (a : LookupOk) → length (lookup_ok a) ≤ 196
unfolding lookup_ok
lookup_most a = simp sizes (omega (arith, told_most a.object, told_most a.directory))

access_most : (a : AccessOk) → length (access_ok a) ≤ 92
unfolding access_ok
access_most a = simp sizes (omega (arith, told_most a.object))

pub readlink_most : (a : ReadLinkOk) → length (readlink_ok a) ≤ 88 + length (opaque a.text)
unfolding readlink_ok
readlink_most a = simp sizes (omega (arith, told_most a.link))

pub read_most : (a : ReadOk) → length (read_ok a) ≤ 96 + length (opaque a.«data»)
unfolding read_ok
read_most a = simp sizes (omega (arith, told_most a.file))

write_most : (a : WriteOk) → length (write_ok a) ≤ 132
unfolding write_ok
write_most a = simp sizes (omega (arith, wcc_most a.file))

create_most : (a : CreateOk) → length (create_ok a) ≤ 228
unfolding create_ok
create_most a = simp sizes (omega (arith, told_most a.object, wcc_most a.directory))

rename_most : (a : RenameResults) → length (rename_results a) ≤ 232
unfolding rename_results
rename_most a = simp sizes (omega (arith, wcc_most a.from, wcc_most a.to))

link_most : (a : LinkResults) → length (link_results a) ≤ 204
unfolding link_results
link_most a = simp sizes (omega (arith, told_most a.file, wcc_most a.directory))

pub readdir_most : (a : ReadDirOk) → length (readdir_ok a) ≤ 104 + length (flat_map entry3 a.entries)
unfolding readdir_ok
readdir_most a = simp sizes (omega (arith, told_most a.directory))

pub readdirplus_most : (a : ReadDirPlusOk) → length (readdirplus_ok a) ≤ 104 + length (flat_map entryplus3 a.entries)
unfolding readdirplus_ok
readdirplus_most a = simp sizes (omega (arith, told_most a.directory))

fsstat_most : (a : FsStatOk) → length (fsstat_ok a) ≤ 140
unfolding fsstat_ok
fsstat_most a = simp sizes (omega (arith, told_most a.root))

fsinfo_most : (a : FsInfoOk) → length (fsinfo_ok a) ≤ 136
unfolding fsinfo_ok
fsinfo_most a = simp sizes (omega (arith, told_most a.root))

pathconf_most : (a : PathConfOk) → length (pathconf_ok a) ≤ 112
unfolding pathconf_ok
pathconf_most a = simp sizes (omega (arith, told_most a.object))

commit_most : (a : CommitOk) → length (commit_ok a) ≤ 124
unfolding commit_ok
commit_most a = simp sizes (omega (arith, wcc_most a.file))

told_refusal_most : (e : Refused (Option Attr)) → length (refused post_op_attr e) ≤ 92
told_refusal_most e = simp sizes (omega (arith, told_most e.attributes))

wcc_refusal_most : (e : Refused WccData) → length (refused wcc_data e) ≤ 120
wcc_refusal_most e = simp sizes (omega (arith, wcc_most e.attributes))

pub answer_most : (a : Answer) → length (answer_bytes a) ≤ 236 + data_length a
unfolding answer_bytes
answer_most Null = lit≤ tt
answer_most (GetAttr (Ok a)) = simp sizes (lit≤ tt)
answer_most (GetAttr (Err status)) = simp sizes (lit≤ tt)
answer_most (SetAttr (Ok r)) = simp sizes (omega (arith, wcc_most r))
answer_most (SetAttr (Err e)) = omega (arith, wcc_refusal_most e)
answer_most (Lookup (Ok r)) = simp sizes (omega (arith, lookup_most r))
answer_most (Lookup (Err e)) = omega (arith, told_refusal_most e)
answer_most (Access (Ok r)) = simp sizes (omega (arith, access_most r))
answer_most (Access (Err e)) = omega (arith, told_refusal_most e)
answer_most (ReadLink (Ok r)) = omega (arith, length-append (uint 0) (readlink_ok r), length-uint 0, readlink_most r)
answer_most (ReadLink (Err e)) = omega (arith, told_refusal_most e)
answer_most (Read (Ok r)) = omega (arith, length-append (uint 0) (read_ok r), length-uint 0, read_most r)
answer_most (Read (Err e)) = omega (arith, told_refusal_most e)
answer_most (Write (Ok r)) = simp sizes (omega (arith, write_most r))
answer_most (Write (Err e)) = omega (arith, wcc_refusal_most e)
answer_most (Create (Ok r)) = simp sizes (omega (arith, create_most r))
answer_most (Create (Err e)) = omega (arith, wcc_refusal_most e)
answer_most (Mkdir (Ok r)) = simp sizes (omega (arith, create_most r))
answer_most (Mkdir (Err e)) = omega (arith, wcc_refusal_most e)
answer_most (Symlink (Ok r)) = simp sizes (omega (arith, create_most r))
answer_most (Symlink (Err e)) = omega (arith, wcc_refusal_most e)
answer_most (Remove (Ok r)) = simp sizes (omega (arith, wcc_most r))
answer_most (Remove (Err e)) = omega (arith, wcc_refusal_most e)
answer_most (Rmdir (Ok r)) = simp sizes (omega (arith, wcc_most r))
answer_most (Rmdir (Err e)) = omega (arith, wcc_refusal_most e)
answer_most (Rename (Ok r)) = simp sizes (omega (arith, rename_most r))
answer_most (Rename (Err e)) = simp sizes (omega (arith, rename_most e.attributes))
answer_most (Link (Ok r)) = simp sizes (omega (arith, link_most r))
answer_most (Link (Err e)) = simp sizes (omega (arith, link_most e.attributes))
answer_most (ReadDir (Ok r)) = simp sizes (omega (arith, readdir_most r))
answer_most (ReadDir (Err e)) = omega (arith, told_refusal_most e)
answer_most (ReadDirPlus (Ok r)) = simp sizes (omega (arith, readdirplus_most r))
answer_most (ReadDirPlus (Err e)) = omega (arith, told_refusal_most e)
answer_most (FsStat (Ok r)) = simp sizes (omega (arith, fsstat_most r))
answer_most (FsStat (Err e)) = omega (arith, told_refusal_most e)
answer_most (FsInfo (Ok r)) = simp sizes (omega (arith, fsinfo_most r))
answer_most (FsInfo (Err e)) = omega (arith, told_refusal_most e)
answer_most (PathConf (Ok r)) = simp sizes (omega (arith, pathconf_most r))
answer_most (PathConf (Err e)) = omega (arith, told_refusal_most e)
answer_most (Commit (Ok r)) = simp sizes (omega (arith, commit_most r))
answer_most (Commit (Err e)) = omega (arith, wcc_refusal_most e)
answer_most (Mknod e) = omega (arith, wcc_refusal_most e)

-- by a name that an attribute can have
pub ruleset bounds = (answer_most, length-append, length-uint)
