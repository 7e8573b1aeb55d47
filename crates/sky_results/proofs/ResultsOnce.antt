-- The results of each procedure behind NFS3_OK are read in one way (HasOneReading), but for those of READDIR and
-- READDIRPLUS.
use Rattle.std.proofs.Common.{◌≡◌, ℕ, ◌==◌, Bool, true, false, length, refl, lit<}
use Rattle.sky_nfs.specs.declared.answer.AccessOk.{AccessOk}
use Rattle.sky_nfs.specs.declared.answer.CommitOk.{CommitOk}
use Rattle.sky_nfs.specs.declared.answer.CreateOk.{CreateOk}
use Rattle.sky_nfs.specs.declared.answer.FsInfoOk.{FsInfoOk}
use Rattle.sky_nfs.specs.declared.answer.FsStatOk.{FsStatOk}
use Rattle.sky_nfs.specs.declared.answer.LinkResults.{LinkResults}
use Rattle.sky_nfs.specs.declared.answer.LookupOk.{LookupOk}
use Rattle.sky_nfs.specs.declared.answer.PathConfOk.{PathConfOk}
use Rattle.sky_nfs.specs.declared.answer.ReadLinkOk.{ReadLinkOk}
use Rattle.sky_nfs.specs.declared.answer.ReadOk.{ReadOk}
use Rattle.sky_nfs.specs.declared.answer.RenameResults.{RenameResults}
use Rattle.sky_nfs.specs.declared.answer.WriteOk.{WriteOk}
use Rattle.sky_xdr.specs.Encoding.{uint}
use Rattle.sky_results.specs.Ranges.{IsU32, LookupFits, AccessFits, ReadLinkFits, ReadFits, WriteFits, CreateFits, RenameFits, LinkFits, FsStatFits, FsInfoFits, PathConfFits, CommitFits}
use Rattle.sky_results.specs.Results.{lookup_ok, access_ok, readlink_ok, read_ok, stable_how, write_ok, create_ok, rename_results, link_results, fsstat_ok, fsinfo_ok, pathconf_ok, commit_ok}
use Rattle.sky_results.proofs.OneReading.{HasOneReading, Always, uint_once, uhyper_once, bool_once, opaque_once, both, along, under}
use Rattle.sky_results.proofs.PartsOnce.{nfstime3_once, post_op_attr_once, nfs_fh3_once, post_op_fh3_once, wcc_data_once}

pub lookup_once : HasOneReading LookupFits lookup_ok
unfolding lookup_ok
lookup_once = under (λ a p. ((p.0, p.1), p.2)) (along (both (both nfs_fh3_once post_op_attr_once) post_op_attr_once)
    (λ (a : LookupOk). ((a.handle, a.object), a.directory))
    (λ t. record { handle = t.0.0; object = t.0.1; directory = t.1 }) (λ a. refl))

pub access_once : HasOneReading AccessFits access_ok
unfolding access_ok
access_once = under (λ a p. (p.0, p.1)) (along (both post_op_attr_once uint_once)
    (λ (a : AccessOk). (a.object, a.rights))
    (λ t. record { object = t.0; rights = t.1 }) (λ a. refl))

pub readlink_once : HasOneReading ReadLinkFits readlink_ok
unfolding readlink_ok
readlink_once = under (λ a p. (p.0, p.1)) (along (both post_op_attr_once opaque_once)
    (λ (a : ReadLinkOk). (a.link, a.text))
    (λ t. record { link = t.0; text = t.1 }) (λ a. refl))

pub read_once : HasOneReading ReadFits read_ok
unfolding read_ok
read_once = under (λ a p. (((p.0, p.1), tt), p.1)) (along (both (both (both post_op_attr_once uint_once) bool_once) opaque_once)
    (λ (a : ReadOk). (((a.file, length a.«data»), a.eof), a.«data»))
    (λ t. record { file = t.0.0.0; eof = t.0.1; «data» = t.1 }) (λ a. refl))

-- whether a number of stable_how tells that what was written is stable
is_stable : ℕ → Bool
is_stable n = n == 2

is_stable-stable_how : (committed : Bool) → is_stable (stable_how committed) ≡ committed
unfolding is_stable
is_stable-stable_how true = refl
is_stable-stable_how false = refl

stable_how_fits : (committed : Bool) → IsU32 (stable_how committed)
stable_how_fits true = lit< tt
stable_how_fits false = lit< tt

stable_how_once : HasOneReading Always (λ (b : Bool). uint (stable_how b))
stable_how_once = under (λ b p. stable_how_fits b) (along uint_once stable_how is_stable is_stable-stable_how)

pub write_once : HasOneReading WriteFits write_ok
unfolding write_ok
write_once = under (λ a p. (((p.0, p.1), tt), p.2)) (along (both (both (both wcc_data_once uint_once) stable_how_once) uhyper_once)
    (λ (a : WriteOk). (((a.file, a.count), a.committed), a.verifier))
    (λ t. record { file = t.0.0.0; count = t.0.0.1; committed = t.0.1; verifier = t.1 }) (λ a. refl))

pub create_once : HasOneReading CreateFits create_ok
unfolding create_ok
create_once = under (λ a p. ((p.0, p.1), p.2)) (along (both (both post_op_fh3_once post_op_attr_once) wcc_data_once)
    (λ (a : CreateOk). ((a.handle, a.object), a.directory))
    (λ t. record { handle = t.0.0; object = t.0.1; directory = t.1 }) (λ a. refl))

pub rename_once : HasOneReading RenameFits rename_results
unfolding rename_results
rename_once = under (λ a p. (p.0, p.1)) (along (both wcc_data_once wcc_data_once)
    (λ (a : RenameResults). (a.from, a.to))
    (λ t. record { from = t.0; to = t.1 }) (λ a. refl))

pub link_once : HasOneReading LinkFits link_results
unfolding link_results
link_once = under (λ a p. (p.0, p.1)) (along (both post_op_attr_once wcc_data_once)
    (λ (a : LinkResults). (a.file, a.directory))
    (λ t. record { file = t.0; directory = t.1 }) (λ a. refl))

pub fsstat_once : HasOneReading FsStatFits fsstat_ok
unfolding fsstat_ok
fsstat_once = under (λ a p. (((((((p.0, p.1), p.2), p.3), p.4), p.5), p.6), p.7)) (along (both (both (both (both (both (both (both post_op_attr_once uhyper_once) uhyper_once) uhyper_once) uhyper_once) uhyper_once) uhyper_once) uint_once)
    (λ (a : FsStatOk). (((((((a.root, a.total_bytes), a.free_bytes), a.available_bytes), a.total_files), a.free_files), a.available_files), a.invariant_seconds))
    (λ t. record { root = t.0.0.0.0.0.0.0; total_bytes = t.0.0.0.0.0.0.1; free_bytes = t.0.0.0.0.0.1; available_bytes = t.0.0.0.0.1; total_files = t.0.0.0.1; free_files = t.0.0.1; available_files = t.0.1; invariant_seconds = t.1 }) (λ a. refl))

pub fsinfo_once : HasOneReading FsInfoFits fsinfo_ok
unfolding fsinfo_ok
fsinfo_once = under (λ a p. ((((((((((p.0, p.1), p.2), p.3), p.4), p.5), p.6), p.7), p.8), p.9), p.10)) (along (both (both (both (both (both (both (both (both (both (both post_op_attr_once uint_once) uint_once) uint_once) uint_once) uint_once) uint_once) uint_once) uhyper_once) nfstime3_once) uint_once)
    (λ (a : FsInfoOk). ((((((((((a.root, a.read_max), a.read_preferred), a.read_multiple), a.write_max), a.write_preferred), a.write_multiple), a.directory_preferred), a.max_file_size), a.time_delta), a.properties))
    (λ t. record { root = t.0.0.0.0.0.0.0.0.0.0; read_max = t.0.0.0.0.0.0.0.0.0.1; read_preferred = t.0.0.0.0.0.0.0.0.1; read_multiple = t.0.0.0.0.0.0.0.1; write_max = t.0.0.0.0.0.0.1; write_preferred = t.0.0.0.0.0.1; write_multiple = t.0.0.0.0.1; directory_preferred = t.0.0.0.1; max_file_size = t.0.0.1; time_delta = t.0.1; properties = t.1 }) (λ a. refl))

pub pathconf_once : HasOneReading PathConfFits pathconf_ok
unfolding pathconf_ok
pathconf_once = under (λ a p. ((((((p.0, p.1), p.2), tt), tt), tt), tt)) (along (both (both (both (both (both (both post_op_attr_once uint_once) uint_once) bool_once) bool_once) bool_once) bool_once)
    (λ (a : PathConfOk). ((((((a.object, a.link_max), a.name_max), a.no_truncation), a.chown_restricted), a.case_insensitive), a.case_preserving))
    (λ t. record { object = t.0.0.0.0.0.0; link_max = t.0.0.0.0.0.1; name_max = t.0.0.0.0.1; no_truncation = t.0.0.0.1; chown_restricted = t.0.0.1; case_insensitive = t.0.1; case_preserving = t.1 }) (λ a. refl))

pub commit_once : HasOneReading CommitFits commit_ok
unfolding commit_ok
commit_once = under (λ a p. (p.0, p.1)) (along (both wcc_data_once uhyper_once)
    (λ (a : CommitOk). (a.file, a.verifier))
    (λ t. record { file = t.0; verifier = t.1 }) (λ a. refl))
