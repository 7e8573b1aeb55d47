-- The arguments of each procedure: they are read from the bytes that are they, and from no others.
--   call_again         the arguments of a call are read as it, whatever follows them
--   ReadsAll           each of the reading functions reads its own procedure's arguments
use Rattle.std.proofs.Common.{◌≡◌, ℕ, List, Result, refl, sym, subst}
use Rattle.sky_nfs.specs.Calls.{procedure_of}
use Rattle.sky_nfs.specs.declared.call.Call.{Call}
use Rattle.sky_nfs.specs.declared.call.Call.TheVariants.{Null, GetAttr, SetAttr, Lookup, Access, ReadLink, Read, Write, Create, Mkdir, Symlink, Mknod, Remove, Rmdir, Rename, Link, ReadDir, ReadDirPlus, FsStat, FsInfo, PathConf, Commit}
use Rattle.sky_xdr.specs.declared.fault.XdrFault.{XdrFault}
use Rattle.sky_xdr.proofs.Grammars.{Again, Sound, uint_reads, uhyper_reads, then_again, last_again, give_again, then_sound, last_sound, give_sound, in_then}
use Rattle.sky_args.specs.Args.{IsArgs}
use Rattle.sky_args.specs.Reading.{null_at, get_attr_at, set_attr_call_at, lookup_at, access_at, read_link_at, read_at, write_at, create_at, mkdir_at, symlink_at, mknod_at, remove_at, rmdir_at, rename_at, link_at, read_dir_at, read_dir_plus_at, fs_stat_at, fs_info_at, path_conf_at, commit_at}
use Rattle.sky_args.proofs.PartReads.{handle_reads, text_reads, verifier_reads, dir_op_args_reads, set_attr_reads, guard_reads, stable_how_reads, create_how_reads, mknod_data_reads}

-- what a reading function gives are the arguments of a call of this procedure
abbrev pub IsCallOf : ℕ → Call → List ℕ → Type 0
IsCallOf procedure call bytes = (procedure_of call ≡ procedure) × IsArgs bytes call

-- Null
pub null_sound : Sound null_at (IsCallOf 0)
unfolding null_at
null_sound = give_sound Null (refl, refl)

-- GetAttr
pub get_attr_sound : Sound get_attr_at (IsCallOf 1)
unfolding get_attr_at
get_attr_sound = last_sound _ handle_reads (λ object u is_u. (refl, is_u))

-- SetAttr
pub set_attr_call_sound : Sound set_attr_call_at (IsCallOf 2)
unfolding set_attr_call_at
set_attr_call_sound = then_sound _ handle_reads (λ object. then_sound _ set_attr_reads (λ set. last_sound _ guard_reads (λ guard w is_w v is_v u is_u. (refl, in_then u _ is_u (in_then v w is_v is_w)))))

-- Lookup
pub lookup_sound : Sound lookup_at (IsCallOf 3)
unfolding lookup_at
lookup_sound = last_sound _ dir_op_args_reads (λ at u is_u. (refl, is_u))

-- Access
pub access_sound : Sound access_at (IsCallOf 4)
unfolding access_at
access_sound = then_sound _ handle_reads (λ object. last_sound _ uint_reads (λ rights v is_v u is_u. (refl, in_then u v is_u is_v)))

-- ReadLink
pub read_link_sound : Sound read_link_at (IsCallOf 5)
unfolding read_link_at
read_link_sound = last_sound _ handle_reads (λ link u is_u. (refl, is_u))

-- Read
pub read_sound : Sound read_at (IsCallOf 6)
unfolding read_at
read_sound = then_sound _ handle_reads (λ file. then_sound _ uhyper_reads (λ offset. last_sound _ uint_reads (λ count w is_w v is_v u is_u. (refl, in_then u _ is_u (in_then v w is_v is_w)))))

-- Write
pub write_sound : Sound write_at (IsCallOf 7)
unfolding write_at
write_sound = then_sound _ handle_reads (λ file. then_sound _ uhyper_reads (λ offset. then_sound _ uint_reads (λ count. then_sound _ stable_how_reads (λ how. last_sound _ text_reads (λ piece y is_y x is_x w is_w v is_v u is_u. (refl, in_then u _ is_u (in_then v _ is_v (in_then w _ is_w (in_then x y is_x is_y)))))))))

-- Create
pub create_sound : Sound create_at (IsCallOf 8)
unfolding create_at
create_sound = then_sound _ dir_op_args_reads (λ at. last_sound _ create_how_reads (λ how v is_v u is_u. (refl, in_then u v is_u is_v)))

-- Mkdir
pub mkdir_sound : Sound mkdir_at (IsCallOf 9)
unfolding mkdir_at
mkdir_sound = then_sound _ dir_op_args_reads (λ at. last_sound _ set_attr_reads (λ set v is_v u is_u. (refl, in_then u v is_u is_v)))

-- Symlink
pub symlink_sound : Sound symlink_at (IsCallOf 10)
unfolding symlink_at
symlink_sound = then_sound _ dir_op_args_reads (λ at. then_sound _ set_attr_reads (λ set. last_sound _ text_reads (λ text w is_w v is_v u is_u. (refl, in_then u _ is_u (in_then v w is_v is_w)))))

-- Mknod
pub mknod_sound : Sound mknod_at (IsCallOf 11)
unfolding mknod_at
mknod_sound = then_sound _ dir_op_args_reads (λ at. last_sound _ mknod_data_reads (λ what v is_v u is_u. (refl, in_then u v is_u is_v)))

-- Remove
pub remove_sound : Sound remove_at (IsCallOf 12)
unfolding remove_at
remove_sound = last_sound _ dir_op_args_reads (λ at u is_u. (refl, is_u))

-- Rmdir
pub rmdir_sound : Sound rmdir_at (IsCallOf 13)
unfolding rmdir_at
rmdir_sound = last_sound _ dir_op_args_reads (λ at u is_u. (refl, is_u))

-- Rename
pub rename_sound : Sound rename_at (IsCallOf 14)
unfolding rename_at
rename_sound = then_sound _ dir_op_args_reads (λ from. last_sound _ dir_op_args_reads (λ to v is_v u is_u. (refl, in_then u v is_u is_v)))

-- Link
pub link_sound : Sound link_at (IsCallOf 15)
unfolding link_at
link_sound = then_sound _ handle_reads (λ file. last_sound _ dir_op_args_reads (λ at v is_v u is_u. (refl, in_then u v is_u is_v)))

-- ReadDir
pub read_dir_sound : Sound read_dir_at (IsCallOf 16)
unfolding read_dir_at
read_dir_sound = then_sound _ handle_reads (λ directory. then_sound _ uhyper_reads (λ cookie. then_sound _ verifier_reads (λ verifier. last_sound _ uint_reads (λ count x is_x w is_w v is_v u is_u. (refl, in_then u _ is_u (in_then v _ is_v (in_then w x is_w is_x)))))))

-- ReadDirPlus
pub read_dir_plus_sound : Sound read_dir_plus_at (IsCallOf 17)
unfolding read_dir_plus_at
read_dir_plus_sound = then_sound _ handle_reads (λ directory. then_sound _ uhyper_reads (λ cookie. then_sound _ verifier_reads (λ verifier. then_sound _ uint_reads (λ dircount. last_sound _ uint_reads (λ maxcount y is_y x is_x w is_w v is_v u is_u. (refl, in_then u _ is_u (in_then v _ is_v (in_then w _ is_w (in_then x y is_x is_y)))))))))

-- FsStat
pub fs_stat_sound : Sound fs_stat_at (IsCallOf 18)
unfolding fs_stat_at
fs_stat_sound = last_sound _ handle_reads (λ root u is_u. (refl, is_u))

-- FsInfo
pub fs_info_sound : Sound fs_info_at (IsCallOf 19)
unfolding fs_info_at
fs_info_sound = last_sound _ handle_reads (λ root u is_u. (refl, is_u))

-- PathConf
pub path_conf_sound : Sound path_conf_at (IsCallOf 20)
unfolding path_conf_at
path_conf_sound = last_sound _ handle_reads (λ object u is_u. (refl, is_u))

-- Commit
pub commit_sound : Sound commit_at (IsCallOf 21)
unfolding commit_at
commit_sound = then_sound _ handle_reads (λ file. then_sound _ uhyper_reads (λ offset. last_sound _ uint_reads (λ count w is_w v is_v u is_u. (refl, in_then u _ is_u (in_then v w is_v is_w)))))

-- the arguments of a call are read as that call by its procedure's function, whatever follows them
abbrev pub reader_of : Call → List ℕ → Result (Call × List ℕ) XdrFault
reader_of Null = null_at
reader_of (GetAttr object) = get_attr_at
reader_of (SetAttr object set guard) = set_attr_call_at
reader_of (Lookup at) = lookup_at
reader_of (Access object rights) = access_at
reader_of (ReadLink link) = read_link_at
reader_of (Read file offset count) = read_at
reader_of (Write file offset count how piece) = write_at
reader_of (Create at how) = create_at
reader_of (Mkdir at set) = mkdir_at
reader_of (Symlink at set text) = symlink_at
reader_of (Mknod at what) = mknod_at
reader_of (Remove at) = remove_at
reader_of (Rmdir at) = rmdir_at
reader_of (Rename from to) = rename_at
reader_of (Link file at) = link_at
reader_of (ReadDir directory cookie verifier count) = read_dir_at
reader_of (ReadDirPlus directory cookie verifier dircount maxcount) = read_dir_plus_at
reader_of (FsStat root) = fs_stat_at
reader_of (FsInfo root) = fs_info_at
reader_of (PathConf object) = path_conf_at
reader_of (Commit file offset count) = commit_at

pub call_again : (call : Call) (bytes : List ℕ) → IsArgs bytes call → Again (reader_of call) call bytes
unfolding null_at get_attr_at set_attr_call_at lookup_at access_at read_link_at read_at write_at create_at mkdir_at symlink_at mknod_at remove_at rmdir_at rename_at link_at read_dir_at read_dir_plus_at fs_stat_at fs_info_at path_conf_at commit_at
call_again Null bytes is = subst (λ b. Again null_at Null b) (sym is) (give_again Null)
call_again (GetAttr object) bytes is = last_again _ handle_reads is
call_again (SetAttr object set guard) bytes is = then_again _ handle_reads (λ w is_w. then_again _ set_attr_reads (λ x is_x. last_again _ guard_reads is_x) is_w) is
call_again (Lookup at) bytes is = last_again _ dir_op_args_reads is
call_again (Access object rights) bytes is = then_again _ handle_reads (λ w is_w. last_again _ uint_reads is_w) is
call_again (ReadLink link) bytes is = last_again _ handle_reads is
call_again (Read file offset count) bytes is = then_again _ handle_reads (λ w is_w. then_again _ uhyper_reads (λ x is_x. last_again _ uint_reads is_x) is_w) is
call_again (Write file offset count how piece) bytes is = then_again _ handle_reads (λ w is_w. then_again _ uhyper_reads (λ x is_x. then_again _ uint_reads (λ y is_y. then_again _ stable_how_reads (λ z is_z. last_again _ text_reads is_z) is_y) is_x) is_w) is
call_again (Create at how) bytes is = then_again _ dir_op_args_reads (λ w is_w. last_again _ create_how_reads is_w) is
call_again (Mkdir at set) bytes is = then_again _ dir_op_args_reads (λ w is_w. last_again _ set_attr_reads is_w) is
call_again (Symlink at set text) bytes is = then_again _ dir_op_args_reads (λ w is_w. then_again _ set_attr_reads (λ x is_x. last_again _ text_reads is_x) is_w) is
call_again (Mknod at what) bytes is = then_again _ dir_op_args_reads (λ w is_w. last_again _ mknod_data_reads is_w) is
call_again (Remove at) bytes is = last_again _ dir_op_args_reads is
call_again (Rmdir at) bytes is = last_again _ dir_op_args_reads is
call_again (Rename from to) bytes is = then_again _ dir_op_args_reads (λ w is_w. last_again _ dir_op_args_reads is_w) is
call_again (Link file at) bytes is = then_again _ handle_reads (λ w is_w. last_again _ dir_op_args_reads is_w) is
call_again (ReadDir directory cookie verifier count) bytes is = then_again _ handle_reads (λ w is_w. then_again _ uhyper_reads (λ x is_x. then_again _ verifier_reads (λ y is_y. last_again _ uint_reads is_y) is_x) is_w) is
call_again (ReadDirPlus directory cookie verifier dircount maxcount) bytes is = then_again _ handle_reads (λ w is_w. then_again _ uhyper_reads (λ x is_x. then_again _ verifier_reads (λ y is_y. then_again _ uint_reads (λ z is_z. last_again _ uint_reads is_z) is_y) is_x) is_w) is
call_again (FsStat root) bytes is = last_again _ handle_reads is
call_again (FsInfo root) bytes is = last_again _ handle_reads is
call_again (PathConf object) bytes is = last_again _ handle_reads is
call_again (Commit file offset count) bytes is = then_again _ handle_reads (λ w is_w. then_again _ uhyper_reads (λ x is_x. last_again _ uint_reads is_x) is_w) is
