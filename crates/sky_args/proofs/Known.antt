-- The definitions against bytes that another encoder made of the same calls: each row holds by computation, both ways.
-- A row is the number of a procedure, a call, and the words of its arguments.
use Rattle.std.proofs.Common.{◌≡◌, ℕ, ◌+◌, ◌*◌, ◌^◌, Some, None, List, [], ◌∷◌, Ok, Err, refl}
use Rattle.std.specs.Prelude.{codes}
use Rattle.std.specs.List.{flat_map}
use Rattle.sky_nfs.specs.declared.call.Call.{Call}
use Rattle.sky_nfs.specs.declared.call.Call.TheVariants.{Null, GetAttr, SetAttr, Lookup, Access, ReadLink, Read, Write, Create, Mkdir, Symlink, Mknod, Remove, Rmdir, Rename, Link, ReadDir, ReadDirPlus, FsStat, FsInfo, PathConf, Commit}
use Rattle.sky_nfs.specs.declared.call.CreateHow.TheVariants.{Unchecked, Guarded, Exclusive}
use Rattle.sky_nfs.specs.declared.call.DirOpArgs.{DirOpArgs}
use Rattle.sky_nfs.specs.declared.call.MknodData.TheVariants.{Regular, Directory, Block, Character, SymbolicLink, Socket, Pipe}
use Rattle.sky_nfs.specs.declared.call.SetAttr as attributes
use Rattle.sky_nfs.specs.declared.call.SetTime.TheVariants.{Keep, Server, Client}
use Rattle.sky_nfs.specs.declared.call.StableHow.TheVariants.{Unstable, FileSync}
use Rattle.sky_xdr.specs.Encoding.{uint, uhyper}
use Rattle.sky_xdr.specs.Reading.{bind, word, double_word, uint_at, uhyper_at, bool_at, fixed_at, opaque_at}
use Rattle.sky_xdr.specs.GrammarReading.{give, refuse, optional_at}
use Rattle.sky_args.specs.Args.{args_bytes}
use Rattle.sky_args.specs.Parts.{dir_op_args_bytes, moment_bytes, device_bytes, set_time_bytes, set_attr_bytes, guard_bytes, stable_how_bytes, create_how_bytes, mknod_bytes}
use Rattle.sky_args.specs.Reading.{NoSuchProc, Garbage, null_at, get_attr_at, set_attr_call_at, lookup_at, access_at, read_link_at, read_at, write_at, create_at, mkdir_at, symlink_at, mknod_at, remove_at, rmdir_at, rename_at, link_at, read_dir_at, read_dir_plus_at, fs_stat_at, fs_info_at, path_conf_at, commit_at, handle_at, text_at, verifier_at, dir_op_args_at, moment_at, device_at, client_time_at, set_time_from, set_time_at, set_attr_at, guard_at, stable_how_from, stable_how_at, unchecked_at, guarded_at, exclusive_at, create_how_from, create_how_at, block_at, character_at, socket_at, pipe_at, mknod_data_from, mknod_data_at, args_at}

-- the bytes of words
abbrev bytes_of : List ℕ → List ℕ
bytes_of ws = flat_map uint ws

-- a call is read from these words, and written as them
abbrev Row : ℕ → Call → List ℕ → Type 0
Row procedure call words = (args_at procedure (bytes_of words) ≡ Ok call) × (args_bytes call ≡ bytes_of words)

-- words are the arguments of no call of a procedure
abbrev Refused : ℕ → List ℕ → Type 0
Refused procedure words = args_at procedure (bytes_of words) ≡ Err Garbage

abbrev fh : List ℕ
fh = 0x11 ∷ 0x12 ∷ 0x13 ∷ 0x14 ∷ 0x15 ∷ 0x16 ∷ 0x17 ∷ 0x18 ∷ []

abbrev other : List ℕ
other = 0x21 ∷ 0x22 ∷ 0x23 ∷ 0x24 ∷ []

abbrev verifier : List ℕ
verifier = 0xa1 ∷ 0xa2 ∷ 0xa3 ∷ 0xa4 ∷ 0xa5 ∷ 0xa6 ∷ 0xa7 ∷ 0xa8 ∷ []

abbrev at : List ℕ → List ℕ → DirOpArgs
at directory name = record { directory = directory; name = name }

abbrev all_set : attributes.SetAttr
all_set = record {
  mode = Some 0x1a4;
  uid = Some 7;
  gid = Some 8;
  size = Some (9 * 2 ^ 32 + 1);
  atime = Client (record { seconds = 10; nanos = 11 });
  mtime = Client (record { seconds = 12; nanos = 13 });
}

abbrev none_set : attributes.SetAttr
none_set = record { mode = None; uid = None; gid = None; size = None; atime = Keep; mtime = Keep }

abbrev times_by_server : attributes.SetAttr
times_by_server = record { mode = None; uid = None; gid = None; size = None; atime = Server; mtime = Server }

queries :
    Row 0 Null ([]) ×
    Row 1 (GetAttr fh) (8 ∷ 0x11121314 ∷ 0x15161718 ∷ []) ×
    Row 1 (GetAttr []) (0 ∷ []) ×
    Row 3 (Lookup (at fh (codes "abcde"))) (8 ∷ 0x11121314 ∷ 0x15161718 ∷ 5 ∷ 0x61626364 ∷ 0x65000000 ∷ []) ×
    Row 3 (Lookup (at [] [])) (0 ∷ 0 ∷ []) ×
    Row 4 (Access fh 0x3f) (8 ∷ 0x11121314 ∷ 0x15161718 ∷ 63 ∷ []) ×
    Row 5 (ReadLink fh) (8 ∷ 0x11121314 ∷ 0x15161718 ∷ []) ×
    Row 6 (Read fh (2 ^ 32 + 2) 3) (8 ∷ 0x11121314 ∷ 0x15161718 ∷ 1 ∷ 2 ∷ 3 ∷ []) ×
    Row 16 (ReadDir fh (2 ^ 32 + 2) verifier 4) (8 ∷ 0x11121314 ∷ 0x15161718 ∷ 1 ∷ 2 ∷ 0xa1a2a3a4 ∷ 0xa5a6a7a8 ∷ 4 ∷ []) ×
    Row 17 (ReadDirPlus fh (2 ^ 32 + 2) verifier 4 5) (8 ∷ 0x11121314 ∷ 0x15161718 ∷ 1 ∷ 2 ∷ 0xa1a2a3a4 ∷ 0xa5a6a7a8 ∷ 4 ∷ 5 ∷ []) ×
    Row 18 (FsStat fh) (8 ∷ 0x11121314 ∷ 0x15161718 ∷ []) ×
    Row 19 (FsInfo fh) (8 ∷ 0x11121314 ∷ 0x15161718 ∷ []) ×
    Row 20 (PathConf fh) (8 ∷ 0x11121314 ∷ 0x15161718 ∷ []) ×
    Row 21 (Commit fh (2 ^ 32 + 2) 3) (8 ∷ 0x11121314 ∷ 0x15161718 ∷ 1 ∷ 2 ∷ 3 ∷ [])
unfolding args_at null_at get_attr_at set_attr_call_at lookup_at access_at read_link_at read_at write_at create_at mkdir_at symlink_at mknod_at remove_at rmdir_at rename_at link_at read_dir_at read_dir_plus_at fs_stat_at fs_info_at path_conf_at commit_at handle_at text_at verifier_at dir_op_args_at moment_at device_at client_time_at set_time_from set_time_at set_attr_at guard_at stable_how_from stable_how_at unchecked_at guarded_at exclusive_at create_how_from create_how_at block_at character_at socket_at pipe_at mknod_data_from mknod_data_at dir_op_args_bytes moment_bytes device_bytes set_time_bytes set_attr_bytes guard_bytes stable_how_bytes create_how_bytes mknod_bytes optional_at bind give refuse fixed_at opaque_at bool_at uhyper_at uint_at word double_word uint uhyper
queries = ((refl, refl), (refl, refl), (refl, refl), (refl, refl), (refl, refl), (refl, refl), (refl, refl), (refl, refl), (refl, refl), (refl, refl), (refl, refl), (refl, refl), (refl, refl), (refl, refl))

changes :
    Row 2 (SetAttr fh all_set (Some (record { seconds = 14; nanos = 15 }))) (8 ∷ 0x11121314 ∷ 0x15161718 ∷ 1 ∷ 0x1a4 ∷ 1 ∷ 7 ∷ 1 ∷ 8 ∷ 1 ∷ 9 ∷ 1 ∷ 2 ∷ 10 ∷ 11 ∷ 2 ∷ 12 ∷ 13 ∷ 1 ∷ 14 ∷ 15 ∷ []) ×
    Row 2 (SetAttr fh none_set None) (8 ∷ 0x11121314 ∷ 0x15161718 ∷ 0 ∷ 0 ∷ 0 ∷ 0 ∷ 0 ∷ 0 ∷ 0 ∷ []) ×
    Row 7 (Write fh (2 ^ 32 + 2) 5 Unstable (codes "hello")) (8 ∷ 0x11121314 ∷ 0x15161718 ∷ 1 ∷ 2 ∷ 5 ∷ 0 ∷ 5 ∷ 0x68656c6c ∷ 0x6f000000 ∷ []) ×
    Row 7 (Write fh 0 0 FileSync []) (8 ∷ 0x11121314 ∷ 0x15161718 ∷ 0 ∷ 0 ∷ 0 ∷ 2 ∷ 0 ∷ []) ×
    Row 9 (Mkdir (at fh (codes "ab")) all_set) (8 ∷ 0x11121314 ∷ 0x15161718 ∷ 2 ∷ 0x61620000 ∷ 1 ∷ 0x1a4 ∷ 1 ∷ 7 ∷ 1 ∷ 8 ∷ 1 ∷ 9 ∷ 1 ∷ 2 ∷ 10 ∷ 11 ∷ 2 ∷ 12 ∷ 13 ∷ []) ×
    Row 9 (Mkdir (at fh (codes "ab")) none_set) (8 ∷ 0x11121314 ∷ 0x15161718 ∷ 2 ∷ 0x61620000 ∷ 0 ∷ 0 ∷ 0 ∷ 0 ∷ 0 ∷ 0 ∷ []) ×
    Row 10 (Symlink (at fh (codes "abc")) all_set (codes "/x")) (8 ∷ 0x11121314 ∷ 0x15161718 ∷ 3 ∷ 0x61626300 ∷ 1 ∷ 0x1a4 ∷ 1 ∷ 7 ∷ 1 ∷ 8 ∷ 1 ∷ 9 ∷ 1 ∷ 2 ∷ 10 ∷ 11 ∷ 2 ∷ 12 ∷ 13 ∷ 2 ∷ 0x2f780000 ∷ []) ×
    Row 10 (Symlink (at fh (codes "abc")) times_by_server []) (8 ∷ 0x11121314 ∷ 0x15161718 ∷ 3 ∷ 0x61626300 ∷ 0 ∷ 0 ∷ 0 ∷ 0 ∷ 1 ∷ 1 ∷ 0 ∷ []) ×
    Row 12 (Remove (at fh (codes "a"))) (8 ∷ 0x11121314 ∷ 0x15161718 ∷ 1 ∷ 0x61000000 ∷ []) ×
    Row 13 (Rmdir (at fh (codes "b"))) (8 ∷ 0x11121314 ∷ 0x15161718 ∷ 1 ∷ 0x62000000 ∷ []) ×
    Row 14 (Rename (at fh (codes "a")) (at other (codes "bc"))) (8 ∷ 0x11121314 ∷ 0x15161718 ∷ 1 ∷ 0x61000000 ∷ 4 ∷ 0x21222324 ∷ 2 ∷ 0x62630000 ∷ []) ×
    Row 15 (Link fh (at other (codes "bc"))) (8 ∷ 0x11121314 ∷ 0x15161718 ∷ 4 ∷ 0x21222324 ∷ 2 ∷ 0x62630000 ∷ [])
unfolding args_at null_at get_attr_at set_attr_call_at lookup_at access_at read_link_at read_at write_at create_at mkdir_at symlink_at mknod_at remove_at rmdir_at rename_at link_at read_dir_at read_dir_plus_at fs_stat_at fs_info_at path_conf_at commit_at handle_at text_at verifier_at dir_op_args_at moment_at device_at client_time_at set_time_from set_time_at set_attr_at guard_at stable_how_from stable_how_at unchecked_at guarded_at exclusive_at create_how_from create_how_at block_at character_at socket_at pipe_at mknod_data_from mknod_data_at dir_op_args_bytes moment_bytes device_bytes set_time_bytes set_attr_bytes guard_bytes stable_how_bytes create_how_bytes mknod_bytes optional_at bind give refuse fixed_at opaque_at bool_at uhyper_at uint_at word double_word uint uhyper
changes = ((refl, refl), (refl, refl), (refl, refl), (refl, refl), (refl, refl), (refl, refl), (refl, refl), (refl, refl), (refl, refl), (refl, refl), (refl, refl), (refl, refl))

special :
    Row 8 (Create (at fh (codes "a")) (Unchecked all_set)) (8 ∷ 0x11121314 ∷ 0x15161718 ∷ 1 ∷ 0x61000000 ∷ 0 ∷ 1 ∷ 0x1a4 ∷ 1 ∷ 7 ∷ 1 ∷ 8 ∷ 1 ∷ 9 ∷ 1 ∷ 2 ∷ 10 ∷ 11 ∷ 2 ∷ 12 ∷ 13 ∷ []) ×
    Row 8 (Create (at fh (codes "a")) (Guarded none_set)) (8 ∷ 0x11121314 ∷ 0x15161718 ∷ 1 ∷ 0x61000000 ∷ 1 ∷ 0 ∷ 0 ∷ 0 ∷ 0 ∷ 0 ∷ 0 ∷ []) ×
    Row 8 (Create (at fh (codes "a")) (Exclusive verifier)) (8 ∷ 0x11121314 ∷ 0x15161718 ∷ 1 ∷ 0x61000000 ∷ 2 ∷ 0xa1a2a3a4 ∷ 0xa5a6a7a8 ∷ []) ×
    Row 11 (Mknod (at fh (codes "a")) Regular) (8 ∷ 0x11121314 ∷ 0x15161718 ∷ 1 ∷ 0x61000000 ∷ 1 ∷ []) ×
    Row 11 (Mknod (at fh (codes "a")) Directory) (8 ∷ 0x11121314 ∷ 0x15161718 ∷ 1 ∷ 0x61000000 ∷ 2 ∷ []) ×
    Row 11 (Mknod (at fh (codes "a")) (Block all_set (record { major = 16; minor = 17 }))) (8 ∷ 0x11121314 ∷ 0x15161718 ∷ 1 ∷ 0x61000000 ∷ 3 ∷ 1 ∷ 0x1a4 ∷ 1 ∷ 7 ∷ 1 ∷ 8 ∷ 1 ∷ 9 ∷ 1 ∷ 2 ∷ 10 ∷ 11 ∷ 2 ∷ 12 ∷ 13 ∷ 16 ∷ 17 ∷ []) ×
    Row 11 (Mknod (at fh (codes "a")) (Character none_set (record { major = 16; minor = 17 }))) (8 ∷ 0x11121314 ∷ 0x15161718 ∷ 1 ∷ 0x61000000 ∷ 4 ∷ 0 ∷ 0 ∷ 0 ∷ 0 ∷ 0 ∷ 0 ∷ 16 ∷ 17 ∷ []) ×
    Row 11 (Mknod (at fh (codes "a")) SymbolicLink) (8 ∷ 0x11121314 ∷ 0x15161718 ∷ 1 ∷ 0x61000000 ∷ 5 ∷ []) ×
    Row 11 (Mknod (at fh (codes "a")) (Socket none_set)) (8 ∷ 0x11121314 ∷ 0x15161718 ∷ 1 ∷ 0x61000000 ∷ 6 ∷ 0 ∷ 0 ∷ 0 ∷ 0 ∷ 0 ∷ 0 ∷ []) ×
    Row 11 (Mknod (at fh (codes "a")) (Pipe all_set)) (8 ∷ 0x11121314 ∷ 0x15161718 ∷ 1 ∷ 0x61000000 ∷ 7 ∷ 1 ∷ 0x1a4 ∷ 1 ∷ 7 ∷ 1 ∷ 8 ∷ 1 ∷ 9 ∷ 1 ∷ 2 ∷ 10 ∷ 11 ∷ 2 ∷ 12 ∷ 13 ∷ [])
unfolding args_at null_at get_attr_at set_attr_call_at lookup_at access_at read_link_at read_at write_at create_at mkdir_at symlink_at mknod_at remove_at rmdir_at rename_at link_at read_dir_at read_dir_plus_at fs_stat_at fs_info_at path_conf_at commit_at handle_at text_at verifier_at dir_op_args_at moment_at device_at client_time_at set_time_from set_time_at set_attr_at guard_at stable_how_from stable_how_at unchecked_at guarded_at exclusive_at create_how_from create_how_at block_at character_at socket_at pipe_at mknod_data_from mknod_data_at dir_op_args_bytes moment_bytes device_bytes set_time_bytes set_attr_bytes guard_bytes stable_how_bytes create_how_bytes mknod_bytes optional_at bind give refuse fixed_at opaque_at bool_at uhyper_at uint_at word double_word uint uhyper
special = ((refl, refl), (refl, refl), (refl, refl), (refl, refl), (refl, refl), (refl, refl), (refl, refl), (refl, refl), (refl, refl), (refl, refl))

-- NULL with a word; a word is left; a handle of 65 bytes; a boolean of 2; a time set in a way that there isn't; stable in a way that there isn't; the padding is missing; made in a way that there isn't; of kind 0; of kind 8; kind 1 carries nothing
refused :
    Refused 0 (0 ∷ []) ×
    Refused 1 (8 ∷ 0x11121314 ∷ 0x15161718 ∷ 0 ∷ []) ×
    Refused 1 (65 ∷ 0 ∷ 0 ∷ 0 ∷ 0 ∷ 0 ∷ 0 ∷ 0 ∷ 0 ∷ 0 ∷ 0 ∷ 0 ∷ 0 ∷ 0 ∷ 0 ∷ 0 ∷ 0 ∷ 0 ∷ []) ×
    Refused 2 (8 ∷ 0x11121314 ∷ 0x15161718 ∷ 2 ∷ 0 ∷ 0 ∷ 0 ∷ 0 ∷ 0 ∷ 0 ∷ []) ×
    Refused 2 (8 ∷ 0x11121314 ∷ 0x15161718 ∷ 0 ∷ 0 ∷ 0 ∷ 0 ∷ 3 ∷ 0 ∷ 0 ∷ []) ×
    Refused 7 (8 ∷ 0x11121314 ∷ 0x15161718 ∷ 1 ∷ 2 ∷ 5 ∷ 3 ∷ 5 ∷ 0x68656c6c ∷ 0x6f000000 ∷ []) ×
    Refused 7 (8 ∷ 0x11121314 ∷ 0x15161718 ∷ 1 ∷ 2 ∷ 5 ∷ 0 ∷ 5 ∷ 0x68656c6c ∷ []) ×
    Refused 8 (8 ∷ 0x11121314 ∷ 0x15161718 ∷ 1 ∷ 0x61000000 ∷ 3 ∷ []) ×
    Refused 11 (8 ∷ 0x11121314 ∷ 0x15161718 ∷ 1 ∷ 0x61000000 ∷ 0 ∷ []) ×
    Refused 11 (8 ∷ 0x11121314 ∷ 0x15161718 ∷ 1 ∷ 0x61000000 ∷ 8 ∷ []) ×
    Refused 11 (8 ∷ 0x11121314 ∷ 0x15161718 ∷ 1 ∷ 0x61000000 ∷ 1 ∷ 0 ∷ 0 ∷ 0 ∷ 0 ∷ 0 ∷ 0 ∷ [])
unfolding args_at null_at get_attr_at set_attr_call_at lookup_at access_at read_link_at read_at write_at create_at mkdir_at symlink_at mknod_at remove_at rmdir_at rename_at link_at read_dir_at read_dir_plus_at fs_stat_at fs_info_at path_conf_at commit_at handle_at text_at verifier_at dir_op_args_at moment_at device_at client_time_at set_time_from set_time_at set_attr_at guard_at stable_how_from stable_how_at unchecked_at guarded_at exclusive_at create_how_from create_how_at block_at character_at socket_at pipe_at mknod_data_from mknod_data_at dir_op_args_bytes moment_bytes device_bytes set_time_bytes set_attr_bytes guard_bytes stable_how_bytes create_how_bytes mknod_bytes optional_at bind give refuse fixed_at opaque_at bool_at uhyper_at uint_at word double_word uint uhyper
refused = (refl, refl, refl, refl, refl, refl, refl, refl, refl, refl, refl)

no_procedure : args_at 22 [] ≡ Err NoSuchProc
unfolding args_at
no_procedure = refl
