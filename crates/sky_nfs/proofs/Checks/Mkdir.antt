-- MKDIR, SYMLINK and MKNOD.
use Rattle.sky_nfs.specs.Handles.{volume_in, fileid_in}
use Rattle.std.proofs.Common.{◌≡◌, ℕ, List, [], ◌∷◌, Some, None, Ok, refl}
use Rattle.std.specs.Prelude.{codes, ◌^◌, replicate}
use Rattle.sky_nfs.specs.declared.answer.Answer.{Answer}
use Rattle.sky_nfs.specs.declared.call.Call.{Call}
use Rattle.sky_nfs.specs.declared.call.MknodData.{MknodData}
use Rattle.sky_nfs.specs.declared.status.NfsStatus.TheVariants.{Perm, Acces, Exist, NotDir, Inval, NoSpc, NameTooLong, Stale, BadHandle, NotSupp}
use Rattle.sky_nfs.specs.Changes.{put}
use Rattle.sky_nfs.specs.Results.{wcc}
use Rattle.sky_nfs.specs.Tree.{Tree, Node, Link, attributes_at}
use Rattle.sky_nfs.specs.Procedure.{procedure, tree_after, refusal_of, rules_of, changed_tree, answer_of}
use Rattle.sky_nfs.proofs.Checks.Sample.{Case, sample, refusals, statuses, fh, gone, foreign, at, at_handle, owner, member, stranger, now, node, entry, directory, set_none, set_uid, set_gid, set_size, set_atime, set_mtime, bad_time}

-- each refusal of MKDIR, and where two apply the first of them
mkdir_cases : List Case
mkdir_cases =
    (stranger, Call.Mkdir (at_handle foreign []) (set_size 0), BadHandle) ∷
    (stranger, Call.Mkdir (at_handle gone []) (set_size 0), Stale) ∷
    (stranger, Call.Mkdir (at 2 []) (set_size 0), NotDir) ∷
    (stranger, Call.Mkdir (at 3 (replicate 256 47)) (set_size 0), NameTooLong) ∷
    (stranger, Call.Mkdir (at 3 (codes "a/b")) (set_size 0), Acces) ∷
    (stranger, Call.Mkdir (at 3 (codes ".")) (set_size 0), Exist) ∷
    (stranger, Call.Mkdir (at 3 (codes "..")) (set_size 0), Exist) ∷
    (stranger, Call.Mkdir (at 3 (codes "x")) (set_size 0), Acces) ∷
    (member, Call.Mkdir (at 3 (codes "x")) (set_size 0), Exist) ∷
    (member, Call.Mkdir (at 3 (codes "n")) (set_size 0), Acces) ∷
    (owner, Call.Mkdir (at 3 (codes "n")) (record (set_size 0) { uid = Some 11 }), Inval) ∷
    (owner, Call.Mkdir (at 3 (codes "n")) (record (set_mtime bad_time) { uid = Some 11 }), Inval) ∷
    (owner, Call.Mkdir (at 3 (codes "n")) (set_uid 11), Perm) ∷
    (owner, Call.Mkdir (at 3 (codes "n")) (set_gid 30), Perm) ∷ []

mkdir_refused : refusals sample mkdir_cases ≡ statuses mkdir_cases
unfolding refusal_of rules_of mkdir_cases volume_in fileid_in
mkdir_refused = refl

-- PERM comes before NOSPC
mkdir_full : refusals (record sample { next_fileid = 2 ^ 26 }) ((owner, Call.Mkdir (at 3 (codes "n")) (set_uid 11), Perm) ∷ (owner, Call.Mkdir (at 3 (codes "n")) set_none, NoSpc) ∷ []) ≡ Some Perm ∷ Some NoSpc ∷ []
unfolding refusal_of rules_of volume_in fileid_in
mkdir_full = refl

-- a new node under /e/n, where the directory has as many links as given
with_new : ℕ → Node → Tree
with_new nlink new = record (put (put sample 6 (record (node 0o777 nlink (directory 1 (entry 3 (codes "n") 8 ∷ []) 4)) { mtime = now; ctime = now })) 8 new) { next_fileid = 9 }

fresh : ℕ → Node → Node
fresh mode n = record n { mode = mode; uid = 13; gid = 30; atime = now; mtime = now; ctime = now }

mkdir :
    let after = with_new 3 (fresh 0o755 (node 0 2 (directory 6 [] 3))) in
    procedure sample 1 stranger (Call.Mkdir (at 6 (codes "n")) set_none) now
    ≡ record {
      tree = after;
      answer = Answer.Mkdir (Ok (record { handle = record { volume = 1; fileid = 8 }; object = Some (attributes_at after 8); directory = wcc sample after (fh 6) }));
    }
unfolding procedure tree_after refusal_of rules_of changed_tree answer_of with_new fresh volume_in fileid_in
mkdir = refl

-- each refusal of SYMLINK, and where two apply the first of them
symlink_cases : List Case
symlink_cases =
    (stranger, Call.Symlink (at_handle foreign []) set_none (replicate 1025 0), BadHandle) ∷
    (stranger, Call.Symlink (at_handle gone []) set_none (replicate 1025 0), Stale) ∷
    (stranger, Call.Symlink (at 2 []) set_none (replicate 1025 0), NotDir) ∷
    (stranger, Call.Symlink (at 3 (replicate 256 47)) set_none (replicate 1025 0), NameTooLong) ∷
    (stranger, Call.Symlink (at 3 []) set_none (replicate 1025 0), Acces) ∷
    (stranger, Call.Symlink (at 3 (codes ".")) set_none (replicate 1025 0), NameTooLong) ∷
    (stranger, Call.Symlink (at 3 (codes ".")) set_none (replicate 1024 0), Inval) ∷
    (stranger, Call.Symlink (at 3 (codes ".")) set_none (codes "t"), Exist) ∷
    (stranger, Call.Symlink (at 3 (codes "..")) set_none (codes "t"), Exist) ∷
    (stranger, Call.Symlink (at 3 (codes "x")) (set_size 0) (codes "t"), Acces) ∷
    (member, Call.Symlink (at 3 (codes "x")) (set_size 0) (codes "t"), Exist) ∷
    (member, Call.Symlink (at 3 (codes "n")) (set_size 0) (codes "t"), Acces) ∷
    (owner, Call.Symlink (at 3 (codes "n")) (record (set_size 0) { uid = Some 11 }) (codes "t"), Inval) ∷
    (owner, Call.Symlink (at 3 (codes "n")) (record (set_atime bad_time) { uid = Some 11 }) (codes "t"), Inval) ∷
    (owner, Call.Symlink (at 3 (codes "n")) (set_uid 11) (codes "t"), Perm) ∷ []

symlink_refused : refusals sample symlink_cases ≡ statuses symlink_cases
unfolding refusal_of rules_of symlink_cases volume_in fileid_in
symlink_refused = refl

symlink_full : refusals (record sample { next_fileid = 2 ^ 26 }) ((owner, Call.Symlink (at 3 (codes "n")) (set_uid 11) [], Perm) ∷ (owner, Call.Symlink (at 3 (codes "n")) set_none [], NoSpc) ∷ []) ≡ Some Perm ∷ Some NoSpc ∷ []
unfolding refusal_of rules_of volume_in fileid_in
symlink_full = refl

-- a text of 1,024 bytes may be
symlink_long : refusal_of sample owner (Call.Symlink (at 3 (codes "n")) set_none (replicate 1024 97)) ≡ None
unfolding refusal_of rules_of volume_in fileid_in
symlink_long = refl

symlink :
    let after = with_new 2 (fresh 0o777 (node 0 1 (Link (codes "a/b")))) in
    procedure sample 1 stranger (Call.Symlink (at 6 (codes "n")) set_none (codes "a/b")) now
    ≡ record {
      tree = after;
      answer = Answer.Symlink (Ok (record { handle = record { volume = 1; fileid = 8 }; object = Some (attributes_at after 8); directory = wcc sample after (fh 6) }));
    }
unfolding procedure tree_after refusal_of rules_of changed_tree answer_of with_new fresh volume_in fileid_in
symlink = refl

-- MKNOD is never done, in whichever place
mknod_cases : List Case
mknod_cases =
    (owner, Call.Mknod (at_handle foreign []) MknodData.Regular, BadHandle) ∷
    (owner, Call.Mknod (at_handle gone []) (MknodData.Pipe set_none), Stale) ∷
    (owner, Call.Mknod (at 2 []) (MknodData.Socket set_none), NotSupp) ∷
    (owner, Call.Mknod (at 1 (codes "n")) MknodData.Directory, NotSupp) ∷ []

mknod_refused : refusals sample mknod_cases ≡ statuses mknod_cases
unfolding refusal_of rules_of mknod_cases volume_in fileid_in
mknod_refused = refl

mknod :
    procedure sample 1 owner (Call.Mknod (at 1 (codes "n")) MknodData.Directory) now
    ≡ record { tree = sample; answer = Answer.Mknod (record { status = NotSupp; attributes = wcc sample sample (fh 1) }) }
unfolding procedure tree_after refusal_of rules_of changed_tree answer_of volume_in fileid_in
mknod = refl
