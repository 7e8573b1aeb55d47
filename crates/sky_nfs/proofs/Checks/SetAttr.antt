-- SETATTR.
use Rattle.sky_nfs.specs.Handles.{volume_in, fileid_in}
use Rattle.std.proofs.Common.{◌≡◌, List, [], ◌∷◌, Some, None, refl}
use Rattle.std.specs.Prelude.{codes, ◌^◌, ◌+◌}
use Rattle.sky_nfs.specs.declared.call.Call.{Call}
use Rattle.sky_nfs.specs.declared.call.SetTime.TheVariants.{Server, Client}
use Rattle.sky_nfs.specs.declared.status.NfsStatus.TheVariants.{BadHandle, Stale, NotSync, Inval, Perm, IsDir, Acces, FBig}
use Rattle.sky_nfs.specs.Changes.{put}
use Rattle.sky_nfs.specs.Procedure.{tree_after, refusal_of, rules_of, changed_tree}
use Rattle.sky_nfs.specs.Tree.{File}
use Rattle.sky_nfs.proofs.Checks.Sample.{Case, sample, refusals, statuses, fh, gone, foreign, admin, owner, member, stranger, now, second, node, set_none, set_mode, set_uid, set_gid, set_size, set_atime, set_mtime, bad_time}

-- each refusal, and where two apply the first of them
abbrev cases : List Case
cases =
    (owner, Call.SetAttr foreign set_none None, BadHandle) ∷
    (owner, Call.SetAttr gone set_none (Some (second 4)), Stale) ∷
    (owner, Call.SetAttr (fh 2) (set_atime bad_time) (Some (second 4)), NotSync) ∷
    (stranger, Call.SetAttr (fh 2) (record (set_atime bad_time) { mode = Some 0 }) None, Inval) ∷
    (stranger, Call.SetAttr (fh 2) (set_mtime bad_time) (Some (second 5)), Inval) ∷
    (stranger, Call.SetAttr (fh 3) (record (set_mode 0) { size = Some 1 }) None, Perm) ∷
    (member, Call.SetAttr (fh 2) (set_uid 11) None, Perm) ∷
    (owner, Call.SetAttr (fh 2) (set_uid 11) None, Perm) ∷
    (owner, Call.SetAttr (fh 2) (set_gid 30) None, Perm) ∷
    (member, Call.SetAttr (fh 2) (set_gid 20) (Some (second 4)), NotSync) ∷
    (stranger, Call.SetAttr (fh 2) (set_gid 30) None, Perm) ∷
    (stranger, Call.SetAttr (fh 3) (record (set_gid 30) { size = Some 1 }) None, Perm) ∷
    (stranger, Call.SetAttr (fh 3) (set_size (2 ^ 40)) None, IsDir) ∷
    (stranger, Call.SetAttr (fh 4) (set_size (2 ^ 40)) None, Inval) ∷
    (stranger, Call.SetAttr (fh 2) (set_size (2 ^ 40)) None, Acces) ∷
    (stranger, Call.SetAttr (fh 2) (record (set_size 1) { atime = Client now }) None, Acces) ∷
    (owner, Call.SetAttr (fh 2) (set_size (2 ^ 30 + 1)) None, FBig) ∷
    (member, Call.SetAttr (fh 2) (record (set_atime now) { mtime = Server }) None, Perm) ∷
    (member, Call.SetAttr (fh 2) (set_mtime now) None, Perm) ∷
    (member, Call.SetAttr (fh 2) (record set_none { atime = Server }) None, Acces) ∷
    (member, Call.SetAttr (fh 2) (record set_none { mtime = Server }) None, Acces) ∷ []

refused : refusals sample cases ≡ statuses cases
unfolding refusal_of rules_of volume_in fileid_in
refused = refl

-- user 0 may give any owner; an owner its own groups; fields that keep their values ask no right, and nothing set neither
admin_may : refusal_of sample admin (Call.SetAttr (fh 2) (record (set_uid 77) { gid = Some 78; mode = Some 0 }) None) ≡ None
unfolding refusal_of rules_of volume_in fileid_in
admin_may = refl

owner_may : refusal_of sample owner (Call.SetAttr (fh 2) (record (set_gid 21) { uid = Some 10; mode = Some 0 }) (Some (second 5))) ≡ None
unfolding refusal_of rules_of volume_in fileid_in
owner_may = refl

same_owners : refusal_of sample stranger (Call.SetAttr (fh 2) (record (set_gid 20) { uid = Some 10 }) None) ≡ None
unfolding refusal_of rules_of volume_in fileid_in
same_owners = refl

nothing_set : refusal_of sample stranger (Call.SetAttr (fh 2) set_none None) ≡ None
unfolding refusal_of rules_of volume_in fileid_in
nothing_set = refl

-- a file of 2^30 bytes may be asked for
largest : refusal_of sample owner (Call.SetAttr (fh 2) (set_size (2 ^ 30)) None) ≡ None
unfolding refusal_of rules_of volume_in fileid_in
largest = refl

-- who may write a directory may set its times to the server's
server_times : refusal_of sample stranger (Call.SetAttr (fh 6) (record set_none { atime = Server; mtime = Server }) None) ≡ None
unfolding refusal_of rules_of volume_in fileid_in
server_times = refl

-- a cut sets mtime and ctime; of the mode the lowest 12 bits count
cut :
    tree_after sample owner (Call.SetAttr (fh 2) (record (set_size 2) { mode = Some 0o170644 }) None) now
    ≡ put sample 2 (record (node 0o644 2 (File (codes "he"))) { mtime = now; ctime = now })
unfolding tree_after refusal_of rules_of changed_tree volume_in fileid_in
cut = refl

-- a growth adds zeros, and an mtime that is set stands
grown :
    tree_after sample owner (Call.SetAttr (fh 2) (record (set_size 7) { atime = Server; mtime = Client (second 3) }) None) now
    ≡ put sample 2 (record (node 0o640 2 (File (104 ∷ 101 ∷ 108 ∷ 108 ∷ 111 ∷ 0 ∷ 0 ∷ []))) { atime = now; mtime = second 3; ctime = now })
unfolding tree_after refusal_of rules_of changed_tree volume_in fileid_in
grown = refl

-- where nothing is set ctime becomes now
stamped : tree_after sample stranger (Call.SetAttr (fh 2) set_none None) now ≡ put sample 2 (record (node 0o640 2 (File (codes "hello"))) { ctime = now })
unfolding tree_after refusal_of rules_of changed_tree volume_in fileid_in
stamped = refl
