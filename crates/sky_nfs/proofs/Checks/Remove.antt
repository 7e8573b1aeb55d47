-- REMOVE and RMDIR.
use Rattle.sky_nfs.specs.Handles.{volume_in, fileid_in}
use Rattle.std.proofs.Common.{◌≡◌, List, [], ◌∷◌, Some, Ok, refl}
use Rattle.std.specs.Prelude.{codes, replicate}
use Rattle.sky_nfs.specs.declared.answer.Answer.{Answer}
use Rattle.sky_nfs.specs.declared.call.Call.{Call}
use Rattle.sky_nfs.specs.declared.status.NfsStatus.TheVariants.{NoEnt, Acces, Exist, NotDir, IsDir, Inval, NameTooLong, NotEmpty, Stale, BadHandle}
use Rattle.sky_nfs.specs.Changes.{put, erase}
use Rattle.sky_nfs.specs.Results.{wcc}
use Rattle.sky_nfs.specs.Tree.{Tree, File}
use Rattle.sky_nfs.specs.Procedure.{procedure, tree_after, refusal_of, rules_of, changed_tree, answer_of}
use Rattle.sky_nfs.proofs.Checks.Sample.{Case, sample, refusals, statuses, fh, gone, foreign, at, at_handle, owner, member, stranger, now, node, entry, directory, top}

-- each refusal of REMOVE, and where two apply the first of them
remove_cases : List Case
remove_cases =
    (stranger, Call.Remove (at_handle foreign []), BadHandle) ∷
    (stranger, Call.Remove (at_handle gone []), Stale) ∷
    (stranger, Call.Remove (at 2 []), NotDir) ∷
    (stranger, Call.Remove (at 3 (replicate 256 47)), NameTooLong) ∷
    (stranger, Call.Remove (at 3 []), Acces) ∷
    (stranger, Call.Remove (at 3 (codes ".")), IsDir) ∷
    (stranger, Call.Remove (at 3 (codes "..")), IsDir) ∷
    (stranger, Call.Remove (at 3 (codes "none")), Acces) ∷
    (member, Call.Remove (at 3 (codes "none")), NoEnt) ∷
    (member, Call.Remove (at 3 (codes "s")), Acces) ∷
    (owner, Call.Remove (at 3 (codes "s")), IsDir) ∷ []

remove_refused : refusals sample remove_cases ≡ statuses remove_cases
unfolding refusal_of rules_of remove_cases volume_in fileid_in
remove_refused = refl

-- a name of two goes: the file stays, with a link less
removes_name :
    let after = put (put sample 1 (record top { mtime = now; ctime = now; content = directory 1 (entry 4 (codes "d") 3 ∷ entry 5 (codes "l") 4 ∷ entry 6 (codes "g") 2 ∷ entry 7 (codes "e") 6 ∷ []) 8 })) 2 (record (node 0o640 1 (File (codes "hello"))) { ctime = now }) in
    procedure sample 1 stranger (Call.Remove (at 1 (codes "f"))) now ≡ record { tree = after; answer = Answer.Remove (Ok (wcc sample after (fh 1))) }
unfolding procedure tree_after refusal_of rules_of changed_tree answer_of volume_in fileid_in
removes_name = refl

-- the last name goes, and the file with it: its handle is stale, and its fileid isn't given again
last_gone : Tree
last_gone = tree_after sample owner (Call.Remove (at 3 (codes "x"))) now

removes_last : last_gone ≡ erase (put sample 3 (record (node 0o750 3 (directory 1 (entry 3 (codes "s") 5 ∷ []) 5)) { mtime = now; ctime = now })) 7
unfolding tree_after refusal_of rules_of changed_tree last_gone volume_in fileid_in
removes_last = refl

stale_then : refusal_of last_gone owner (Call.GetAttr (fh 7)) ≡ Some Stale
unfolding tree_after refusal_of rules_of changed_tree last_gone volume_in fileid_in
stale_then = refl

-- each refusal of RMDIR, and where two apply the first of them
rmdir_cases : List Case
rmdir_cases =
    (stranger, Call.Rmdir (at_handle foreign []), BadHandle) ∷
    (stranger, Call.Rmdir (at_handle gone []), Stale) ∷
    (stranger, Call.Rmdir (at 2 []), NotDir) ∷
    (stranger, Call.Rmdir (at 3 (replicate 256 47)), NameTooLong) ∷
    (stranger, Call.Rmdir (at 3 []), Acces) ∷
    (stranger, Call.Rmdir (at 3 (codes ".")), Inval) ∷
    (stranger, Call.Rmdir (at 3 (codes "..")), Exist) ∷
    (stranger, Call.Rmdir (at 3 (codes "none")), Acces) ∷
    (member, Call.Rmdir (at 3 (codes "none")), NoEnt) ∷
    (member, Call.Rmdir (at 3 (codes "x")), Acces) ∷
    (owner, Call.Rmdir (at 3 (codes "x")), NotDir) ∷
    (owner, Call.Rmdir (at 1 (codes "l")), NotDir) ∷
    (owner, Call.Rmdir (at 1 (codes "d")), NotEmpty) ∷ []

rmdir_refused : refusals sample rmdir_cases ≡ statuses rmdir_cases
unfolding refusal_of rules_of rmdir_cases volume_in fileid_in
rmdir_refused = refl

-- an empty directory goes, and its parent has a link less
rmdir :
    let after = erase (put sample 3 (record (node 0o750 2 (directory 1 (entry 4 (codes "x") 7 ∷ []) 5)) { mtime = now; ctime = now })) 5 in
    procedure sample 1 owner (Call.Rmdir (at 3 (codes "s"))) now ≡ record { tree = after; answer = Answer.Rmdir (Ok (wcc sample after (fh 3))) }
unfolding procedure tree_after refusal_of rules_of changed_tree answer_of volume_in fileid_in
rmdir = refl
