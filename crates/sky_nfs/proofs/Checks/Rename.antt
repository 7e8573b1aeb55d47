-- RENAME.
use Rattle.sky_nfs.specs.Handles.{volume_in, fileid_in}
use Rattle.std.proofs.Common.{◌≡◌, List, [], ◌∷◌, Some, None, Ok, refl}
use Rattle.std.specs.Prelude.{codes, ◌^◌, replicate}
use Rattle.sky_nfs.specs.declared.answer.Answer.{Answer}
use Rattle.sky_nfs.specs.declared.call.Call.{Call}
use Rattle.sky_nfs.specs.declared.status.NfsStatus.TheVariants.{NoEnt, Acces, Exist, NotDir, Inval, NoSpc, NameTooLong, Stale, BadHandle}
use Rattle.sky_nfs.specs.Changes.{put, erase}
use Rattle.sky_nfs.specs.Results.{wcc}
use Rattle.sky_nfs.specs.Tree.{Tree, File, Link}
use Rattle.sky_nfs.specs.Procedure.{procedure, tree_after, refusal_of, rules_of, changed_tree, answer_of}
use Rattle.sky_nfs.proofs.Checks.Sample.{Case, sample, refusals, statuses, fh, gone, foreign, at, at_handle, owner, member, stranger, now, node, entry, directory, top}

-- each refusal, and where two apply the first of them
cases : List Case
cases =
    (stranger, Call.Rename (at_handle foreign []) (at_handle gone []), BadHandle) ∷
    (stranger, Call.Rename (at_handle gone []) (at_handle foreign []), Stale) ∷
    (stranger, Call.Rename (at 2 []) (at_handle foreign []), BadHandle) ∷
    (stranger, Call.Rename (at 2 []) (at_handle gone []), Stale) ∷
    (stranger, Call.Rename (at 2 (replicate 256 47)) (at 3 []), NotDir) ∷
    (stranger, Call.Rename (at 3 (replicate 256 47)) (at 2 []), NotDir) ∷
    (stranger, Call.Rename (at 3 (replicate 256 47)) (at 3 []), NameTooLong) ∷
    (stranger, Call.Rename (at 3 []) (at 3 (replicate 256 47)), Acces) ∷
    (stranger, Call.Rename (at 3 (codes ".")) (at 3 (replicate 256 47)), NameTooLong) ∷
    (stranger, Call.Rename (at 3 (codes ".")) (at 3 (codes "a/b")), Acces) ∷
    (stranger, Call.Rename (at 3 (codes ".")) (at 3 (codes "n")), Inval) ∷
    (stranger, Call.Rename (at 3 (codes "x")) (at 3 (codes "..")), Inval) ∷
    (stranger, Call.Rename (at 3 (codes "none")) (at 1 (codes "n")), Acces) ∷
    (member, Call.Rename (at 3 (codes "none")) (at 1 (codes "n")), Acces) ∷
    (stranger, Call.Rename (at 1 (codes "none")) (at 3 (codes "n")), Acces) ∷
    (member, Call.Rename (at 1 (codes "none")) (at 3 (codes "n")), Acces) ∷
    (owner, Call.Rename (at 1 (codes "none")) (at 3 (codes "n")), NoEnt) ∷
    (owner, Call.Rename (at 1 (codes "none")) (at 1 (codes "f")), NoEnt) ∷
    (owner, Call.Rename (at 1 (codes "d")) (at 3 (codes "n")), Inval) ∷
    (owner, Call.Rename (at 1 (codes "d")) (at 3 (codes "x")), Inval) ∷
    (owner, Call.Rename (at 1 (codes "d")) (at 5 (codes "n")), Inval) ∷
    (owner, Call.Rename (at 1 (codes "f")) (at 1 (codes "d")), Exist) ∷
    (owner, Call.Rename (at 1 (codes "f")) (at 1 (codes "e")), Exist) ∷
    (owner, Call.Rename (at 1 (codes "e")) (at 1 (codes "f")), Exist) ∷
    (owner, Call.Rename (at 1 (codes "e")) (at 1 (codes "d")), Exist) ∷ []

refused : refusals sample cases ≡ statuses cases
unfolding refusal_of rules_of cases volume_in fileid_in
refused = refl

-- no cookie is left in the new directory; EXIST comes first
no_cookie : refusals (put sample 6 (node 0o777 2 (directory 1 (entry 3 (codes "n") 9 ∷ []) (2 ^ 62)))) ((owner, Call.Rename (at 1 (codes "f")) (at 6 (codes "m")), NoSpc) ∷ []) ≡ Some NoSpc ∷ []
unfolding refusal_of rules_of volume_in fileid_in
no_cookie = refl

exist_first : refusal_of (put (put sample 6 (node 0o777 2 (directory 1 (entry 3 (codes "n") 5 ∷ []) (2 ^ 62)))) 5 (node 0o755 2 (directory 6 [] 3))) owner (Call.Rename (at 1 (codes "f")) (at 6 (codes "n"))) ≡ Some Exist
unfolding refusal_of rules_of volume_in fileid_in
exist_first = refl

-- two names of one file: it is done, and both stay. The same with one name
both_stay : tree_after sample owner (Call.Rename (at 1 (codes "f")) (at 1 (codes "g"))) now ≡ sample
unfolding tree_after refusal_of rules_of changed_tree volume_in fileid_in
both_stay = refl

both_stay_allowed : refusal_of sample owner (Call.Rename (at 1 (codes "f")) (at 1 (codes "g"))) ≡ None
unfolding refusal_of rules_of volume_in fileid_in
both_stay_allowed = refl

itself : refusal_of sample owner (Call.Rename (at 1 (codes "d")) (at 1 (codes "d"))) ≡ None
unfolding refusal_of rules_of volume_in fileid_in
itself = refl

-- a free name in the same directory
to_free : Tree
to_free = put (put sample 1 (record top { mtime = now; ctime = now; content = directory 1 (entry 3 (codes "f") 2 ∷ entry 4 (codes "d") 3 ∷ entry 6 (codes "g") 2 ∷ entry 7 (codes "e") 6 ∷ entry 8 (codes "n") 4 ∷ []) 9 })) 4 (record (node 0o777 1 (Link (codes "f"))) { ctime = now })

renames :
    procedure sample 1 stranger (Call.Rename (at 1 (codes "l")) (at 1 (codes "n"))) now
    ≡ record { tree = to_free; answer = Answer.Rename (Ok (record { from = wcc sample to_free (fh 1); to = wcc sample to_free (fh 1) })) }
unfolding procedure tree_after refusal_of rules_of changed_tree answer_of to_free volume_in fileid_in
renames = refl

-- over a file: it loses a link
over_file :
    tree_after sample owner (Call.Rename (at 1 (codes "l")) (at 1 (codes "g"))) now
    ≡ put (put (put sample 1 (record top { mtime = now; ctime = now; content = directory 1 (entry 3 (codes "f") 2 ∷ entry 4 (codes "d") 3 ∷ entry 7 (codes "e") 6 ∷ entry 8 (codes "g") 4 ∷ []) 9 })) 4 (record (node 0o777 1 (Link (codes "f"))) { ctime = now })) 2 (record (node 0o640 1 (File (codes "hello"))) { ctime = now })
unfolding tree_after refusal_of rules_of changed_tree volume_in fileid_in
over_file = refl

-- over its last name: it goes
over_last :
    tree_after sample owner (Call.Rename (at 1 (codes "f")) (at 3 (codes "x"))) now
    ≡ erase (put (put (put sample 1 (record top { mtime = now; ctime = now; content = directory 1 (entry 4 (codes "d") 3 ∷ entry 5 (codes "l") 4 ∷ entry 6 (codes "g") 2 ∷ entry 7 (codes "e") 6 ∷ []) 8 })) 2 (record (node 0o640 2 (File (codes "hello"))) { ctime = now })) 3 (record (node 0o750 3 (directory 1 (entry 3 (codes "s") 5 ∷ entry 5 (codes "x") 2 ∷ []) 6)) { mtime = now; ctime = now })) 7
unfolding tree_after refusal_of rules_of changed_tree volume_in fileid_in
over_last = refl

-- a directory into another one: parents and links follow
moves_directory :
    tree_after sample owner (Call.Rename (at 3 (codes "s")) (at 6 (codes "n"))) now
    ≡ put (put (put sample 3 (record (node 0o750 2 (directory 1 (entry 4 (codes "x") 7 ∷ []) 5)) { mtime = now; ctime = now })) 5 (record (node 0o755 2 (directory 6 [] 3)) { ctime = now })) 6 (record (node 0o777 3 (directory 1 (entry 3 (codes "n") 5 ∷ []) 4)) { mtime = now; ctime = now })
unfolding tree_after refusal_of rules_of changed_tree volume_in fileid_in
moves_directory = refl

-- a directory over an empty one: that one goes
over_empty :
    tree_after sample owner (Call.Rename (at 3 (codes "s")) (at 1 (codes "e"))) now
    ≡ erase (put (put (put sample 1 (record top { mtime = now; ctime = now; content = directory 1 (entry 3 (codes "f") 2 ∷ entry 4 (codes "d") 3 ∷ entry 5 (codes "l") 4 ∷ entry 6 (codes "g") 2 ∷ entry 8 (codes "e") 5 ∷ []) 9 })) 3 (record (node 0o750 2 (directory 1 (entry 4 (codes "x") 7 ∷ []) 5)) { mtime = now; ctime = now })) 5 (record (node 0o755 2 (directory 1 [] 3)) { ctime = now })) 6
unfolding tree_after refusal_of rules_of changed_tree volume_in fileid_in
over_empty = refl
