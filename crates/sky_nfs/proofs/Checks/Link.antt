-- LINK.
use Rattle.sky_nfs.specs.Handles.{volume_in, fileid_in}
use Rattle.std.proofs.Common.{◌≡◌, ℕ, List, [], ◌∷◌, Some, None, Ok, Err, refl}
use Rattle.std.specs.Prelude.{codes, ◌^◌, replicate}
use Rattle.sky_nfs.specs.declared.answer.Answer.{Answer}
use Rattle.sky_nfs.specs.declared.call.Call.{Call}
use Rattle.sky_nfs.specs.declared.status.NfsStatus.TheVariants.{Acces, Exist, NotDir, Inval, NoSpc, MLink, NameTooLong, Stale, BadHandle}
use Rattle.sky_nfs.specs.Changes.{put}
use Rattle.sky_nfs.specs.Results.{wcc}
use Rattle.sky_nfs.specs.Tree.{Tree, File, attributes_at}
use Rattle.sky_nfs.specs.Procedure.{procedure, tree_after, refusal_of, rules_of, changed_tree, answer_of}
use Rattle.sky_nfs.proofs.Checks.Sample.{Case, sample, refusals, statuses, fh, gone, foreign, at, at_handle, owner, member, stranger, now, node, entry, directory}

-- each refusal, and where two apply the first of them
cases : List Case
cases =
    (stranger, Call.Link foreign (at_handle gone []), BadHandle) ∷
    (stranger, Call.Link gone (at_handle foreign []), Stale) ∷
    (stranger, Call.Link (fh 3) (at_handle foreign []), BadHandle) ∷
    (stranger, Call.Link (fh 3) (at_handle gone []), Stale) ∷
    (stranger, Call.Link (fh 3) (at 2 []), NotDir) ∷
    (stranger, Call.Link (fh 3) (at 3 []), Inval) ∷
    (stranger, Call.Link (fh 2) (at 3 (replicate 256 47)), NameTooLong) ∷
    (stranger, Call.Link (fh 2) (at 3 []), Acces) ∷
    (stranger, Call.Link (fh 2) (at 3 (codes ".")), Exist) ∷
    (stranger, Call.Link (fh 2) (at 3 (codes "..")), Exist) ∷
    (stranger, Call.Link (fh 2) (at 3 (codes "x")), Acces) ∷
    (member, Call.Link (fh 2) (at 3 (codes "x")), Exist) ∷
    (member, Call.Link (fh 2) (at 3 (codes "n")), Acces) ∷ []

refused : refusals sample cases ≡ statuses cases
unfolding refusal_of rules_of cases volume_in fileid_in
refused = refl

-- 32,000 links are the most; that comes before the room of the directory
links : ℕ → ℕ → Tree
links nlink next = put (put sample 2 (node 0o640 nlink (File []))) 6 (node 0o777 2 (directory 1 [] next))

limits : refusal_of (links 31999 3) owner (Call.Link (fh 2) (at 6 (codes "n"))) ≡ None × refusal_of (links 32000 (2 ^ 62)) owner (Call.Link (fh 2) (at 6 (codes "n"))) ≡ Some MLink × refusal_of (links 1 (2 ^ 62)) owner (Call.Link (fh 2) (at 6 (codes "n"))) ≡ Some NoSpc
unfolding refusal_of rules_of links volume_in fileid_in
limits = (refl, refl, refl)

-- a link needs no fileid
no_fileid : refusal_of (record sample { next_fileid = 2 ^ 26 }) owner (Call.Link (fh 2) (at 6 (codes "n"))) ≡ None
unfolding refusal_of rules_of volume_in fileid_in
no_fileid = refl

-- a file has a name more, and a link more
link :
    let after = put (put sample 2 (record (node 0o640 3 (File (codes "hello"))) { ctime = now })) 6 (record (node 0o777 2 (directory 1 (entry 3 (codes "n") 2 ∷ []) 4)) { mtime = now; ctime = now }) in
    procedure sample 1 stranger (Call.Link (fh 2) (at 6 (codes "n"))) now
    ≡ record { tree = after; answer = Answer.Link (Ok (record { file = Some (attributes_at after 2); directory = wcc sample after (fh 6) })) }
unfolding procedure tree_after refusal_of rules_of changed_tree answer_of volume_in fileid_in
link = refl

-- a symbolic link too
links_link : refusal_of sample owner (Call.Link (fh 4) (at 1 (codes "n"))) ≡ None
unfolding refusal_of rules_of volume_in fileid_in
links_link = refl

-- of two handles each is told by itself
one_handle :
    procedure sample 1 owner (Call.Link gone (at 1 (codes "n"))) now
    ≡ record { tree = sample; answer = Answer.Link (Err (record { status = Stale; attributes = record { file = None; directory = wcc sample sample (fh 1) } })) }
unfolding procedure tree_after refusal_of rules_of changed_tree answer_of volume_in fileid_in
one_handle = refl
