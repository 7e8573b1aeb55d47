-- CREATE.
use Rattle.sky_nfs.specs.Handles.{volume_in, fileid_in}
use Rattle.std.proofs.Common.{◌≡◌, ℕ, List, [], ◌∷◌, Option, Some, None, Ok, refl}
use Rattle.std.specs.Prelude.{codes, ◌^◌, ◌+◌, replicate}
use Rattle.sky_base.specs.declared.cred.Cred.{Cred}
use Rattle.sky_nfs.specs.declared.answer.Answer.{Answer}
use Rattle.sky_nfs.specs.declared.call.Call.{Call}
use Rattle.sky_nfs.specs.declared.call.CreateHow.TheVariants.{Unchecked, Guarded, Exclusive}
use Rattle.sky_nfs.specs.declared.call.SetTime.TheVariants.{Server, Client}
use Rattle.sky_nfs.specs.declared.status.NfsStatus.TheVariants.{Perm, Acces, Exist, NotDir, Inval, FBig, NoSpc, NameTooLong, Stale, BadHandle}
use Rattle.sky_nfs.specs.Changes.{put}
use Rattle.sky_nfs.specs.Results.{wcc}
use Rattle.sky_nfs.specs.Tree.{Tree, Node, File, attributes_at}
use Rattle.sky_nfs.specs.Procedure.{procedure, tree_after, refusal_of, rules_of, changed_tree, answer_of}
use Rattle.sky_nfs.proofs.Checks.Sample.{Case, sample, refusals, statuses, fh, gone, foreign, at, at_handle, admin, owner, member, late_member, stranger, now, second, node, entry, directory, kept_verifier, set_none, set_uid, set_gid, set_size, set_atime, bad_time}

-- each refusal, and where two apply the first of them
cases : List Case
cases =
    (stranger, Call.Create (at_handle foreign []) (Guarded set_none), BadHandle) ∷
    (stranger, Call.Create (at_handle gone []) (Guarded set_none), Stale) ∷
    (stranger, Call.Create (at 2 []) (Guarded set_none), NotDir) ∷
    (stranger, Call.Create (at 3 (replicate 256 0)) (Guarded set_none), NameTooLong) ∷
    (stranger, Call.Create (at 3 []) (Guarded set_none), Acces) ∷
    (stranger, Call.Create (at 3 (codes ".")) (Guarded set_none), Exist) ∷
    (stranger, Call.Create (at 3 (codes "..")) (Unchecked set_none), Exist) ∷
    (stranger, Call.Create (at 3 (codes "x")) (Guarded set_none), Acces) ∷
    (member, Call.Create (at 3 (codes "x")) (Guarded (set_atime bad_time)), Exist) ∷
    (member, Call.Create (at 3 (codes "s")) (Unchecked set_none), Exist) ∷
    (owner, Call.Create (at 1 (codes "l")) (Unchecked set_none), Exist) ∷
    (member, Call.Create (at 3 (codes "s")) (Exclusive kept_verifier), Exist) ∷
    (member, Call.Create (at 3 (codes "x")) (Exclusive (replicate 8 0)), Exist) ∷
    (owner, Call.Create (at 1 (codes "f")) (Exclusive kept_verifier), Exist) ∷
    (member, Call.Create (at 3 (codes "x")) (Unchecked (set_size (2 ^ 40))), Acces) ∷
    (owner, Call.Create (at 3 (codes "x")) (Unchecked (set_size (2 ^ 40))), FBig) ∷
    (member, Call.Create (at 3 (codes "n")) (Guarded (set_atime bad_time)), Acces) ∷
    (owner, Call.Create (at 3 (codes "n")) (Guarded (record (set_atime bad_time) { uid = Some 11 })), Inval) ∷
    (owner, Call.Create (at 3 (codes "n")) (Unchecked (record (set_size (2 ^ 40)) { uid = Some 11 })), Perm) ∷
    (owner, Call.Create (at 3 (codes "n")) (Unchecked (record (set_size (2 ^ 40)) { gid = Some 30 })), Perm) ∷
    (owner, Call.Create (at 3 (codes "n")) (Unchecked (set_size (2 ^ 30 + 1))), FBig) ∷ []

refused : refusals sample cases ≡ statuses cases
unfolding refusal_of rules_of cases volume_in fileid_in
refused = refl

-- no fileid is left, or no cookie; FBIG comes first
no_fileid : refusals (record sample { next_fileid = 2 ^ 26 }) ((owner, Call.Create (at 3 (codes "n")) (Guarded set_none), NoSpc) ∷ (owner, Call.Create (at 3 (codes "n")) (Guarded (set_size (2 ^ 40))), FBig) ∷ []) ≡ Some NoSpc ∷ Some FBig ∷ []
unfolding refusal_of rules_of volume_in fileid_in
no_fileid = refl

no_cookie : refusal_of (put sample 6 (node 0o777 2 (directory 1 [] (2 ^ 62)))) owner (Call.Create (at 6 (codes "n")) (Guarded set_none)) ≡ Some NoSpc
unfolding refusal_of rules_of volume_in fileid_in
no_cookie = refl

-- an unchecked CREATE of a file that is there asks for Execute alone, and passes over what it would set
passes_over :
    tree_after sample member (Call.Create (at 3 (codes "x")) (Unchecked (record (set_atime bad_time) { uid = Some 0; mode = Some 0 }))) now ≡ sample
unfolding tree_after refusal_of rules_of changed_tree volume_in fileid_in
passes_over = refl

passes_over_allowed : refusal_of sample member (Call.Create (at 3 (codes "x")) (Unchecked (record (set_atime bad_time) { uid = Some 0; mode = Some 0 }))) ≡ None
unfolding refusal_of rules_of volume_in fileid_in
passes_over_allowed = refl

-- with a size it sets the size alone, and answers the file
sized : Tree
sized = put sample 2 (record (node 0o640 2 (File (codes "he"))) { mtime = now; ctime = now })

cuts :
    procedure sample 1 owner (Call.Create (at 1 (codes "f")) (Unchecked (record (set_size 2) { mode = Some 0; mtime = Client (second 1) }))) now
    ≡ record {
      tree = sized;
      answer = Answer.Create (Ok (record { handle = record { volume = 1; fileid = 2 }; object = Some (attributes_at sized 2); directory = wcc sample sample (fh 1) }));
    }
unfolding procedure tree_after refusal_of rules_of changed_tree answer_of sized volume_in fileid_in
cuts = refl

-- a new file: the caller's, of now, with mode 0644, the next fileid and the next cookie. The directory's times become now
with_file : Node → Tree
with_file file = record (put (put sample 6 (record (node 0o777 2 (directory 1 (entry 3 (codes "n") 8 ∷ []) 4)) { mtime = now; ctime = now })) 8 file) { next_fileid = 9 }

fresh : ℕ → ℕ → ℕ → List ℕ → Option (List ℕ) → Node
fresh mode uid gid bytes verifier = record (node mode 1 (File bytes)) { uid = uid; gid = gid; atime = now; mtime = now; ctime = now; verifier = verifier }

makes : Cred → Rattle.sky_nfs.specs.declared.call.CreateHow.CreateHow → Node → Type 0
makes cred how file =
    procedure sample 1 cred (Call.Create (at 6 (codes "n")) how) now
    ≡ record {
      tree = with_file file;
      answer = Answer.Create (Ok (record { handle = record { volume = 1; fileid = 8 }; object = Some (attributes_at (with_file file) 8); directory = wcc sample (with_file file) (fh 6) }));
    }

made : makes stranger (Guarded set_none) (fresh 0o644 13 30 [] None) × makes stranger (Unchecked (record (set_size 3) { mode = Some 0o10755; atime = Server; mtime = Client (second 2) })) (record (fresh 0o755 13 30 (0 ∷ 0 ∷ 0 ∷ []) None) { mtime = second 2 }) × makes late_member (Guarded (set_gid 20)) (fresh 0o644 12 20 [] None) × makes admin (Guarded (record (set_uid 5) { gid = Some 6 })) (fresh 0o644 5 6 [] None) × makes owner (Exclusive kept_verifier) (fresh 0o644 10 20 [] (Some kept_verifier))
unfolding procedure tree_after refusal_of rules_of changed_tree answer_of makes with_file fresh volume_in fileid_in
made = (refl, refl, refl, refl, refl)

-- an exclusive CREATE that is sent again finds its file; with another verifier it is refused
exclusive : Call
exclusive = Call.Create (at 6 (codes "n")) (Exclusive kept_verifier)

again : refusal_of (tree_after sample owner exclusive now) owner exclusive ≡ None
unfolding tree_after refusal_of rules_of changed_tree exclusive volume_in fileid_in
again = refl

again_same : tree_after (tree_after sample owner exclusive now) owner exclusive (second 11) ≡ tree_after sample owner exclusive now
unfolding tree_after refusal_of rules_of changed_tree exclusive volume_in fileid_in
again_same = refl

another : refusal_of (tree_after sample owner exclusive now) owner (Call.Create (at 6 (codes "n")) (Exclusive (replicate 8 0))) ≡ Some Exist
unfolding tree_after refusal_of rules_of changed_tree exclusive volume_in fileid_in
another = refl
