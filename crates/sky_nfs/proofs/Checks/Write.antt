-- WRITE and COMMIT.
use Rattle.sky_nfs.specs.Handles.{volume_in, fileid_in}
use Rattle.std.proofs.Common.{◌≡◌, ℕ, List, [], ◌∷◌, None, Ok, refl, true, false}
use Rattle.std.specs.Prelude.{codes, ◌^◌, ◌+◌, ◌-◌, length}
use Rattle.sky_nfs.specs.declared.answer.Answer.{Answer}
use Rattle.sky_nfs.specs.declared.call.Call.{Call}
use Rattle.sky_nfs.specs.declared.call.StableHow.TheVariants.{Unstable, DataSync, FileSync}
use Rattle.sky_nfs.specs.declared.status.NfsStatus.TheVariants.{Acces, Inval, FBig, Stale, BadHandle}
use Rattle.sky_nfs.specs.Changes.{put}
use Rattle.sky_nfs.specs.Results.{wcc}
use Rattle.sky_nfs.specs.Tree.{File}
use Rattle.sky_nfs.specs.Procedure.{procedure, tree_after, refusal_of, rules_of, changed_tree, answer_of}
use Rattle.sky_nfs.proofs.Checks.Sample.{Case, sample, refusals, statuses, fh, gone, foreign, owner, member, stranger, now, node}

-- each refusal, and where two apply the first of them
write_cases : List Case
write_cases =
    (stranger, Call.Write foreign 0 9 Unstable (codes "J"), BadHandle) ∷
    (stranger, Call.Write gone 0 9 Unstable (codes "J"), Stale) ∷
    (stranger, Call.Write (fh 3) 0 9 Unstable (codes "J"), Inval) ∷
    (stranger, Call.Write (fh 4) 0 1 Unstable (codes "J"), Inval) ∷
    (stranger, Call.Write (fh 2) 0 9 Unstable (codes "J"), Inval) ∷
    (member, Call.Write (fh 2) (2 ^ 40) 1 Unstable (codes "J"), Acces) ∷
    (owner, Call.Write (fh 2) (2 ^ 30) 1 Unstable (codes "J"), FBig) ∷
    (owner, Call.Write (fh 2) (2 ^ 30 + 1) 0 Unstable [], FBig) ∷
    (owner, Call.Write (fh 2) (2 ^ 64 - 1) 1 FileSync (codes "J"), FBig) ∷ []

write_refused : refusals sample write_cases ≡ statuses write_cases
unfolding refusal_of rules_of write_cases volume_in fileid_in
write_refused = refl

-- what ends at 2^30 may be written, and the owner writes without the bit
last_byte : refusal_of sample owner (Call.Write (fh 2) (2 ^ 30 - 1) 1 Unstable (codes "J")) ≡ None
unfolding refusal_of rules_of volume_in fileid_in
last_byte = refl

owner_writes : refusal_of (put sample 2 (node 0 2 (File []))) owner (Call.Write (fh 2) 0 1 Unstable (codes "J")) ≡ None
unfolding refusal_of rules_of volume_in fileid_in
owner_writes = refl

-- the file after a write, and the answer in epoch 6
writes : ℕ → List ℕ → List ℕ → Type 0
writes offset piece bytes =
    let after = put sample 2 (record (node 0o640 2 (File bytes)) { mtime = now; ctime = now }) in
    procedure sample 6 owner (Call.Write (fh 2) offset (length piece) FileSync piece) now
    ≡ record { tree = after; answer = Answer.Write (Ok (record { file = wcc sample after (fh 2); count = length piece; committed = true; verifier = 6 })) }

-- at the beginning, within, over the end, at the end, and behind it, where the gap is zeros
written : writes 0 (codes "J") (codes "Jello") × writes 1 (codes "ipp") (codes "hippo") × writes 3 (codes "per") (codes "helper") × writes 5 (codes "!") (codes "hello!") × writes 7 (codes "!") (104 ∷ 101 ∷ 108 ∷ 108 ∷ 111 ∷ 0 ∷ 0 ∷ 33 ∷ [])
unfolding procedure tree_after refusal_of rules_of changed_tree answer_of writes volume_in fileid_in
written = (refl, refl, refl, refl, refl)

-- no bytes change nothing, also behind the end; and how stable the answer says it is
writes_nothing :
    procedure sample 6 owner (Call.Write (fh 2) 100 0 Unstable []) now
    ≡ record { tree = sample; answer = Answer.Write (Ok (record { file = wcc sample sample (fh 2); count = 0; committed = false; verifier = 6 })) }
unfolding procedure tree_after refusal_of rules_of changed_tree answer_of volume_in fileid_in
writes_nothing = refl

data_sync :
    procedure sample 6 owner (Call.Write (fh 2) 0 0 DataSync []) now
    ≡ record { tree = sample; answer = Answer.Write (Ok (record { file = wcc sample sample (fh 2); count = 0; committed = true; verifier = 6 })) }
unfolding procedure tree_after refusal_of rules_of changed_tree answer_of volume_in fileid_in
data_sync = refl

-- COMMIT
commit_cases : List Case
commit_cases = (owner, Call.Commit foreign 0 0, BadHandle) ∷ (owner, Call.Commit gone 0 0, Stale) ∷ (owner, Call.Commit (fh 3) 0 0, Inval) ∷ (owner, Call.Commit (fh 4) 0 0, Inval) ∷ []

commit_refused : refusals sample commit_cases ≡ statuses commit_cases
unfolding refusal_of rules_of commit_cases volume_in fileid_in
commit_refused = refl

commits :
    procedure sample 6 stranger (Call.Commit (fh 2) 0 0) now
    ≡ record { tree = sample; answer = Answer.Commit (Ok (record { file = wcc sample sample (fh 2); verifier = 6 })) }
unfolding procedure tree_after refusal_of rules_of changed_tree answer_of volume_in fileid_in
commits = refl
