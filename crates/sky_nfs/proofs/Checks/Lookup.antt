-- LOOKUP, ACCESS, READLINK and READ.
use Rattle.sky_nfs.specs.Handles.{volume_in, fileid_in}
use Rattle.std.proofs.Common.{◌≡◌, ℕ, List, [], ◌∷◌, Some, None, Ok, Err, refl, true, false}
use Rattle.std.specs.Prelude.{codes, ◌^◌, ◌+◌, ◌-◌, ◌++◌, replicate, map}
use Rattle.sky_nfs.specs.declared.answer.Answer.{Answer}
use Rattle.sky_nfs.specs.declared.call.Call.{Call}
use Rattle.sky_nfs.specs.declared.status.NfsStatus.TheVariants.{NoEnt, Acces, NotDir, Inval, NameTooLong, Stale, BadHandle}
use Rattle.sky_nfs.specs.Changes.{put}
use Rattle.sky_nfs.specs.Tree.{File, attributes_at}
use Rattle.sky_nfs.specs.Procedure.{procedure, tree_after, refusal_of, rules_of, changed_tree, answer_of}
use Rattle.sky_nfs.proofs.Checks.Sample.{Case, sample, refusals, statuses, fh, gone, foreign, at, at_handle, admin, owner, member, late_member, stranger, now, node}

-- each refusal of LOOKUP, and where two apply the first of them
lookup_cases : List Case
lookup_cases =
    (owner, Call.Lookup (at_handle foreign (replicate 256 97)), BadHandle) ∷
    (owner, Call.Lookup (at_handle gone (replicate 256 97)), Stale) ∷
    (owner, Call.Lookup (at 2 (replicate 256 97)), NotDir) ∷
    (stranger, Call.Lookup (at 3 (replicate 256 47)), NameTooLong) ∷
    (owner, Call.Lookup (at 1 []), Acces) ∷
    (owner, Call.Lookup (at 1 (codes "a/b")), Acces) ∷
    (owner, Call.Lookup (at 1 (97 ∷ 0 ∷ [])), Acces) ∷
    (stranger, Call.Lookup (at 3 (codes "none")), Acces) ∷
    (stranger, Call.Lookup (at 3 (codes ".")), Acces) ∷
    (owner, Call.Lookup (at 1 (codes "none")), NoEnt) ∷
    (owner, Call.Lookup (at 1 (replicate 255 97)), NoEnt) ∷ []

lookup_refused : refusals sample lookup_cases ≡ statuses lookup_cases
unfolding refusal_of rules_of lookup_cases volume_in fileid_in
lookup_refused = refl

-- a refusal gives the directory's attributes where its handle resolves
lookup_missing :
    procedure sample 1 owner (Call.Lookup (at 1 (codes "none"))) now
    ≡ record { tree = sample; answer = Answer.Lookup (Err (record { status = NoEnt; attributes = Some (attributes_at sample 1) })) }
unfolding procedure tree_after refusal_of rules_of changed_tree answer_of volume_in fileid_in
lookup_missing = refl

lookup_gone :
    procedure sample 1 owner (Call.Lookup (at_handle gone (codes "f"))) now
    ≡ record { tree = sample; answer = Answer.Lookup (Err (record { status = Stale; attributes = None })) }
unfolding procedure tree_after refusal_of rules_of changed_tree answer_of volume_in fileid_in
lookup_gone = refl

-- a name, `.` and `..`, also of the root
found_of : ℕ → List ℕ → ℕ → Type 0
found_of dir name fileid =
    procedure sample 1 owner (Call.Lookup (at dir name)) now
    ≡ record {
      tree = sample;
      answer = Answer.Lookup (Ok (record {
        handle = record { volume = 1; fileid = fileid };
        object = Some (attributes_at sample fileid);
        directory = Some (attributes_at sample dir);
      }));
    }

looks_up : found_of 1 (codes "g") 2 × found_of 3 (codes "s") 5 × found_of 3 (codes ".") 3 × found_of 3 (codes "..") 1 × found_of 1 (codes "..") 1
unfolding procedure tree_after refusal_of rules_of changed_tree answer_of found_of volume_in fileid_in
looks_up = (refl, refl, refl, refl, refl)

-- the refusals of ACCESS
access_cases : List Case
access_cases = (owner, Call.Access foreign 63, BadHandle) ∷ (owner, Call.Access gone 63, Stale) ∷ []

access_refused : refusals sample access_cases ≡ statuses access_cases
unfolding refusal_of rules_of access_cases volume_in fileid_in
access_refused = refl

-- the bits that a caller has of those asked for
has_rights : Rattle.sky_base.specs.declared.cred.Cred.Cred → ℕ → ℕ → ℕ → Type 0
has_rights cred fileid asked rights =
    procedure sample 1 cred (Call.Access (fh fileid) asked) now
    ≡ record { tree = sample; answer = Answer.Access (Ok (record { object = Some (attributes_at sample fileid); rights = rights })) }

-- the file's mode is 0640: the owner reads and writes, the group reads, user 0 may do all
file_rights : has_rights owner 2 63 13 × has_rights member 2 63 1 × has_rights late_member 2 63 1 × has_rights stranger 2 63 0 × has_rights admin 2 63 45
unfolding procedure tree_after refusal_of rules_of changed_tree answer_of has_rights volume_in fileid_in
file_rights = (refl, refl, refl, refl, refl)

-- the directory's mode is 0750
directory_rights : has_rights owner 3 63 31 × has_rights member 3 63 3 × has_rights stranger 3 63 0 × has_rights admin 3 63 31 × has_rights owner 3 18 18
unfolding procedure tree_after refusal_of rules_of changed_tree answer_of has_rights volume_in fileid_in
directory_rights = (refl, refl, refl, refl, refl)

-- READLINK: refusals, and a text
readlink_cases : List Case
readlink_cases = (owner, Call.ReadLink foreign, BadHandle) ∷ (owner, Call.ReadLink gone, Stale) ∷ (owner, Call.ReadLink (fh 2), Inval) ∷ (owner, Call.ReadLink (fh 1), Inval) ∷ []

readlink_refused : refusals sample readlink_cases ≡ statuses readlink_cases
unfolding refusal_of rules_of readlink_cases volume_in fileid_in
readlink_refused = refl

reads_link :
    procedure sample 1 stranger (Call.ReadLink (fh 4)) now
    ≡ record { tree = sample; answer = Answer.ReadLink (Ok (record { link = Some (attributes_at sample 4); text = codes "f" })) }
unfolding procedure tree_after refusal_of rules_of changed_tree answer_of volume_in fileid_in
reads_link = refl

-- READ: refusals. The owner reads without the bit
read_cases : List Case
read_cases =
    (stranger, Call.Read foreign 0 5, BadHandle) ∷
    (stranger, Call.Read gone 0 5, Stale) ∷
    (stranger, Call.Read (fh 3) 0 5, Inval) ∷
    (stranger, Call.Read (fh 4) 0 5, Inval) ∷
    (stranger, Call.Read (fh 2) 0 5, Acces) ∷ []

read_refused : refusals sample read_cases ≡ statuses read_cases
unfolding refusal_of rules_of read_cases volume_in fileid_in
read_refused = refl

owner_reads : refusal_of (put sample 2 (node 0 2 (File []))) owner (Call.Read (fh 2) 0 5) ≡ None
unfolding refusal_of rules_of volume_in fileid_in
owner_reads = refl

-- the bytes, and whether the file ends with them
reads : ℕ → ℕ → List ℕ → Rattle.std.specs.Prelude.Bool → Type 0
reads offset count bytes eof =
    procedure sample 1 member (Call.Read (fh 2) offset count) now
    ≡ record { tree = sample; answer = Answer.Read (Ok (record { file = Some (attributes_at sample 2); eof = eof; «data» = bytes })) }

read_bytes : reads 0 5 (codes "hello") true × reads 0 4 (codes "hell") false × reads 1 100 (codes "ello") true × reads 3 1 (codes "l") false × reads 5 1 [] true
unfolding procedure tree_after refusal_of rules_of changed_tree answer_of reads volume_in fileid_in
read_bytes = (refl, refl, refl, refl, refl)

-- far behind the end, and nothing at all
read_nothing : reads (2 ^ 64 - 1) (2 ^ 32 - 1) [] true × reads 2 0 [] false
unfolding procedure tree_after refusal_of rules_of changed_tree answer_of reads volume_in fileid_in
read_nothing = (refl, refl)
