-- READDIR and READDIRPLUS.
use Rattle.sky_nfs.specs.Handles.{volume_in, fileid_in}
use Rattle.std.proofs.Common.{◌≡◌, ℕ, List, [], ◌∷◌, Some, Ok, refl, true, false}
use Rattle.std.specs.Prelude.{Bool, codes, ◌^◌, replicate, map}
use Rattle.sky_nfs.specs.declared.answer.Answer.{Answer}
use Rattle.sky_nfs.specs.declared.answer.ListedEntry.{ListedEntry}
use Rattle.sky_nfs.specs.declared.call.Call.{Call}
use Rattle.sky_nfs.specs.declared.status.NfsStatus.TheVariants.{Acces, NotDir, Stale, BadHandle, BadCookie, TooSmall}
use Rattle.sky_nfs.specs.Tree.{Tree, attributes_at, empty_tree}
use Rattle.sky_nfs.specs.Procedure.{procedure, tree_after, refusal_of, rules_of, changed_tree, answer_of}
use Rattle.sky_nfs.proofs.Checks.Sample.{Case, sample, refusals, statuses, fh, gone, foreign, at, owner, stranger, now}

-- the verifier of every cookie, and another one
zero_verifier : List ℕ
zero_verifier = replicate 8 0

other_verifier : List ℕ
other_verifier = 0 ∷ 0 ∷ 0 ∷ 0 ∷ 0 ∷ 0 ∷ 0 ∷ 1 ∷ []

-- each refusal of READDIR, and where two apply the first of them
cases : List Case
cases =
    (stranger, Call.ReadDir foreign 1 other_verifier 0, BadHandle) ∷
    (stranger, Call.ReadDir gone 1 other_verifier 0, Stale) ∷
    (stranger, Call.ReadDir (fh 2) 1 other_verifier 0, NotDir) ∷
    (stranger, Call.ReadDir (fh 3) 1 other_verifier 0, Acces) ∷
    (owner, Call.ReadDir (fh 3) 1 other_verifier 0, BadCookie) ∷
    (owner, Call.ReadDir (fh 3) 0 other_verifier 103, TooSmall) ∷
    (owner, Call.ReadDir (fh 3) 99 zero_verifier 103, TooSmall) ∷
    (owner, Call.ReadDir (fh 3) 0 zero_verifier 131, TooSmall) ∷ []

refused : refusals sample cases ≡ statuses cases
unfolding refusal_of rules_of cases zero_verifier other_verifier volume_in fileid_in
refused = refl

-- the same of READDIRPLUS
plus_cases : List Case
plus_cases =
    (stranger, Call.ReadDirPlus foreign 1 other_verifier 0 0, BadHandle) ∷
    (stranger, Call.ReadDirPlus gone 1 other_verifier 0 0, Stale) ∷
    (stranger, Call.ReadDirPlus (fh 2) 1 other_verifier 0 0, NotDir) ∷
    (stranger, Call.ReadDirPlus (fh 3) 1 other_verifier 0 0, Acces) ∷
    (owner, Call.ReadDirPlus (fh 3) 1 other_verifier 0 0, BadCookie) ∷
    (owner, Call.ReadDirPlus (fh 3) 0 other_verifier 0 103, TooSmall) ∷
    (owner, Call.ReadDirPlus (fh 3) 99 zero_verifier 0 103, TooSmall) ∷
    (owner, Call.ReadDirPlus (fh 3) 0 zero_verifier 9999 243, TooSmall) ∷ []

plus_refused : refusals sample plus_cases ≡ statuses plus_cases
unfolding refusal_of rules_of plus_cases zero_verifier other_verifier volume_in fileid_in
plus_refused = refl

listed : ℕ → List ℕ → ℕ → ListedEntry
listed cookie name fileid = record { fileid = fileid; name = name; cookie = cookie }

-- a page of READDIR
shows : Tree → ℕ → ℕ → ℕ → List ListedEntry → Bool → Type 0
shows t dir cookie count entries eof =
    procedure t 1 owner (Call.ReadDir (fh dir) cookie zero_verifier count) now
    ≡ record { tree = t; answer = Answer.ReadDir (Ok (record { directory = Some (attributes_at t dir); entries = entries; eof = eof })) }

-- the empty root: 132 bytes have room for `.`, and 160 for `..` too
empty_root : refusal_of (empty_tree 1) stranger (Call.ReadDir (fh 1) 0 zero_verifier 131) ≡ Some TooSmall × shows (empty_tree 1) 1 0 132 (listed 1 (codes ".") 1 ∷ []) false × shows (empty_tree 1) 1 0 159 (listed 1 (codes ".") 1 ∷ []) false × shows (empty_tree 1) 1 0 160 (listed 1 (codes ".") 1 ∷ listed 2 (codes "..") 1 ∷ []) true
unfolding procedure tree_after refusal_of rules_of changed_tree answer_of shows listed zero_verifier volume_in fileid_in
empty_root = (refl, refl, refl, refl)

-- behind a cookie, with one byte too few, and where nothing is left
behind : shows sample 3 1 160 (listed 2 (codes "..") 1 ∷ listed 3 (codes "s") 5 ∷ []) false × shows sample 3 2 160 (listed 3 (codes "s") 5 ∷ listed 4 (codes "x") 7 ∷ []) true × shows sample 3 2 159 (listed 3 (codes "s") 5 ∷ []) false × shows sample 3 4 104 [] true × shows sample 3 (2 ^ 63) 104 [] true
unfolding procedure tree_after refusal_of rules_of changed_tree answer_of shows listed zero_verifier volume_in fileid_in
behind = (refl, refl, refl, refl, refl)

-- a page up to cookie 3; then the entry at 4 goes, and the next page begins behind it
page_by_page :
    shows sample 1 0 188 (listed 1 (codes ".") 1 ∷ listed 2 (codes "..") 1 ∷ listed 3 (codes "f") 2 ∷ []) false
    × shows (tree_after sample owner (Call.Rename (at 1 (codes "d")) (at 6 (codes "d"))) now) 1 3 160 (listed 5 (codes "l") 4 ∷ listed 6 (codes "g") 2 ∷ []) false
unfolding procedure tree_after refusal_of rules_of changed_tree answer_of shows listed zero_verifier volume_in fileid_in
page_by_page = (refl, refl)

-- a page of READDIRPLUS shows these nodes by these cookies and names
shows_plus : ℕ → ℕ → ℕ → List ListedEntry → Bool → Type 0
shows_plus cookie dircount maxcount entries eof =
    procedure sample 1 owner (Call.ReadDirPlus (fh 3) cookie zero_verifier dircount maxcount) now
    ≡ record {
      tree = sample;
      answer = Answer.ReadDirPlus (Ok (record {
        directory = Some (attributes_at sample 3);
        entries = map (λ (e : ListedEntry). record { entry = e; attributes = Some (attributes_at sample e.fileid); handle = record { volume = 1; fileid = e.fileid } }) entries;
        eof = eof;
      }));
    }

-- an entry has 140 bytes here. By dircount, of which it takes 28, one entry always comes
plus_pages : shows_plus 2 9999 384 (listed 3 (codes "s") 5 ∷ listed 4 (codes "x") 7 ∷ []) true × shows_plus 2 9999 383 (listed 3 (codes "s") 5 ∷ []) false × shows_plus 2 56 9999 (listed 3 (codes "s") 5 ∷ listed 4 (codes "x") 7 ∷ []) true × shows_plus 2 55 9999 (listed 3 (codes "s") 5 ∷ []) false × shows_plus 2 0 9999 (listed 3 (codes "s") 5 ∷ []) false × shows_plus 4 0 104 [] true
unfolding procedure tree_after refusal_of rules_of changed_tree answer_of shows_plus listed zero_verifier volume_in fileid_in
plus_pages = (refl, refl, refl, refl, refl, refl)
