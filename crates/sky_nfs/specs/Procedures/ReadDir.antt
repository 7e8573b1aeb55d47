-- READDIR and READDIRPLUS, RFC 1813 sections 3.3.16 and 3.3.17: pages of a directory's entries.
use Rattle.std.specs.Prelude.{ℕ, ◌+◌, ◌*◌, ◌/◌, Bool, not, cond, ◌&&◌, ◌||◌, ◌==◌, nat_lt, nat_le, min, List, [], ◌∷◌, ◌++◌, map, length, filter, sum_by}
use Rattle.std.specs.List.{list_all}
use Rattle.sky_base.specs.declared.cred.Cred.{Cred}
use Rattle.sky_base.specs.declared.cred.Want.TheVariants.{Read}
use Rattle.sky_base.specs.Limits.{max_transfer}
use Rattle.sky_base.specs.Listing.{Entry}
use Rattle.sky_nfs.specs.declared.answer.ListedEntry.{ListedEntry}
use Rattle.sky_nfs.specs.declared.answer.ListedEntryPlus.{ListedEntryPlus}
use Rattle.sky_nfs.specs.declared.answer.ReadDirOk.{ReadDirOk}
use Rattle.sky_nfs.specs.declared.answer.ReadDirPlusOk.{ReadDirPlusOk}
use Rattle.sky_nfs.specs.declared.status.NfsStatus.TheVariants.{Acces, BadCookie, TooSmall}
use Rattle.sky_nfs.specs.Tree.{Tree, the_node, listing_of, parent_of}
use Rattle.sky_nfs.specs.Handles.{fileid_in, handle_bytes}
use Rattle.sky_nfs.specs.Rules.{Rules, directory_rules, lacks, dot, dot_dot}
use Rattle.sky_nfs.specs.Results.{post_attributes}

-- all entries that a listing shows: `.` with cookie 1, `..` with cookie 2, and those of the directory
abbrev pub shown : Tree → ℕ → List Entry
shown t dir =
    let node = the_node t dir in
    record { cookie = 1; name = dot; fileid = dir } ∷
    record { cookie = 2; name = dot_dot; fileid = parent_of node } ∷
    (listing_of node).entries

-- those behind a cookie
abbrev pub left_behind : Tree → ℕ → ℕ → List Entry
left_behind t dir cookie = filter (λ e. nat_lt cookie e.cookie) (shown t dir)

-- the bytes of a name, filled up to whole words (RFC 4506 section 4.11)
abbrev pub padded_length : List ℕ → ℕ
padded_length name = (length name + 3) / 4 * 4

-- the bytes of a READDIR's results without entries
abbrev pub empty_page_size : ℕ
empty_page_size = 104

-- the bytes of an entry of READDIR
abbrev pub entry_size : Entry → ℕ
entry_size e = 24 + padded_length e.name

-- the bytes of an entry of READDIRPLUS: attributes and a handle besides
abbrev pub entry_plus_size : Entry → ℕ
entry_plus_size e = entry_size e + 112

-- the most bytes of a page
abbrev pub max_page_bytes : ℕ → ℕ
max_page_bytes count = min count max_transfer

-- whether a page's results stay within the bytes that the caller allows
abbrev pub fits : ℕ → List Entry → Bool
fits count page = nat_le (empty_page_size + sum_by entry_size page) (max_page_bytes count)

-- the same of READDIRPLUS. Its names and cookies stay within dircount besides, unless it is one entry
abbrev pub fits_plus : ℕ → ℕ → List Entry → Bool
fits_plus dircount maxcount page =
    nat_le (empty_page_size + sum_by entry_plus_size page) (max_page_bytes maxcount) &&
    (nat_le (length page) 1 || nat_le (sum_by entry_size page) dircount)

-- a page, continued with entries as long as it fits
abbrev pub longest : (List Entry → Bool) → List Entry → List Entry → List Entry
longest fit page [] = page
longest fit page (e ∷ es) = cond (fit (page ++ e ∷ [])) (longest fit (page ++ e ∷ []) es) page

-- whether a cookie needs a verifier, and has another one than this server's, which is zero
abbrev pub is_bad_cookie : ℕ → List ℕ → Bool
is_bad_cookie cookie verifier = not (cookie == 0) && not (list_all (λ b. b == 0) verifier)

-- not even the results without entries fit, or entries are left and not one of them fits
abbrev pub is_too_small : (List Entry → Bool) → List Entry → Bool
is_too_small fit left = not (fit []) || not (length left == 0) && length (longest fit [] left) == 0

-- the rules of a page of which this is asked to fit
abbrev pub page_rules : Tree → Cred → List ℕ → ℕ → List ℕ → (List Entry → Bool) → Rules
page_rules t cred directory cookie verifier fit =
    let dir = fileid_in directory in
    directory_rules t directory ++
    (lacks t cred dir Read, Acces) ∷
    (is_bad_cookie cookie verifier, BadCookie) ∷
    (is_too_small fit (left_behind t dir cookie), TooSmall) ∷ []

-- the refusals of READDIR
abbrev pub readdir_rules : Tree → Cred → List ℕ → ℕ → List ℕ → ℕ → Rules
readdir_rules t cred directory cookie verifier count = page_rules t cred directory cookie verifier (fits count)

-- the refusals of READDIRPLUS
abbrev pub readdirplus_rules : Tree → Cred → List ℕ → ℕ → List ℕ → ℕ → ℕ → Rules
readdirplus_rules t cred directory cookie verifier dircount maxcount =
    page_rules t cred directory cookie verifier (fits_plus dircount maxcount)

-- an entry as READDIR tells it
abbrev pub listed : Entry → ListedEntry
listed e = record { fileid = e.fileid; name = e.name; cookie = e.cookie }

-- an entry as READDIRPLUS tells it
abbrev pub listed_plus : Tree → Entry → ListedEntryPlus
listed_plus t e = record {
  entry = listed e;
  attributes = post_attributes t (handle_bytes t.volume e.fileid);
  handle = record { volume = t.volume; fileid = e.fileid };
}

-- the results of READDIR
abbrev pub page : Tree → List ℕ → ℕ → ℕ → ReadDirOk
page t directory cookie count =
    let left = left_behind t (fileid_in directory) cookie in
    let entries = longest (fits count) [] left in
    record { directory = post_attributes t directory; entries = map listed entries; eof = length entries == length left }

-- the results of READDIRPLUS
abbrev pub page_plus : Tree → List ℕ → ℕ → ℕ → ℕ → ReadDirPlusOk
page_plus t directory cookie dircount maxcount =
    let left = left_behind t (fileid_in directory) cookie in
    let entries = longest (fits_plus dircount maxcount) [] left in
    record { directory = post_attributes t directory; entries = map (listed_plus t) entries; eof = length entries == length left }
