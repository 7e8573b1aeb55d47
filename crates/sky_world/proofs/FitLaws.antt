-- No answer has more bytes than a reply has room for.
use Rattle.std.proofs.Common.{◌≡◌, ◌+◌, ◌*◌, ◌/◌, ◌≤◌, ℕ, Bool, true, false, ◌&&◌, Option, Some, None, List, [], ◌∷◌, ◌++◌, map, flat_map, length, min, drop, refl, subst, arith}
use Rattle.std.specs.Prelude.{sum_by, nat_le}
use Rattle.std.proofs.lemmas.List.{length-append, length-replicate, length-take}
use Rattle.std.proofs.lemmas.List.Sums.{sum_by-cons}
use Rattle.std.proofs.lemmas.Bool.Decides.{nat_tests}
use Rattle.sky_base.specs.Listing.{Entry}
use Rattle.sky_base.specs.declared.cred.Cred.{Cred}
use Rattle.sky_base.specs.declared.moment.Moment.{Moment}
use Rattle.sky_nfs.specs.Calls.{is_change}
use Rattle.sky_nfs.specs.Handles.{fileid_in}
use Rattle.sky_nfs.specs.Procedure.{procedure, answer_of, refusal_of, rules_of, tree_after}
use Rattle.sky_nfs.specs.Procedures.Read.{bytes_at}
use Rattle.sky_nfs.specs.Procedures.ReadDir.{entry_size, entry_plus_size, fits, fits_plus, is_too_small, left_behind, listed, listed_plus, longest, readdir_rules, readdirplus_rules}
use Rattle.sky_nfs.specs.Tree.{Tree, Node, node_at, the_node, bytes_of, text_of, link_text, File, Directory, Link, Content}
use Rattle.sky_nfs.specs.Validity.{IsValidTree, is_within}
use Rattle.sky_nfs.specs.declared.answer.Answer.{Answer}
use Rattle.sky_nfs.specs.declared.call.Call.{Call}
use Rattle.sky_nfs.specs.declared.call.Call.TheVariants as call
use Rattle.sky_nfs.specs.declared.status.NfsStatus.{NfsStatus}
use Rattle.sky_nfs.proofs.KeptLemmas.{passed}
use Rattle.sky_nfs.proofs.ProcedureLemmas.{tree_after-reading}
use Rattle.sky_nfs.proofs.ValidityLemmas.{each-node_at}
use Rattle.sky_results.specs.Answers.{answer_bytes, data_length}
use Rattle.sky_results.specs.Attributes.{post_op_attr}
use Rattle.sky_results.specs.Results.{entry3, entryplus3}
use Rattle.sky_results.proofs.Bounds.{answer_most, told_most}
use Rattle.sky_results.proofs.Sizes.{opaque_sizes}
use Rattle.sky_world.specs.Service.{bare_answer, bare_answers}
use Rattle.sky_world.proofs.SessionLaws.{all-at}
use Rattle.sky_xdr.specs.Encoding.{opaque, padding}
use Rattle.sky_xdr.proofs.Opaques.{length-opaque}

-- ---- opaque data

pads : (n : ℕ) → n + padding n ≡ (n + 3) / 4 * 4
pads n = omega arith

pads_most : (n : ℕ) → padding n ≤ 3
pads_most n = omega arith

opaque_most : (v : List ℕ) → length (opaque v) ≤ length v + 7
opaque_most v = omega (arith, length-opaque v, pads_most (length v))

-- ---- pages

entry_length : (e : Entry) → length (entry3 (listed e)) ≤ entry_size e
unfolding entry3
entry_length e = simp opaque_sizes (omega (arith, pads (length e.name), length-replicate {A = ℕ} (padding (length e.name)) 0))

entry_plus_parts : (t : Tree) (e : Entry) → length (entryplus3 (listed_plus t e)) ≡ length (entry3 (listed e)) + length (post_op_attr (listed_plus t e).attributes) + 24
unfolding entryplus3
entry_plus_parts t e = simp opaque_sizes (omega arith)

entry_plus_length : (t : Tree) (e : Entry) → length (entryplus3 (listed_plus t e)) ≤ entry_plus_size e
entry_plus_length t e = omega (arith, entry_length e, told_most (listed_plus t e).attributes, entry_plus_parts t e)

-- the bytes of entries, each of which has at most its size
entries_length : {X Y : Type 0} (bytes : Y → List ℕ) (shown : X → Y) (size : X → ℕ) → ((x : X) → length (bytes (shown x)) ≤ size x) → (xs : List X)
    → length (flat_map bytes (map shown xs)) ≤ sum_by size xs
entries_length bytes shown size most [] = omega arith
entries_length bytes shown size most (x ∷ xs) =
    let cut : length (flat_map bytes (map shown (x ∷ xs))) ≡ length (bytes (shown x)) + length (flat_map bytes (map shown xs)) = length-append (bytes (shown x)) (flat_map bytes (map shown xs)) in
    let sum : sum_by size (x ∷ xs) ≡ size x + sum_by size xs = sum_by-cons size x xs in
    omega (arith, cut, sum, most x, entries_length bytes shown size most xs)

-- a page that begins with what fits, fits
longest_fits : (fit : List Entry → Bool) (page es : List Entry) → fit page ≡ true → fit (longest fit page es) ≡ true
longest_fits fit page [] h = h
longest_fits fit page (e ∷ es) h = go (fit (page ++ e ∷ [])) refl (longest_fits fit (page ++ e ∷ []) es)
  where
    go : (b : Bool) → fit (page ++ e ∷ []) ≡ b → (fit (page ++ e ∷ []) ≡ true → fit (longest fit (page ++ e ∷ []) es) ≡ true) → fit (longest fit page (e ∷ es)) ≡ true
    go true k rest = rw k (rest k)
    go false k rest = rw k h

-- where a page is not too small for all, the empty one fits
empty_fits : (fit : List Entry → Bool) (left : List Entry) → is_too_small fit left ≡ false → fit [] ≡ true
empty_fits fit left small = go (fit []) refl small
  where
    go : (b : Bool) → fit [] ≡ b → is_too_small fit left ≡ false → fit [] ≡ true
    go true k small = k
    go false k small = let e : true ≡ false = rw k at small in absurd cc

page_length : (count : ℕ) (left : List Entry) → is_too_small (fits count) left ≡ false → length (flat_map entry3 (map listed (longest (fits count) [] left))) ≤ 65536
page_length count left small =
    let page = longest (fits count) [] left in
    let fit : fits count page ≡ true = longest_fits (fits count) [] left (empty_fits (fits count) left small) in
    omega (arith, entries_length entry3 listed entry_size entry_length page, page_most (sum_by entry_size page) fit)
  where
    page_most : (n : ℕ) → nat_le (104 + n) (min count 65536) ≡ true → n ≤ 65536
    page_most n e = grind (arith, nat_tests)

page_plus_length : (t : Tree) (dircount maxcount : ℕ) (left : List Entry) → is_too_small (fits_plus dircount maxcount) left ≡ false
    → length (flat_map entryplus3 (map (listed_plus t) (longest (fits_plus dircount maxcount) [] left))) ≤ 65536
page_plus_length t dircount maxcount left small =
    let page = longest (fits_plus dircount maxcount) [] left in
    let fit : fits_plus dircount maxcount page ≡ true = longest_fits (fits_plus dircount maxcount) [] left (empty_fits (fits_plus dircount maxcount) left small) in
    omega (arith, entries_length entryplus3 (listed_plus t) entry_plus_size (entry_plus_length t) page, page_most (sum_by entry_plus_size page) _ fit)
  where
    page_most : (n : ℕ) (b : Bool) → (nat_le (104 + n) (min maxcount 65536) && b) ≡ true → n ≤ 65536
    page_most n true e = grind (arith, nat_tests)
    page_most n false e = grind (arith, nat_tests)

-- ---- texts

within_text : (c : Content) → is_within c ≡ true → length (link_text c) ≤ 1024
within_text (File bytes) e = omega arith
within_text (Directory parent listing) e = omega arith
within_text (Link text) e = grind (arith, nat_tests)

text_length : (t : Tree) (fileid : ℕ) → IsValidTree t → length (text_of (the_node t fileid)) ≤ 1024
text_length t fileid valid = go (node_at t.nodes fileid) refl
  where
    go : (o : Option Node) → node_at t.nodes fileid ≡ o → length (text_of (the_node t fileid)) ≤ 1024
    go None e = rw e (omega arith)
    go (Some n) e = rw e (within_text n.content (each-node_at (λ k node. is_within node.content) t.nodes fileid n valid.contents_within e))

-- ---- answers

data_most : (t after : Tree) (epoch : ℕ) (cred : Cred) (c : Call) (refusal : Option NfsStatus) → refusal_of t cred c ≡ refusal → (is_change c ≡ false → IsValidTree t) → data_length (answer_of refusal t after epoch cred c) ≤ 65543
unfolding answer_of refusal_of rules_of
data_most t after epoch cred (call.ReadLink link) None e valid = omega (arith, opaque_most (text_of (the_node t (fileid_in link))), text_length t (fileid_in link) (valid refl))
data_most t after epoch cred (call.Read file offset count) None e valid =
    let bytes = bytes_of (the_node t (fileid_in file)) in
    omega (arith, opaque_most (bytes_at bytes offset count), length-take (min count 65536) (drop offset bytes))
data_most t after epoch cred (call.ReadDir directory cookie verifier count) None e valid =
    let p = passed (readdir_rules t cred directory cookie verifier count) e in
    omega (arith, page_length count (left_behind t (fileid_in directory) cookie) p.1.1.1.1.1.0)
data_most t after epoch cred (call.ReadDirPlus directory cookie verifier dircount maxcount) None e valid =
    let p = passed (readdirplus_rules t cred directory cookie verifier dircount maxcount) e in
    omega (arith, page_plus_length t dircount maxcount (left_behind t (fileid_in directory) cookie) p.1.1.1.1.1.0)
data_most t after epoch cred (call.ReadLink link) (Some status) e valid = omega arith
data_most t after epoch cred (call.Read file offset count) (Some status) e valid = omega arith
data_most t after epoch cred (call.ReadDir directory cookie verifier count) (Some status) e valid = omega arith
data_most t after epoch cred (call.ReadDirPlus directory cookie verifier dircount maxcount) (Some status) e valid = omega arith
data_most t after epoch cred call.Null refusal e valid = omega arith
data_most t after epoch cred (call.GetAttr object) refusal e valid = omega arith
data_most t after epoch cred (call.SetAttr object set guard) refusal e valid = omega arith
data_most t after epoch cred (call.Lookup at) refusal e valid = omega arith
data_most t after epoch cred (call.Access object rights) refusal e valid = omega arith
data_most t after epoch cred (call.Write file offset count how piece) refusal e valid = omega arith
data_most t after epoch cred (call.Create at how) refusal e valid = omega arith
data_most t after epoch cred (call.Mkdir at set) refusal e valid = omega arith
data_most t after epoch cred (call.Symlink at set text) refusal e valid = omega arith
data_most t after epoch cred (call.Mknod at what) refusal e valid = omega arith
data_most t after epoch cred (call.Remove at) refusal e valid = omega arith
data_most t after epoch cred (call.Rmdir at) refusal e valid = omega arith
data_most t after epoch cred (call.Rename from to) refusal e valid = omega arith
data_most t after epoch cred (call.Link file at) refusal e valid = omega arith
data_most t after epoch cred (call.FsStat root) refusal e valid = omega arith
data_most t after epoch cred (call.FsInfo root) refusal e valid = omega arith
data_most t after epoch cred (call.PathConf object) refusal e valid = omega arith
data_most t after epoch cred (call.Commit file offset count) refusal e valid = omega arith

-- the answer of each procedure that leads to a valid tree
pub answer_fits : (t : Tree) (epoch : ℕ) (cred : Cred) (c : Call) (moment : Moment) → IsValidTree (procedure t epoch cred c moment).tree → length (answer_bytes (procedure t epoch cred c moment).answer) ≤ 65779
unfolding procedure
answer_fits t epoch cred c moment valid =
    let after = tree_after t cred c moment in
    let before : is_change c ≡ false → IsValidTree t = λ reads. subst IsValidTree (tree_after-reading t cred c moment reads) valid in
    omega (arith, answer_most (answer_of (refusal_of t cred c) t after epoch cred c), data_most t after epoch cred c (refusal_of t cred c) refl before)

-- an answer of a status alone has no data
no_data : (procedure : ℕ) (status : NfsStatus) → data_length (bare_answer procedure status) ≡ 0
no_data procedure status =
    all-at (λ a. data_length a ≡ 0) (bare_answers status) procedure Answer.Null
    ((refl, (refl, (refl, (refl, (refl, (refl, (refl, (refl, (refl, (refl, (refl, (refl, (refl, (refl, (refl, (refl, (refl, (refl, (refl, (refl, (refl, (refl, tt))))))))))))))))))))))) refl

pub bare_fits : (procedure : ℕ) (status : NfsStatus) → length (answer_bytes (bare_answer procedure status)) ≤ 65779
bare_fits procedure status = omega (arith, answer_most (bare_answer procedure status), no_data procedure status)
