-- The entries of a page, one after the other.
--   entry_within                    the bytes before an entry, and its own, are within those of all entries
--   name_within, name_within_plus   a name is within its entry
--   entry_most, entry_most_plus     and an entry has few bytes beside it
use Rattle.std.proofs.Common.{◌≡◌, ◌+◌, ◌<◌, ◌≤◌, ◌++◌, true, ℕ, List, length, get_or, take, flat_map, subst, sym, arith}
use Rattle.std.proofs.lemmas.List.{length-append}
use Rattle.std.proofs.lemmas.List.Folds.{length-flat_map-take}
use Rattle.sky_nfs.specs.declared.answer.ListedEntry.{ListedEntry}
use Rattle.sky_nfs.specs.declared.answer.ListedEntryPlus.{ListedEntryPlus}
use Rattle.sky_xdr.specs.Encoding.{uhyper, bool, opaque}
use Rattle.sky_xdr.proofs.Opaques.{length-opaque}
use Rattle.sky_xdr.proofs.Numbers.{length-bool, length-uhyper}
use Rattle.sky_results.specs.Attributes.{post_op_attr, post_op_fh3}
use Rattle.sky_results.specs.Results.{entry3, entryplus3}
use Rattle.sky_results.proofs.Bounds.{told_most}
use Rattle.sky_results.proofs.Sizes.{length-post_op_fh3}

pub entry_within : {X : Type 0} (f : X → List ℕ) (xs : List X) (i : ℕ) (x : X) → i < length xs → x ≡ get_or xs i x
    → length (flat_map f (take i xs)) + length (f x) ≤ length (flat_map f xs)
entry_within {X = X} f xs i x lt is =
    subst (λ (y : X). length (flat_map f (take i xs)) + length (f y) ≤ length (flat_map f xs)) (sym is) (length-flat_map-take f xs i x lt)

pub name_within : (e : ListedEntry) → length e.name ≤ length (entry3 e)
unfolding entry3
name_within e =
    let before : List ℕ = bool true ++ uhyper e.fileid in
    omega (arith, length-append (before ++ opaque e.name) (uhyper e.cookie), length-append before (opaque e.name), length-opaque e.name)

pub name_within_plus : (e : ListedEntryPlus) → length e.entry.name ≤ length (entryplus3 e)
unfolding entryplus3
name_within_plus e =
    let first : List ℕ = entry3 e.entry ++ post_op_attr e.attributes in
    omega (arith, length-append first (post_op_fh3 e.handle), length-append (entry3 e.entry) (post_op_attr e.attributes), name_within e.entry)

pub entry_most : (e : ListedEntry) → length (entry3 e) ≤ 27 + length e.name
unfolding entry3
entry_most e =
    let before : List ℕ = bool true ++ uhyper e.fileid in
    omega (arith, length-append (before ++ opaque e.name) (uhyper e.cookie), length-append before (opaque e.name), length-append (bool true) (uhyper e.fileid), length-bool true, length-uhyper e.fileid, length-uhyper e.cookie, length-opaque e.name)

pub entry_most_plus : (e : ListedEntryPlus) → length (entryplus3 e) ≤ 139 + length e.entry.name
unfolding entryplus3
entry_most_plus e =
    let first : List ℕ = entry3 e.entry ++ post_op_attr e.attributes in
    omega (arith, length-append first (post_op_fh3 e.handle), length-append (entry3 e.entry) (post_op_attr e.attributes), entry_most e.entry, told_most e.attributes, length-post_op_fh3 e.handle)
