-- The results of READDIR and READDIRPLUS behind NFS3_OK are read in one way (HasOneReading).
use Rattle.std.proofs.Common.{◌≡◌, ℕ, true, List, ◌++◌, refl, ap, ◌∙◌, append_assoc, lit<}
use Rattle.sky_nfs.specs.declared.answer.ListedEntry.{ListedEntry}
use Rattle.sky_nfs.specs.declared.answer.ListedEntryPlus.{ListedEntryPlus}
use Rattle.sky_nfs.specs.declared.answer.ReadDirOk.{ReadDirOk}
use Rattle.sky_nfs.specs.declared.answer.ReadDirPlusOk.{ReadDirPlusOk}
use Rattle.sky_xdr.specs.Encoding.{uhyper, bool, opaque}
use Rattle.sky_results.specs.Attributes.{post_op_attr, post_op_fh3}
use Rattle.sky_results.specs.Ranges.{EntryFits, EntryPlusFits, ReadDirFits, ReadDirPlusFits}
use Rattle.sky_results.specs.Results.{entry3, entryplus3, readdir_ok, readdirplus_ok}
use Rattle.sky_results.proofs.OneReading.{HasOneReading, uhyper_once, bool_once, opaque_once, both, along, under, list_once}
use Rattle.sky_results.proofs.PartsOnce.{post_op_attr_once, post_op_fh3_once}

-- an entry behind its true
entry_body : ListedEntry → List ℕ
entry_body e = uhyper e.fileid ++ opaque e.name ++ uhyper e.cookie

entry3-body : (e : ListedEntry) → entry3 e ≡ bool true ++ entry_body e
unfolding entry3 entry_body
entry3-body e =
    ap (λ (l : List ℕ). l ++ uhyper e.cookie) (append_assoc (bool true) (uhyper e.fileid) (opaque e.name))
    ∙ append_assoc (bool true) (uhyper e.fileid ++ opaque e.name) (uhyper e.cookie)

entry_plus_body : ListedEntryPlus → List ℕ
entry_plus_body e = entry_body e.entry ++ post_op_attr e.attributes ++ post_op_fh3 e.handle

entryplus3-body : (e : ListedEntryPlus) → entryplus3 e ≡ bool true ++ entry_plus_body e
unfolding entryplus3 entry_plus_body
entryplus3-body e =
    ap (λ (l : List ℕ). l ++ post_op_attr e.attributes ++ post_op_fh3 e.handle) (entry3-body e.entry)
    ∙ ap (λ (l : List ℕ). l ++ post_op_fh3 e.handle) (append_assoc (bool true) (entry_body e.entry) (post_op_attr e.attributes))
    ∙ append_assoc (bool true) (entry_body e.entry ++ post_op_attr e.attributes) (post_op_fh3 e.handle)

entry3_once : HasOneReading EntryFits entry3
unfolding entry3
entry3_once = under (λ a p. (((tt, p.0), p.1), p.2)) (along (both (both (both bool_once uhyper_once) opaque_once) uhyper_once)
    (λ (a : ListedEntry). (((true, a.fileid), a.name), a.cookie))
    (λ t. record { fileid = t.0.0.1; name = t.0.1; cookie = t.1 }) (λ a. refl))

entryplus3_once : HasOneReading EntryPlusFits entryplus3
unfolding entryplus3
entryplus3_once = under (λ a p. ((p.0, p.1), p.2)) (along (both (both entry3_once post_op_attr_once) post_op_fh3_once)
    (λ (a : ListedEntryPlus). ((a.entry, a.attributes), a.handle))
    (λ t. record { entry = t.0.0; attributes = t.0.1; handle = t.1 }) (λ a. refl))

pub readdir_once : HasOneReading ReadDirFits readdir_ok
unfolding readdir_ok
readdir_once = under (λ a p. ((p.0, lit< tt), (p.1, tt)))
    (along (both (both post_op_attr_once uhyper_once) (both (list_once entry3_once entry_body entry3-body) bool_once))
    (λ (a : ReadDirOk). ((a.directory, 0), (a.entries, a.eof)))
    (λ t. record { directory = t.0.0; entries = t.1.0; eof = t.1.1 }) (λ a. refl))

pub readdirplus_once : HasOneReading ReadDirPlusFits readdirplus_ok
unfolding readdirplus_ok
readdirplus_once = under (λ a p. ((p.0, lit< tt), (p.1, tt)))
    (along (both (both post_op_attr_once uhyper_once) (both (list_once entryplus3_once entry_plus_body entryplus3-body) bool_once))
    (λ (a : ReadDirPlusOk). ((a.directory, 0), (a.entries, a.eof)))
    (λ t. record { directory = t.0.0; entries = t.1.0; eof = t.1.1 }) (λ a. refl))
