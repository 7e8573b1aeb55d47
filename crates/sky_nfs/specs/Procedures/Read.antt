-- READ, RFC 1813 section 3.3.6: bytes of a file.
use Rattle.std.specs.Prelude.{ℕ, ◌+◌, not, nat_le, min, List, [], ◌∷◌, ◌++◌, length, take, drop}
use Rattle.sky_base.specs.declared.cred.Cred.{Cred}
use Rattle.sky_base.specs.declared.cred.Want.TheVariants.{Read}
use Rattle.sky_base.specs.Limits.{max_transfer}
use Rattle.sky_nfs.specs.declared.answer.ReadOk.{ReadOk}
use Rattle.sky_nfs.specs.declared.status.NfsStatus.TheVariants.{Inval, Acces}
use Rattle.sky_nfs.specs.Tree.{Tree, the_node, is_file, bytes_of}
use Rattle.sky_nfs.specs.Handles.{fileid_in}
use Rattle.sky_nfs.specs.Rules.{Rules, handle_rules, lacks_unless_owner}
use Rattle.sky_nfs.specs.Results.{post_attributes}

-- the refusals of READ
abbrev pub read_rules : Tree → Cred → List ℕ → Rules
read_rules t cred file =
    let fileid = fileid_in file in
    handle_rules t file ++
    (not (is_file (the_node t fileid)), Inval) ∷
    (lacks_unless_owner t cred fileid Read, Acces) ∷ []

-- the bytes from an offset on, as many as the caller asks for and one READ moves
abbrev pub bytes_at : List ℕ → ℕ → ℕ → List ℕ
bytes_at bytes offset count = take (min count max_transfer) (drop offset bytes)

-- the results of READ
abbrev pub read_data : Tree → List ℕ → ℕ → ℕ → ReadOk
read_data t file offset count =
    let bytes = bytes_of (the_node t (fileid_in file)) in
    let piece = bytes_at bytes offset count in
    record { file = post_attributes t file; eof = nat_le (length bytes) (offset + length piece); «data» = piece }
