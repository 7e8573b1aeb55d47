-- ACCESS, RFC 1813 section 3.3.4: which rights a caller has.
use Rattle.std.specs.Prelude.{ℕ, ◌+◌, cond, bit_and, List}
use Rattle.sky_base.specs.declared.attr.Attr.{Attr}
use Rattle.sky_base.specs.declared.cred.Cred.{Cred}
use Rattle.sky_base.specs.declared.cred.Want.TheVariants.{Read, Write, Execute}
use Rattle.sky_base.specs.Access.{may}
use Rattle.sky_nfs.specs.declared.answer.AccessOk.{AccessOk}
use Rattle.sky_nfs.specs.Tree.{Tree, the_node, is_directory, attributes_at}
use Rattle.sky_nfs.specs.Handles.{fileid_in}
use Rattle.sky_nfs.specs.Rules.{Rules, handle_rules}
use Rattle.sky_nfs.specs.Results.{post_attributes}

-- the refusals of ACCESS
abbrev pub access_rules : Tree → List ℕ → Rules
access_rules t object = handle_rules t object

-- the rights of a directory: READ 1, LOOKUP 2, MODIFY 4, EXTEND 8 and DELETE 16
abbrev pub directory_rights : Attr → Cred → ℕ
directory_rights attr cred = cond (may attr cred Read) 1 0 + cond (may attr cred Execute) 2 0 + cond (may attr cred Write) 28 0

-- the rights of another object: READ 1, MODIFY 4, EXTEND 8 and EXECUTE 32
abbrev pub other_rights : Attr → Cred → ℕ
other_rights attr cred = cond (may attr cred Read) 1 0 + cond (may attr cred Write) 12 0 + cond (may attr cred Execute) 32 0

-- those of the rights asked for that the caller has
abbrev pub granted : Tree → Cred → List ℕ → ℕ → AccessOk
granted t cred object rights =
    let fileid = fileid_in object in
    let attr = attributes_at t fileid in
    record {
      object = post_attributes t object;
      rights = bit_and rights (cond (is_directory (the_node t fileid)) (directory_rights attr cred) (other_rights attr cred));
    }
