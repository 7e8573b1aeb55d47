-- READLINK, RFC 1813 section 3.3.5: the text of a symbolic link.
use Rattle.std.specs.Prelude.{ℕ, not, List, [], ◌∷◌, ◌++◌}
use Rattle.sky_nfs.specs.declared.answer.ReadLinkOk.{ReadLinkOk}
use Rattle.sky_nfs.specs.declared.status.NfsStatus.TheVariants.{Inval}
use Rattle.sky_nfs.specs.Tree.{Tree, the_node, is_link, text_of}
use Rattle.sky_nfs.specs.Handles.{fileid_in}
use Rattle.sky_nfs.specs.Rules.{Rules, handle_rules}
use Rattle.sky_nfs.specs.Results.{post_attributes}

-- the refusals of READLINK
abbrev pub readlink_rules : Tree → List ℕ → Rules
readlink_rules t link =
    handle_rules t link ++
    (not (is_link (the_node t (fileid_in link))), Inval) ∷ []

-- the results of READLINK
abbrev pub link_text_of : Tree → List ℕ → ReadLinkOk
link_text_of t link = record { link = post_attributes t link; text = text_of (the_node t (fileid_in link)) }
