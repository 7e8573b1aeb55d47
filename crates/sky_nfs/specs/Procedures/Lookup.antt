-- LOOKUP, RFC 1813 section 3.3.3: the object that a name stands for.
use Rattle.std.specs.Prelude.{ℕ, cond, List, [], ◌∷◌, ◌++◌, Option, Some, is_none, unwrap_or}
use Rattle.sky_base.specs.declared.cred.Cred.{Cred}
use Rattle.sky_base.specs.declared.cred.Want.TheVariants.{Execute}
use Rattle.sky_nfs.specs.declared.answer.LookupOk.{LookupOk}
use Rattle.sky_nfs.specs.declared.call.DirOpArgs.{DirOpArgs}
use Rattle.sky_nfs.specs.declared.status.NfsStatus.TheVariants.{Acces, NoEnt}
use Rattle.sky_nfs.specs.Tree.{Tree, the_node, parent_of, named}
use Rattle.sky_nfs.specs.Handles.{fileid_in, handle_bytes}
use Rattle.sky_nfs.specs.Rules.{Rules, directory_rules, name_rules, lacks, is_dot, is_dot_dot}
use Rattle.sky_nfs.specs.Results.{post_attributes}

-- the fileid that a name stands for in a directory: `.` is the directory, `..` its parent
abbrev pub looked_up : Tree → ℕ → List ℕ → Option ℕ
looked_up t dir name = cond (is_dot name) (Some dir) (cond (is_dot_dot name) (Some (parent_of (the_node t dir))) (named t dir name))

-- the refusals of LOOKUP
abbrev pub lookup_rules : Tree → Cred → DirOpArgs → Rules
lookup_rules t cred at =
    let dir = fileid_in at.directory in
    directory_rules t at.directory ++
    name_rules at.name ++
    (lacks t cred dir Execute, Acces) ∷
    (is_none (looked_up t dir at.name), NoEnt) ∷ []

-- the results of LOOKUP
abbrev pub found : Tree → DirOpArgs → LookupOk
found t at =
    let fileid = unwrap_or (looked_up t (fileid_in at.directory) at.name) 0 in
    record {
      handle = record { volume = t.volume; fileid = fileid };
      object = post_attributes t (handle_bytes t.volume fileid);
      directory = post_attributes t at.directory;
    }
