-- The refusals of CREATE in two parts.
use Rattle.std.specs.Prelude.{ℕ, List, [], ◌∷◌, ◌++◌, Option, Some, None}
use Rattle.sky_base.specs.declared.cred.Cred.{Cred}
use Rattle.sky_base.specs.declared.cred.Want.TheVariants.{Execute}
use Rattle.sky_nfs.specs.declared.call.CreateHow.{CreateHow}
use Rattle.sky_nfs.specs.declared.call.DirOpArgs.{DirOpArgs}
use Rattle.sky_nfs.specs.declared.status.NfsStatus.TheVariants.{Acces, Exist}
use Rattle.sky_nfs.specs.Handles.{fileid_in}
use Rattle.sky_nfs.specs.Procedures.Create.{taken_rules, free_rules, set_by}
use Rattle.sky_nfs.specs.Rules.{Rules, directory_rules, name_rules, is_dots, lacks}
use Rattle.sky_nfs.specs.Tree.{Tree}

-- those that don't ask what the name stands for
abbrev pub place_rules : Tree → Cred → DirOpArgs → Rules
place_rules t cred at =
    directory_rules t at.directory ++
    name_rules at.name ++
    (is_dots at.name, Exist) ∷
    (lacks t cred (fileid_in at.directory) Execute, Acces) ∷ []

-- those that do: it stands for a node, or for none
abbrev pub use_rules : Tree → Cred → CreateHow → ℕ → List ℕ → Option ℕ → Rules
use_rules t cred how dir name (Some fileid) = taken_rules t cred fileid how
use_rules t cred how dir name None = free_rules t cred dir name (set_by how)
