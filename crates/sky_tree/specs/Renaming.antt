-- The refusals of RENAME in four parts.
use Rattle.std.specs.Prelude.{ℕ, cond, ◌||◌, List, [], ◌∷◌, ◌++◌, is_none, unwrap_or}
use Rattle.sky_base.specs.declared.cred.Cred.{Cred}
use Rattle.sky_base.specs.declared.cred.Want.TheVariants.{Write, Execute}
use Rattle.sky_nfs.specs.declared.status.NfsStatus.TheVariants.{NotDir, Inval, Acces, NoEnt}
use Rattle.sky_nfs.specs.Handles.{fileid_in}
use Rattle.sky_nfs.specs.Procedures.Rename.{is_same, move_rules}
use Rattle.sky_nfs.specs.Rules.{Rules, handle_rules, name_rules, is_no_directory, is_dots, lacks}
use Rattle.sky_nfs.specs.Tree.{Tree, named}

-- those on the two directories
abbrev pub rename_place_rules : Tree → List ℕ → List ℕ → Rules
rename_place_rules t from to =
    handle_rules t from ++
    handle_rules t to ++
    (is_no_directory t (fileid_in from), NotDir) ∷
    (is_no_directory t (fileid_in to), NotDir) ∷ []

-- those on the two names
abbrev pub rename_name_rules : List ℕ → List ℕ → Rules
rename_name_rules from_name to_name =
    name_rules from_name ++
    name_rules to_name ++
    (is_dots from_name || is_dots to_name, Inval) ∷ []

-- those on what the caller may do, and on whether the old name stands for a node
abbrev pub rename_source_rules : Tree → Cred → ℕ → List ℕ → ℕ → Rules
rename_source_rules t cred from name to =
    (lacks t cred from Execute, Acces) ∷
    (lacks t cred from Write, Acces) ∷
    (lacks t cred to Execute, Acces) ∷
    (lacks t cred to Write, Acces) ∷
    (is_none (named t from name), NoEnt) ∷ []

-- those on the move: none where both names stand for one node
abbrev pub rename_target_rules : Tree → ℕ → List ℕ → ℕ → List ℕ → Rules
rename_target_rules t from from_name to to_name =
    cond (is_same (named t from from_name) (named t to to_name)) [] (move_rules t from from_name to to_name (unwrap_or (named t from from_name) 0))
