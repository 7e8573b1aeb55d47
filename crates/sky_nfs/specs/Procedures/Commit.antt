-- COMMIT, RFC 1813 section 3.3.21: makes what was written stable.
use Rattle.std.specs.Prelude.{ℕ, not, List, [], ◌∷◌, ◌++◌}
use Rattle.sky_nfs.specs.declared.answer.CommitOk.{CommitOk}
use Rattle.sky_nfs.specs.declared.status.NfsStatus.TheVariants.{Inval}
use Rattle.sky_nfs.specs.Tree.{Tree, the_node, is_file}
use Rattle.sky_nfs.specs.Handles.{fileid_in}
use Rattle.sky_nfs.specs.Rules.{Rules, handle_rules}
use Rattle.sky_nfs.specs.Results.{wcc}

-- the refusals of COMMIT
abbrev pub commit_rules : Tree → List ℕ → Rules
commit_rules t file =
    handle_rules t file ++
    (not (is_file (the_node t (fileid_in file))), Inval) ∷ []

-- the results of COMMIT. The tree shows nothing of what is stable
abbrev pub committed : Tree → ℕ → List ℕ → CommitOk
committed t epoch file = record { file = wcc t t file; verifier = epoch }
