-- WRITE, RFC 1813 section 3.3.7: writes bytes to a file.
use Rattle.std.specs.Prelude.{ℕ, ◌+◌, Bool, true, false, not, cond, ◌==◌, nat_lt, min, List, [], ◌∷◌, ◌++◌, length, take}
use Rattle.sky_base.specs.declared.cred.Cred.{Cred}
use Rattle.sky_base.specs.declared.cred.Want.TheVariants.{Write}
use Rattle.sky_base.specs.declared.moment.Moment.{Moment}
use Rattle.sky_base.specs.Limits.{max_transfer, max_file_bytes}
use Rattle.sky_nfs.specs.declared.answer.WriteOk.{WriteOk}
use Rattle.sky_nfs.specs.declared.call.StableHow.{StableHow}
use Rattle.sky_nfs.specs.declared.call.StableHow.TheVariants.{Unstable, DataSync, FileSync}
use Rattle.sky_nfs.specs.declared.status.NfsStatus.TheVariants.{Inval, Acces, FBig}
use Rattle.sky_nfs.specs.Tree.{Tree, Node, the_node, is_file}
use Rattle.sky_nfs.specs.Handles.{fileid_in}
use Rattle.sky_nfs.specs.Rules.{Rules, handle_rules, lacks_unless_owner}
use Rattle.sky_nfs.specs.Changes.{edit, touch, written, with_bytes}
use Rattle.sky_nfs.specs.Results.{wcc}

-- how many bytes are written: those that the caller names, as far as one WRITE moves them
abbrev pub write_count : ℕ → ℕ
write_count count = min count max_transfer

-- the refusals of WRITE
abbrev pub write_rules : Tree → Cred → List ℕ → ℕ → ℕ → List ℕ → Rules
write_rules t cred file offset count piece =
    let fileid = fileid_in file in
    handle_rules t file ++
    (not (is_file (the_node t fileid)), Inval) ∷
    (not (count == length piece), Inval) ∷
    (lacks_unless_owner t cred fileid Write, Acces) ∷
    (nat_lt max_file_bytes (offset + write_count count), FBig) ∷ []

-- a file with a piece written to it
abbrev pub write_node : Moment → ℕ → List ℕ → Node → Node
write_node now offset piece node = touch now (record node { content = with_bytes (λ bytes. written bytes offset piece) node.content })

-- a write of no bytes changes nothing
abbrev pub write_tree : Tree → List ℕ → ℕ → ℕ → List ℕ → Moment → Tree
write_tree t file offset count piece now =
    let n = write_count count in
    cond (n == 0) t (edit t (fileid_in file) (λ node. write_node now offset (take n piece) node))

-- what is written is stable before the answer, unless the caller lets it wait
abbrev pub is_stable : StableHow → Bool
is_stable Unstable = false
is_stable DataSync = true
is_stable FileSync = true

-- the results of WRITE
abbrev pub written_results : Tree → Tree → ℕ → List ℕ → ℕ → StableHow → WriteOk
written_results before after epoch file count how =
    record { file = wcc before after file; count = write_count count; committed = is_stable how; verifier = epoch }
