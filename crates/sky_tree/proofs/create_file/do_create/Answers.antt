use Rattle.std.proofs.Common.{◌≡◌, ◌∙◌, ℕ, List, Option, Some, None, sym, ap}
use Rattle.std.specs.Prelude.{IsSome}
use Rattle.sky_nfs.specs.Handles.{fileid_in}
use Rattle.sky_nfs.specs.Procedures.Create.{taken_tree}
use Rattle.sky_nfs.specs.Tree.{Tree, named, node_at}
use Rattle.sky_nfs.specs.declared.call.Call.{Call}
use Rattle.sky_nfs.proofs.ProcedureLemmas.{tree_after-refused}
use Rattle.sky_tree.proofs.CreateLemmas.{Creates, create_passed, create_taken, create_new, names_stand}
use Rattle.sky_tree.proofs.MakeLemmas.{Makes}
use Rattle.sky_tree.proofs.create_file.do_create.Goals as goal

pub returns-in-Err-clause-tree : goal.returns-in-Err-clause-tree
returns-in-Err-clause-tree c = sym (tree_after-refused c.args.nodes.now c.args.cred.now (Call.Create c.args.at.now c.args.how) c.args.now c.in-Err.status (sym c.in-Err.ensures.refused))

pub take_file-requires : goal.take_file-requires
take_file-requires c =
    let m : Creates c.args.nodes.now (fileid_in c.args.at.now.directory) c.args.at.now.name = create_passed c.args.nodes.now c.args.cred.now c.args.at.now c.args.how c.requires (sym c.in-Ok.ensures.refused) in
    let there : IsSome (node_at c.args.nodes.now.nodes c.in-Ok.dir) = rw c.in-Ok.ensures.dir m.there in
    names_stand c.args.nodes.now c.in-Ok.dir c.as_slice.result.now (Some c.in-Some.fileid) c.requires there c.in-Some.ensures

-- the directory may get the new node
may : (t : Tree) (dir k : ℕ) (name n : List ℕ) → Creates t k n → dir ≡ k → name ≡ n → None ≡ named t dir name → Makes t k n
may t dir k name n m dir_is name_is none = m.free (sym (none ∙ ap (λ (d : ℕ). named t d name) dir_is ∙ ap (λ (x : List ℕ). named t k x) name_is))

pub new_name-requires : goal.new_name-requires
new_name-requires c =
    (may c.args.nodes.now c.in-Ok.dir (fileid_in c.args.at.now.directory) c.as_slice.result.now c.args.at.now.name (create_passed c.args.nodes.now c.args.cred.now c.args.at.now c.args.how c.requires (sym c.in-Ok.ensures.refused)) c.in-Ok.ensures.dir c.as_slice.ensures c.in-None.ensures).short

pub add_node-requires-clause-new : goal.add_node-requires-clause-new
add_node-requires-clause-new c =
    (may c.args.nodes.now c.in-Ok.dir (fileid_in c.args.at.now.directory) c.as_slice.result.now c.args.at.now.name (create_passed c.args.nodes.now c.args.cred.now c.args.at.now c.args.how c.requires (sym c.in-Ok.ensures.refused)) c.in-Ok.ensures.dir c.as_slice.ensures c.in-None.ensures).new

pub add_node-requires-clause-there : goal.add_node-requires-clause-there
add_node-requires-clause-there c =
    rw c.in-Ok.ensures.dir (create_passed c.args.nodes.now c.args.cred.now c.args.at.now c.args.how c.requires (sym c.in-Ok.ensures.refused)).there

pub add_node-requires-clause-room : goal.add_node-requires-clause-room
add_node-requires-clause-room c =
    rw (c.in-Ok.ensures.dir, c.in_ok-name-in-None.ensures)
    (may c.args.nodes.now c.in-Ok.dir (fileid_in c.args.at.now.directory) c.as_slice.result.now c.args.at.now.name (create_passed c.args.nodes.now c.args.cred.now c.args.at.now c.args.how c.requires (sym c.in-Ok.ensures.refused)) c.in-Ok.ensures.dir c.as_slice.ensures c.in-None.ensures).room

pub returns-in_ok-take_file-in-Some-clause-tree : goal.returns-in_ok-take_file-in-Some-clause-tree
returns-in_ok-take_file-in-Some-clause-tree c =
    c.in_ok-take_file-in-Some.ensures.taken
    ∙ ap (λ (size : Option ℕ). taken_tree c.args.nodes.now c.in-Some.fileid size c.args.now) c.unchecked_size.ensures
    ∙ create_taken c.args.nodes.now c.args.cred.now c.args.at.now c.args.how c.args.now c.in-Ok.dir c.as_slice.result.now c.in-Some.fileid c.in-Ok.ensures.dir c.as_slice.ensures c.in-Some.ensures (sym c.in-Ok.ensures.refused)

pub returns-in_ok-add_node-in-None-clause-tree : goal.returns-in_ok-add_node-in-None-clause-tree
returns-in_ok-add_node-in-None-clause-tree c =
    c.in_ok-add_node-in-None.ensures.added
    ∙ create_new c.args.nodes.now c.args.cred.now c.args.at.now c.args.how c.args.now c.in-Ok.dir c.in_ok-name-in-None.name c.in_ok-file-in-None.file c.in-Ok.ensures.dir c.in_ok-name-in-None.ensures c.in_ok-file-in-None.ensures (c.in-None.ensures ∙ ap (λ (n : List ℕ). named c.args.nodes.now c.in-Ok.dir n) (c.as_slice.ensures ∙ sym c.in_ok-name-in-None.ensures)) (sym c.in-Ok.ensures.refused)
