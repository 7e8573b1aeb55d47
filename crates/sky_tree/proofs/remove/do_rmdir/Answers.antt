use Rattle.std.proofs.Common.{◌∙◌, sym}
use Rattle.sky_nfs.specs.declared.call.Call.{Call}
use Rattle.sky_nfs.proofs.ProcedureLemmas.{tree_after-refused}
use Rattle.sky_tree.proofs.RemoveLemmas.{rmdir_passed, rmdir_done}
use Rattle.sky_tree.proofs.remove.do_rmdir.Goals as goal

pub returns-in_err-dir-clause-tree : goal.returns-in_err-dir-clause-tree
returns-in_err-dir-clause-tree c = sym (tree_after-refused c.args.nodes.now c.args.cred.now (Call.Rmdir c.args.at.now) c.args.now c.in_err-dir.field-0.0 (sym c.in_err-dir.ensures.refused))

pub remove_name-requires-clause-there : goal.remove_name-requires-clause-there
remove_name-requires-clause-there c =
    let p = rmdir_passed c.args.nodes.now c.args.cred.now c.args.at.now (sym c.in_ok-dir.ensures.refused) in
    rw c.in_ok-dir.ensures.dir p.there

pub remove_name-requires-clause-apart : goal.remove_name-requires-clause-apart
remove_name-requires-clause-apart c =
    let p = rmdir_passed c.args.nodes.now c.args.cred.now c.args.at.now (sym c.in_ok-dir.ensures.refused) in
    rw (c.in_ok-dir.ensures.dir, c.as_slice.ensures) p.apart

pub returns-clause-tree : goal.returns-clause-tree
returns-clause-tree c =
    c.remove_name.ensures ∙ rmdir_done c.args.nodes.now c.args.cred.now c.args.at.now c.args.now c.in_ok-dir.dir c.as_slice.result.now c.in_ok-dir.ensures.dir c.as_slice.ensures (sym c.in_ok-dir.ensures.refused)
