use Rattle.std.proofs.Common.{◌∙◌, sym}
use Rattle.sky_nfs.specs.declared.call.Call.{Call}
use Rattle.sky_nfs.proofs.ProcedureLemmas.{tree_after-refused}
use Rattle.sky_tree.proofs.SetLemmas.{setattr_done}
use Rattle.sky_tree.proofs.setattr.do_setattr.Goals as goal

pub returns-in-Err-clause-tree : goal.returns-in-Err-clause-tree
returns-in-Err-clause-tree c = sym (tree_after-refused c.args.nodes.now c.args.cred.now (Call.SetAttr c.args.object.now c.args.set.now c.args.guard) c.args.now c.in-Err.status (sym c.in-Err.ensures.refused))

pub returns-clause-tree : goal.returns-clause-tree
returns-clause-tree c =
    c.in_ok-set.ensures.set ∙ setattr_done c.args.nodes.now c.args.cred.now c.args.object.now c.args.set.now c.args.guard c.args.now c.in-Ok.fileid c.in-Ok.ensures.fileid (sym c.in-Ok.ensures.refused)
