use Rattle.std.proofs.Common.{◌∙◌, sym}
use Rattle.sky_nfs.specs.declared.call.Call.{Call}
use Rattle.sky_nfs.proofs.ProcedureLemmas.{tree_after-refused}
use Rattle.sky_tree.proofs.SetLemmas.{write_done}
use Rattle.sky_tree.proofs.write.do_write.Goals as goal

pub returns-in-Err-clause-tree : goal.returns-in-Err-clause-tree
returns-in-Err-clause-tree c = sym (tree_after-refused c.args.nodes.now c.args.cred.now (Call.Write c.args.file.now c.args.offset c.args.count c.args.how c.args.data.now) c.args.now c.in-Err.status (sym c.in-Err.ensures.refused))

pub returns-clause-tree : goal.returns-clause-tree
returns-clause-tree c =
    c.in_ok-write_bytes.ensures.written ∙ write_done c.args.nodes.now c.args.cred.now c.args.file.now c.args.offset c.args.count c.args.how c.args.data.now c.args.now c.in-Ok.fileid c.in-Ok.ensures.fileid (sym c.in-Ok.ensures.refused)
