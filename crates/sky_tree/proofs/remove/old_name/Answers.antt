use Rattle.std.proofs.lemmas.Result.{err_from_is_err_and}
use Rattle.sky_tree.proofs.RuleLemmas.{refuses}
use Rattle.sky_tree.proofs.remove.old_name.Goals as goal

pub returns-in_err-refuse_if-clause-refused : goal.returns-in_err-refuse_if-clause-refused
returns-in_err-refuse_if-clause-refused c =
    let p = err_from_is_err_and c.from_residual.result c.from_residual.ensures.1 in
    rw (p.1, p.2) (refuses _ _ _ _ _ c.lacks.ensures c.in_err-refuse_if.ensures)
