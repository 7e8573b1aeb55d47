use Rattle.std.proofs.lemmas.Result.{err_from_is_err_and}
use Rattle.sky_tree.proofs.RuleLemmas.{refuses, passes}
use Rattle.sky_tree.proofs.rename_rules.check_source.Goals as goal

pub returns-in_err-refuse_if-clause-refused : goal.returns-in_err-refuse_if-clause-refused
returns-in_err-refuse_if-clause-refused c =
    let p = err_from_is_err_and c.from_residual.result c.from_residual.ensures.1 in
    rw (p.1, p.2) (refuses _ _ _ _ _ c.lacks.ensures c.in_err-refuse_if.ensures)

pub returns-in_err-refuse_if-2-clause-refused : goal.returns-in_err-refuse_if-2-clause-refused
returns-in_err-refuse_if-2-clause-refused c =
    let p = err_from_is_err_and c.from_residual-in_err-refuse_if-2.result c.from_residual-in_err-refuse_if-2.ensures.1 in
    rw (p.1, p.2) (passes _ _ _ _ _ c.lacks.ensures c.in_ok-refuse_if.ensures (refuses _ _ _ _ _ c.lacks-2.ensures c.in_err-refuse_if-2.ensures))

pub returns-in_err-refuse_if-3-clause-refused : goal.returns-in_err-refuse_if-3-clause-refused
returns-in_err-refuse_if-3-clause-refused c =
    let p = err_from_is_err_and c.from_residual-in_err-refuse_if-3.result c.from_residual-in_err-refuse_if-3.ensures.1 in
    rw (p.1, p.2) (passes _ _ _ _ _ c.lacks.ensures c.in_ok-refuse_if.ensures (passes _ _ _ _ _ c.lacks-2.ensures c.in_ok-refuse_if-2.ensures (refuses _ _ _ _ _ c.lacks-3.ensures c.in_err-refuse_if-3.ensures)))

pub returns-in_err-refuse_if-4-clause-refused : goal.returns-in_err-refuse_if-4-clause-refused
returns-in_err-refuse_if-4-clause-refused c =
    let p = err_from_is_err_and c.from_residual-in_err-refuse_if-4.result c.from_residual-in_err-refuse_if-4.ensures.1 in
    rw (p.1, p.2) (passes _ _ _ _ _ c.lacks.ensures c.in_ok-refuse_if.ensures (passes _ _ _ _ _ c.lacks-2.ensures c.in_ok-refuse_if-2.ensures (passes _ _ _ _ _ c.lacks-3.ensures c.in_ok-refuse_if-3.ensures (refuses _ _ _ _ _ c.lacks-4.ensures c.in_err-refuse_if-4.ensures))))
