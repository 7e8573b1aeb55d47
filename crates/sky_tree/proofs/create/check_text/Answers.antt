use Rattle.std.proofs.Common.{refl}
use Rattle.std.proofs.lemmas.Result.{err_from_is_err_and}
use Rattle.sky_tree.proofs.RuleLemmas.{refuses, passes, decides}
use Rattle.sky_tree.proofs.create.check_text.Goals as goal

pub returns-in_err-refuse_if : goal.returns-in_err-refuse_if
returns-in_err-refuse_if c =
    let p = err_from_is_err_and c.from_residual.result c.from_residual.ensures.1 in
    rw (p.1, p.2) (refuses _ _ _ _ _ refl c.in_err-refuse_if.ensures)

pub returns : goal.returns
returns c = passes _ _ _ _ _ refl c.in_ok-refuse_if.ensures (decides _ _ _ _ _ c.has_nul.ensures c.refuse_if-2.ensures)
