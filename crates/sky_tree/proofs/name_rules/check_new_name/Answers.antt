use Rattle.std.proofs.Common.{ℕ, Option, ap, ◌∙◌}
use Rattle.std.specs.Prelude.{is_some}
use Rattle.std.proofs.lemmas.Result.{err_from_is_err_and}
use Rattle.sky_tree.proofs.RuleLemmas.{refuses, passes, decides}
use Rattle.sky_tree.proofs.name_rules.check_new_name.Goals as goal

pub returns-in_err-refuse_if : goal.returns-in_err-refuse_if
returns-in_err-refuse_if c =
    let p = err_from_is_err_and c.from_residual.result c.from_residual.ensures.1 in
    rw (p.1, p.2) (refuses _ _ _ _ _ c.is_dots.ensures c.in_err-refuse_if.ensures)

pub returns-in_err-refuse_if-2 : goal.returns-in_err-refuse_if-2
returns-in_err-refuse_if-2 c =
    let p = err_from_is_err_and c.from_residual-in_err-refuse_if-2.result c.from_residual-in_err-refuse_if-2.ensures.1 in
    rw (p.1, p.2) (passes _ _ _ _ _ c.is_dots.ensures c.in_ok-refuse_if.ensures (refuses _ _ _ _ _ c.lacks.ensures c.in_err-refuse_if-2.ensures))

pub returns-in_err-refuse_if-3 : goal.returns-in_err-refuse_if-3
returns-in_err-refuse_if-3 c =
    let taken = c.is_some.ensures ∙ ap (λ (o : Option ℕ). is_some o) c.named.ensures in
    let p = err_from_is_err_and c.from_residual-in_err-refuse_if-3.result c.from_residual-in_err-refuse_if-3.ensures.1 in
    rw (p.1, p.2) (passes _ _ _ _ _ c.is_dots.ensures c.in_ok-refuse_if.ensures (passes _ _ _ _ _ c.lacks.ensures c.in_ok-refuse_if-2.ensures (refuses _ _ _ _ _ taken c.in_err-refuse_if-3.ensures)))

pub returns : goal.returns
returns c =
    let taken = c.is_some.ensures ∙ ap (λ (o : Option ℕ). is_some o) c.named.ensures in
    passes _ _ _ _ _ c.is_dots.ensures c.in_ok-refuse_if.ensures (passes _ _ _ _ _ c.lacks.ensures c.in_ok-refuse_if-2.ensures (passes _ _ _ _ _ taken c.in_ok-refuse_if-3.ensures (decides _ _ _ _ _ c.lacks-2.ensures c.refuse_if-4.ensures)))
