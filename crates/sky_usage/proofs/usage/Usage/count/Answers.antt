use Rattle.std.proofs.Common.{ℕ, ◌<◌, Option, Result, Ok, Err, sym, ◌∙◌, ap, arith}
use Rattle.std.specs.Prelude.{OnErr, unwrap_or}
use Rattle.std.specs.BTreeMap.{is_at}
use Rattle.std.proofs.lemmas.Map.Views.{All-map-remove_entry, All-values-insert_entry}
use Rattle.sky_base.proofs.OrderLaws.{name_cmp}
use Rattle.sky_usage.specs.LiveBytes.{LiveBytes, counted, with_count}
use Rattle.sky_usage.proofs.KeptLaws.{counts_more, counts_none, get_in}
use Rattle.sky_usage.proofs.usage.Usage.count.Goals as goal

pub invariant_of-self : goal.invariant_of-self
invariant_of-self c = rw c.remove.ensures.entries (All-map-remove_entry (is_at (name_cmp c.args.name)) (λ e. e.1) (λ n. 0 < n) _ c.self.invariant)

pub returns-then-count-eq0-clause-ok : goal.returns-then-count-eq0-clause-ok
returns-then-count-eq0-clause-ok c =
    counts_none c.self.inside.counts c.remove.new.self c.args.name c.args.count c.if-count-eq0.true c.remove.ensures.updates
    ∙ ap (λ usage. with_count usage c.args.name c.args.count) c.self.view_is

pub invariant_of-self-2 : goal.invariant_of-self-2
invariant_of-self-2 c =
    let some : 0 < c.args.count = omega arith in
    rw c.in_ok-insert.ensures.entries (All-values-insert_entry name_cmp c.args.name c.args.count (λ n. 0 < n) _ c.self.invariant some)

pub returns-clause-ok : goal.returns-clause-ok
returns-clause-ok c =
    counts_more c.self.inside.counts c.insert.new.self c.args.name c.args.count (omega arith) c.in_ok-insert.ensures.updates
    ∙ ap (λ usage. with_count usage c.args.name c.args.count) c.self.view_is

on_err : {A E P : Type 0} (r : Result A E) → P → OnErr r P
on_err (Ok x) p = tt
on_err (Err e) p = p

pub returns-in_err-insert-clause-absent : goal.returns-in_err-insert-clause-absent
returns-in_err-insert-clause-absent c =
    on_err c.from_residual.result
    (ap (λ (u : LiveBytes). counted u c.args.name) (sym c.self.view_is)
    ∙ ap (λ (o : Option ℕ). unwrap_or o 0) (get_in c.self.inside.counts.entries c.args.name ∙ c.in_err-insert.ensures.absent))
