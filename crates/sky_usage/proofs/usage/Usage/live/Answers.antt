use Rattle.std.proofs.Common.{ℕ, Option, sym, ◌∙◌, ap, subst}
use Rattle.std.specs.Prelude.{unwrap_or}
use Rattle.sky_usage.specs.LiveBytes.{HasNoZero, LiveBytes, counted}
use Rattle.sky_usage.proofs.KeptLaws.{HasNoZero-usage_in, get_in}
use Rattle.sky_usage.proofs.usage.Usage.live.Goals as goal

pub returns-clause-count : goal.returns-clause-count
returns-clause-count c =
    c.unwrap_or.ensures
    ∙ ap (λ (o : Option ℕ). unwrap_or o 0) (c.copied.ensures ∙ c.get.ensures.value ∙ sym (get_in c.self.inside.counts.entries c.args.name))
    ∙ ap (λ (u : LiveBytes). counted u c.args.name) c.self.view_is

pub returns-clause-no_zero : goal.returns-clause-no_zero
returns-clause-no_zero c = subst HasNoZero c.self.view_is (HasNoZero-usage_in c.self.inside.counts.entries c.self.invariant)
