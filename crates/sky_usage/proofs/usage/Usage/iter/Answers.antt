use Rattle.std.proofs.Common.{sym, ◌∙◌, ap}
use Rattle.std.specs.FinMap.{entries}
use Rattle.sky_usage.specs.LiveBytes.{LiveBytes}
use Rattle.sky_usage.proofs.KeptLaws.{entries_in}
use Rattle.sky_usage.proofs.usage.Usage.iter.Goals as goal

pub returns-clause-entries : goal.returns-clause-entries
returns-clause-entries c =
    c.of.ensures ∙ c.iter.ensures.rest ∙ sym (entries_in c.self.inside.counts.entries c.iter.ensures.ordered) ∙ ap (λ (u : LiveBytes). entries u) c.self.view_is
