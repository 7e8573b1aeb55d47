use Rattle.std.proofs.Common.{sym, ◌∙◌, ap}
use Rattle.std.specs.FinMap.{len}
use Rattle.sky_usage.specs.LiveBytes.{LiveBytes}
use Rattle.sky_usage.proofs.KeptLaws.{len_in}
use Rattle.sky_usage.proofs.usage.Usage.len.Goals as goal

pub returns : goal.returns
returns c = c.len.ensures.len ∙ sym (len_in c.self.inside.counts.entries c.len.ensures.ordered) ∙ ap (λ (u : LiveBytes). len u) c.self.view_is
