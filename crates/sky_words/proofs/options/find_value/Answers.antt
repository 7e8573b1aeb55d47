use Rattle.std.proofs.Common.{◌∙◌}
use Rattle.sky_words.proofs.Lines.{value_of-short}
use Rattle.sky_words.proofs.options.find_value.Goals as goal

pub returns : goal.returns
returns c = value_of-short _ _ c.in_default.len_below ∙ c.loop-rest.invariant
