use Rattle.std.proofs.Common.{◌∙◌}
use Rattle.sky_words.proofs.Lines.{are_options-short, taken}
use Rattle.sky_words.proofs.options.are_known.Goals as goal

pub returns-then-not-is_taken : goal.returns-then-not-is_taken
returns-then-not-is_taken c =
    taken _ _ _ _ _ _ _ c.in-len2-up.len_at_least c.name-item.is c.value-item.is c.as_str.ensures.value c.as_str-in-len2-up.ensures.value c.is_taken.ensures
    _ c.if-not-is_taken.true _ c.loop-rest.invariant

pub loop-rest-preserved : goal.loop-rest-preserved
loop-rest-preserved c =
    taken _ _ _ _ _ _ _ c.in-len2-up.len_at_least c.name-item.is c.value-item.is c.as_str.ensures.value c.as_str-in-len2-up.ensures.value c.is_taken.ensures
    _ c.if-not-is_taken.false _ c.loop-rest.invariant

pub returns : goal.returns
returns c = c.is_empty.ensures ∙ are_options-short _ _ c.in_default.len_below ∙ c.loop-rest.invariant
