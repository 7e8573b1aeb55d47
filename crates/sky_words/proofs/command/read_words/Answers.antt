use Rattle.std.proofs.Common.{refl}
use Rattle.sky_words.proofs.Lines.{said, not_refused}
use Rattle.sky_words.proofs.command.read_words.Goals as goal

pub returns-in-Some-clause-refused : goal.returns-in-Some-clause-refused
returns-in-Some-clause-refused c =
    not_refused _ c.in-Some.command ((said _ _ c.in-len1-up.len_at_least c.name-item.is c.in-Some.command).1
    (rw (← c.as_str.ensures.value) ((c.in-Some.ensures c.in-Some.command).0 refl)))
