use Rattle.std.proofs.Common.{◌∙◌}
use Rattle.sky_journal.proofs.Ahead.{newer_ahead, newer_done, newer_none}
use Rattle.sky_journal.proofs.place.newer_ahead.Goals as goal

pub returns-then-place-area-clause-ahead : goal.returns-then-place-area-clause-ahead
returns-then-place-area-clause-ahead c j image list places is left = newer_ahead j image c.in-Some.area c.args.place list places c.requires (is ∙ c.in-Some.is) left

pub returns-else-place-area-clause-ahead : goal.returns-else-place-area-clause-ahead
returns-else-place-area-clause-ahead c j image list places is left = newer_done j image c.in-Some.area c.args.place list places c.requires (is ∙ c.in-Some.is) c.if-place-area.false left

pub returns-in-None-clause-ahead : goal.returns-in-None-clause-ahead
returns-in-None-clause-ahead c j image list places is left = newer_none j image c.args.place list places c.requires (is ∙ c.in-None.is) left
