use Rattle.std.proofs.Common.{◌∙◌}
use Rattle.sky_journal.proofs.Ahead.{older_ahead, older_done, older_none}
use Rattle.sky_journal.proofs.place.area_ahead.Goals as goal

pub returns-then-place-clause-ahead : goal.returns-then-place-clause-ahead
returns-then-place-clause-ahead c j image list places older newer left = c.newer_ahead.ensures.ahead j image list places newer left

pub returns-then-place-area-clause-ahead : goal.returns-then-place-area-clause-ahead
returns-then-place-area-clause-ahead c j image list places older newer left = older_ahead j image c.in-Some.area c.args.place list places c.if-place.false (older ∙ c.in-Some.is) left

pub returns-else-place-area-clause-ahead : goal.returns-else-place-area-clause-ahead
returns-else-place-area-clause-ahead c j image list places older newer left =
    c.newer_start.ensures.ahead j image list places newer (older_done j image c.in-Some.area c.args.place list places c.if-place.false (older ∙ c.in-Some.is) c.if-place-area.false left)

pub returns-in-None-clause-ahead : goal.returns-in-None-clause-ahead
returns-in-None-clause-ahead c j image list places older newer left =
    c.newer_start-in-None.ensures.ahead j image list places newer (older_none j image c.args.place list places c.if-place.false (older ∙ c.in-None.is) left)
