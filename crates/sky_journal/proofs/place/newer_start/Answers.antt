use Rattle.std.proofs.Common.{◌∙◌, sym, subst}
use Rattle.sky_journal.specs.Place.{LeftAt}
use Rattle.sky_journal.specs.declared.place.Place.{Place}
use Rattle.sky_journal.proofs.Ahead.{past_ahead, past_done, past_none}
use Rattle.sky_journal.proofs.place.newer_start.Goals as goal

pub returns-then-area-clause-ahead : goal.returns-then-area-clause-ahead
returns-then-area-clause-ahead c j image list places is past =
    subst (λ (p : Place). LeftAt j image c.in-Some.area p list places) (sym c.start_of.ensures) (past_ahead j image c.in-Some.area list places (is ∙ c.in-Some.is) past)

pub returns-else-area-clause-ahead : goal.returns-else-area-clause-ahead
returns-else-area-clause-ahead c j image list places is past = past_done j image c.in-Some.area list places (is ∙ c.in-Some.is) c.if-area.false past

pub returns-in-None-clause-ahead : goal.returns-in-None-clause-ahead
returns-in-None-clause-ahead c j image list places is past = past_none j image list places (is ∙ c.in-None.is) past
