use Rattle.std.proofs.Common.{◌∙◌, sym, refl, subst}
use Rattle.sky_journal.specs.EntryPlaces.{places_of}
use Rattle.sky_journal.specs.Journal.{entries}
use Rattle.sky_journal.specs.Place.{Left}
use Rattle.sky_journal.specs.declared.place.Place.{Place}
use Rattle.sky_journal.proofs.Ahead.{first_older, first_newer, first_nowhere}
use Rattle.sky_journal.proofs.place.first_of.Goals as goal

pub returns-in-Some : goal.returns-in-Some
returns-in-Some c j image first second older newer journal stands =
    subst (λ (p : Place). Left j image p (entries j first second) (places_of j.size image)) (sym c.start_of.ensures) (first_older j image c.in-Some.area first second (older ∙ c.in-Some.is) journal stands)

pub returns-in-Some-newer : goal.returns-in-Some-newer
returns-in-Some-newer c j image first second older newer journal stands =
    subst (λ (p : Place). Left j image p (entries j first second) (places_of j.size image)) (sym c.start_of-in-Some-newer.ensures)
    (first_newer j image c.in-Some-newer.area first second (older ∙ c.in-None.is) (newer ∙ c.in-Some-newer.is) journal stands)

pub returns-in-None-newer : goal.returns-in-None-newer
returns-in-None-newer c j image first second older newer journal stands =
    first_nowhere j image _ first second refl (older ∙ c.in-None.is) (newer ∙ c.in-None-newer.is) journal stands
