use Rattle.std.proofs.Common.{◌≡◌, ℕ, List, length, Ok, Err, sym, ◌∙◌}
use Rattle.std.proofs.lemmas.Result.{err_from_is_err_and}
use Rattle.sky_outside.proofs.ToldLaws.{WhereTold-at, WhereTold-from}
use Rattle.sky_journal.specs.declared.areas.Areas.{Areas}
use Rattle.sky_journal.specs.Text.{entries_of}
use Rattle.sky_journal.specs.Journal.{StandsFor, entries}
use Rattle.sky_journal.proofs.JournalRead.{read_ok, said_foreign, cause_handed, cause_none}
use Rattle.sky_journal.proofs.ReadingFaults.{says_handed}
use Rattle.sky_journal.proofs.read.read_journal.Goals as goal

pub returns-clause-ok : goal.returns-clause-ok
returns-clause-ok g c =
    WhereTold-from (g.D.Storage.image c.args.disk.now)
    (λ image. (older newer : List (List ℕ)) × StandsFor c.in_ok-of_areas.field-0 image older newer
    × (entries_of g.G.Grammar.is_entry c.args.volume c.args.area c.args.covers image ≡ Ok (entries c.in_ok-of_areas.field-0 older newer)))
    (λ image told.
    let said = c.in_ok-areas.ensures.says image told in
    let long : length image ≡ g.D.Storage.bytes_of c.args.disk.now =
    WhereTold-at (g.D.Storage.image c.args.disk.now) (λ read. length read ≡ g.D.Storage.bytes_of c.args.disk.now) image told (g.D.Storage.has_size c.args.disk.now) in
    read_ok c.in_ok-of_areas.field-0 c.args.volume c.args.area c.size.result c.in_ok-areas.areas image said.0 _ c.in_ok-of_areas.ensures said.1 said.2
    (long ∙ sym c.in_ok-areas.ensures.looks.size ∙ sym c.size.ensures))

pub returns-in_err-areas-clause-foreign : goal.returns-in_err-areas-clause-foreign
returns-in_err-areas-clause-foreign g c at is =
    WhereTold-from (g.D.Storage.image c.args.disk.now) (λ image. entries_of g.G.Grammar.is_entry c.args.volume c.args.area c.args.covers image ≡ Err at)
    (λ image told.
    let p = err_from_is_err_and c.from_residual.result c.from_residual.ensures.1 in
    said_foreign c.from_residual.result at (entries_of g.G.Grammar.is_entry c.args.volume c.args.area c.args.covers image) (λ _ _. Unit {0}) is
    (says_handed c.from_residual.result p.0 _ _ _ _ (λ _ _. Unit {0}) p.1 p.2 (λ place e. e) (c.in_err-areas.ensures.says image told)))

pub returns-in_err-areas-clause-cause : goal.returns-in_err-areas-clause-cause
returns-in_err-areas-clause-cause g c =
    let p = err_from_is_err_and c.from_residual.result c.from_residual.ensures.1 in
    cause_handed Areas c.from_residual.result p.0 _ _ _ p.1 p.2 c.in_err-areas.ensures.cause

pub returns-clause-cause : goal.returns-clause-cause
returns-clause-cause g c = cause_none _ _ _ c.in_ok-areas.ensures.cause
