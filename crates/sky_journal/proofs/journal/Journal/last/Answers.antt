use Rattle.std.proofs.Common.{◌+◌, ℕ, Option, Some, length, sym, ◌∙◌, ap, arith}
use Rattle.sky_journal.specs.Journal.{number_behind}
use Rattle.sky_journal.specs.declared.open_area.OpenArea.{OpenArea}
use Rattle.sky_journal.proofs.Committed.{pending_fits}
use Rattle.sky_journal.proofs.Inside.{journal_known, pending_known, newer_known}
use Rattle.sky_journal.proofs.journal.Journal.last.Goals as goal

pub returns-in-Some-clause-value : goal.returns-in-Some-clause-value
returns-in-Some-clause-value c =
    let pending = pending_known c.self.inside c.args.self.now c.self.invariant c.self.view_is in
    let newer = newer_known c.self.inside c.args.self.now (Some c.in-Some.area) c.self.view_is c.in-Some.is in
    sym (ap (λ (o : Option OpenArea). number_behind o (length c.args.self.now.pending)) newer ∙ ap (λ (n : ℕ). c.in-Some.area.last + n) pending.0)

pub returns-in-Some-clause-below : goal.returns-in-Some-clause-below
returns-in-Some-clause-below c =
    let pending = pending_known c.self.inside c.args.self.now c.self.invariant c.self.view_is in
    let newer = newer_known c.self.inside c.args.self.now (Some c.in-Some.area) c.self.view_is c.in-Some.is in
    let fits = pending_fits c.args.self.now c.in-Some.area (journal_known c.self.inside c.args.self.now c.self.invariant c.self.view_is) newer in
    omega (arith, pending.0, fits.0)
