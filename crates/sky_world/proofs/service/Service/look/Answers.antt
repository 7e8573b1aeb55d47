use Rattle.std.proofs.Common.{refl, sym, ◌∙◌}
use Rattle.sky_calls.proofs.Carried.{ok_at}
use Rattle.sky_journal.specs.Lasting.{HoldsMore}
use Rattle.sky_journal.specs.Journal.{SameButSpare, StandsOn, after_commit}
use Rattle.sky_world.specs.World.{ServiceView}
use Rattle.sky_world.proofs.CarryLaws.{becomes_committed, becomes_down, becomes_read}
use Rattle.sky_world.proofs.service.Service.look.Goals as goal

pub returns-then-not-is_committed-clause-becomes : goal.returns-then-not-is_committed-clause-becomes
returns-then-not-is_committed-clause-becomes g c =
    let i = c.self.inside in
    let old : ServiceView = record { epoch = i.epoch; tree = i.files.tree; journal = i.files.journal; moment = i.moment } in
    rw (← c.self.view_is)
    (becomes_read g.D.Storage old old c.args.disk.now c.args.disk.now c.args.change.now c.requires.reads (rw (← c.self.view_is) at c.requires.serving) c.facts.ensures.journal c.facts.ensures.journal c.facts.ensures.tree refl refl refl
    c.in-Ok.answer c.in-Ok.ensures.answer (sym c.is_committed.ensures ∙ c.if-not-is_committed.true) refl refl)

pub returns-then-is_err-clause-becomes : goal.returns-then-is_err-clause-becomes
returns-then-is_err-clause-becomes g c =
    let i = c.self.inside in
    let old : ServiceView = record { epoch = i.epoch; tree = i.files.tree; journal = i.files.journal; moment = i.moment } in
    rw (← c.self.view_is)
    (becomes_down g.D.Storage old old c.args.disk.now c.commit.new.disk c.args.change.now c.requires.reads (rw (← c.self.view_is) at c.requires.serving) c.facts.ensures.journal c.facts.ensures.journal c.facts.ensures.tree refl refl refl
    c.in-Ok.answer c.in-Ok.ensures.answer (sym c.is_committed.ensures ∙ c.if-not-is_committed.false) c.commit.ensures.any_moment)

pub returns-clause-becomes : goal.returns-clause-becomes
returns-clause-becomes g c =
    let i = c.self.inside in
    let e = c.commit.ensures in
    let after = c.commit.new.self in
    let old : ServiceView = record { epoch = i.epoch; tree = i.files.tree; journal = i.files.journal; moment = i.moment } in
    let new : ServiceView = record { epoch = i.epoch; tree = after.tree; journal = after.journal; moment = i.moment } in
    let ok = c.if-is_err.ensures.value in
    rw (← c.self.view_is)
    (becomes_committed g.D.Storage old new c.args.disk.now c.commit.new.disk c.args.change.now c.requires.reads (rw (← c.self.view_is) at c.requires.serving) c.facts.ensures.journal c.facts-2.ensures.journal c.facts-2.ensures.tree refl refl e.tree
    c.in-Ok.answer c.in-Ok.ensures.answer (sym c.is_committed.ensures ∙ c.if-not-is_committed.false)
    (ok_at c.commit.result (SameButSpare (after_commit i.files.journal) after.journal) e.journal ok)
    (ok_at c.commit.result (HoldsMore g.D.Storage c.args.disk.now c.commit.new.disk i.files.journal after.journal i.files.journal.pending) e.holds ok)
    e.any_moment (ok_at c.commit.result (StandsOn g.D.Storage after.journal c.commit.new.disk) e.stands ok) (e.down ∙ sym ok) e.beside)
