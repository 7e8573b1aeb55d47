use Rattle.std.proofs.Common.{◌≡◌, ◌+◌, ◌≤◌, ℕ, length, Some, false, subst, ap, arith}
use Rattle.sky_journal.specs.Written.{IsBehindAreaGate, HasAreaUnused}
use Rattle.sky_outside.specs.Told.{WhereTold}
use Rattle.sky_journal.specs.Journal.{JournalView, new_area, start_beside}
use Rattle.sky_journal.specs.contracts.journal.Journal.{the_view}
use Rattle.sky_journal.proofs.Halves.{beside_is, half_within}
use Rattle.sky_journal.proofs.Inside.{journal_known}
use Rattle.sky_journal.proofs.Rotated.{Rotates, rotation_view, rotation_moments, rotation_holds, rotation_stands}
use Rattle.sky_journal.proofs.Rest.{rotation_rest}
use Rattle.sky_journal.proofs.Unused.{area_unused}
use Rattle.sky_journal.proofs.journal.Journal.rotate.Goals as goal

pub returns-in_err-write_and_open-clause-any_moment : goal.returns-in_err-write_and_open-clause-any_moment
returns-in_err-write_and_open-clause-any_moment g c =
    rotation_moments g.D.Storage c.args.disk.now c.write_and_open.new.disk c.args.self.now c.args.base c.behind_area_gate.result c.start_beside-start.result
    (record {
      is = journal_known c.self.inside c.args.self.now c.self.invariant c.self.view_is;
      free = c.requires.free;
      settled = c.requires.settled;
      number = c.requires.number;
      goes_on = c.requires.goes_on;
      header = subst (λ (n : ℕ). IsBehindAreaGate c.behind_area_gate.result n c.args.base) (ap (λ (v : JournalView). v.volume) c.self.view_is) c.behind_area_gate.ensures;
      at = c.start_beside-start.ensures;
    })
    c.write_and_open.ensures.any_moment

-- what it is called with
called : (g : _) (c : goal.After-self-5-1 g) → Rotates c.args.self.now c.args.base c.behind_area_gate.result c.start_beside-start.result
called g c = record {
  is = journal_known c.self.inside c.args.self.now c.self.invariant c.self.view_is;
  free = c.requires.free;
  settled = c.requires.settled;
  number = c.requires.number;
  goes_on = c.requires.goes_on;
  header = subst (λ (n : ℕ). IsBehindAreaGate c.behind_area_gate.result n c.args.base) (ap (λ (v : JournalView). v.volume) c.self.view_is) c.behind_area_gate.ensures;
  at = c.start_beside-start.ensures;
}

pub returns-clause-holds : goal.returns-clause-holds
returns-clause-holds g c =
    rotation_holds g.D.Storage c.args.disk.now c.write_and_open.new.disk c.args.self.now c.args.base c.behind_area_gate.result c.start_beside-start.result (called g c)
    (the_view (record c.self.inside { older = c.self.inside.newer; newer = Some (new_area c.start_beside-start.result c.args.base); down = false }))
    (rotation_view c.self.inside c.args.self.now c.start_beside-start.result c.args.base c.self.view_is c.requires.up c.start_beside-start.ensures)
    c.in_ok-write_and_open.ensures.written

pub returns-clause-stands : goal.returns-clause-stands
returns-clause-stands g c =
    rotation_stands g.D.Storage c.args.disk.now c.write_and_open.new.disk c.args.self.now c.args.base c.behind_area_gate.result c.start_beside-start.result (called g c)
    (the_view (record c.self.inside { older = c.self.inside.newer; newer = Some (new_area c.start_beside-start.result c.args.base); down = false }))
    (rotation_view c.self.inside c.args.self.now c.start_beside-start.result c.args.base c.self.view_is c.requires.up c.start_beside-start.ensures)
    c.in_ok-write_and_open.ensures.written c.in_ok-write_and_open.ensures.durable c.write_and_open.ensures.size c.requires.stands

pub returns-clause-any_moment : goal.returns-clause-any_moment
returns-clause-any_moment g c =
    rotation_moments g.D.Storage c.args.disk.now c.write_and_open.new.disk c.args.self.now c.args.base c.behind_area_gate.result c.start_beside-start.result (called g c)
    c.write_and_open.ensures.any_moment

pub returns-in_err-write_and_open-clause-rest : goal.returns-in_err-write_and_open-clause-rest
returns-in_err-write_and_open-clause-rest g c =
    rotation_rest c.args.self.now c.args.base c.start_beside-start.result (length c.behind_area_gate.result) (g.D.Storage.image c.args.disk.now) (g.D.Storage.image c.write_and_open.new.disk)
    (journal_known c.self.inside c.args.self.now c.self.invariant c.self.view_is) c.start_beside-start.ensures c.behind_area_gate.ensures.length_is c.write_and_open.ensures.torn

pub returns-clause-rest : goal.returns-clause-rest
returns-clause-rest g c =
    rotation_rest c.args.self.now c.args.base c.start_beside-start.result (length c.behind_area_gate.result) (g.D.Storage.image c.args.disk.now) (g.D.Storage.image c.write_and_open.new.disk)
    (journal_known c.self.inside c.args.self.now c.self.invariant c.self.view_is) c.start_beside-start.ensures c.behind_area_gate.ensures.length_is c.write_and_open.ensures.torn

pub returns-clause-unused : goal.returns-clause-unused
returns-clause-unused g c =
    let v = c.args.self.now in
    let is = journal_known c.self.inside v c.self.invariant c.self.view_is in
    let place = beside_is v.size v.newer (omega (arith, is.least)) is.newer in
    let start = c.start_beside-start.result in
    let bytes = c.behind_area_gate.result in
    let at : start ≡ start_beside v.size v.newer = c.start_beside-start.ensures in
    let fits : start + 1 + length bytes ≤ g.D.Storage.bytes_of c.args.disk.now =
    omega (arith, at, half_within v (start_beside v.size v.newer) is place.half, is.least, c.requires.stands.size, c.behind_area_gate.ensures.length_is) in
    subst (λ (s : ℕ). WhereTold (g.D.Storage.image c.write_and_open.new.disk) (HasAreaUnused s)) at
    (area_unused start (g.D.Storage.bytes_of c.args.disk.now) bytes (g.D.Storage.image c.args.disk.now) (g.D.Storage.image c.write_and_open.new.disk)
    (g.D.Storage.has_size c.args.disk.now) fits c.in_ok-write_and_open.ensures.written v.volume c.args.base (called g c).header)
