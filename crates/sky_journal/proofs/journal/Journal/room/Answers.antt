use Rattle.std.proofs.Common.{◌≡◌, ◌-◌, ℕ, Some, sym, ◌∙◌, ap}
use Rattle.sky_journal.specs.Journal.{JournalView}
use Rattle.sky_journal.proofs.Inside.{pending_known, newer_known, room_none, room_some}
use Rattle.sky_journal.proofs.journal.Journal.room.Goals as goal

pub returns-then-area-self-eq-MAX_NUMBER : goal.returns-then-area-self-eq-MAX_NUMBER
returns-then-area-self-eq-MAX_NUMBER c =
    let pending = pending_known c.self.inside c.args.self.now c.self.invariant c.self.view_is in
    let newer = newer_known c.self.inside c.args.self.now (Some c.in-Some.area) c.self.view_is c.in-Some.is in
    sym (room_none c.args.self.now c.in-Some.area c.self.inside.count newer pending.0 c.if-area-self-eq-MAX_NUMBER.true)

pub returns-else-area-self-eq-MAX_NUMBER : goal.returns-else-area-self-eq-MAX_NUMBER
returns-else-area-self-eq-MAX_NUMBER c =
    let pending = pending_known c.self.inside c.args.self.now c.self.invariant c.self.view_is in
    let newer = newer_known c.self.inside c.args.self.now (Some c.in-Some.area) c.self.view_is c.in-Some.is in
    let size : c.self.inside.size ≡ c.args.self.now.size = ap (λ (v : JournalView). v.size) c.self.view_is in
    ap (λ (n : ℕ). n - c.in-Some.area.end) size ∙ sym (room_some c.args.self.now c.in-Some.area c.self.inside.count newer pending.0 c.if-area-self-eq-MAX_NUMBER.false)
