use Rattle.std.proofs.Common.{◌≡◌, ◌+◌, ◌-◌, ◌≤◌, ◌++◌, ◌∷◌, [], List, ℕ, length, vec_len, vec_capacity, sym, ◌∙◌, ap, subst, arith}
use Rattle.sky_journal.specs.Journal.{JournalView, room_of, wanted_of}
use Rattle.sky_journal.proofs.Appending.{appended_view, appended_invariant, pending_few}
use Rattle.sky_journal.proofs.Entries.{batch_with}
use Rattle.sky_journal.proofs.Inside.{pending_known, journal_known, some_newer}
use Rattle.sky_journal.proofs.journal.Journal.append.Goals as goal

pub returns-then-wanted-room-clause-full : goal.returns-then-wanted-room-clause-full
returns-then-wanted-room-clause-full c room wanted is =
    let pending = pending_known c.self.inside c.args.self.now c.self.invariant c.self.view_is in
    let same : wanted_of c.args.self.now (length c.args.entry.now) ≡ c.len.result + 1 + length c.args.entry.now = omega (arith, pending.1, c.len.ensures) in
    let r : room ≡ c.room-room.result = cc is in
    let w : wanted ≡ c.len.result + 1 + length c.args.entry.now = cc is in
    (r ∙ c.room-room.ensures, w ∙ sym same, omega (arith, r, w, c.if-wanted-room.true))

pub overflow_add-self : goal.overflow_add-self
overflow_add-self c =
    let pending = pending_known c.self.inside c.args.self.now c.self.invariant c.self.view_is in
    let area = some_newer c.self.inside c.args.self.now c.self.view_is c.requires.open in
    let few = pending_few c.args.self.now area.0 (journal_known c.self.inside c.args.self.now c.self.invariant c.self.view_is) area.2 in
    omega (arith, few, pending.0)

pub invariant_of-self-2 : goal.invariant_of-self-2
invariant_of-self-2 c =
    let area = some_newer c.self.inside c.args.self.now c.self.view_is c.requires.open in
    let pending = pending_known c.self.inside c.args.self.now c.self.invariant c.self.view_is in
    let fits : wanted_of c.args.self.now (length c.args.entry.now) ≤ room_of c.args.self.now = omega (arith, pending.1, c.len.ensures, c.room-room.ensures, c.if-wanted-room.false) in
    let is : c.push_entry.new.batch.items ≡ batch_with c.self.inside.batch.items c.args.entry.now =
    c.push_entry.ensures.items ∙ ap (λ (l : List ℕ). batch_with l c.args.entry.now) c.reserve.ensures.items in
    appended_invariant c.self.inside c.push_entry.new.batch c.args.entry.now c.self.invariant c.requires.framed is area.0 area.1
    (subst (λ (v : JournalView). wanted_of v (length c.args.entry.now) ≤ room_of v) (sym c.self.view_is) fits)

pub returns-clause-appended : goal.returns-clause-appended
returns-clause-appended c =
    let is : c.push_entry.new.batch.items ≡ batch_with c.self.inside.batch.items c.args.entry.now =
    c.push_entry.ensures.items ∙ ap (λ (l : List ℕ). batch_with l c.args.entry.now) c.reserve.ensures.items in
    appended_view c.self.inside c.push_entry.new.batch c.args.entry.now c.self.invariant c.requires.framed is
    ∙ ap (λ (v : JournalView). record v { pending = v.pending ++ c.args.entry.now ∷ []; spare = vec_capacity c.push_entry.new.batch - vec_len c.push_entry.new.batch }) c.self.view_is

pub returns-clause-fits : goal.returns-clause-fits
returns-clause-fits c =
    let pending = pending_known c.self.inside c.args.self.now c.self.invariant c.self.view_is in
    omega (arith, pending.1, c.len.ensures, c.room-room.ensures, c.if-wanted-room.false)

pub returns-clause-spare : goal.returns-clause-spare
returns-clause-spare c =
    let old = c.self.inside.batch in
    let new = c.push_entry.new.batch in
    omega (arith, c.push_entry.ensures.capacity, c.push_entry.ensures.size, c.reserve.ensures.capacity, c.reserve.ensures.len, old.ok.0, c.reserve.new.self.ok.0, new.ok.0, ap (λ (v : JournalView). v.spare) c.self.view_is)
