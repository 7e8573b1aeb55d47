use Rattle.std.proofs.Common.{◌∙◌, ◌≤◌, ℕ, ap, sym, subst, refl, length}
use Rattle.sky_entry.specs.Entry.{entry_bytes}
use Rattle.sky_nfs.specs.History.{is_done}
use Rattle.sky_journal.specs.Journal.{JournalView, IsJournal, room_of, wanted_of}
use Rattle.sky_calls.specs.Durable.{DurableView}
use Rattle.sky_calls.proofs.Carried.{done_known, refused_stays, not_both}
use Rattle.sky_calls.proofs.Moments.{waiting_moments}
use Rattle.sky_calls.proofs.durable.DurableTree.change.Goals as goal

pub returns-then-not-is_ok-clause-tree : goal.returns-then-not-is_ok-clause-tree
returns-then-not-is_ok-clause-tree g c =
    let done = done_known c.self.inside.tree c.args.self.now.tree c.args.epoch c.args.change.now c.in-Ok.answer c.is_ok.result c.requires.changes
    (ap (λ (v : DurableView). v.tree) c.self.view_is) c.in-Ok.ensures.answer c.is_ok.ensures in
    sym (refused_stays c.args.self.now.tree c.args.change.now c.requires.changes (done ∙ c.if-not-is_ok.true))

pub returns-then-not-is_ok-clause-journal : goal.returns-then-not-is_ok-clause-journal
returns-then-not-is_ok-clause-journal g c is =
    let done = done_known c.self.inside.tree c.args.self.now.tree c.args.epoch c.args.change.now c.in-Ok.answer c.is_ok.result c.requires.changes
    (ap (λ (v : DurableView). v.tree) c.self.view_is) c.in-Ok.ensures.answer c.is_ok.ensures in
    not_both (is_done c.args.self.now.tree c.args.change.now) c.is_ok.result done is c.if-not-is_ok.true

pub returns-then-not-is_ok-clause-durable : goal.returns-then-not-is_ok-clause-durable
returns-then-not-is_ok-clause-durable g c is =
    let done = done_known c.self.inside.tree c.args.self.now.tree c.args.epoch c.args.change.now c.in-Ok.answer c.is_ok.result c.requires.changes
    (ap (λ (v : DurableView). v.tree) c.self.view_is) c.in-Ok.ensures.answer c.is_ok.ensures in
    not_both (is_done c.args.self.now.tree c.args.change.now) c.is_ok.result done is c.if-not-is_ok.true

pub returns-then-not-is_ok-clause-any_moment : goal.returns-then-not-is_ok-clause-any_moment
returns-then-not-is_ok-clause-any_moment g c =
    waiting_moments g.D.Storage c.args.disk.now c.args.self.now.journal (entry_bytes c.args.change.now)
    (subst IsJournal (ap (λ (v : DurableView). v.journal) c.self.view_is) c.facts.ensures) c.requires.stands

pub returns-then-not-is_ok-clause-room : goal.returns-then-not-is_ok-clause-room
returns-then-not-is_ok-clause-room g c is =
    let done = done_known c.self.inside.tree c.args.self.now.tree c.args.epoch c.args.change.now c.in-Ok.answer c.is_ok.result c.requires.changes
    (ap (λ (v : DurableView). v.tree) c.self.view_is) c.in-Ok.ensures.answer c.is_ok.ensures in
    not_both (is_done c.args.self.now.tree c.args.change.now) c.is_ok.result done is c.if-not-is_ok.true

pub returns-then-wanted-room-clause-any_moment : goal.returns-then-wanted-room-clause-any_moment
returns-then-wanted-room-clause-any_moment g c =
    waiting_moments g.D.Storage c.args.disk.now c.args.self.now.journal (entry_bytes c.args.change.now)
    (subst IsJournal (ap (λ (v : DurableView). v.journal) c.self.view_is) c.facts.ensures) c.requires.stands

pub returns-then-wanted-room-clause-jukebox : goal.returns-then-wanted-room-clause-jukebox
returns-then-wanted-room-clause-jukebox g c =
    let done = done_known c.self.inside.tree c.args.self.now.tree c.args.epoch c.args.change.now c.in-Ok.answer c.is_ok.result c.requires.changes
    (ap (λ (v : DurableView). v.tree) c.self.view_is) c.in-Ok.ensures.answer c.is_ok.ensures in
    let journal = ap (λ (v : DurableView). v.journal) c.self.view_is in (
      done ∙ c.if-not-is_ok.false,
      c.room-room.ensures ∙ ap (λ (j : JournalView). room_of j) journal,
      c.wanted-wanted.ensures ∙ ap (λ n. wanted_of c.self.inside.journal n) c.entry_length.ensures ∙ ap (λ (j : JournalView). wanted_of j (length (entry_bytes c.args.change.now))) journal,
      c.if-wanted-room.true,
    )

pub carry_out-requires-clause-done : goal.carry_out-requires-clause-done
carry_out-requires-clause-done g c =
    let done = done_known c.self.inside.tree c.args.self.now.tree c.args.epoch c.args.change.now c.in-Ok.answer c.is_ok.result c.requires.changes
    (ap (λ (v : DurableView). v.tree) c.self.view_is) c.in-Ok.ensures.answer c.is_ok.ensures in
    done ∙ c.if-not-is_ok.false

pub returns-clause-refused : goal.returns-clause-refused
returns-clause-refused g c is =
    let done = done_known c.self.inside.tree c.args.self.now.tree c.args.epoch c.args.change.now c.in-Ok.answer c.is_ok.result c.requires.changes
    (ap (λ (v : DurableView). v.tree) c.self.view_is) c.in-Ok.ensures.answer c.is_ok.ensures in
    not_both (is_done c.args.self.now.tree c.args.change.now) (is_done c.args.self.now.tree c.args.change.now) refl (done ∙ c.if-not-is_ok.false) is

pub returns-then-not-is_ok-clause-holds : goal.returns-then-not-is_ok-clause-holds
returns-then-not-is_ok-clause-holds g c is =
    let done = done_known c.self.inside.tree c.args.self.now.tree c.args.epoch c.args.change.now c.in-Ok.answer c.is_ok.result c.requires.changes
    (ap (λ (v : DurableView). v.tree) c.self.view_is) c.in-Ok.ensures.answer c.is_ok.ensures in
    not_both (is_done c.args.self.now.tree c.args.change.now) c.is_ok.result done is c.if-not-is_ok.true

pub returns-clause-memory : goal.returns-clause-memory
returns-clause-memory g c is =
    let done = done_known c.self.inside.tree c.args.self.now.tree c.args.epoch c.args.change.now c.in-Ok.answer c.is_ok.result c.requires.changes
    (ap (λ (v : DurableView). v.tree) c.self.view_is) c.in-Ok.ensures.answer c.is_ok.ensures in
    done ∙ c.if-not-is_ok.false

pub returns-clause-tried : goal.returns-clause-tried
returns-clause-tried g c is =
    let done = done_known c.self.inside.tree c.args.self.now.tree c.args.epoch c.args.change.now c.in-Ok.answer c.is_ok.result c.requires.changes
    (ap (λ (v : DurableView). v.tree) c.self.view_is) c.in-Ok.ensures.answer c.is_ok.ensures in
    let journal = ap (λ (v : DurableView). v.journal) c.self.view_is in
    let room = c.room-room.ensures ∙ ap (λ (j : JournalView). room_of j) journal in
    let wanted = c.wanted-wanted.ensures ∙ ap (λ n. wanted_of c.self.inside.journal n) c.entry_length.ensures ∙ ap (λ (j : JournalView). wanted_of j (length (entry_bytes c.args.change.now))) journal in
    (done ∙ c.if-not-is_ok.false, subst (λ (n : ℕ). n ≤ room_of c.args.self.now.journal) wanted (subst (λ (n : ℕ). c.wanted-wanted.result ≤ n) room c.if-wanted-room.false))

pub returns-then-not-is_ok-clause-formed : goal.returns-then-not-is_ok-clause-formed
returns-then-not-is_ok-clause-formed g c is =
    let done = done_known c.self.inside.tree c.args.self.now.tree c.args.epoch c.args.change.now c.in-Ok.answer c.is_ok.result c.requires.changes
    (ap (λ (v : DurableView). v.tree) c.self.view_is) c.in-Ok.ensures.answer c.is_ok.ensures in
    not_both (is_done c.args.self.now.tree c.args.change.now) c.is_ok.result done is c.if-not-is_ok.true
