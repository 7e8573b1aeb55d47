use Rattle.std.proofs.Common.{◌≡◌, ◌∙◌, ap, sym, subst, true, Bool, List, ℕ}
use Rattle.sky_calls.specs.Stable.{is_stable_call}
use Rattle.sky_entry.specs.Entry.{entry_bytes}
use Rattle.sky_nfs.specs.Procedure.{tree_after}
use Rattle.sky_journal.specs.Journal.{JournalView, IsJournal, IsFramed, SameButSpare}
use Rattle.sky_calls.specs.Durable.{DurableView, Lasts, LeavesOldOrAll, entries_kept}
use Rattle.sky_journal.specs.Lasting.{HoldsMore}
use Rattle.sky_calls.proofs.Carried.{ok_at, procedure_tree}
use Rattle.sky_calls.proofs.Framed.{entry_framed}
use Rattle.sky_calls.proofs.Moments.{holds_spare, lasts_spare, waiting_moments, StandsOn-spare, moments_spare}
use Rattle.sky_calls.proofs.durable.DurableTree.carry_out.Goals as goal

pub returns-then-is_err-clause-any_moment : goal.returns-then-is_err-clause-any_moment
returns-then-is_err-clause-any_moment g c =
    waiting_moments g.D.Storage c.args.disk.now c.args.self.now.journal (entry_bytes c.args.change.now)
    (subst IsJournal (ap (λ (v : DurableView). v.journal) c.self.view_is) c.facts.ensures) c.requires.stands

pub returns-then-is_err-2-clause-any_moment : goal.returns-then-is_err-2-clause-any_moment
returns-then-is_err-2-clause-any_moment g c =
    waiting_moments g.D.Storage c.args.disk.now c.args.self.now.journal (entry_bytes c.args.change.now)
    (subst IsJournal (ap (λ (v : DurableView). v.journal) c.self.view_is) c.facts.ensures) c.requires.stands

pub returns-in_default-clause-any_moment : goal.returns-in_default-clause-any_moment
returns-in_default-clause-any_moment g c =
    waiting_moments g.D.Storage c.args.disk.now c.args.self.now.journal (entry_bytes c.args.change.now)
    (subst IsJournal (ap (λ (v : DurableView). v.journal) c.self.view_is) c.facts.ensures) c.requires.stands

pub keep-kept-requires-clause-framed : goal.keep-kept-requires-clause-framed
keep-kept-requires-clause-framed g c =
    let is : c.as_slice.result.now ≡ entry_bytes c.args.change.now =
    c.as_slice.ensures.value ∙ ok_at c.encode.result (c.encode.new.entry.items ≡ entry_bytes c.args.change.now) c.encode.ensures.written c.if-is_err-2.ensures.value in
    subst IsFramed (sym is) (entry_framed c.args.change.now c.requires.small)

pub keep-kept-requires-clause-stands : goal.keep-kept-requires-clause-stands
keep-kept-requires-clause-stands g c =
    StandsOn-spare g.D.Storage c.args.disk.now c.args.self.now.journal c.reserve.new.self
    (subst (λ (v : DurableView). SameButSpare v.journal c.reserve.new.self) c.self.view_is c.reserve.ensures.same) c.requires.stands

pub returns-then-is_err-3-clause-any_moment : goal.returns-then-is_err-3-clause-any_moment
returns-then-is_err-3-clause-any_moment g c =
    let is : c.as_slice.result.now ≡ entry_bytes c.args.change.now =
    c.as_slice.ensures.value ∙ ok_at c.encode.result (c.encode.new.entry.items ≡ entry_bytes c.args.change.now) c.encode.ensures.written c.if-is_err-2.ensures.value in
    moments_spare g.D.Storage c.args.disk.now c.keep-kept.new.disk c.args.self.now.journal c.reserve.new.self (entry_bytes c.args.change.now)
    (subst (λ (v : DurableView). SameButSpare v.journal c.reserve.new.self) c.self.view_is c.reserve.ensures.same)
    (subst (λ (e : List ℕ). LeavesOldOrAll g.D.Storage c.args.disk.now c.keep-kept.new.disk c.reserve.new.self e) is c.keep-kept.ensures.any_moment)

pub returns-clause-tree : goal.returns-clause-tree
returns-clause-tree g c =
    c.in-Ok.ensures.tree
    ∙ procedure_tree c.self.inside.tree c.args.epoch c.args.change.now.cred c.args.change.now.call c.args.change.now.moment
    ∙ ap (λ (v : DurableView). tree_after v.tree c.args.change.now.cred c.args.change.now.call c.args.change.now.moment) c.self.view_is

pub returns-clause-any_moment : goal.returns-clause-any_moment
returns-clause-any_moment g c =
    let is : c.as_slice.result.now ≡ entry_bytes c.args.change.now =
    c.as_slice.ensures.value ∙ ok_at c.encode.result (c.encode.new.entry.items ≡ entry_bytes c.args.change.now) c.encode.ensures.written c.if-is_err-2.ensures.value in
    moments_spare g.D.Storage c.args.disk.now c.keep-kept.new.disk c.args.self.now.journal c.reserve.new.self (entry_bytes c.args.change.now)
    (subst (λ (v : DurableView). SameButSpare v.journal c.reserve.new.self) c.self.view_is c.reserve.ensures.same)
    (subst (λ (e : List ℕ). LeavesOldOrAll g.D.Storage c.args.disk.now c.keep-kept.new.disk c.reserve.new.self e) is c.keep-kept.ensures.any_moment)

-- the journal that stays stands on the disk that stays
pub returns-then-is_err-clause-stands : goal.returns-then-is_err-clause-stands
returns-then-is_err-clause-stands g c is =
    StandsOn-spare g.D.Storage c.args.disk.now c.args.self.now.journal c.reserve.new.self
    (subst (λ (v : DurableView). SameButSpare v.journal c.reserve.new.self) c.self.view_is c.reserve.ensures.same) c.requires.stands

pub returns-then-is_err-2-clause-stands : goal.returns-then-is_err-2-clause-stands
returns-then-is_err-2-clause-stands g c is =
    StandsOn-spare g.D.Storage c.args.disk.now c.args.self.now.journal c.reserve.new.self
    (subst (λ (v : DurableView). SameButSpare v.journal c.reserve.new.self) c.self.view_is c.reserve.ensures.same) c.requires.stands

pub returns-in_default-clause-stands : goal.returns-in_default-clause-stands
returns-in_default-clause-stands g c is =
    StandsOn-spare g.D.Storage c.args.disk.now c.args.self.now.journal c.reserve.new.self
    (subst (λ (v : DurableView). SameButSpare v.journal c.reserve.new.self) c.self.view_is c.reserve.ensures.same) c.requires.stands

pub returns-clause-holds : goal.returns-clause-holds
returns-clause-holds g c =
    let is : c.as_slice.result.now ≡ entry_bytes c.args.change.now =
    c.as_slice.ensures.value ∙ ok_at c.encode.result (c.encode.new.entry.items ≡ entry_bytes c.args.change.now) c.encode.ensures.written c.if-is_err-2.ensures.value in
    let holds = ok_at c.keep-kept.result (HoldsMore g.D.Storage c.args.disk.now c.keep-kept.new.disk c.reserve.new.self c.keep-kept.new.journal (entries_kept c.is_stable.result c.reserve.new.self c.as_slice.result.now)) c.keep-kept.ensures.holds c.if-is_err-3.ensures.value in
    holds_spare c.args.self.now.journal c.reserve.new.self c.keep-kept.new.journal (entries_kept (is_stable_call c.args.change.now.call) c.args.self.now.journal (entry_bytes c.args.change.now))
    (g.D.Storage.image c.args.disk.now) (g.D.Storage.image c.keep-kept.new.disk)
    (subst (λ (v : DurableView). SameButSpare v.journal c.reserve.new.self) c.self.view_is c.reserve.ensures.same)
    (subst (λ (j : JournalView). HoldsMore g.D.Storage c.args.disk.now c.keep-kept.new.disk c.reserve.new.self c.keep-kept.new.journal (entries_kept (is_stable_call c.args.change.now.call) j (entry_bytes c.args.change.now)))
    (subst (λ (v : DurableView). c.reserve.new.self ≡ record v.journal { spare = c.reserve.new.self.spare }) c.self.view_is c.reserve.ensures.same)
    (subst (λ (b : Bool). HoldsMore g.D.Storage c.args.disk.now c.keep-kept.new.disk c.reserve.new.self c.keep-kept.new.journal (entries_kept b c.reserve.new.self (entry_bytes c.args.change.now))) c.is_stable.ensures
    (subst (λ (e : List ℕ). HoldsMore g.D.Storage c.args.disk.now c.keep-kept.new.disk c.reserve.new.self c.keep-kept.new.journal (entries_kept c.is_stable.result c.reserve.new.self e)) is holds)))

pub returns-clause-durable : goal.returns-clause-durable
returns-clause-durable g c stable =
    let is : c.as_slice.result.now ≡ entry_bytes c.args.change.now =
    c.as_slice.ensures.value ∙ ok_at c.encode.result (c.encode.new.entry.items ≡ entry_bytes c.args.change.now) c.encode.ensures.written c.if-is_err-2.ensures.value in
    let lasts = ok_at c.keep-kept.result (c.is_stable.result ≡ true → Lasts g.D.Storage c.args.disk.now c.keep-kept.new.disk c.reserve.new.self c.as_slice.result.now) c.keep-kept.ensures.durable c.if-is_err-3.ensures.value in
    lasts_spare g.D.Storage c.args.disk.now c.keep-kept.new.disk c.args.self.now.journal c.reserve.new.self (entry_bytes c.args.change.now)
    (subst (λ (v : DurableView). SameButSpare v.journal c.reserve.new.self) c.self.view_is c.reserve.ensures.same)
    (subst (λ (e : List ℕ). Lasts g.D.Storage c.args.disk.now c.keep-kept.new.disk c.reserve.new.self e) is (lasts (c.is_stable.ensures ∙ stable)))
