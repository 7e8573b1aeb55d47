-- What is known of a journal from its fields.
use Rattle.std.proofs.Common.{◌≡◌, ◌-◌, ◌+◌, ◌==◌, if◌then◌else◌, ℕ, length, arith, ⊎_elim, ap, subst, refl, ◌∙◌, Option, Some, None, IsSome}
use Rattle.std.proofs.lemmas.Bool.{eq-eqb}
use Rattle.std.proofs.lemmas.Bool.Decides.{eqb_tells}
use Rattle.sky_base.specs.Limits.{max_number}
use Rattle.sky_journal.specs.Journal.{JournalView, IsJournal, bytes_of, room_of, room_in}
use Rattle.sky_journal.specs.contracts.journal.Journal.{the_view, the_invariant}
use Rattle.sky_journal.specs.declared.journal.Journal.TheInside.{Inside}
use Rattle.sky_journal.specs.declared.open_area.OpenArea.{OpenArea}
use Rattle.sky_journal.proofs.Entries.{pending-length}

-- how many entries are pending, and how many bytes the batch has for them
pub pending_known : (j : Inside) (v : JournalView) → the_invariant j → the_view j ≡ v → (length v.pending ≡ j.count) × (16 + bytes_of v.pending ≡ j.batch.len)
pending_known j v inv is =
    let p = pending-length j.count j.batch.items inv.3 inv.1 in
    subst (λ (v : JournalView). (length v.pending ≡ j.count) × (16 + bytes_of v.pending ≡ j.batch.len)) is
    (p.0, omega (arith, p.1, inv.1, j.batch.ok.0))

-- what is true of every journal
pub journal_known : (j : Inside) (v : JournalView) → the_invariant j → the_view j ≡ v → IsJournal v
journal_known j v inv is = subst IsJournal is inv.0

-- the newer area, as it is seen
pub newer_known : (j : Inside) (v : JournalView) (a : Option OpenArea) → the_view j ≡ v → j.newer ≡ a → v.newer ≡ a
newer_known j v a is e = subst (λ (v : JournalView). v.newer ≡ a) is e

-- the room, where an area is open and so many entries are pending
pub room_is : (v : JournalView) (a : OpenArea) (n : ℕ) → v.newer ≡ Some a → length v.pending ≡ n → room_of v ≡ (if a.last + n + 1 == max_number then 0 else v.size - a.end)
room_is v a n newer count = ap (λ (o : Option OpenArea). room_in v.size o (length v.pending)) newer ∙ ap (λ (k : ℕ). room_in v.size (Some a) k) count

pub room_none : (v : JournalView) (a : OpenArea) (n : ℕ) → v.newer ≡ Some a → length v.pending ≡ n → a.last + n + 1 ≡ max_number → room_of v ≡ 0
room_none v a n newer count e = room_is v a n newer count ∙ rw (eq-eqb (a.last + n + 1) max_number e) refl

pub room_some : (v : JournalView) (a : OpenArea) (n : ℕ) → v.newer ≡ Some a → length v.pending ≡ n → (a.last + n + 1 ≡ max_number → ⊥) → room_of v ≡ v.size - a.end
room_some v a n newer count e = room_is v a n newer count ∙ ⊎_elim (λ t. absurd (e t.1)) (λ f. rw f.0 refl) (eqb_tells (a.last + n + 1) max_number)

some_is : (o : Option OpenArea) → IsSome o → (a : OpenArea) × (o ≡ Some a)
some_is None some = cc some
some_is (Some a) some = (a, refl)

-- an open newer area, where there is one
pub some_newer : (j : Inside) (v : JournalView) → the_view j ≡ v → IsSome v.newer → (a : OpenArea) × (j.newer ≡ Some a) × (v.newer ≡ Some a)
some_newer j v is some =
    let found : (a : OpenArea) × (v.newer ≡ Some a) = some_is v.newer some in
    (found.0, subst (λ (v : JournalView). v.newer ≡ Some found.0 → j.newer ≡ Some found.0) is (λ e. e) found.1, found.1)
