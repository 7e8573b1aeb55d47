use Rattle.std.specs.Prelude.{IsSomeAnd}
use Rattle.std.proofs.Common.{◌≡◌, ℕ, List, [], ◌∷◌, Option, sym, ap, subst}
use Rattle.sky_outside.specs.Image.{bytes_at}
use Rattle.sky_outside.proofs.ToldLaws.{WhereTold-from}
use Rattle.sky_journal.specs.Journal.{JournalView}
use Rattle.sky_journal.specs.Place.{IsBehindEntry, Left, LeftIn}
use Rattle.sky_journal.specs.declared.place.Place.{Place}
use Rattle.sky_journal.proofs.Ahead.{gives_next}
use Rattle.sky_journal.proofs.journal.Journal.next_entry.Goals as goal

pub returns-in_default-2-clause-next : goal.returns-in_default-2-clause-next
returns-in_default-2-clause-next g c =
    WhereTold-from (g.D.Storage.image c.args.disk.now) (λ image. (list : List (ℕ × List ℕ)) (places : List ℕ) → Left c.args.self.now image c.args.place.now list places → list ≡ [])
    (λ image told list places left.
    let older = sym (ap (λ (v : JournalView). v.older) c.self.view_is) in
    let newer = sym (ap (λ (v : JournalView). v.newer) c.self.view_is) in
    let size = sym (ap (λ (v : JournalView). v.size) c.self.view_is) in
    let at = c.in-Some.ensures.ahead c.args.self.now image list places older newer left in
    let there = subst (λ (n : ℕ). LeftIn (bytes_at image c.in-Some.ahead.0.start n) c.in-Some.ahead.0 c.in-Some.ahead.1 at.first at.first_places) size at.left in
    let given = c.in_ok-next.ensures.given image c.in-Some.ahead.0 at.first at.first_places told there c.in-Some.ensures.last in
    absurd (subst (λ (o : Option Place). IsSomeAnd o (IsBehindEntry (bytes_at image c.in-Some.ahead.0.start c.self.inside.size) c.in-Some.ahead.0 c.in-Some.ahead.1 c.entry_behind.new.entry.items at.first at.first_places)) c.in_default-2.is given))

pub returns-clause-next : goal.returns-clause-next
returns-clause-next g c =
    WhereTold-from (g.D.Storage.image c.args.disk.now)
    (λ image. (list : List (ℕ × List ℕ)) (places : List ℕ) → Left c.args.self.now image c.args.place.now list places
    → (rest : List (ℕ × List ℕ)) × (at : ℕ) × (later : List ℕ) × (list ≡ ((c.in-Some-2.next.last, c.entry_behind.new.entry.items) ∷ rest)) × (places ≡ at ∷ later)
    × Left c.args.self.now image c.in-Some-2.next rest later)
    (λ image told list places left.
    let older = sym (ap (λ (v : JournalView). v.older) c.self.view_is) in
    let newer = sym (ap (λ (v : JournalView). v.newer) c.self.view_is) in
    let size = sym (ap (λ (v : JournalView). v.size) c.self.view_is) in
    let at = c.in-Some.ensures.ahead c.args.self.now image list places older newer left in
    let there = subst (λ (n : ℕ). LeftIn (bytes_at image c.in-Some.ahead.0.start n) c.in-Some.ahead.0 c.in-Some.ahead.1 at.first at.first_places) size at.left in
    let given = c.in_ok-next.ensures.given image c.in-Some.ahead.0 at.first at.first_places told there c.in-Some.ensures.last in
    let behind = subst (λ (o : Option Place). IsSomeAnd o (IsBehindEntry (bytes_at image c.in-Some.ahead.0.start c.self.inside.size) c.in-Some.ahead.0 c.in-Some.ahead.1 c.entry_behind.new.entry.items at.first at.first_places)) c.in-Some-2.is given in
    gives_next c.args.self.now image c.in-Some.ahead.0 c.in-Some.ahead.1 c.in-Some-2.next c.entry_behind.new.entry.items list places at
    (subst (λ (n : ℕ). IsBehindEntry (bytes_at image c.in-Some.ahead.0.start n) c.in-Some.ahead.0 c.in-Some.ahead.1 c.entry_behind.new.entry.items at.first at.first_places c.in-Some-2.next) (sym size) behind))
