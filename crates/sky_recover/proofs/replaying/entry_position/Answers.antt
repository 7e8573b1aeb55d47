use Rattle.std.proofs.Common.{ℕ, arith, subst, sym}
use Rattle.sky_recover.specs.Replaying.{IsFirstOf}
use Rattle.sky_recover.proofs.Lying.{is_here, next_lies, own_lies, past_lies}
use Rattle.sky_recover.proofs.replaying.entry_position.Goals as goal

pub returns-then-is_past : goal.returns-then-is_past
returns-then-is_past c = λ image e rest places left.
    let past = c.is_past.ensures.past c.if-is_past.true in
    subst (λ (k : ℕ). IsFirstOf places k) (sym c.body_behind.ensures) (past_lies c.args.journal.now image c.args.place e rest places c.facts.ensures left past.0 past.1)

pub returns-then-place-gt0 : goal.returns-then-place-gt0
returns-then-place-gt0 c = λ image e rest places left.
    subst (λ (k : ℕ). IsFirstOf places k) (sym c.position.ensures)
    (own_lies c.args.journal.now image c.args.place e places c.facts.ensures c.if-place-gt0.true
    (is_here c.args.journal.now image c.args.place e rest places c.facts.ensures (c.is_past.ensures.older c.if-is_past.false) (c.is_past.ensures.some c.if-is_past.false) left))

pub returns : goal.returns
returns c = λ image e rest places left.
    subst (λ (k : ℕ). IsFirstOf places k) (sym c.body_behind-2.ensures)
    (next_lies c.args.journal.now image c.args.place e places c.facts.ensures (omega (arith, c.if-place-gt0.false))
    (is_here c.args.journal.now image c.args.place e rest places c.facts.ensures (c.is_past.ensures.older c.if-is_past.false) (c.is_past.ensures.some c.if-is_past.false) left))
