use Rattle.std.proofs.Common.{◌∙◌, sym, ap, length, List, ℕ, ◌+◌, ◌-◌, take, drop}
use Rattle.sky_journal.proofs.Held.{taken}
use Rattle.sky_journal.proofs.pieces.Pieces.take.Goals as goal

pub returns-in-Some : goal.returns-in-Some
returns-in-Some c image held =
    let start : ℕ = c.args.from - c.in-Some.at in
    let n : ℕ = length c.args.to.now in
    c.copy_from_slice.ensures.after
    ∙ ap (λ (l : List ℕ). take (start + n - start) (drop start l)) c.deref.ensures.value
    ∙ taken c.args.self.now.at c.in-Some.at _ c.args.from n c.args.self.now.buf.items image c.in-Some.is c.requires (ap length (sym c.deref.ensures.value) ∙ c.deref.ensures.len) held
