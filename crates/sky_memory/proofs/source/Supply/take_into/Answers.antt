use Rattle.std.proofs.Common.{◌≡◌, ℕ, ◌+◌, List, ◌++◌, length, take, drop, sym, ◌∙◌, ap, arith, rules}
use Rattle.std.proofs.lemmas.List.{take_at, drop-drop, take-append-drop}
use Rattle.std.proofs.lemmas.Grind.{common_steps}
use Rattle.sky_memory.proofs.source.Supply.take_into.Goals as goal

-- what was copied to the start of the buffer, and what is left behind it
split : (left bytes buf piece : List ℕ) (taken n : ℕ) → drop taken bytes ≡ left → piece ≡ take n left → length piece ≡ n → left ≡ take n (piece ++ drop n buf) ++ drop (taken + n) bytes
split left bytes buf piece taken n is copied long =
    sym (take-append-drop n left)
    ∙ ap (λ (l : List ℕ). l ++ drop n left) (sym copied ∙ sym (take_at piece (drop n buf) n long))
    ∙ ap (λ (l : List ℕ). take n (piece ++ drop n buf) ++ l) (ap (λ (l : List ℕ). drop n l) (sym is) ∙ drop-drop n taken bytes)

pub returns-clause-bytes : goal.returns-clause-bytes
returns-clause-bytes c =
    split c.args.self.now c.self.inside.bytes.items c.args.buf.now c.copy_from_slice.new.self c.self.inside.taken c.min-count.result c.self.view_is (search (rules, common_steps)) (grind (arith, common_steps))
