-- the last row goes first in the map
use Rattle.std.proofs.Common.{◌≡◌, ◌++◌, ◌∷◌, [], ◌^◌, ℕ, List, map, ap, sym, ◌∙◌}
use Rattle.sky_dir.specs.Items.{item_entry}
use Rattle.sky_dir.specs.Rows.{entry_of}
use Rattle.sky_dir.proofs.KeptSteps.{items_more}
use Rattle.sky_dir.proofs.indexed.items_of.Goals as goal

pub loop-cookie-preserved-in_ok-insert : goal.loop-cookie-preserved-in_ok-insert
loop-cookie-preserved-in_ok-insert c =
    let row : ℕ × List ℕ × ℕ = (c.in-Some.cookie, c.in-Some.name, c.in-Some.fileid) in
    let before : map entry_of (c.pop.new.self.items ++ row ∷ []) ++ map item_entry c.loop-cookie.items.entries ≡ map entry_of c.args.rows.items =
    sym (ap (λ (l : List (ℕ × List ℕ × ℕ)). map entry_of l ++ map item_entry c.loop-cookie.items.entries) c.in-Some.ensures.items) ∙ c.loop-cookie.invariant in
    items_more (2 ^ 64) (map entry_of c.args.rows.items) c.pop.new.self.items row c.loop-cookie.items.entries c.insert.new.self.entries c.requires before c.in_ok-insert.ensures.entries

pub loop-cookie-preserved : goal.loop-cookie-preserved
loop-cookie-preserved c =
    let row : ℕ × List ℕ × ℕ = (c.in-Some.cookie, c.in-Some.name, c.in-Some.fileid) in
    let before : map entry_of (c.pop.new.self.items ++ row ∷ []) ++ map item_entry c.loop-cookie.items.entries ≡ map entry_of c.args.rows.items =
    sym (ap (λ (l : List (ℕ × List ℕ × ℕ)). map entry_of l ++ map item_entry c.loop-cookie.items.entries) c.in-Some.ensures.items) ∙ c.loop-cookie.invariant in
    items_more (2 ^ 64) (map entry_of c.args.rows.items) c.pop.new.self.items row c.loop-cookie.items.entries c.insert.new.self.entries c.requires before c.in_ok-insert.ensures.entries
