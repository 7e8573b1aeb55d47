use Rattle.std.proofs.Common.{All, ◌≡◌, map, sym, subst, arith}
use Rattle.std.specs.List.Sorted.{IsStrictlySortedBy}
use Rattle.std.proofs.lemmas.Grind.{common_steps}
use Rattle.sky_base.specs.NameText.{IsNumbered}
use Rattle.sky_base.specs.Order.{name_order}
use Rattle.sky_real.specs.Lengths.{held_with}
use Rattle.sky_real.proofs.LengthLaws.{names_of, ascend, All-names}
use Rattle.sky_real.proofs.lengths.Lengths.to_list.Goals as goal

pub returns-clause-numbered : goal.returns-clause-numbered
returns-clause-numbered c =
    let all : c.loop-name.listed.items ≡ map held_with c.self.inside.held.entries = grind (arith, common_steps) in
    All-names IsNumbered c.loop-name.listed.items (subst (All IsNumbered) (sym (names_of c.loop-name.listed.items c.self.inside.held.entries all)) c.self.invariant)

pub returns-clause-ascending : goal.returns-clause-ascending
returns-clause-ascending c =
    let all : c.loop-name.listed.items ≡ map held_with c.self.inside.held.entries = grind (arith, common_steps) in
    subst (IsStrictlySortedBy name_order) (sym (names_of c.loop-name.listed.items c.self.inside.held.entries all)) (ascend _ c.len.ensures.ordered)
