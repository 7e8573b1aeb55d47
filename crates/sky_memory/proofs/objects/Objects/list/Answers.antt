use Rattle.std.proofs.Common.{All, ◌≡◌, map, sym, ◌∙◌, subst, arith}
use Rattle.std.specs.List.Sorted.{IsStrictlySortedBy}
use Rattle.std.proofs.lemmas.Grind.{common_steps}
use Rattle.sky_base.specs.Order.{name_order}
use Rattle.sky_memory.specs.Objects.{IsInRange}
use Rattle.sky_outside.specs.CloudMap.{held_of}
use Rattle.sky_memory.proofs.ObjectLaws.{names_of, ascend, All-names, listing_is}
use Rattle.sky_memory.proofs.objects.Objects.list.Goals as goal

pub returns-clause-in_range : goal.returns-clause-in_range
returns-clause-in_range c =
    let all : c.loop-name.listed.items ≡ map held_of c.args.self.now = grind (arith, common_steps) in
    All-names IsInRange c.loop-name.listed.items (subst (All IsInRange) (sym (names_of c.loop-name.listed.items c.args.self.now c.self.inside.held.entries all c.self.view_is)) c.self.invariant)

pub returns-clause-ascending : goal.returns-clause-ascending
returns-clause-ascending c =
    let all : c.loop-name.listed.items ≡ map held_of c.args.self.now = grind (arith, common_steps) in
    subst (IsStrictlySortedBy name_order) (sym (names_of c.loop-name.listed.items c.args.self.now c.self.inside.held.entries all c.self.view_is)) (ascend _ c.len.ensures.ordered)

pub returns-clause-objects : goal.returns-clause-objects
returns-clause-objects c =
    let all : c.loop-name.listed.items ≡ map held_of c.args.self.now = grind (arith, common_steps) in
    all ∙ sym (listing_is c.self.inside.held.entries c.args.self.now c.self.view_is c.len.ensures.ordered)
