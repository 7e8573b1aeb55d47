use Rattle.std.proofs.Common.{◌≡◌, sym, ◌∙◌, arith}
use Rattle.std.proofs.lemmas.Grind.{common_steps}
use Rattle.sky_memory.specs.Objects.{IsInRange, pairs_of}
use Rattle.sky_memory.proofs.ObjectLaws.{All-pairs}
use Rattle.sky_memory.proofs.objects.Objects.to_pairs.Goals as goal

pub returns-clause-in_range : goal.returns-clause-in_range
returns-clause-in_range c =
    let all : pairs_of c.loop-name.pairs.items ≡ c.args.self.now = grind (arith, common_steps) in
    All-pairs IsInRange c.loop-name.pairs.items c.self.inside.held.entries (all ∙ sym c.self.view_is) c.self.invariant
