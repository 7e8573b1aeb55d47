-- what is left of the way up tells the same as all of it
use Rattle.std.proofs.Common.{◌≡◌, ◌-◌, length}
use Rattle.sky_nfs.specs.Tree.{is_at_or_below}
use Rattle.sky_tree.proofs.WayLemmas.{leads_to}
use Rattle.sky_tree.proofs.rename_rules.is_at_or_below.Given as goal

abbrev pub invariant-loop-step : goal.invariant-loop-step
invariant-loop-step l = leads_to l.nodes (length l.nodes.nodes - l._step) l.dir l.above ≡ is_at_or_below l.nodes l.start l.above
