use Rattle.std.proofs.Common.{take, sym, subst, List}
use Rattle.std.proofs.lemmas.List.{take_all, take_more}
use Rattle.sky_outside.specs.declared.site.Held.{Held}
use Rattle.sky_checkpoint.specs.SoFar.{LeastSoFar}
use Rattle.sky_checkpoint.proofs.ListingLaws.{none_complete}
use Rattle.sky_checkpoint.proofs.listing.complete_run.Goals as goal

pub loop-held-preserved : goal.loop-held-preserved
loop-held-preserved c =
    subst (λ (seen : List Held). LeastSoFar seen c.args.above c.least_with-least.result) (sym (take_more c.args.names.now c.loop-held.held-index _ c.loop-held-test.true))
    (c.least_with-least.ensures (take c.loop-held.held-index c.args.names.now) c.loop-held.invariant)

pub returns-clause-none : goal.returns-clause-none
returns-clause-none c =
    none_complete c.args.names.now c.args.above c.loop-held.least
    (subst (λ (seen : List Held). LeastSoFar seen c.args.above c.loop-held.least) (take_all c.loop-held.held-index c.args.names.now c.loop-held-test.false) c.loop-held.invariant)
