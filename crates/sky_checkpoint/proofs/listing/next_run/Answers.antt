use Rattle.std.proofs.Common.{take, sym, subst, ⊎_elim, List, ℕ, ◌<◌}
use Rattle.std.proofs.lemmas.List.{take_more}
use Rattle.sky_base.specs.Limits.{max_number}
use Rattle.sky_outside.specs.declared.site.Held.{Held}
use Rattle.sky_checkpoint.specs.SoFar.{GreatestSoFar}
use Rattle.sky_checkpoint.proofs.listing.next_run.Goals as goal

pub loop-held-preserved : goal.loop-held-preserved
loop-held-preserved c = record {
  seen = subst (λ (seen : List Held). GreatestSoFar seen c.args.merged c.greatest_with-greatest.result) (sym (take_more c.args.names.now c.loop-held.held-index _ c.loop-held-test.true))
      (c.greatest_with-greatest.ensures.greatest (take c.loop-held.held-index c.args.names.now) c.args.merged c.loop-held.invariant.seen);
  in_range = ⊎_elim (λ old. subst (λ (n : ℕ). n < max_number) (sym old) c.loop-held.invariant.in_range)
      (λ new. subst (λ (n : ℕ). n < max_number) (sym new) (c.requires.runs c.loop-held.held-index _ c.loop-held-test.true)) c.greatest_with-greatest.ensures.among;
}
