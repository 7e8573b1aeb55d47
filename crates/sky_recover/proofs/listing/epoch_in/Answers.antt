use Rattle.std.specs.Prelude.{max}
use Rattle.std.proofs.Common.{◌≡◌, arith}
use Rattle.sky_recover.proofs.Lists.{epoch_next}
use Rattle.sky_recover.proofs.listing.epoch_in.Goals as goal

pub loop-object-preserved : goal.loop-object-preserved
loop-object-preserved c =
    let larger : c.max-epoch.result ≡ max c.loop-object.epoch c.epoch_behind.result = grind arith in (
      epoch_next c.args.held.now c.loop-object.object-index c.loop-object-test.true c.loop-object.epoch c.epoch_behind.result c.max-epoch.result c.loop-object.invariant.0
          c.epoch_behind.ensures.value larger,
      omega (arith, larger),
      omega (arith, larger, c.epoch_behind.ensures.most),
    )
