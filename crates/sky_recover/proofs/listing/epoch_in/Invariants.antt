use Rattle.std.proofs.Common.{◌≡◌, ◌≤◌, take}
use Rattle.sky_base.specs.Limits.{max_number}
use Rattle.sky_sound.specs.Cloud.{next_epoch}
use Rattle.sky_recover.proofs.listing.epoch_in.Given as goal

abbrev pub invariant-loop-object : goal.invariant-loop-object
invariant-loop-object l = (l.epoch ≡ next_epoch (take l.object-index l.held)) × (1 ≤ l.epoch) × (l.epoch ≤ max_number)
