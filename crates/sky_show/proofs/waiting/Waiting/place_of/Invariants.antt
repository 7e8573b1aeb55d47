use Rattle.std.proofs.Common.{◌≡◌, ◌<◌, ℕ, false, IfSome, slice_get}
use Rattle.sky_show.specs.Waiting.{is_of}
use Rattle.sky_show.proofs.waiting.Waiting.place_of.Given as goal

abbrev pub invariant-loop-place : goal.invariant-loop-place
invariant-loop-place l = (i : ℕ) → i < l.place → IfSome (slice_get l.fn.self i) (λ call. is_of l.fn.session l.fn.xid call ≡ false)
