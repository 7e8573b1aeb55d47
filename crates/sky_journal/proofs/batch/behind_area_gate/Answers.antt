use Rattle.std.proofs.Common.{List, ℕ, ap, sym, subst, ◌∙◌}
use Rattle.std.specs.Int.{w64, to_be_bytes}
use Rattle.sky_outside.specs.Image.{written}
use Rattle.sky_journal.specs.Written.{IsBehindAreaGate}
use Rattle.sky_journal.proofs.Headers.{area_gate}
use Rattle.sky_journal.proofs.batch.behind_area_gate.Goals as goal

pub returns : goal.returns
returns c =
    subst (λ (bytes : List ℕ). IsBehindAreaGate bytes c.args.volume c.args.base)
    (sym (c.put_u64-2.ensures ∙ ap (λ (b : List ℕ). written b 15 (to_be_bytes w64 c.args.base)) c.put_u64.ensures))
    (area_gate c.args.volume c.args.base c.ranges.volume.fits c.ranges.base.fits)
