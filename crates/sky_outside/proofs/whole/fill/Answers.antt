use Rattle.std.proofs.Common.{List, ℕ, ◌≤◌, ◌∙◌, length, subst, arith}
use Rattle.std.proofs.lemmas.Bool.{false≢true}
use Rattle.sky_outside.specs.Told.{Had}
use Rattle.sky_outside.proofs.Parts.{next_written, written_within}
use Rattle.sky_outside.proofs.ToldLaws.{Had-then}
use Rattle.sky_outside.proofs.whole.fill.Goals as goal

pub loop-at-preserved : goal.loop-at-preserved
loop-at-preserved g c =
    let fits : c.in_ok-taken.taken ≤ length c.read.new.buf = omega (arith, c.in_ok-taken.ensures.within, c.read.auto.buf) in
    let taken = Had-then _ _ _ _ _ c.loop-at.invariant.taken c.in_ok-taken.ensures.bytes in
    record {
      within = written_within c.loop-at.buf c.read.new.buf c.loop-at.at c.in_ok-taken.taken c.loop-at.invariant.within fits;
      taken = subst (λ (bytes : List ℕ). Had (g.S.Source.left c.args.source.now) (g.S.Source.left c.read.new.self) bytes) (next_written c.loop-at.buf c.read.new.buf c.loop-at.at c.in_ok-taken.taken c.loop-at.invariant.within fits) taken;
      quiet = c.in_ok-taken.ensures.cause.quiet false≢true ∙ c.loop-at.invariant.quiet;
    }
