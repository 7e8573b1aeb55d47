use Rattle.std.specs.Prelude.{IfSome}
use Rattle.std.proofs.Common.{◌≡◌, ◌≤◌, ◌<◌, Option, length, arith, ◌∙◌, subst}
use Rattle.std.proofs.lemmas.Result.{err_from_is_err_and}
use Rattle.std.proofs.Common.{false, refl}
use Rattle.sky_journal.specs.Looking.{area_in}
use Rattle.sky_journal.specs.OnePass.{IsNext}
use Rattle.sky_journal.specs.declared.one_batch.Mark.{Mark}
use Rattle.sky_journal.proofs.Passes.{area-length, read_start, read_on, read_broken, read_longer, read_bad, read_done}
use Rattle.sky_journal.proofs.ReadingFaults.{says_fault}
use Rattle.sky_journal.proofs.Wents.{went_none, went_then}
use Rattle.sky_journal.proofs.one_batch.entries.Goals as goal

pub loop-read-init : goal.loop-read-init
loop-read-init g c = record {
  order = c.requires.order;
  size = refl;
  went = went_none g.D.Storage c.args.disk.now c.args.pieces.now;
  so_far = λ image shows. read_start g.G.Grammar.is_entry (area_in c.args.span image) c.args.p c.args.end c.args.count;
}

pub loop-read-preserved : goal.loop-read-preserved
loop-read-preserved g c =
    let found = c.in_ok-next.ensures.next in
    let range = subst (λ (o : Option Mark). IfSome o (λ next. (c.loop-read.mark.at ≤ next.at) × (next.at ≤ c.args.end))) c.in-Some.is c.in_ok-next.ensures.range in
    record {
      order = range.1;
      size = c.in_ok-next.ensures.size ∙ c.loop-read.invariant.size;
      went = went_then g.D.Storage c.args.disk.now c.loop-read.disk c.next_mark.new.disk c.args.pieces.now c.loop-read.pieces c.next_mark.new.pieces false c.loop-read.invariant.went c.in_ok-next.ensures.went;
      so_far = λ image shows.
          read_on g.G.Grammar.is_entry (area_in c.args.span image) c.args.p c.args.end c.args.count c.loop-read.read c.loop-read.mark c.in-Some.next (c.loop-read.invariant.so_far image shows) c.loop-read-test.true
          (subst (λ (o : Option Mark). IsNext g.G.Grammar.is_entry (area_in c.args.span image) c.args.end c.loop-read.mark o) c.in-Some.is (found image (c.loop-read.invariant.went.shows image shows)));
    }

pub returns-in_err-next-clause-says : goal.returns-in_err-next-clause-says
returns-in_err-next-clause-says g c image shows =
    let p = err_from_is_err_and c.from_residual.result c.from_residual.ensures.1 in
    says_fault c.from_residual.result _ p.0 _ _ p.1 p.2

pub returns-in-None-clause-says : goal.returns-in-None-clause-says
returns-in-None-clause-says g c image shows =
    let found = c.in_ok-next.ensures.next image (c.loop-read.invariant.went.shows image shows) in
    read_broken g.G.Grammar.is_entry (area_in c.args.span image) c.args.p c.args.end c.args.count c.loop-read.read c.loop-read.mark (c.loop-read.invariant.so_far image shows) c.loop-read-test.true
    (subst (λ (o : Option Mark). IsNext g.G.Grammar.is_entry (area_in c.args.span image) c.args.end c.loop-read.mark o) c.in-None.is found)

pub returns-then-mark-end-clause-says : goal.returns-then-mark-end-clause-says
returns-then-mark-end-clause-says g c image shows =
    let long : length (area_in c.args.span image).bytes ≡ c.args.span.size = area-length g.D.Storage c.args.disk.now c.args.pieces.now image c.args.span shows c.requires.within in
    let more : c.loop-read.mark.at < c.args.end = omega (arith, c.loop-read.invariant.order, c.if-mark-end.true) in
    let inside : c.args.end ≤ length (area_in c.args.span image).bytes = omega (arith, long, c.requires.inside) in
    read_longer g.G.Grammar.is_entry (area_in c.args.span image) c.args.p c.args.end c.args.count c.loop-read.read c.loop-read.mark (c.loop-read.invariant.so_far image shows) c.loop-read-test.false more inside

pub returns-in-Some-foreign-clause-says : goal.returns-in-Some-foreign-clause-says
returns-in-Some-foreign-clause-says g c image shows =
    read_bad g.G.Grammar.is_entry (area_in c.args.span image) c.args.p c.args.end c.args.count c.in-Some-foreign.at c.loop-read.read c.loop-read.mark (c.loop-read.invariant.so_far image shows) c.loop-read-test.false
    c.if-mark-end.false c.in-Some-foreign.is

pub returns-clause-says : goal.returns-clause-says
returns-clause-says g c image shows =
    read_done g.G.Grammar.is_entry (area_in c.args.span image) c.args.p c.args.end c.args.count c.loop-read.read c.loop-read.mark (c.loop-read.invariant.so_far image shows) c.loop-read-test.false
    c.if-mark-end.false c.in-None-foreign.is
