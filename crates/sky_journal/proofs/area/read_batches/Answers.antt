use Rattle.std.proofs.Common.{◌≡◌, ◌<◌, false, length, arith, refl, sym, ◌∙◌}
use Rattle.std.proofs.lemmas.Result.{err_from_is_err_and}
use Rattle.sky_journal.specs.Looking.{area_in}
use Rattle.sky_journal.proofs.Passes.{area-length}
use Rattle.sky_journal.proofs.AreaReads.{area_start, area_on, area_foreign, area_done}
use Rattle.sky_journal.proofs.ReadingFaults.{says_handed}
use Rattle.sky_journal.proofs.Wents.{went_none, went_then}
use Rattle.sky_journal.proofs.area.read_batches.Goals as goal

pub batches-init : goal.batches-init
batches-init g c = record {
  header = omega arith;
  inside = c.requires.inside;
  order = omega arith;
  number = c.requires.number;
  size = refl;
  went = went_none g.D.Storage c.args.disk.now c.args.pieces.now;
  so_far = λ image shows.
      let long : length (area_in c.args.span image).bytes ≡ c.args.span.size = area-length g.D.Storage c.args.disk.now c.args.pieces.now image c.args.span shows c.requires.within in
      area_start g.G.Grammar.is_entry (area_in c.args.span image) c.args.base (omega (arith, long, c.requires.inside));
}

pub batches-preserved : goal.batches-preserved
batches-preserved g c = record {
  header = omega (arith, c.in_ok-filled.ensures.end, c.batches.invariant.header);
  inside = c.in_ok-filled.ensures.end.1;
  order = omega (arith, c.in_ok-filled.ensures.last, c.batches.invariant.order);
  number = c.in_ok-filled.ensures.last.1;
  size = c.in_ok-filled.ensures.size ∙ c.in_ok-gate_at.ensures.size ∙ c.batches.invariant.size;
  went = went_then g.D.Storage c.args.disk.now c.gate_at.new.disk c.read_batch.new.disk c.args.pieces.now c.gate_at.new.pieces c.read_batch.new.pieces false
      (went_then g.D.Storage c.args.disk.now c.batches.disk c.gate_at.new.disk c.args.pieces.now c.batches.pieces c.gate_at.new.pieces false c.batches.invariant.went c.in_ok-gate_at.ensures.went)
      c.in_ok-filled.ensures.went;
  so_far = λ image shows.
      let long : length (area_in c.args.span image).bytes ≡ c.args.span.size = area-length g.D.Storage c.args.disk.now c.args.pieces.now image c.args.span shows c.requires.within in
      let first = c.batches.invariant.went.shows image shows in
      let gate = sym (c.in_ok-gate_at.ensures.value image first) ∙ c.if-branch.true in
      let said = c.in_ok-filled.ensures.says image (c.in_ok-gate_at.ensures.went.shows image first) in
      area_on g.G.Grammar.is_entry (area_in c.args.span image) c.args.base c.batches.filled.last c.batches.filled.end c.in_ok-filled.filled.last c.in_ok-filled.filled.end said.0
      (c.batches.invariant.so_far image shows) (omega (arith, long, c.batches.invariant.inside)) gate said.1 said.2.0 (omega (arith, long, c.in_ok-filled.ensures.end)) said.2.1;
}

pub returns-in_err-filled-clause-says : goal.returns-in_err-filled-clause-says
returns-in_err-filled-clause-says g c image shows =
    let long : length (area_in c.args.span image).bytes ≡ c.args.span.size = area-length g.D.Storage c.args.disk.now c.args.pieces.now image c.args.span shows c.requires.within in
    let inside : c.batches.filled.end < length (area_in c.args.span image).bytes = omega (arith, long, c.batches.invariant.inside) in
    let first = c.batches.invariant.went.shows image shows in
    let gate = sym (c.in_ok-gate_at.ensures.value image first) ∙ c.if-branch.true in
    let p = err_from_is_err_and c.from_residual-in_err-filled.result c.from_residual-in_err-filled.ensures.1 in
    says_handed c.from_residual-in_err-filled.result p.0 _ _ _ _ _ p.1 p.2
    (λ place e. area_foreign g.G.Grammar.is_entry (area_in c.args.span image) c.args.base c.batches.filled.last c.batches.filled.end place (c.batches.invariant.so_far image shows) inside gate e)
    (c.in_err-filled.ensures.says image (c.in_ok-gate_at.ensures.went.shows image first))

pub returns-clause-says : goal.returns-clause-says
returns-clause-says g c image shows =
    let first = c.batches.invariant.went.shows image shows in
    let gate = sym (c.in_ok-gate_at.ensures.value image first) ∙ c.if-branch.false in
    let done = area_done g.G.Grammar.is_entry (area_in c.args.span image) c.args.base c.batches.filled.last c.batches.filled.end (c.batches.invariant.so_far image shows) gate in
    (done.0, done.1, (done.2, gate))
