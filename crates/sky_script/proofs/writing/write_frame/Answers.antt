use Rattle.std.proofs.Common.{List, ℕ, ◌++◌, subst}
use Rattle.std.proofs.lemmas.Result.{err_from_is_err_and, on_err_weaker}
use Rattle.sky_outside.specs.Told.{GivenPart}
use Rattle.sky_outside.proofs.ToldLaws.{GivenPart-first, GivenPart-then}
use Rattle.sky_script.proofs.writing.write_frame.Goals as goal

pub returns-in_err-write_all-clause-partly : goal.returns-in_err-write_all-clause-partly
returns-in_err-write_all-clause-partly g c =
    let p = err_from_is_err_and c.from_residual.result c.from_residual.ensures.1 in
    let part = GivenPart-first _ _ _ c.args.payload.now c.in_err-write_all.ensures.partly in
    rw p.1 (subst (λ (h : List ℕ). GivenPart (g.K.Sink.written c.args.sink.now) (g.K.Sink.written c.write_all.new.sink) (h ++ c.args.payload.now)) c.header_bytes.ensures part)

pub returns-clause-partly : goal.returns-clause-partly
returns-clause-partly g c =
    on_err_weaker c.write_all-2.result (λ part. subst (λ (h : List ℕ). GivenPart (g.K.Sink.written c.args.sink.now) (g.K.Sink.written c.write_all-2.new.sink) (h ++ c.args.payload.now)) c.header_bytes.ensures (GivenPart-then _ _ _ _ c.args.payload.now c.in_ok-write_all.ensures.ok part)) c.write_all-2.ensures.partly
