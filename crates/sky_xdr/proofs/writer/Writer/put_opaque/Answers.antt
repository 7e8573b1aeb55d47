use Rattle.std.proofs.Common.{◌≡◌, ◌+◌, ◌∙◌, ℕ, length, drop, sym, ap, refl, arith}
use Rattle.sky_xdr.specs.Encoding.{padding, opaque}
use Rattle.sky_xdr.proofs.Opaques.{length-opaque}
use Rattle.sky_xdr.proofs.Puts.{take-put, drop-put}
use Rattle.sky_xdr.proofs.writer.Writer.put_opaque.Goals as goal

pub returns-then-self-size-clause-fits : goal.returns-then-self-size-clause-fits
returns-then-self-size-clause-fits c = (λ e. absurd cc, λ fits. absurd (omega (arith, length-opaque c.args.v.now)))

pub returns-then-self-size-clause-puts : goal.returns-then-self-size-clause-puts
returns-then-self-size-clause-puts c = omega (arith, length-opaque c.args.v.now)

pub returns-clause-unwritten : goal.returns-clause-unwritten
returns-clause-unwritten c =
    let v = c.args.v.now in
    let w = c.args.self.now in
    let size : 4 + length v + padding (length v) ≡ length (opaque v) = sym (length-opaque v) in
    rw c.padding_of.ensures (drop-put w.place (4 + length v + padding (length v)) w.buffer.now (opaque v) c.write_opaque.new.out (omega arith) (length-opaque v) c.write_opaque.ensures
    ∙ ap (λ (k : ℕ). drop k (drop w.place w.buffer.now)) size)

pub returns-clause-puts : goal.returns-clause-puts
returns-clause-puts c =
    let v = c.args.v.now in
    let w = c.args.self.now in
    record {
      written = rw c.padding_of.ensures (take-put w.place (4 + length v + padding (length v)) w.buffer.now (opaque v) c.write_opaque.new.out (omega arith) (length-opaque v) c.write_opaque.ensures);
      unwritten = returns-clause-unwritten c;
      room = omega (arith, length-opaque v);
      same_buffer = refl;
    }
