use Rattle.std.proofs.Common.{◌≡◌, ◌+◌, ◌∙◌, ℕ, length, drop, sym, ap, refl, arith}
use Rattle.sky_xdr.specs.Encoding.{padding, fixed}
use Rattle.sky_xdr.proofs.FixedData.{length-fixed}
use Rattle.sky_xdr.proofs.Puts.{take-put, drop-put}
use Rattle.sky_xdr.proofs.writer.Writer.put_fixed.Goals as goal

pub returns-clause-unwritten : goal.returns-clause-unwritten
returns-clause-unwritten c =
    let v = c.args.v.now in
    let w = c.args.self.now in
    let size : length v + padding (length v) ≡ length (fixed v) = sym (length-fixed v) in
    rw c.padding_of.ensures (drop-put w.place (length v + padding (length v)) w.buffer.now (fixed v) c.write_fixed.new.out (omega arith) (length-fixed v) c.write_fixed.ensures
    ∙ ap (λ (k : ℕ). drop k (drop w.place w.buffer.now)) size)

pub returns-clause-puts : goal.returns-clause-puts
returns-clause-puts c =
    let v = c.args.v.now in
    let w = c.args.self.now in
    record {
      written = rw c.padding_of.ensures (take-put w.place (length v + padding (length v)) w.buffer.now (fixed v) c.write_fixed.new.out (omega arith) (length-fixed v) c.write_fixed.ensures);
      unwritten = returns-clause-unwritten c;
      room = omega (arith, length-fixed v);
      same_buffer = refl;
    }
