use Rattle.std.proofs.Common.{length, refl, arith}
use Rattle.sky_xdr.proofs.Puts.{take-put, drop-put}
use Rattle.sky_item.proofs.output.Output.put.Goals as goal

pub returns : goal.returns
returns c =
    let v = c.args.bytes.now in
    let w = c.args.self.now in
    record {
      written = take-put w.place (length v) w.buffer.now v c.write_bytes.new.out (omega arith) refl c.write_bytes.ensures;
      unwritten = drop-put w.place (length v) w.buffer.now v c.write_bytes.new.out (omega arith) refl c.write_bytes.ensures;
      room = omega arith;
      same_buffer = refl;
    }
