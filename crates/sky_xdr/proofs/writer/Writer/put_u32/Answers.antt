use Rattle.std.proofs.Common.{refl, arith}
use Rattle.sky_xdr.specs.Encoding.{uint}
use Rattle.sky_xdr.proofs.Numbers.{length-uint}
use Rattle.sky_xdr.proofs.Puts.{take-put, drop-put}
use Rattle.sky_xdr.proofs.writer.Writer.put_u32.Goals as goal

pub returns-then-self-lt4-clause-puts : goal.returns-then-self-lt4-clause-puts
returns-then-self-lt4-clause-puts c = omega (arith, length-uint c.args.v)

pub returns-clause-unwritten : goal.returns-clause-unwritten
returns-clause-unwritten c = drop-put c.args.self.now.place 4 c.args.self.now.buffer.now (uint c.args.v) c.write_uint.new.out (omega arith) (length-uint c.args.v) c.write_uint.ensures

pub returns-clause-puts : goal.returns-clause-puts
returns-clause-puts c =
    let size = length-uint c.args.v in
    record {
      written = take-put c.args.self.now.place 4 c.args.self.now.buffer.now (uint c.args.v) c.write_uint.new.out (omega arith) size c.write_uint.ensures;
      unwritten = rw size (drop-put c.args.self.now.place 4 c.args.self.now.buffer.now (uint c.args.v) c.write_uint.new.out (omega arith) size c.write_uint.ensures);
      room = omega (arith, size);
      same_buffer = refl;
    }
