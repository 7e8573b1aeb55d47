use Rattle.std.proofs.Common.{refl, arith}
use Rattle.sky_xdr.specs.Encoding.{uhyper}
use Rattle.sky_xdr.proofs.Numbers.{length-uhyper}
use Rattle.sky_xdr.proofs.Puts.{take-put, drop-put}
use Rattle.sky_xdr.proofs.writer.Writer.put_u64.Goals as goal

pub returns-then-self-lt8-clause-puts : goal.returns-then-self-lt8-clause-puts
returns-then-self-lt8-clause-puts c = omega (arith, length-uhyper c.args.v)

pub returns-clause-unwritten : goal.returns-clause-unwritten
returns-clause-unwritten c = drop-put c.args.self.now.place 8 c.args.self.now.buffer.now (uhyper c.args.v) c.write_uhyper.new.out (omega arith) (length-uhyper c.args.v) c.write_uhyper.ensures

pub returns-clause-puts : goal.returns-clause-puts
returns-clause-puts c =
    let size = length-uhyper c.args.v in
    record {
      written = take-put c.args.self.now.place 8 c.args.self.now.buffer.now (uhyper c.args.v) c.write_uhyper.new.out (omega arith) size c.write_uhyper.ensures;
      unwritten = rw size (drop-put c.args.self.now.place 8 c.args.self.now.buffer.now (uhyper c.args.v) c.write_uhyper.new.out (omega arith) size c.write_uhyper.ensures);
      room = omega (arith, size);
      same_buffer = refl;
    }
