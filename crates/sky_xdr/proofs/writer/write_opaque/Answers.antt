use Rattle.std.proofs.Common.{length, refl}
use Rattle.sky_xdr.proofs.Puts.{opaque_written}
use Rattle.sky_xdr.proofs.writer.write_opaque.Goals as goal

pub returns : goal.returns
returns c = opaque_written (length c.args.v.now) c.args.out.now c.write_uint.new.out c.args.v.now c.write_bytes.new.out _ c.write_zeros.new.out refl c.write_uint.ensures c.write_bytes.ensures refl (rw c.padding_of.ensures at c.write_zeros.ensures)
