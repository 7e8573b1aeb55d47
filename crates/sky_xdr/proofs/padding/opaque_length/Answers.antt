use Rattle.std.proofs.Common.{◌+◌, length, ap, sym, ◌∙◌}
use Rattle.sky_xdr.proofs.Opaques.{length-opaque}
use Rattle.sky_xdr.proofs.padding.opaque_length.Goals as goal

pub returns : goal.returns
returns c = ap (λ k. 4 + length c.args.v.now + k) c.padding_of.ensures ∙ sym (length-opaque c.args.v.now)
