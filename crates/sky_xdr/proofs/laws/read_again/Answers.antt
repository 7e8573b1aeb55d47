use Rattle.sky_xdr.proofs.Numbers.{uint_again, uhyper_again, bool_again}
use Rattle.sky_xdr.proofs.FixedData.{fixed_again, fixed_accepted}
use Rattle.sky_xdr.proofs.Opaques.{opaque_again, accepted_again}
use Rattle.sky_xdr.proofs.laws.read_again.Goals as goal

pub returns : goal.returns
returns c = record {
  uints = uint_again;
  uhypers = uhyper_again;
  bools = bool_again;
  fixed_data = fixed_again;
  opaques = opaque_again;
  fixed_accepted = fixed_accepted;
  accepted = accepted_again;
}
