use Rattle.sky_xdr.proofs.Numbers.{uint_took, uhyper_took, bool_took}
use Rattle.sky_xdr.proofs.FixedData.{fixed_took}
use Rattle.sky_xdr.proofs.Opaques.{opaque_took}
use Rattle.sky_xdr.proofs.laws.only_encoding.Goals as goal

pub returns : goal.returns
returns c = record {
  uints = λ bytes n rest fits e. let t = uint_took bytes n rest fits e in (t.0.parts, t.1);
  uhypers = λ bytes n rest fits e. let t = uhyper_took bytes n rest fits e in (t.0.parts, t.1);
  bools = λ bytes b rest fits e. (bool_took bytes b rest fits e).parts;
  fixed_data = λ n bytes v rest e. let t = fixed_took n bytes v rest e in (t.begins, t.size);
  opaques = λ max bytes v rest fits e. let t = opaque_took max bytes v rest fits e in (t.begins, t.within, t.fits);
}
