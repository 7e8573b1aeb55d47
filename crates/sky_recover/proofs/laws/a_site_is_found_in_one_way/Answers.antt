use Rattle.sky_recover.proofs.OneWay.{found_once}
use Rattle.sky_recover.proofs.laws.a_site_is_found_in_one_way.Goals as goal

pub returns : goal.returns
returns g c = λ volume size image objects one two told held first second. found_once g.S.Storage c.args.site.now volume size image objects one two told held first second
