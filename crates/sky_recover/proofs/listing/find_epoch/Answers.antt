use Rattle.sky_recover.proofs.Refused.{lost_listed}
use Rattle.sky_recover.proofs.listing.find_epoch.Goals as goal

pub returns-in-Some-clause-judged : goal.returns-in-Some-clause-judged
returns-in-Some-clause-judged g c =
    lost_listed (g.C.Storage.objects c.args.cloud.now) c.in_ok-held.held.items c.in-Some.name c.in_ok-held.ensures.listed (cc (c.in-Some.is, c.last_check.ensures.value, c.deref.ensures.value))
