use Rattle.std.proofs.Common.{subst, arith}
use Rattle.sky_item.specs.Items.{IsItem}
use Rattle.sky_item.proofs.Sizes.{numbered_few, ascends_few}
use Rattle.sky_item.proofs.bodies.put_body.Goals as goal

pub put_page-requires : goal.put_page-requires
put_page-requires c =
    let is = subst IsItem c.in-Page.is c.requires in
    omega (arith, numbered_few _ _ c.in-Page.page.slots is.3)

pub put_check-requires-clause-pages : goal.put_check-requires-clause-pages
put_check-requires-clause-pages c =
    let is = subst IsItem c.in-Check.is c.requires in
    omega (arith, numbered_few _ _ c.in-Check.check.pages is.2)

pub put_check-requires-clause-touched : goal.put_check-requires-clause-touched
put_check-requires-clause-touched c =
    let is = subst IsItem c.in-Check.is c.requires in
    omega (arith, ascends_few _ _ c.in-Check.check.touched is.3)
