use Rattle.std.proofs.Common.{length, ap, subst, arith}
use Rattle.sky_item.specs.Items.{IsContent}
use Rattle.sky_item.proofs.Sizes.{rows_few}
use Rattle.sky_item.proofs.bodies.put_content.Goals as goal

pub put_directory-requires : goal.put_directory-requires
put_directory-requires c =
    let is = subst IsContent c.in-Directory.is c.requires in
    omega (arith, ap length c.as_slice-in-Directory.ensures, rows_few c.in-Directory.rows, is.3)
