-- What a page has yet to show.
use Rattle.std.specs.Prelude.{List, map, filter, nat_lt}
use Rattle.sky_base.specs.Listing.{Entry}
use Rattle.sky_dir.specs.Items.{item_entry}
use Rattle.sky_dir.specs.Rows.{entry_of}
use Rattle.sky_dir.specs.declared.page.Walk.{Walk}
use Rattle.sky_dir.specs.declared.page.Walk.TheVariants.{Search, Pass}

abbrev pub left_of : Walk → List Entry
left_of (Search range) = map item_entry range
left_of (Pass rows after) = filter (λ e. nat_lt after e.cookie) (map entry_of rows.now)
