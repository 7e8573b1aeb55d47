-- Entries as the map has them, and as a page shows them.
use Rattle.std.specs.Prelude.{ℕ}
use Rattle.sky_base.specs.Listing.{Entry}
use Rattle.sky_dir.specs.declared.indexed.Item.{Item}
use Rattle.sky_dir.specs.declared.page.Listed.{Listed}

-- the entry that the map has at a cookie
abbrev pub item_entry : ℕ × Item → Entry
item_entry e = record { cookie = e.0; name = e.1.name; fileid = e.1.fileid }

-- the entry that is shown
abbrev pub listed_of : Listed → Entry
listed_of x = record { cookie = x.cookie; name = x.name.now; fileid = x.fileid }
