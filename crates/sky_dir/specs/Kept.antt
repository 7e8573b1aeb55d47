-- The two maps in which a directory is kept.
use Rattle.std.specs.Prelude.{ℕ, ◌≤◌, List, map, Option}
use Rattle.std.specs.BTreeMap.{BTreeMap, get_by}
use Rattle.std.specs.Cmp.Lexicographic.{slice_cmp}
use Rattle.std.specs.Ordering.{nat_cmp}
use Rattle.std.specs.Prelude.{Vec}
use Rattle.std.specs.declared.alloc.Global.{Global}
use Rattle.sky_base.specs.Limits.{max_cookie}
use Rattle.sky_base.specs.Listing.{Entry, Listing}
use Rattle.sky_dir.specs.declared.indexed.Item.{Item}
use Rattle.sky_dir.specs.Items.{item_entry}
use Rattle.sky_dir.specs.Orderly.{AscendsBelow, NamesDiffer, Indexes}

-- what an index has at a name
abbrev pub cookie_at : BTreeMap (Vec ℕ Global) ℕ → List ℕ → Option ℕ
cookie_at index name = get_by (λ k. slice_cmp nat_cmp name k.items) index

-- the listing that is kept
abbrev pub listing_kept : List (ℕ × Item) → ℕ → Listing
listing_kept items next = record { entries = map item_entry items; next_cookie = next }

-- the entries are as directories have them, and the index is theirs
pub record IsKept (items : List (ℕ × Item)) (index : BTreeMap (Vec ℕ Global) ℕ) (next : ℕ) : Type 0 where
  pub ascends : AscendsBelow next (map item_entry items)
  pub differ : NamesDiffer (map item_entry items)
  pub indexed : Indexes (cookie_at index) (map item_entry items)
  pub bound : next ≤ max_cookie

-- the same of entries that aren't kept yet, and of their index
pub record IsIndexed (es : List Entry) (index : BTreeMap (Vec ℕ Global) ℕ) (next : ℕ) : Type 0 where
  pub ascends : AscendsBelow next es
  pub differ : NamesDiffer es
  pub indexed : Indexes (cookie_at index) es
