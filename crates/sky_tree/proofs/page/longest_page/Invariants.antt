-- what is on the page and what is left are all entries, and the page goes on as the longest one
use Rattle.std.proofs.Common.{◌≡◌, ◌≤◌, [], ◌++◌, map}
use Rattle.std.specs.Prelude.{sum_by}
use Rattle.sky_dir.specs.Items.{listed_of}
use Rattle.sky_nfs.specs.Procedures.ReadDir.{longest, entry_size}
use Rattle.sky_tree.specs.Listing.{fits_in}
use Rattle.sky_tree.proofs.page.longest_page.Given as goal

abbrev pub invariant-loop-entry : goal.invariant-loop-entry
invariant-loop-entry l = record {
  can_go : (goal.iterator-loop-entry).can_next l.entry-iterator;
  ends : (goal.iterator-loop-entry).is_finite l.entry-iterator;
  all : map listed_of l.entries.items ++ l.entry-iterator ≡ l.fn.left;
  longest : longest (fits_in l.allowed) (map listed_of l.entries.items) l.entry-iterator ≡ longest (fits_in l.allowed) [] l.fn.left;
  bytes : l.bytes ≡ sum_by entry_size (map listed_of l.entries.items);
  small : l.bytes ≤ 65536;
}
