-- The limits of which a tree is too large to compute with: for every tree that has come to one.
use Rattle.std.proofs.Common.{◌≡◌, ℕ, List, Some, None, length}
use Rattle.std.specs.Prelude.{codes, ◌^◌, ◌-◌}
use Rattle.sky_base.specs.Listing.{Listing, size_of_listing}
use Rattle.sky_nfs.specs.declared.status.NfsStatus.TheVariants.{NoSpc}
use Rattle.sky_nfs.specs.Rules.{first_of, new_room_rules, entry_room_rules, node_room_rules}
use Rattle.sky_nfs.specs.Tree.{Tree}

-- a volume with 2^20 nodes takes no new one
full_volume : (t : Tree) (dir : ℕ) (name : List ℕ) → length t.nodes ≡ 2 ^ 20 → first_of (new_room_rules t dir name) ≡ Some NoSpc
full_volume t dir name e = rw e

-- with one less, and fileids left, there is room for one
nearly_full_volume : (t : Tree) → length t.nodes ≡ 2 ^ 20 - 1 → t.next_fileid ≡ 2 ^ 26 - 1 → first_of (node_room_rules t) ≡ None
nearly_full_volume t e f = rw (e, f)

-- a directory takes an entry up to a size of 2^20
full_directory : (l : Listing) → size_of_listing l ≡ 2 ^ 20 - 18 → first_of (entry_room_rules l (codes "n")) ≡ Some NoSpc
full_directory l e = rw e

nearly_full_directory : (l : Listing) → size_of_listing l ≡ 2 ^ 20 - 19 → l.next_cookie ≡ 2 ^ 62 - 1 → first_of (entry_room_rules l (codes "n")) ≡ None
nearly_full_directory l e f = rw (e, f)
