-- Entries as the code hands them about, and the directory that they make.
use Rattle.std.specs.Prelude.{ℕ, ◌+◌, suc, Bool, cond, ◌||◌, nat_lt, nat_le, List, [], ◌∷◌, map, Option, Some, None, option_map}
use Rattle.std.specs.Str.{bytes_eq}
use Rattle.sky_base.specs.Limits.{max_directory_bytes, max_cookie}
use Rattle.sky_base.specs.Listing.{Entry, Listing, size_of_listing, size_of_name}

-- a row is an entry's cookie, name and fileid
abbrev pub entry_of : ℕ × List ℕ × ℕ → Entry
entry_of row = record { cookie = row.0; name = row.1; fileid = row.2 }

-- the listing that has these rows
abbrev pub listing_of_rows : List (ℕ × List ℕ × ℕ) → ℕ → Listing
listing_of_rows rows next = record { entries = map entry_of rows; next_cookie = next }

-- whether an entry has this name
abbrev pub has_name : List ℕ → Entry → Bool
has_name name e = bytes_eq e.name name

-- the place of the first row of a name
abbrev pub place_in : List ℕ → List (ℕ × List ℕ × ℕ) → Option ℕ
place_in name [] = None
place_in name (row ∷ rows) = cond (bytes_eq row.1 name) (Some 0) (option_map suc (place_in name rows))

-- whether an entry more, of this name, would make the directory too large, or no cookie is left for it
abbrev pub is_crowded : Listing → List ℕ → Bool
is_crowded l name = nat_lt max_directory_bytes (size_of_listing l + size_of_name name) || nat_le max_cookie l.next_cookie
