-- The entries of a directory, in the order in which they were added.
use Rattle.std.specs.Prelude.{ℕ, ◌+◌, cond, List, [], ◌∷◌, ◌++◌, length, Option, option_map, find, sum_by}
use Rattle.std.specs.Str.{bytes_eq}

-- an entry: the cookie behind which a listing goes on (cookie3, RFC 1813 section 3.3.16), the name, and the fileid that it names
pub record Entry : Type 0 where
  pub cookie : ℕ
  pub name : List ℕ
  pub fileid : ℕ

-- the entries, and the cookie of the one that is added next
pub record Listing : Type 0 where
  pub entries : List Entry
  pub next_cookie : ℕ

-- the listing of a new directory. The cookies 1 and 2 are those of `.` and `..`
abbrev pub new_listing : Listing
new_listing = record { entries = []; next_cookie = 3 }

-- the fileid that a name stands for
abbrev pub fileid_at : Listing → List ℕ → Option ℕ
fileid_at l name = option_map (λ e. e.fileid) (find (λ e. bytes_eq e.name name) l.entries)

-- without the entry of a name
abbrev pub without_name : List Entry → List ℕ → List Entry
without_name [] name = []
without_name (e ∷ es) name = cond (bytes_eq e.name name) es (e ∷ without_name es name)

-- with one more entry, at the end, under the next cookie
abbrev pub with_entry : Listing → List ℕ → ℕ → Listing
with_entry l name fileid = record {
  entries = l.entries ++ record { cookie = l.next_cookie; name = name; fileid = fileid } ∷ [];
  next_cookie = l.next_cookie + 1;
}

-- with the entry of a name gone. Its cookie isn't given out again
abbrev pub without_entry : Listing → List ℕ → Listing
without_entry l name = record l { entries = without_name l.entries name }

-- what an entry of this name adds to the size of a directory
abbrev pub size_of_name : List ℕ → ℕ
size_of_name name = 18 + length name

-- the size of a directory: the sizes of its entries together
abbrev pub size_of_listing : Listing → ℕ
size_of_listing l = sum_by (λ e. size_of_name e.name) l.entries
