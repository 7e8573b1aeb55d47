-- The size of a directory when an entry goes.
use Rattle.std.proofs.Common.{◌≡◌, ℕ, ◌+◌, List, map, Option, Some, None, refl, ap, sym, sum_by}
use Rattle.std.specs.Prelude.{find, option_map}
use Rattle.std.proofs.lemmas.List.Folds.{fold-map}
use Rattle.sky_base.specs.Listing.{Entry, Listing, fileid_at, size_of_listing, size_of_name, without_entry}
use Rattle.sky_dir.specs.Rows.{entry_of, has_name}
use Rattle.sky_dir.proofs.OrderlyLemmas.{size_without}
use Rattle.sky_dir.proofs.KeptSteps.{none_of_map, without_none}

found_entry : (n : ℕ) (o : Option Entry) → Some n ≡ option_map (λ (e : Entry). e.fileid) o → (e : Entry) × (o ≡ Some e)
found_entry n None h = cc
found_entry n (Some e) h = (e, refl)

pub size_falls : (l : Listing) (name : List ℕ) (fileid : ℕ) → Some fileid ≡ fileid_at l name → size_of_listing (without_entry l name) + size_of_name name ≡ size_of_listing l
size_falls l name fileid h = let e = found_entry fileid (find (has_name name) l.entries) h in size_without name l.entries e.0 e.1

pub size_stays : (l : Listing) (name : List ℕ) → None ≡ fileid_at l name → without_entry l name ≡ l
size_stays l name h =
    ap (λ (es : List Entry). record { entries = es; next_cookie = l.next_cookie }) (without_none name l.entries (none_of_map (λ (e : Entry). e.fileid) (find (has_name name) l.entries) (sym h)))

pub size_of_rows : (rows : List (ℕ × List ℕ × ℕ)) → sum_by (λ (e : Entry). size_of_name e.name) (map entry_of rows) ≡ sum_by (λ (row : ℕ × List ℕ × ℕ). size_of_name row.1) rows
size_of_rows rows = fold-map (λ (n : ℕ) (e : Entry). n + size_of_name e.name) entry_of 0 rows
