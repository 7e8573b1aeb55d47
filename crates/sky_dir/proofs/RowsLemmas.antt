-- Lemmas on rows, and on the entries that they are.
use Rattle.std.proofs.Common.{◌≡◌, ℕ, ◌+◌, ◌<◌, suc, Bool, true, false, List, [], ◌∷◌, ◌++◌, length, map, get_or, take, drop, Option, Some, None, refl, ap, sym, ◌∙◌, subst, arith}
use Rattle.std.specs.Prelude.{find, option_map, remove}
use Rattle.std.proofs.lemmas.List.{map-append, take-append-drop, drop_more}
use Rattle.std.specs.Str.{bytes_eq}
use Rattle.sky_base.specs.Listing.{without_name}
use Rattle.sky_dir.specs.Rows.{entry_of, has_name, place_in}

-- no entry has this name, and taking it away changes nothing
abbrev pub IsNowhere : List ℕ → List (ℕ × List ℕ × ℕ) → Type 0
IsNowhere name rows = (find (has_name name) (map entry_of rows) ≡ None) × (without_name (map entry_of rows) name ≡ map entry_of rows)

none_from_suc : (o : Option ℕ) → option_map suc o ≡ None → o ≡ None
none_from_suc None e = refl
none_from_suc (Some i) e = cc

nowhere_more : (name : List ℕ) (row : ℕ × List ℕ × ℕ) (rows : List (ℕ × List ℕ × ℕ)) (b : Bool) → bytes_eq row.1 name ≡ b
    → (place_in name rows ≡ None → IsNowhere name rows) → place_in name (row ∷ rows) ≡ None → IsNowhere name (row ∷ rows)
nowhere_more name row rows true e more h = let f : ◌≡◌ {A = Option ℕ} (Some 0) None = rw e at h in cc
nowhere_more name row rows false e more h =
    let f : option_map suc (place_in name rows) ≡ None = rw e at h in
    let g = more (none_from_suc (place_in name rows) f) in
    (rw e g.0, rw e (ap (λ es. entry_of row ∷ es) g.1))

pub nowhere_at_no_place : (name : List ℕ) (rows : List (ℕ × List ℕ × ℕ)) → place_in name rows ≡ None → IsNowhere name rows
nowhere_at_no_place name [] h = (refl, refl)
nowhere_at_no_place name (row ∷ rows) h = nowhere_more name row rows (bytes_eq row.1 name) refl (nowhere_at_no_place name rows) h

-- the row at i is the first of its name: which entry is found then, and what is left without it
abbrev pub IsFirst : List ℕ → List (ℕ × List ℕ × ℕ) → ℕ × List ℕ × ℕ → ℕ → Type 0
IsFirst name rows d i = (i < length rows) × (find (has_name name) (map entry_of rows) ≡ Some (entry_of (get_or rows i d))) × (without_name (map entry_of rows) name ≡ map entry_of (remove rows i))

first_later : (name : List ℕ) (row : ℕ × List ℕ × ℕ) (rows : List (ℕ × List ℕ × ℕ)) (i : ℕ) (d : ℕ × List ℕ × ℕ) (o : Option ℕ) → bytes_eq row.1 name ≡ false
    → ((j : ℕ) → o ≡ Some j → IsFirst name rows d j) → option_map suc o ≡ Some i → IsFirst name (row ∷ rows) d i
first_later name row rows i d None e more f = cc
first_later name row rows i d (Some j) e more f =
    let same : suc j ≡ i = cc in
    let g = more j refl in
    let here : IsFirst name (row ∷ rows) d (suc j) = (omega (arith, g.0), rw e g.1, rw e (ap (λ es. entry_of row ∷ es) g.2)) in
    subst (IsFirst name (row ∷ rows) d) same here

first_more : (name : List ℕ) (row : ℕ × List ℕ × ℕ) (rows : List (ℕ × List ℕ × ℕ)) (i : ℕ) (d : ℕ × List ℕ × ℕ) (b : Bool) → bytes_eq row.1 name ≡ b
    → ((j : ℕ) → place_in name rows ≡ Some j → IsFirst name rows d j) → place_in name (row ∷ rows) ≡ Some i → IsFirst name (row ∷ rows) d i
first_more name row rows i d true e more h =
    let f : ◌≡◌ {A = Option ℕ} (Some 0) (Some i) = rw e at h in
    let same : 0 ≡ i = cc in
    let here : IsFirst name (row ∷ rows) d 0 = (omega arith, rw e refl, rw e refl) in
    subst (IsFirst name (row ∷ rows) d) same here
first_more name row rows i d false e more h = first_later name row rows i d (place_in name rows) e more (rw e at h)

pub first_at_place : (name : List ℕ) (rows : List (ℕ × List ℕ × ℕ)) (i : ℕ) (d : ℕ × List ℕ × ℕ) → place_in name rows ≡ Some i → IsFirst name rows d i
first_at_place name [] i d h = cc
first_at_place name (row ∷ rows) i d h = first_more name row rows i d (bytes_eq row.1 name) refl (λ j. first_at_place name rows j d) h

-- the rows from one on
pub rest_rows : (rows : List (ℕ × List ℕ × ℕ)) (i : ℕ) (row : ℕ × List ℕ × ℕ) → i < length rows → row ≡ get_or rows i row → drop i rows ≡ row ∷ drop (i + 1) rows
rest_rows rows i row lt is = drop_more rows i row lt ∙ ap (λ r. r ∷ drop (i + 1) rows) (sym is)

-- the rows before one, the row, and those behind it
pub split_rows : (rows : List (ℕ × List ℕ × ℕ)) (i : ℕ) (row : ℕ × List ℕ × ℕ) → i < length rows → row ≡ get_or rows i row
    → map entry_of rows ≡ map entry_of (take i rows) ++ entry_of row ∷ map entry_of (drop (i + 1) rows)
split_rows rows i row lt is =
    ap (map entry_of) (sym (take-append-drop i rows)) ∙ map-append entry_of (take i rows) (drop i rows) ∙ ap (λ l. map entry_of (take i rows) ++ map entry_of l) (rest_rows rows i row lt is)
