-- Pages of a listing: their sizes, how a page goes on, and where it stops.
use Rattle.std.proofs.Common.{◌≡◌, ℕ, ◌+◌, ◌*◌, ◌≤◌, List, [], ◌∷◌, ◌++◌, refl, sym, ap, ◌∙◌, true, false, Result, Ok, Err, OnErr, arith, length, length-append}
use Rattle.std.specs.Prelude.{Bool, not, ◌&&◌, ◌||◌, ◌==◌, nat_le, sum_by}
use Rattle.std.proofs.Math.Nat.{min-le_right}
use Rattle.std.proofs.lemmas.Bool.{and_parts, leb-true, le-leb, ne_eqb}
use Rattle.std.proofs.lemmas.List.Sums.{sum_by-cons, sum_by_push}
use Rattle.sky_base.specs.Listing.{Entry}
use Rattle.sky_nfs.specs.Procedures.ReadDir.{empty_page_size, entry_plus_size, entry_size, is_too_small, longest, max_page_bytes, padded_length}
use Rattle.sky_tree.specs.Listing.{fits_in, size_fits_in}
use Rattle.sky_tree.specs.declared.allowed.Allowed.{Allowed}
use Rattle.sky_tree.specs.declared.allowed.Allowed.TheVariants.{Names, NamesPlus}

-- each entry of READDIRPLUS has attributes and a handle besides
sum_plus : (page : List Entry) → sum_by entry_plus_size page ≡ sum_by entry_size page + 112 * length page
sum_plus [] = refl
sum_plus (e ∷ es) = omega (arith, sum_by-cons entry_plus_size e es, sum_by-cons entry_size e es, sum_plus es)

-- no page has more entries than bytes
pub entries_within : (page : List Entry) → length page ≤ sum_by entry_size page
entries_within [] = omega arith
entries_within (e ∷ es) = omega (arith, sum_by-cons entry_size e es, entries_within es)

-- a page fits by its sizes
fits_by_size : (a : Allowed) (page : List Entry) → fits_in a page ≡ size_fits_in a (length page) (sum_by entry_size page)
fits_by_size (Names count) page = refl
fits_by_size (NamesPlus dircount maxcount) page =
    ap (λ (s : ℕ). nat_le (empty_page_size + s) (max_page_bytes maxcount) && (nat_le (length page) 1 || nat_le (sum_by entry_size page) dircount)) (sum_plus page)

-- and so does one with an entry more
fits_with_more : (a : Allowed) (page : List Entry) (e : Entry) → fits_in a (page ++ e ∷ []) ≡ size_fits_in a (length page + 1) (sum_by entry_size page + (24 + padded_length e.name))
fits_with_more a page e =
    fits_by_size a (page ++ e ∷ [])
    ∙ ap (λ (n : ℕ). size_fits_in a n (sum_by entry_size (page ++ e ∷ []))) (length-append page (e ∷ []))
    ∙ ap (λ (b : ℕ). size_fits_in a (length page + 1) b) (sum_by_push entry_size page e)

-- what fits is no larger than any page may be
pub size_within : (a : Allowed) (entries bytes : ℕ) → size_fits_in a entries bytes ≡ true → bytes ≤ 65536
size_within (Names count) entries bytes fit =
    omega (arith, leb-true (empty_page_size + bytes) (max_page_bytes count) fit, min-le_right count 65536)
size_within (NamesPlus dircount maxcount) entries bytes fit =
    let whole = and_parts (nat_le (empty_page_size + (bytes + 112 * entries)) (max_page_bytes maxcount)) (nat_le entries 1 || nat_le bytes dircount) fit in
    omega (arith, leb-true (empty_page_size + (bytes + 112 * entries)) (max_page_bytes maxcount) whole.0, min-le_right maxcount 65536)

module _ (a : Allowed) (page left whole : List Entry) (e : Entry) (es : List Entry) (entries bytes : ℕ)
    (left_is : left ≡ e ∷ es) (entries_is : entries ≡ length page) (bytes_is : bytes ≡ sum_by entry_size page)
    (longest_is : longest (fits_in a) page left ≡ whole) where
  -- whether the next entry fits, by the sizes so far
  next_fits : (b : Bool) → size_fits_in a (entries + 1) (bytes + (24 + padded_length e.name)) ≡ b → fits_in a (page ++ e ∷ []) ≡ b
  next_fits b is =
      fits_with_more a page e
      ∙ sym (ap (λ (n : ℕ). size_fits_in a (n + 1) (sum_by entry_size page + (24 + padded_length e.name))) entries_is)
      ∙ sym (ap (λ (s : ℕ). size_fits_in a (entries + 1) (s + (24 + padded_length e.name))) bytes_is)
      ∙ is

  -- the longest page, where there is a next entry
  at_next : longest (fits_in a) page (e ∷ es) ≡ whole
  at_next = sym (ap (λ (l : List Entry). longest (fits_in a) page l) left_is) ∙ longest_is

  -- a page stops before an entry that doesn't fit
  pub stops : size_fits_in a (entries + 1) (bytes + (24 + padded_length e.name)) ≡ false → page ≡ whole
  stops over = let here : page ≡ whole = rw (next_fits false over) at at_next in here

  -- and goes on with one that does
  pub goes : size_fits_in a (entries + 1) (bytes + (24 + padded_length e.name)) ≡ true → longest (fits_in a) (page ++ e ∷ []) es ≡ whole
  goes more = let here : longest (fits_in a) (page ++ e ∷ []) es ≡ whole = rw (next_fits true more) at at_next in here

-- ---- a page with an entry is not too small

-- no longest page has fewer entries than it begins with
longest_more : (fit : List Entry → Bool) (page es : List Entry) → length page ≤ length (longest fit page es)
longest_more fit page [] = omega arith
longest_more fit page (e ∷ es) = go (fit (page ++ e ∷ [])) refl (longest_more fit (page ++ e ∷ []) es)
  where
    go : (b : Bool) → fit (page ++ e ∷ []) ≡ b → length (page ++ e ∷ []) ≤ length (longest fit (page ++ e ∷ []) es) → length page ≤ length (longest fit page (e ∷ es))
    go true k ih = rw k (omega (arith, ih, length-append page (e ∷ [])))
    go false k ih = rw k (omega arith)

-- where a page fits, so does the empty one
empty_fits : (a : Allowed) (entries bytes : ℕ) → size_fits_in a entries bytes ≡ true → fits_in a [] ≡ true
empty_fits (Names count) entries bytes fit = le-leb (empty_page_size + 0) (max_page_bytes count) (omega (arith, leb-true (empty_page_size + bytes) (max_page_bytes count) fit))
empty_fits (NamesPlus dircount maxcount) entries bytes fit =
    let whole = and_parts (nat_le (empty_page_size + (bytes + 112 * entries)) (max_page_bytes maxcount)) (nat_le entries 1 || nat_le bytes dircount) fit in
    let small : nat_le (empty_page_size + 0) (max_page_bytes maxcount) ≡ true = le-leb (empty_page_size + 0) (max_page_bytes maxcount) (omega (arith, leb-true (empty_page_size + (bytes + 112 * entries)) (max_page_bytes maxcount) whole.0)) in
    rw small refl

-- where an entry was put on a page, the page of all that is left is not too small
pub not_too_small : (a : Allowed) (page left : List Entry) (e : Entry) (es : List Entry) (entries bytes : ℕ) → size_fits_in a entries bytes ≡ true
    → longest (fits_in a) (page ++ e ∷ []) es ≡ longest (fits_in a) [] left → is_too_small (fits_in a) left ≡ false
not_too_small a page left e es entries bytes fit same =
    let whole : List Entry = longest (fits_in a) [] left in
    let some : 1 ≤ length whole = omega (arith, ap length same, longest_more (fits_in a) (page ++ e ∷ []) es, length-append page (e ∷ [])) in
    rw (empty_fits a entries bytes fit) (go (length left == 0) (length whole) some)
  where
    go : (b : Bool) (n : ℕ) → 1 ≤ n → (not b && n == 0) ≡ false
    go true n some = refl
    go false n some = ne_eqb n 0 (λ none. omega (arith, none, some))

-- at an error, a fact of it
pub on_err : {X E P : Type 0} (r : Result X E) → P → OnErr r P
on_err (Ok x) p = tt
on_err (Err e) p = p
