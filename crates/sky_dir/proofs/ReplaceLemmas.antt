-- What it does to the maps, to the rows and to the size that an entry goes and another one of its name comes.
use Rattle.std.proofs.Common.{◌≡◌, ℕ, ◌+◌, ◌<◌, ◌≤◌, suc, Bool, true, false, cond, List, [], ◌∷◌, ◌++◌, length, map, take, drop, Option, Some, None, Vec, append_assoc, refl, ap, sym, ◌∙◌, subst, arith}
use Rattle.std.specs.Prelude.{find, remove}
use Rattle.std.specs.BTreeMap.{BTreeMap, insert_entry, is_at}
use Rattle.std.specs.Map.{remove_entry, update}
use Rattle.std.specs.Ordering.{nat_cmp}
use Rattle.std.specs.Str.{bytes_eq}
use Rattle.std.specs.declared.alloc.Global.{Global}
use Rattle.std.proofs.lemmas.List.{map-append, take-append-le, drop-append-le}
use Rattle.std.proofs.lemmas.List.Sums.{sum_by-append, sum_by-cons}
use Rattle.sky_base.specs.Limits.{max_cookie}
use Rattle.sky_base.specs.Listing.{Entry, Listing, fileid_at, size_of_listing, size_of_name, with_entry, without_entry, without_name}
use Rattle.sky_dir.specs.declared.indexed.Item.{Item}
use Rattle.sky_dir.specs.Items.{item_entry}
use Rattle.sky_dir.specs.Kept.{IsKept, cookie_at}
use Rattle.sky_dir.specs.Orderly.{AscendsBelow, NamesDiffer, Indexes}
use Rattle.sky_dir.specs.Rows.{entry_of, has_name}
use Rattle.sky_dir.proofs.KeptLemmas.{insert_last}
use Rattle.sky_dir.proofs.KeptSteps.{there_from_index, none_from_index, without_none, kept_with}
use Rattle.sky_dir.proofs.OrderlyLemmas.{all_found, all_from_none, ascends_push, ascends_without, below_from_ascends, differ_push, differ_without, find_gone, indexes_push, indexes_same, indexes_without}
use Rattle.sky_dir.proofs.SizeLemmas.{size_falls, size_stays}

-- ---- the maps

-- what is not the last entry goes from what stands before it
pub remove_before : (test : ℕ → Bool) (items : List (ℕ × Item)) (c : ℕ) (v : Item) → test c ≡ false → remove_entry test (items ++ (c, v) ∷ []) ≡ remove_entry test items ++ (c, v) ∷ []
remove_before test [] c v h = rw h refl
remove_before test (e ∷ items) c v h =
    elim (test e.0) as (λ b. cond b (items ++ (c, v) ∷ []) (e ∷ remove_entry test (items ++ (c, v) ∷ [])) ≡ cond b items (e ∷ remove_entry test items) ++ (c, v) ∷ [])
    [ true ↦ refl | false ↦ ap (λ es. e ∷ es) (remove_before test items c v h) ]

not_at_higher : (c k : ℕ) → c < k → is_at (nat_cmp c) k ≡ false
not_at_higher c k h = let ne : c ≡ k → ⊥ = λ e. omega arith in grind arith

-- two changes of an index at one name are the last one
updated_twice : (at : List ℕ → Option ℕ) (name : List ℕ) (v w : Option ℕ) (q : List ℕ) → update bytes_eq at name w q ≡ update bytes_eq (update bytes_eq at name v) name w q
updated_twice at name v w q = elim (bytes_eq name q) as (λ b. cond b w (at q) ≡ cond b w (cond b v (at q))) [ true ↦ refl | false ↦ refl ]

-- the maps after an entry was put in under the next cookie, and what the index had at its name was taken out
pub record IsReplaced (items more : List (ℕ × Item)) (other : BTreeMap (Vec ℕ Global) ℕ) (next : ℕ) (v : Item) : Type 0 where
  pub kept : IsKept more other (next + 1)
  pub shown : map item_entry more ≡ without_name (map item_entry items) v.name ++ item_entry (next, v) ∷ []

pub replaced_some : (items : List (ℕ × Item)) (index : BTreeMap (Vec ℕ Global) ℕ) (next : ℕ) → IsKept items index next → (v : Item) → next < max_cookie → (old : ℕ) → Some old ≡ cookie_at index v.name
    → (more less : List (ℕ × Item)) → more ≡ insert_entry nat_cmp items next v → less ≡ remove_entry (is_at (nat_cmp old)) more
    → (other : BTreeMap (Vec ℕ Global) ℕ) → ((q : List ℕ) → cookie_at other q ≡ update bytes_eq (cookie_at index) v.name (Some next) q) → IsReplaced items less other next v
replaced_some items index next kept v room old h more less inserted removed other updated =
    let es = map item_entry items in
    let e = item_entry (next, v) in
    let rest = without_name es v.name in
    let there = there_from_index items index next kept v.name old h in
    let below = below_from_ascends next es kept.ascends in
    let found : there.entry.cookie < next = all_found (λ f. f.cookie < next) (has_name v.name) es there.entry below there.is in
    let low : old < next = omega (arith, found, there.stands_at) in
    let last : less ≡ remove_entry (is_at (nat_cmp old)) items ++ (next, v) ∷ [] =
    removed ∙ ap (remove_entry (is_at (nat_cmp old))) (inserted ∙ insert_last items next v below) ∙ remove_before (is_at (nat_cmp old)) items next v (not_at_higher old next low) in
    let shown : map item_entry less ≡ rest ++ e ∷ [] =
    ap (map item_entry) last ∙ map-append item_entry (remove_entry (is_at (nat_cmp old)) items) ((next, v) ∷ []) ∙ ap (λ l. l ++ e ∷ []) there.without in
    let gone : find (has_name v.name) rest ≡ None = find_gone v.name es kept.differ in
    record {
      kept = record {
        ascends = subst (AscendsBelow (next + 1)) (sym shown) (ascends_push next (next + 1) rest e (ascends_without next v.name es kept.ascends) (omega arith) (omega arith));
        differ = subst NamesDiffer (sym shown) (differ_push rest e (differ_without v.name es kept.differ) (all_from_none v.name rest gone));
        indexed = subst (Indexes (cookie_at other)) (sym shown)
            (indexes_same _ _ _ (λ q. updated q ∙ updated_twice (cookie_at index) v.name None (Some next) q) (indexes_push (update bytes_eq (cookie_at index) v.name None) rest e (indexes_without (cookie_at index) es v.name kept.indexed kept.differ) gone));
        bound = omega arith;
      };
      shown = shown;
    }

pub replaced_none : (items : List (ℕ × Item)) (index : BTreeMap (Vec ℕ Global) ℕ) (next : ℕ) → IsKept items index next → (v : Item) → next < max_cookie → None ≡ cookie_at index v.name
    → (more : List (ℕ × Item)) → more ≡ insert_entry nat_cmp items next v
    → (other : BTreeMap (Vec ℕ Global) ℕ) → ((q : List ℕ) → cookie_at other q ≡ update bytes_eq (cookie_at index) v.name (Some next) q) → IsReplaced items more other next v
replaced_none items index next kept v room h more inserted other updated =
    let es = map item_entry items in
    let absent : find (has_name v.name) es ≡ None = none_from_index items index next kept v.name h in
    let with = kept_with items index next kept v room absent more inserted other updated in
    record { kept = with.0; shown = with.1 ∙ ap (λ l. l ++ item_entry (next, v) ∷ []) (sym (without_none v.name es absent)) }

-- ---- the rows

-- a row goes and another one comes last, in either order
pub row_replaced : (rows : List (ℕ × List ℕ × ℕ)) (i : ℕ) (row : ℕ × List ℕ × ℕ) → i < length rows → map entry_of (remove (rows ++ row ∷ []) i) ≡ map entry_of (remove rows i) ++ entry_of row ∷ []
row_replaced rows i row lt =
    let before : take i (rows ++ row ∷ []) ≡ take i rows = take-append-le i rows (row ∷ []) (omega arith) in
    let behind : drop (suc i) (rows ++ row ∷ []) ≡ drop (suc i) rows ++ row ∷ [] = drop-append-le (suc i) rows (row ∷ []) (omega arith) in
    let both : remove (rows ++ row ∷ []) i ≡ remove rows i ++ row ∷ [] =
    ap (λ l. l ++ drop (suc i) (rows ++ row ∷ [])) before ∙ ap (λ l. take i rows ++ l) behind ∙ sym (append_assoc (take i rows) (drop (suc i) rows) (row ∷ [])) in
    ap (map entry_of) both ∙ map-append entry_of (remove rows i) (row ∷ [])

-- ---- the size

pub size_with_entry : (l : Listing) (name : List ℕ) (fileid : ℕ) → size_of_listing (with_entry l name fileid) ≡ size_of_listing l + size_of_name name
size_with_entry l name fileid =
    let e : Entry = record { cookie = l.next_cookie; name = name; fileid = fileid } in
    omega (arith, sum_by-append (λ (f : Entry). size_of_name f.name) l.entries (e ∷ []), sum_by-cons (λ (f : Entry). size_of_name f.name) e [])

-- no directory is larger without an entry
pub size_no_more : (l : Listing) (name : List ℕ) → size_of_listing (without_entry l name) ≤ size_of_listing l
size_no_more l name = go (fileid_at l name) refl
  where
    go : (o : Option ℕ) → o ≡ fileid_at l name → size_of_listing (without_entry l name) ≤ size_of_listing l
    go None h = omega (arith, ap size_of_listing (size_stays l name h))
    go (Some fileid) h = omega (arith, size_falls l name fileid h)
