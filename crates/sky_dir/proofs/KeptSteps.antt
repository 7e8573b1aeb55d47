-- What the calls do to the two maps.
use Rattle.std.proofs.Common.{◌≡◌, ℕ, ◌+◌, ◌<◌, ◌≤◌, List, [], ◌∷◌, ◌++◌, map, Option, Some, None, Vec, append_assoc, refl, ap, sym, ◌∙◌, subst, arith, true, false, cond}
use Rattle.std.specs.Prelude.{find, option_map, is_some}
use Rattle.std.specs.BTreeMap.{BTreeMap, insert_entry, is_at}
use Rattle.std.specs.Cmp.Lexicographic.{slice_cmp}
use Rattle.std.specs.Map.{lookup, remove_entry, update}
use Rattle.std.specs.Ordering.{nat_cmp}
use Rattle.std.specs.Str.{bytes_eq}
use Rattle.std.specs.declared.alloc.Global.{Global}
use Rattle.std.proofs.lemmas.List.{map-append}
use Rattle.std.proofs.lemmas.Option.{same_Some}
use Rattle.sky_base.specs.Limits.{max_cookie}
use Rattle.sky_base.specs.Listing.{Entry, without_name}
use Rattle.sky_dir.specs.declared.indexed.Item.{Item}
use Rattle.sky_dir.specs.Items.{item_entry}
use Rattle.sky_dir.specs.Kept.{IsKept, IsIndexed, cookie_at}
use Rattle.sky_dir.specs.Orderly.{AscendsBelow, NamesDiffer, Indexes}
use Rattle.sky_dir.specs.Rows.{entry_of, has_name}
use Rattle.sky_dir.proofs.OrderlyLemmas.{all_from_none, none_from_all, differ_before, above_behind, ascends_push, ascends_wider, ascends_without, below_from_ascends, differ_push, differ_without, indexes_push, indexes_without, indexes_same}
use Rattle.sky_dir.proofs.KeptLemmas.{insert_first, insert_last, remove_last, found_item, IsFound}

pub none_of_map : {A B : Type 0} (f : A → B) (o : Option A) → option_map f o ≡ None → o ≡ None
none_of_map f None h = refl
none_of_map f (Some x) h = cc

some_of_map : (c : ℕ) (o : Option Entry) → Some c ≡ option_map (λ (e : Entry). e.cookie) o → (e : Entry) × (o ≡ Some e) × (e.cookie ≡ c)
some_of_map c None h = cc
some_of_map c (Some e) h = (e, refl, sym (same_Some c e.cookie h))

pub without_none : (name : List ℕ) (es : List Entry) → find (has_name name) es ≡ None → without_name es name ≡ es
without_none name [] h = refl
without_none name (e ∷ es) h =
    (elim (bytes_eq e.name name) as (λ b. cond b (Some e) (find (has_name name) es) ≡ None → cond b es (e ∷ without_name es name) ≡ e ∷ es)
    [ true ↦ λ g. cc | false ↦ λ g. ap (λ ds. e ∷ ds) (without_none name es g) ]) h

-- where the index has a cookie for a name, the map has the name's entry there
pub record IsThere (name : List ℕ) (items : List (ℕ × Item)) (cookie : ℕ) : Type 0 where
  pub entry : Entry
  pub is : find (has_name name) (map item_entry items) ≡ Some entry
  pub stands_at : entry.cookie ≡ cookie
  pub fileid : option_map (λ v. v.fileid) (lookup (is_at (nat_cmp cookie)) items) ≡ option_map (λ (e : Entry). e.fileid) (find (has_name name) (map item_entry items))
  pub without : map item_entry (remove_entry (is_at (nat_cmp cookie)) items) ≡ without_name (map item_entry items) name

pub there_from_index : (items : List (ℕ × Item)) (index : BTreeMap (Vec ℕ Global) ℕ) (next : ℕ) → IsKept items index next → (name : List ℕ) (cookie : ℕ) → Some cookie ≡ cookie_at index name → IsThere name items cookie
there_from_index items index next kept name cookie h =
    let e = some_of_map cookie (find (has_name name) (map item_entry items)) (h ∙ kept.indexed name) in
    let f : IsFound name items e.0 = found_item name items next e.0 kept.ascends e.1 in
    let g : (option_map (λ (v : Item). v.fileid) (lookup (is_at (nat_cmp cookie)) items) ≡ Some e.0.fileid) × (map item_entry (remove_entry (is_at (nat_cmp cookie)) items) ≡ without_name (map item_entry items) name) =
    subst (λ k. (option_map (λ (v : Item). v.fileid) (lookup (is_at (nat_cmp k)) items) ≡ Some e.0.fileid) × (map item_entry (remove_entry (is_at (nat_cmp k)) items) ≡ without_name (map item_entry items) name)) e.2 f in
    record { entry = e.0; is = e.1; stands_at = e.2; fileid = g.0 ∙ sym (ap (option_map (λ (d : Entry). d.fileid)) e.1); without = g.1 }

-- where it has none, no entry has the name
pub none_from_index : (items : List (ℕ × Item)) (index : BTreeMap (Vec ℕ Global) ℕ) (next : ℕ) → IsKept items index next → (name : List ℕ) → None ≡ cookie_at index name
    → find (has_name name) (map item_entry items) ≡ None
none_from_index items index next kept name h = none_of_map (λ (e : Entry). e.cookie) (find (has_name name) (map item_entry items)) (sym (h ∙ kept.indexed name))

-- one entry more, which goes last
pub kept_with : (items : List (ℕ × Item)) (index : BTreeMap (Vec ℕ Global) ℕ) (next : ℕ) → IsKept items index next → (v : Item) → next < max_cookie → find (has_name v.name) (map item_entry items) ≡ None
    → (more : List (ℕ × Item)) → more ≡ insert_entry nat_cmp items next v → (other : BTreeMap (Vec ℕ Global) ℕ) → ((q : List ℕ) → cookie_at other q ≡ update bytes_eq (cookie_at index) v.name (Some next) q)
    → IsKept more other (next + 1) × (map item_entry more ≡ map item_entry items ++ item_entry (next, v) ∷ [])
kept_with items index next kept v room new more inserted other updated =
    let es = map item_entry items in
    let e = item_entry (next, v) in
    let last : more ≡ items ++ (next, v) ∷ [] = inserted ∙ insert_last items next v (below_from_ascends next es kept.ascends) in
    let shown : map item_entry more ≡ es ++ e ∷ [] = ap (map item_entry) last ∙ map-append item_entry items ((next, v) ∷ []) in (
      record {
        ascends = subst (AscendsBelow (next + 1)) (sym shown) (ascends_push next (next + 1) es e kept.ascends (omega arith) (omega arith));
        differ = subst NamesDiffer (sym shown) (differ_push es e kept.differ (all_from_none v.name es new));
        indexed = subst (Indexes (cookie_at other)) (sym shown) (indexes_same _ _ _ updated (indexes_push (cookie_at index) es e kept.indexed new));
        bound = omega arith;
      },
      shown,
    )

-- one entry less
pub kept_without : (items : List (ℕ × Item)) (index : BTreeMap (Vec ℕ Global) ℕ) (next : ℕ) → IsKept items index next → (name : List ℕ) (cookie : ℕ) → Some cookie ≡ cookie_at index name
    → (less : List (ℕ × Item)) → less ≡ remove_entry (is_at (nat_cmp cookie)) items → (other : BTreeMap (Vec ℕ Global) ℕ) → ((q : List ℕ) → cookie_at other q ≡ update bytes_eq (cookie_at index) name None q)
    → IsKept less other next
kept_without items index next kept name cookie h less removed other updated =
    let es = map item_entry items in
    let shown : map item_entry less ≡ without_name es name = ap (map item_entry) removed ∙ (there_from_index items index next kept name cookie h).without in
    record {
      ascends = subst (AscendsBelow next) (sym shown) (ascends_without next name es kept.ascends);
      differ = subst NamesDiffer (sym shown) (differ_without name es kept.differ);
      indexed = subst (Indexes (cookie_at other)) (sym shown) (indexes_same _ _ _ updated (indexes_without (cookie_at index) es name kept.indexed kept.differ));
      bound = kept.bound;
    }

-- an entry that was put in and taken out again
pub kept_back : (items : List (ℕ × Item)) (index : BTreeMap (Vec ℕ Global) ℕ) (next : ℕ) → IsKept items index next → (v : Item) (more less : List (ℕ × Item)) → more ≡ insert_entry nat_cmp items next v
    → less ≡ remove_entry (is_at (nat_cmp next)) more → less ≡ items
kept_back items index next kept v more less inserted removed =
    let below = below_from_ascends next (map item_entry items) kept.ascends in
    removed ∙ ap (remove_entry (is_at (nat_cmp next))) (inserted ∙ insert_last items next v below) ∙ remove_last items next v below

pub kept_same : (items less : List (ℕ × Item)) (index other : BTreeMap (Vec ℕ Global) ℕ) (next : ℕ) → IsKept items index next → less ≡ items → other.entries ≡ index.entries → IsKept less other next
kept_same items less index other next kept same unchanged =
    let again : IsKept items other next = record {
      ascends = kept.ascends;
      differ = kept.differ;
      indexed = indexes_same (cookie_at index) (cookie_at other) _ (λ q. ap (lookup (is_at (λ (k : Vec ℕ Global). slice_cmp nat_cmp q k.items))) unchanged) kept.indexed;
      bound = kept.bound;
    } in
    subst (λ l. IsKept l other next) (sym same) again

-- the index of one row more
pub indexed_more : (es : List Entry) (index other : BTreeMap (Vec ℕ Global) ℕ) (least : ℕ) → IsIndexed es index least → (e : Entry) → least ≤ e.cookie → None ≡ cookie_at index e.name
    → ((q : List ℕ) → cookie_at other q ≡ update bytes_eq (cookie_at index) e.name (Some e.cookie) q) → IsIndexed (es ++ e ∷ []) other (e.cookie + 1)
indexed_more es index other least have e low new updated =
    let none : find (has_name e.name) es ≡ None = none_of_map (λ (f : Entry). f.cookie) (find (has_name e.name) es) (sym (new ∙ have.indexed e.name)) in
    record {
      ascends = ascends_push least (e.cookie + 1) es e have.ascends low (omega arith);
      differ = differ_push es e have.differ (all_from_none e.name es none);
      indexed = indexes_same _ _ _ updated (indexes_push (cookie_at index) es e have.indexed none);
    }

-- the last of the rows that are left goes first in the map
pub items_more : (n : ℕ) (all : List Entry) (rows : List (ℕ × List ℕ × ℕ)) (row : ℕ × List ℕ × ℕ) (items more : List (ℕ × Item)) → AscendsBelow n all
    → map entry_of (rows ++ row ∷ []) ++ map item_entry items ≡ all → more ≡ insert_entry nat_cmp items row.0 (record { name = row.1; fileid = row.2 })
    → map entry_of rows ++ map item_entry more ≡ all
items_more n all rows row items more ascends before inserted =
    let split : map entry_of rows ++ entry_of row ∷ map item_entry items ≡ all =
    sym (append_assoc (map entry_of rows) (entry_of row ∷ []) (map item_entry items)) ∙ ap (λ es. es ++ map item_entry items) (sym (map-append entry_of rows (row ∷ []))) ∙ before in
    let above = above_behind n (map entry_of rows) (entry_of row) (map item_entry items) (subst (AscendsBelow n) (sym split) ascends) in
    ap (λ l. map entry_of rows ++ map item_entry l) (inserted ∙ insert_first items row.0 (record { name = row.1; fileid = row.2 }) above) ∙ split

pub indexed_wider : (es : List Entry) (index : BTreeMap (Vec ℕ Global) ℕ) (n m : ℕ) → n ≤ m → IsIndexed es index n → IsIndexed es index m
indexed_wider es index n m le h = record { ascends = ascends_wider n m es le h.ascends; differ = h.differ; indexed = h.indexed }

pub none_when_not_some : {A : Type 0} (o : Option A) → is_some o ≡ false → o ≡ None
none_when_not_some None h = refl
none_when_not_some (Some x) h = cc

-- a name that the index has already stands twice
pub twice_not_orderly : (es : List Entry) (index : BTreeMap (Vec ℕ Global) ℕ) (least : ℕ) → IsIndexed es index least → (e : Entry) (later : List Entry) → is_some (cookie_at index e.name) ≡ true
    → NamesDiffer (es ++ e ∷ later) → ⊥
twice_not_orderly es index least have e later had differ =
    let none : find (has_name e.name) es ≡ None = none_from_all e.name es (differ_before es e later differ) in
    let found : is_some (cookie_at index e.name) ≡ false = ap is_some (have.indexed e.name ∙ ap (option_map (λ (f : Entry). f.cookie)) none) in
    cc
