-- Lemmas on the two maps in which a directory is kept.
use Rattle.std.proofs.Common.{◌≡◌, ℕ, ◌<◌, Bool, true, false, cond, List, [], ◌∷◌, ◌++◌, map, Option, Some, refl, ap, sym, ◌∙◌, subst, arith}
use Rattle.std.specs.Prelude.{find, filter, nat_lt, nat_eq, option_map}
use Rattle.std.specs.BTreeMap.{BTreeMap, UpdatesBy, insert_entry, is_at}
use Rattle.std.specs.BTreeMap.Range.{entries_between}
use Rattle.std.specs.Cmp.{eq_by_cmp_equiv}
use Rattle.std.specs.Cmp.Lexicographic.{slice_cmp, nat_list_cmp_total}
use Rattle.std.specs.List.{AllByRecursion}
use Rattle.std.specs.Map.{lookup, remove_entry, update, KeepsOthers, IsKeyTest, AreApart}
use Rattle.std.specs.Ordering.{nat_cmp, is_eq}
use Rattle.std.specs.Str.{bytes_eq}
use Rattle.std.specs.Prelude.{Vec}
use Rattle.std.specs.declared.alloc.Global.{Global}
use Rattle.std.specs.declared.ops.Bound.TheVariants.{Excluded, Unbounded}
use Rattle.std.proofs.lemmas.Bool.{lt-ltb, le-ltb, ne_eqb, eq-eqb}
use Rattle.std.proofs.lemmas.Cmp.{nat_list_eq_equiv}
use Rattle.std.proofs.lemmas.Map.Text.{is_eq-slice_cmp}
use Rattle.std.proofs.lemmas.Option.{same_Some}
use Rattle.std.proofs.lemmas.Slice.Eq.{bytes_eq-Decides}
use Rattle.sky_base.specs.Listing.{Entry, without_name}
use Rattle.sky_dir.proofs.OrderlyLemmas.{all_found}
use Rattle.sky_dir.specs.declared.indexed.Item.{Item}
use Rattle.sky_dir.specs.Items.{item_entry}
use Rattle.sky_dir.specs.Kept.{cookie_at}
use Rattle.sky_dir.specs.Orderly.{AscendsBelow}
use Rattle.sky_dir.specs.Rows.{has_name}

-- ---- the map by cookies

is_at_itself : (c : ℕ) → is_at (nat_cmp c) c ≡ true
is_at_itself c = rw (le-ltb c c (omega arith), eq-eqb c c refl) refl

is_at_lower : (c k : ℕ) → k < c → is_at (nat_cmp c) k ≡ false
is_at_lower c k h =
    let ne : c ≡ k → ⊥ = λ e. omega arith in
    rw (le-ltb c k (omega arith), ne_eqb c k ne) refl

pub insert_last : (items : List (ℕ × Item)) (c : ℕ) (v : Item) → AllByRecursion (λ e. e.cookie < c) (map item_entry items)
    → insert_entry nat_cmp items c v ≡ items ++ (c, v) ∷ []
insert_last [] c v h = refl
insert_last (e ∷ items) c v h =
    let first : e.0 < c = h.0 in
    let ne : c ≡ e.0 → ⊥ = λ q. omega arith in
    rw (le-ltb c e.0 (omega arith), ne_eqb c e.0 ne) (ap (λ es. e ∷ es) (insert_last items c v h.1))

pub insert_first : (items : List (ℕ × Item)) (c : ℕ) (v : Item) → AllByRecursion (λ e. c < e.cookie) (map item_entry items)
    → insert_entry nat_cmp items c v ≡ (c, v) ∷ items
insert_first [] c v h = refl
insert_first (e ∷ items) c v h = let first : c < e.0 = h.0 in rw (lt-ltb c e.0 first) refl

pub remove_last : (items : List (ℕ × Item)) (c : ℕ) (v : Item) → AllByRecursion (λ e. e.cookie < c) (map item_entry items)
    → remove_entry (is_at (nat_cmp c)) (items ++ (c, v) ∷ []) ≡ items
remove_last [] c v h = rw (is_at_itself c) refl
remove_last (e ∷ items) c v h = let first : e.0 < c = h.0 in rw (is_at_lower c e.0 first) (ap (λ es. e ∷ es) (remove_last items c v h.1))

-- what the map has at the cookie of the entry that is found by name, and what it has without it
abbrev pub IsFound : List ℕ → List (ℕ × Item) → Entry → Type 0
IsFound name items e =
    (option_map (λ v. v.fileid) (lookup (is_at (nat_cmp e.cookie)) items) ≡ Some e.fileid)
    × (map item_entry (remove_entry (is_at (nat_cmp e.cookie)) items) ≡ without_name (map item_entry items) name)

found_more : (name : List ℕ) (d : ℕ × Item) (items : List (ℕ × Item)) (e : Entry) (b : Bool) → bytes_eq d.1.name name ≡ b
    → AllByRecursion (λ f. d.0 < f.cookie) (map item_entry items) → (find (has_name name) (map item_entry items) ≡ Some e → IsFound name items e)
    → cond b (Some (item_entry d)) (find (has_name name) (map item_entry items)) ≡ Some e → IsFound name (d ∷ items) e
found_more name d items e true w low more g =
    let here : IsFound name (d ∷ items) (item_entry d) = (rw (is_at_itself d.0) refl, rw (is_at_itself d.0, w) refl) in
    subst (IsFound name (d ∷ items)) (same_Some (item_entry d) e g) here
found_more name d items e false w low more g =
    let far : d.0 < e.cookie = all_found (λ f. d.0 < f.cookie) (has_name name) (map item_entry items) e low g in
    let not_here : is_at (nat_cmp e.cookie) d.0 ≡ false = is_at_lower e.cookie d.0 far in
    let rest = more g in
    (rw not_here rest.0, rw (not_here, w) (ap (λ es. item_entry d ∷ es) rest.1))

pub found_item : (name : List ℕ) (items : List (ℕ × Item)) (n : ℕ) (e : Entry) → AscendsBelow n (map item_entry items) → find (has_name name) (map item_entry items) ≡ Some e
    → IsFound name items e
found_item name [] n e h f = cc
found_item name (d ∷ items) n e h f = found_more name d items e (bytes_eq d.1.name name) refl h.0 (λ g. found_item name items n e h.2 g) f

-- the entries behind a cookie
pub entries_behind : (after : ℕ) (items : List (ℕ × Item)) → map item_entry (entries_between nat_cmp (Excluded after) Unbounded items) ≡ filter (λ e. nat_lt after e.cookie) (map item_entry items)
entries_behind after [] = refl
entries_behind after (d ∷ items) =
    (elim (nat_lt after d.0) as (λ b. nat_lt after d.0 ≡ b → map item_entry (entries_between nat_cmp (Excluded after) Unbounded (d ∷ items)) ≡ cond b (item_entry d ∷ filter (λ e. nat_lt after e.cookie) (map item_entry items)) (filter (λ e. nat_lt after e.cookie) (map item_entry items))) [
      | true ↦ λ w. rw w (ap (λ es. item_entry d ∷ es) (entries_behind after items))
      | false ↦ λ w. (elim (nat_eq after d.0) as (λ q. nat_eq after d.0 ≡ q → map item_entry (entries_between nat_cmp (Excluded after) Unbounded (d ∷ items)) ≡ filter (λ e. nat_lt after e.cookie) (map item_entry items))
          [ true ↦ λ v. rw (w, v) (entries_behind after items) | false ↦ λ v. rw (w, v) (entries_behind after items) ]) refl
    ]) refl

-- ---- the map by names

apart : (bs cs ks : List ℕ) → bytes_eq bs cs ≡ false → bytes_eq bs ks ≡ true → bytes_eq cs ks ≡ false
apart bs cs ks n y = nat_list_eq_equiv.symm cs ks ∙ sym (nat_list_eq_equiv.congr bs ks cs y) ∙ n

apart_in_order : (bs cs ks : List ℕ) → bytes_eq bs cs ≡ false → is_eq (slice_cmp nat_cmp bs ks) ≡ true → is_eq (slice_cmp nat_cmp cs ks) ≡ false
apart_in_order bs cs ks n y = is_eq-slice_cmp cs ks ∙ apart bs cs ks n (sym (is_eq-slice_cmp bs ks) ∙ y)

module _ {K X : Type 0} (eq : K → K → Bool) (test : K → Bool) where
  other_entries : (old new : List (K × X)) → KeepsOthers eq test old new → (other : K → Bool) → IsKeyTest eq other → AreApart test other → lookup other new ≡ lookup other old
  unfolding KeepsOthers
  other_entries old new h = h

-- what an index has at any name after a change at one
pub cookie_at-update : (name : List ℕ) (m n : BTreeMap (Vec ℕ Global) ℕ) (w : Option ℕ) → UpdatesBy (λ x y. slice_cmp nat_cmp x.items y.items) (λ k. slice_cmp nat_cmp name k.items) m n w
    → (q : List ℕ) → cookie_at n q ≡ update bytes_eq (cookie_at m) name w q
cookie_at-update name m n w h q =
    (elim (bytes_eq name q) as (λ b. bytes_eq name q ≡ b → cookie_at n q ≡ cond b w (cookie_at m q)) [
      | true ↦ λ y. subst (λ l. cookie_at n l ≡ w) ((bytes_eq-Decides name q).0 y) h.1
      | false ↦ λ y. other_entries _ _ _ _ h.3 _ (λ k l. (eq_by_cmp_equiv nat_list_cmp_total).congr q k.items l.items) (λ k. apart_in_order name q k.items y)
    ]) refl
