-- Objects in memory, as a map of them, against the entries of the map that holds them.
use Rattle.std.proofs.Common.{◌≡◌, ◌≢◌, ℕ, false, cond, List, [], ◌∷◌, map, Option, Some, None, Vec, Bor, All, Ordering, IsTrue, T, refl, sym, ◌∙◌, ap, subst, arith}
use Rattle.std.proofs.lemmas.List.{get_or-map, length-map}
use Rattle.std.specs.Option.{option_map, option_copied}
use Rattle.std.specs.declared.alloc.Global.{Global}
use Rattle.std.specs.declared.cmp.Ordering.TheVariants.{Less}
use Rattle.std.specs.Ordering.{is_lt}
use Rattle.std.specs.List.{AllByRecursion}
use Rattle.std.proofs.lemmas.Bool.{and_from}
use Rattle.std.specs.Map.{keys_of, lookup}
use Rattle.std.specs.List.Sorted.{IsStrictlySortedBy}
use Rattle.std.specs.BTreeMap.{BTreeMap, Updates, is_at}
use Rattle.std.specs.FinMap.{find, get, entries, from_sorted, is_sorted, get-from_entries, get-from_sorted, entries-from_sorted}
use Rattle.std.specs.FinMap.Entries.{below_all}
use Rattle.std.proofs.lemmas.Map.Made.{lookup-map_values}
use Rattle.sky_base.specs.declared.object.SegName.{SegName}
use Rattle.sky_outside.specs.declared.site.Held.{Held}
use Rattle.sky_outside.specs.CloudMap.{after_put, after_removal, held_of, listing}
use Rattle.sky_outside.proofs.CloudLaws.{names_total, same_objects, is_put, is_removal}
use Rattle.sky_base.specs.Order.{name_order}
use Rattle.sky_base.proofs.OrderLaws.{name_cmp, name_cmp_is, is_at-other}
use Rattle.sky_memory.specs.Objects.{map_of, pairs_of}

-- the names that are listed
names_listed : (es : List (SegName × Vec ℕ Global)) → map (λ (h : Held). h.name) (map held_of (pairs_of es)) ≡ keys_of es
names_listed [] = refl
names_listed (e ∷ es) = ap (λ (l : List SegName). e.0 ∷ l) (names_listed es)

pub names_of : (held : List Held) (objects : List (SegName × List ℕ)) (es : List (SegName × Vec ℕ Global)) → held ≡ map held_of objects → pairs_of es ≡ objects
    → map (λ (h : Held). h.name) held ≡ keys_of es
names_of held objects es listed seen =
    ap (λ (l : List Held). map (λ (h : Held). h.name) l) listed ∙ ap (λ (l : List (SegName × List ℕ)). map (λ (h : Held). h.name) (map held_of l)) (sym seen) ∙ names_listed es

-- what is found among objects
find_is : (objects : List (SegName × List ℕ)) (q : SegName) → find name_order q objects ≡ lookup (is_at (name_order q)) objects
find_is [] q = refl
find_is (e ∷ es) q = ap (cond (is_at (name_order q) e.0) (Some e.1)) (find_is es q)

-- and among those of a map's entries
pub get_in : (es : List (SegName × Vec ℕ Global)) (q : SegName) → get (map_of (pairs_of es)) q ≡ option_map (λ (v : Vec ℕ Global). v.items) (lookup (is_at (name_cmp q)) es)
get_in es q =
    get-from_entries names_total (pairs_of es) q
    ∙ find_is (pairs_of es) q
    ∙ lookup-map_values (λ (v : Vec ℕ Global). v.items) (is_at (name_order q)) es
    ∙ ap (λ (cmp : SegName → SegName → Ordering). option_map (λ (v : Vec ℕ Global). v.items) (lookup (is_at (cmp q)) es)) (sym name_cmp_is)

-- a look-up of a name passes each other name
passes : (name other : SegName) → other ≢ name → is_at (name_cmp name) other ≡ false
passes name other differ = subst (λ (cmp : SegName → SegName → Ordering). is_at (cmp name) other ≡ false) (sym name_cmp_is) (is_at-other name other differ)

-- names that ascend as the map compares them
pub ascend : (names : List SegName) → IsStrictlySortedBy name_cmp names → IsStrictlySortedBy name_order names
ascend names sorted = subst (λ (cmp : SegName → SegName → Ordering). IsStrictlySortedBy cmp names) name_cmp_is sorted

-- names that ascend, by the test of them
below_is : (x : SegName) (objects : List (SegName × List ℕ)) → AllByRecursion (λ y. name_order x y ≡ Less) (map (λ o. o.0) objects) → IsTrue (below_all name_order x objects)
below_is x [] all = refl
below_is x (e ∷ es) all = and_from _ _ (subst (λ (o : Ordering). IsTrue (is_lt o)) (sym all.0) refl) (below_is x es all.1)

sorted_is : (objects : List (SegName × List ℕ)) → IsStrictlySortedBy name_order (map (λ o. o.0) objects) → IsTrue (is_sorted name_order objects)
unfolding IsStrictlySortedBy
sorted_is [] sorted = refl
sorted_is (e ∷ es) sorted = and_from _ _ (below_is e.0 es sorted.0) (sorted_is es sorted.1)

-- the entries of the map of objects in the order of their names
entries_are : (objects : List (SegName × List ℕ)) → IsTrue (is_sorted name_order objects) → entries (map_of objects) ≡ objects
entries_are objects sorted =
    let tested : T (is_sorted name_order objects) = subst T (sym sorted) tt in
    ap entries (same_objects (map_of objects) (from_sorted objects) (λ q. get-from_entries names_total objects q ∙ sym (get-from_sorted name_order objects q tested)))
    ∙ entries-from_sorted name_order objects tested

names_in : (es : List (SegName × Vec ℕ Global)) → map (λ o. o.0) (pairs_of es) ≡ keys_of es
names_in [] = refl
names_in (e ∷ es) = ap (λ (l : List SegName). e.0 ∷ l) (names_in es)

-- what is listed of them
pub listing_is : (es : List (SegName × Vec ℕ Global)) (objects : List (SegName × List ℕ)) → pairs_of es ≡ objects → IsStrictlySortedBy name_cmp (keys_of es) → listing (map_of objects) ≡ map held_of objects
listing_is es objects seen sorted =
    let ordered : IsStrictlySortedBy name_order (map (λ o. o.0) objects) = subst (λ (l : List (SegName × List ℕ)). IsStrictlySortedBy name_order (map (λ o. o.0) l)) seen (subst (IsStrictlySortedBy name_order) (sym (names_in es)) (ascend (keys_of es) sorted)) in
    ap (map held_of) (entries_are objects (sorted_is objects ordered))

-- an object of a map is changed
changed_in : (m n : BTreeMap SegName (Vec ℕ Global)) (old new : List (SegName × List ℕ)) (name : SegName) (w : Option (Vec ℕ Global))
    → pairs_of m.entries ≡ old → pairs_of n.entries ≡ new → Updates name_cmp m n name w
    → (get (map_of new) name ≡ option_map (λ (v : Vec ℕ Global). v.items) w) × ((q : SegName) → q ≢ name → get (map_of new) q ≡ get (map_of old) q)
changed_in m n old new name w is_old is_new updates =
    let at : (l k : List (SegName × List ℕ)) → l ≡ k → (q : SegName) → get (map_of k) q ≡ get (map_of l) q = λ l k e q. ap (λ (o : List (SegName × List ℕ)). get (map_of o) q) (sym e) in (
      at _ _ is_new name ∙ get_in n.entries name ∙ ap (option_map (λ (v : Vec ℕ Global). v.items)) updates.1,
      λ q differ.
          at _ _ is_new q
          ∙ get_in n.entries q
          ∙ ap (option_map (λ (v : Vec ℕ Global). v.items)) (updates.2 q (passes name q differ))
          ∙ sym (get_in m.entries q)
          ∙ sym (at _ _ is_old q),
    )

pub put_in : (m n : BTreeMap SegName (Vec ℕ Global)) (old new : List (SegName × List ℕ)) (name : SegName) (v : Vec ℕ Global) (bytes : List ℕ)
    → pairs_of m.entries ≡ old → pairs_of n.entries ≡ new → Updates name_cmp m n name (Some v) → v.items ≡ bytes → map_of new ≡ after_put name bytes (map_of old)
put_in m n old new name v bytes is_old is_new updates is =
    let changed = changed_in m n old new name (Some v) is_old is_new updates in is_put (map_of old) (map_of new) name bytes (changed.0 ∙ ap Some is) changed.1

pub removed_in : (m n : BTreeMap SegName (Vec ℕ Global)) (old new : List (SegName × List ℕ)) (name : SegName)
    → pairs_of m.entries ≡ old → pairs_of n.entries ≡ new → Updates name_cmp m n name None → map_of new ≡ after_removal name (map_of old)
removed_in m n old new name is_old is_new updates =
    let changed = changed_in m n old new name None is_old is_new updates in is_removal (map_of old) (map_of new) name changed.0 changed.1

-- an object that was looked up, as contracts see it
pub object_seen : (r : Option (Bor (Vec ℕ Global))) → option_map (λ object. object.now.items) r ≡ option_map (λ (v : Vec ℕ Global). v.items) (option_copied r)
object_seen None = refl
object_seen (Some object) = refl

-- what holds of the names that are listed
pub All-names : (P : SegName → Type 0) (held : List Held) → All P (map (λ (h : Held). h.name) held) → All (λ h. P h.name) held
All-names P held all =
    λ k d below. subst P (get_or-map (λ (h : Held). h.name) held k d d.name below) (all k d.name (omega (arith, below, length-map held (λ (h : Held). h.name))))

-- what holds of the names of a map's entries holds of those of their pairs
names_alike : (es fs : List (SegName × Vec ℕ Global)) → pairs_of es ≡ pairs_of fs → keys_of es ≡ keys_of fs
names_alike es fs same = sym (names_in es) ∙ ap (map (λ o. o.0)) same ∙ names_in fs

pub All-pairs : (P : SegName → Type 0) (es fs : List (SegName × Vec ℕ Global)) → pairs_of es ≡ pairs_of fs → All P (keys_of fs) → All (λ o. P o.0) es
All-pairs P es fs same all =
    let alike : All P (keys_of es) = subst (All P) (sym (names_alike es fs same)) all in
    λ k d below. subst P (get_or-map (λ (o : SegName × Vec ℕ Global). o.0) es k d d.0 below) (alike k d.0 (omega (arith, below, length-map es (λ (o : SegName × Vec ℕ Global). o.0))))
