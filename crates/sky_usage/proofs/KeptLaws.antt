-- Usage as it is kept, in a map of counts, against the usage that contracts see.
use Rattle.std.proofs.Common.{◌≡◌, ◌≢◌, ◌==◌, ℕ, ◌+◌, ◌≤◌, ◌<◌, min, Bool, true, false, cond, List, [], ◌∷◌, length, Option, Some, None, Ordering, IsTrue, T, refl, sym, ◌∙◌, ap, subst, arith}
use Rattle.std.specs.Prelude.{filter, sum_by, IfSome}
use Rattle.std.specs.declared.cmp.Ordering.TheVariants.{Less}
use Rattle.std.specs.Ordering.{eq_by_cmp, is_eq, is_lt}
use Rattle.std.specs.Cmp.{eq_by_cmp_equiv}
use Rattle.std.specs.List.{AllByRecursion}
use Rattle.std.specs.List.Sorted.{IsStrictlySortedBy}
use Rattle.std.specs.Map.{keys_of, lookup}
use Rattle.std.specs.BTreeMap.{BTreeMap, Updates, is_at}
use Rattle.std.specs.FinMap.{find, get, insert, remove, entries, empty, len, from_entries, from_sorted, is_sorted, get-from_entries, get-from_sorted, get-insert, get-remove, entries-from_sorted, len-entries, len-empty, empty_of_len, same_map}
use Rattle.std.specs.FinMap.Entries.{below_all}
use Rattle.std.proofs.lemmas.Bool.{and_from, eq-eqb, eqb-true, ne_eqb}
use Rattle.std.proofs.lemmas.Map.Views.{IfSome-lookup_from_All}
use Rattle.std.proofs.lemmas.List.Sums.{sum_by-cons}
use Rattle.sky_base.specs.declared.object.Dir.{Dir}
use Rattle.sky_base.specs.declared.object.SegName.{SegName}
use Rattle.sky_base.specs.Order.{name_order}
use Rattle.sky_base.proofs.OrderLaws.{name_cmp, name_cmp_is}
use Rattle.sky_usage.specs.Counts.{IsKept}
use Rattle.sky_usage.specs.LiveBytes.{HasNoZero, LiveBytes, is_of, max_counted, with_count}
use Rattle.sky_usage.proofs.CountLaws.{names_exact, names_total}

-- the counts that are kept, as contracts see them
abbrev pub usage_in : List (SegName × ℕ) → LiveBytes
usage_in counts = from_entries counts

-- what is found of a name
find_is : (es : List (SegName × ℕ)) (q : SegName) → find name_order q es ≡ lookup (is_at (name_order q)) es
find_is [] q = refl
find_is (e ∷ es) q = ap (cond (is_at (name_order q) e.0) (Some e.1)) (find_is es q)

pub get_in : (es : List (SegName × ℕ)) (q : SegName) → get (usage_in es) q ≡ lookup (is_at (name_cmp q)) es
get_in es q =
    get-from_entries names_total es q ∙ find_is es q ∙ ap (λ (cmp : SegName → SegName → Ordering). lookup (is_at (cmp q)) es) (sym name_cmp_is)

-- no zero is kept
positive : (o : Option ℕ) → IfSome o (λ n. 0 < n) → o ≢ Some 0
positive None h e = absurd cc
positive (Some n) h e = let none : n ≡ 0 = cc in absurd (omega arith)

pub HasNoZero-usage_in : (es : List (SegName × ℕ)) → IsKept es → HasNoZero (usage_in es)
HasNoZero-usage_in es kept q =
    subst (λ (o : Option ℕ). o ≢ Some 0) (sym (get_in es q)) (positive (lookup (is_at (name_cmp q)) es) (IfSome-lookup_from_All (λ n. 0 < n) (is_at (name_cmp q)) es kept))

-- a count that was set
updated : (m n : BTreeMap SegName ℕ) (k : SegName) (w : Option ℕ) → Updates name_cmp m n k w → (q : SegName) → get (usage_in n.entries) q ≡ cond (eq_by_cmp name_order q k) w (get (usage_in m.entries) q)
updated m n k w updates q =
    get_in n.entries q
    ∙ updates.0 q
    ∙ ap (λ (cmp : SegName → SegName → Ordering). cond (is_eq (cmp k q)) w (lookup (is_at (name_cmp q)) m.entries)) name_cmp_is
    ∙ ap (λ (b : Bool). cond b w (lookup (is_at (name_cmp q)) m.entries)) ((eq_by_cmp_equiv names_total).symm k q)
    ∙ ap (cond (eq_by_cmp name_order q k) w) (sym (get_in m.entries q))

pub counts_more : (m n : BTreeMap SegName ℕ) (k : SegName) (count : ℕ) → 0 < count → Updates name_cmp m n k (Some count) → usage_in n.entries ≡ with_count (usage_in m.entries) k count
counts_more m n k count some updates =
    same_map names_total names_exact (usage_in n.entries) (insert (usage_in m.entries) k count) (λ q. updated m n k (Some count) updates q ∙ sym (get-insert names_total (usage_in m.entries) k count q))
    ∙ ap (λ (b : Bool). cond b (remove (usage_in m.entries) k) (insert (usage_in m.entries) k count)) (sym (ne_eqb count 0 (λ e. omega arith)))

pub counts_none : (m n : BTreeMap SegName ℕ) (k : SegName) (count : ℕ) → count ≡ 0 → Updates name_cmp m n k None → usage_in n.entries ≡ with_count (usage_in m.entries) k count
counts_none m n k count is updates =
    same_map names_total names_exact (usage_in n.entries) (remove (usage_in m.entries) k) (λ q. updated m n k None updates q ∙ sym (get-remove names_total (usage_in m.entries) k q))
    ∙ ap (λ (b : Bool). cond b (remove (usage_in m.entries) k) (insert (usage_in m.entries) k count)) (sym (eq-eqb count 0 is))

-- the names in their order
below_is : (x : SegName) (es : List (SegName × ℕ)) → AllByRecursion (λ y. name_order x y ≡ Less) (keys_of es) → IsTrue (below_all name_order x es)
below_is x [] all = refl
below_is x (e ∷ es) all = and_from _ _ (subst (λ (o : Ordering). IsTrue (is_lt o)) (sym all.0) refl) (below_is x es all.1)

sorted_is : (es : List (SegName × ℕ)) → IsStrictlySortedBy name_order (keys_of es) → IsTrue (is_sorted name_order es)
unfolding IsStrictlySortedBy
sorted_is [] sorted = refl
sorted_is (e ∷ es) sorted = and_from _ _ (below_is e.0 es sorted.0) (sorted_is es sorted.1)

pub entries_in : (es : List (SegName × ℕ)) → IsStrictlySortedBy name_cmp (keys_of es) → entries (usage_in es) ≡ es
entries_in es sorted =
    let tested : T (is_sorted name_order es) =
    subst T (sym (sorted_is es (subst (λ (cmp : SegName → SegName → Ordering). IsStrictlySortedBy cmp (keys_of es)) name_cmp_is sorted))) tt in
    ap entries (same_map names_total names_exact (usage_in es) (from_sorted es) (λ q. get-from_entries names_total es q ∙ sym (get-from_sorted name_order es q tested)))
    ∙ entries-from_sorted name_order es tested

pub len_in : (es : List (SegName × ℕ)) → IsStrictlySortedBy name_cmp (keys_of es) → len (usage_in es) ≡ length es
len_in es sorted = len-entries (usage_in es) ∙ ap length (entries_in es sorted)

-- nothing is in use where there are no names
pub empty_of_none : (usage : LiveBytes) → len usage ≡ 0 → usage ≡ empty
empty_of_none usage none = empty_of_len usage none

pub none_of_empty : (usage : LiveBytes) → usage ≡ empty → len usage ≡ 0
none_of_empty usage is = ap len is ∙ len-empty name_order ℕ

-- the bytes of a directory, of the names that are left
abbrev pub total_in : Dir → List (SegName × ℕ) → ℕ
total_in dir es = sum_by (λ e. e.1) (filter (λ e. is_of dir e.0) es)

total_in-cons : (dir : Dir) (e : SegName × ℕ) (es : List (SegName × ℕ)) → total_in dir (e ∷ es) ≡ cond (is_of dir e.0) e.1 0 + total_in dir es
total_in-cons dir e es =
    elim (is_of dir e.0) as (λ b. sum_by (λ (f : SegName × ℕ). f.1) (cond b (e ∷ filter (λ f. is_of dir f.0) es) (filter (λ f. is_of dir f.0) es)) ≡ cond b e.1 0 + total_in dir es) [
      | true ↦ sum_by-cons (λ (f : SegName × ℕ). f.1) e (filter (λ f. is_of dir f.0) es)
      | false ↦ omega arith
    ]

step : (b : Bool) (t n rest most : ℕ) → t ≤ most → min (cond b (min (t + n) most) t + rest) most ≡ min (t + (cond b n 0 + rest)) most
step true t n rest most fits = omega arith
step false t n rest most fits = omega arith

pub total_step : (dir : Dir) (name : SegName) (t n : ℕ) (es : List (SegName × ℕ)) → t ≤ max_counted
    → min (cond (is_of dir name) (min (t + n) max_counted) t + total_in dir es) max_counted ≡ min (t + total_in dir ((name, n) ∷ es)) max_counted
total_step dir name t n es fits =
    step (is_of dir name) t n (total_in dir es) max_counted fits ∙ ap (λ (m : ℕ). min (t + m) max_counted) (sym (total_in-cons dir (name, n) es))

-- a number that is tested against 0
pub tested : (usage : LiveBytes) (n : ℕ) → n ≡ len usage → (IsTrue (n == 0) → usage ≡ empty) × (usage ≡ empty → IsTrue (n == 0))
tested usage n is = (λ zero. empty_of_none usage (sym is ∙ eqb-true n 0 zero), λ e. eq-eqb n 0 (is ∙ none_of_empty usage e))

pub total_end : (dir : Dir) (t all : ℕ) (es : List (SegName × ℕ)) → es ≡ [] → t ≤ max_counted → min (t + total_in dir es) max_counted ≡ all → t ≡ all
total_end dir t all es none fits is =
    at_end t max_counted fits ∙ ap (λ (l : List (SegName × ℕ)). min (t + total_in dir l) max_counted) (sym none) ∙ is
  where
    at_end : (t most : ℕ) → t ≤ most → t ≡ min (t + 0) most
    at_end t most fits = omega arith
