-- What is counted after a change, and the laws of usage.
use Rattle.std.proofs.Common.{◌≡◌, ◌≢◌, ◌==◌, ℕ, ◌+◌, ◌-◌, ◌≤◌, min, Bool, true, false, cond, List, [], ◌∷◌, Option, Some, None, Ordering, refl, sym, ◌∙◌, ap, subst, arith}
use Rattle.std.specs.Prelude.{filter, sum_by, unwrap_or}
use Rattle.std.specs.declared.cmp.Ordering.TheVariants.{Less, Equal, Greater}
use Rattle.std.specs.Ordering.{eq_by_cmp, is_eq}
use Rattle.std.specs.List.Sorted.{IsPermutation}
use Rattle.std.proofs.lemmas.List.Sorted.{sum_by-IsPermutation}
use Rattle.std.proofs.lemmas.List.Sums.{sum_by-cons}
use Rattle.std.proofs.lemmas.Bool.{eqb-true, eqb-false}
use Rattle.std.specs.Cmp.{IsTotalOrder, on_total, then_total, nat_cmp_total, bool_cmp_total}
use Rattle.std.specs.FinMap.{IsAntisymmetric, empty, get, insert, remove, get-empty, get-insert, get-remove, get_tied, same_map}
use Rattle.sky_base.specs.declared.object.SegName.{SegName}
use Rattle.sky_base.specs.declared.place.Location.{Location}
use Rattle.sky_base.specs.Order.{name_order, place_of_dir}
use Rattle.sky_base.proofs.OrderLaws.{exact_names}
use Rattle.sky_usage.specs.LiveBytes.{HasNoZero, LiveBytes, counted, lies_in, live_bytes, lowered, lowered_by_all, max_counted, name_of, raised, raised_by_all, with_count}

-- the order of names is total
pub names_total : IsTotalOrder name_order
names_total =
    then_total (on_total (λ (n : SegName). place_of_dir n.dir) nat_cmp_total)
    (then_total (on_total (λ (n : SegName). n.run) nat_cmp_total) (then_total (on_total (λ (n : SegName). n.seq) nat_cmp_total) (on_total (λ (n : SegName). n.last) bool_cmp_total)))

-- names that tie are the same
pub names_exact : IsAntisymmetric name_order
names_exact a b e = exact_names a b e

-- what is found after a count was set
found_of : (b : Bool) (n : ℕ) (old : Option ℕ) → Option ℕ
found_of b n old = cond b (cond (n == 0) None (Some n)) old

get-with_count : (usage : LiveBytes) (k : SegName) (n : ℕ) (q : SegName) → get (with_count usage k n) q ≡ found_of (eq_by_cmp name_order q k) n (get usage q)
unfolding found_of
get-with_count usage k n q =
    elim (n == 0) as (λ z. get (cond z (remove usage k) (insert usage k n)) q ≡ cond (eq_by_cmp name_order q k) (cond z None (Some n)) (get usage q)) [
      | true ↦ get-remove names_total usage k q
      | false ↦ get-insert names_total usage k n q
    ]

-- a count of none is 0
count_found : (n : ℕ) → unwrap_or (cond (n == 0) None (Some n)) 0 ≡ n
count_found n =
    elim (n == 0) as (λ z. (n == 0) ≡ z → unwrap_or (cond z None (Some n)) 0 ≡ n) [
      | true ↦ λ e. sym (eqb-true n 0 e)
      | false ↦ λ e. refl
    ] refl

counted_found : (b : Bool) (n : ℕ) (old : Option ℕ) → unwrap_or (found_of b n old) 0 ≡ cond b n (unwrap_or old 0)
unfolding found_of
counted_found true n old = count_found n
counted_found false n old = refl

pub counted-with_count : (usage : LiveBytes) (k : SegName) (n : ℕ) (q : SegName) → counted (with_count usage k n) q ≡ cond (eq_by_cmp name_order q k) n (counted usage q)
counted-with_count usage k n q = ap (λ (o : Option ℕ). unwrap_or o 0) (get-with_count usage k n q) ∙ counted_found (eq_by_cmp name_order q k) n (get usage q)

-- no zero is left
no_zero_found : (n : ℕ) → cond (n == 0) None (Some n) ≢ Some 0
no_zero_found n =
    elim (n == 0) as (λ z. (n == 0) ≡ z → cond z None (Some n) ≢ Some 0) [
      | true ↦ λ e is. absurd cc
      | false ↦ λ e is. eqb-false n 0 e (ap (λ (o : Option ℕ). unwrap_or o 0) is)
    ] refl

found_no_zero : (b : Bool) (n : ℕ) (old : Option ℕ) → old ≢ Some 0 → found_of b n old ≢ Some 0
unfolding found_of
found_no_zero true n old differs = no_zero_found n
found_no_zero false n old differs = differs

pub HasNoZero-with_count : (usage : LiveBytes) (k : SegName) (n : ℕ) → HasNoZero usage → HasNoZero (with_count usage k n)
HasNoZero-with_count usage k n none q =
    subst (λ (o : Option ℕ). o ≢ Some 0) (sym (get-with_count usage k n q)) (found_no_zero (eq_by_cmp name_order q k) n (get usage q) (none q))

pub HasNoZero-raised_by_all : (usage : LiveBytes) (all : List Location) → HasNoZero usage → HasNoZero (raised_by_all usage all)
HasNoZero-raised_by_all usage [] none = none
HasNoZero-raised_by_all usage (at ∷ all) none = HasNoZero-raised_by_all (raised usage at) all (HasNoZero-with_count usage (name_of at) _ none)

pub HasNoZero-lowered_by_all : (usage : LiveBytes) (all : List Location) → HasNoZero usage → HasNoZero (lowered_by_all usage all)
HasNoZero-lowered_by_all usage [] none = none
HasNoZero-lowered_by_all usage (at ∷ all) none = HasNoZero-lowered_by_all (lowered usage at) all (HasNoZero-with_count usage (name_of at) _ none)

-- usage that counts alike is the same
option_same : (a b : Option ℕ) → a ≢ Some 0 → b ≢ Some 0 → unwrap_or a 0 ≡ unwrap_or b 0 → a ≡ b
option_same None None p q e = refl
option_same None (Some n) p q e = absurd (q (ap Some (sym e)))
option_same (Some m) None p q e = absurd (p (ap Some e))
option_same (Some m) (Some n) p q e = ap Some e

pub same_usage : (m n : LiveBytes) → HasNoZero m → HasNoZero n → ((q : SegName) → counted m q ≡ counted n q) → m ≡ n
same_usage m n no_m no_n is = same_map names_total names_exact m n (λ q. option_same (get m q) (get n q) (no_m q) (no_n q) (is q))

-- a name that ties with another counts what that counts
counted_tied : (usage : LiveBytes) (q k : SegName) (f : ℕ → ℕ) (b : Bool) → eq_by_cmp name_order q k ≡ b → cond b (f (counted usage k)) (counted usage q) ≡ cond b (f (counted usage q)) (counted usage q)
counted_tied usage q k f true e = ap (λ (o : Option ℕ). f (unwrap_or o 0)) (get_tied names_total usage q k (tied (name_order q k) e))
  where
    tied : (o : Ordering) → is_eq o ≡ true → o ≡ Equal
    tied Less e = absurd cc
    tied Equal e = refl
    tied Greater e = absurd cc
counted_tied usage q k f false e = refl

pub counted-raised : (usage : LiveBytes) (at : Location) (q : SegName) → counted (raised usage at) q ≡ cond (lies_in q at) (min (counted usage q + at.length) max_counted) (counted usage q)
counted-raised usage at q = counted-with_count usage (name_of at) _ q ∙ counted_tied usage q (name_of at) (λ n. min (n + at.length) max_counted) _ refl

pub counted-lowered : (usage : LiveBytes) (at : Location) (q : SegName) → counted (lowered usage at) q ≡ cond (lies_in q at) (counted usage q - at.length) (counted usage q)
counted-lowered usage at q = counted-with_count usage (name_of at) _ q ∙ counted_tied usage q (name_of at) (λ n. n - at.length) _ refl

-- one location more
pub live_bytes-cons : (at : Location) (all : List Location) (q : SegName) → live_bytes (at ∷ all) q ≡ cond (lies_in q at) at.length 0 + live_bytes all q
live_bytes-cons at all q =
    elim (lies_in q at) as (λ b. sum_by (λ (l : Location). l.length) (cond b (at ∷ filter (lies_in q) all) (filter (lies_in q) all)) ≡ cond b at.length 0 + live_bytes all q) [
      | true ↦ sum_by-cons (λ (l : Location). l.length) at (filter (lies_in q) all)
      | false ↦ omega arith
    ]

-- raising within the most, and then more
raise_step : (b : Bool) (c l s most : ℕ) → c ≤ most → min (cond b (min (c + l) most) c + s) most ≡ min (c + (cond b l 0 + s)) most
raise_step true c l s most fits = omega arith
raise_step false c l s most fits = omega arith

raise_bound : (b : Bool) (c l most : ℕ) → c ≤ most → cond b (min (c + l) most) c ≤ most
raise_bound true c l most fits = omega arith
raise_bound false c l most fits = fits

pub counted-raised_by_all : (usage : LiveBytes) (all : List Location) (q : SegName) → counted usage q ≤ max_counted → counted (raised_by_all usage all) q ≡ min (counted usage q + live_bytes all q) max_counted
counted-raised_by_all usage [] q fits = no_more (counted usage q) max_counted fits
  where
    no_more : (c most : ℕ) → c ≤ most → c ≡ min (c + 0) most
    no_more c most fits = omega arith
counted-raised_by_all usage (at ∷ all) q fits =
    let here : counted (raised usage at) q ≡ cond (lies_in q at) (min (counted usage q + at.length) max_counted) (counted usage q) = counted-raised usage at q in
    let bound : counted (raised usage at) q ≤ max_counted = subst (λ (n : ℕ). n ≤ max_counted) (sym here) (raise_bound (lies_in q at) (counted usage q) at.length max_counted fits) in
    counted-raised_by_all (raised usage at) all q bound
    ∙ ap (λ (n : ℕ). min (n + live_bytes all q) max_counted) here
    ∙ raise_step (lies_in q at) (counted usage q) at.length (live_bytes all q) max_counted fits
    ∙ ap (λ (n : ℕ). min (counted usage q + n) max_counted) (sym (live_bytes-cons at all q))

lower_step : (b : Bool) (c l s : ℕ) → cond b (c - l) c - s ≡ c - (cond b l 0 + s)
lower_step true c l s = omega arith
lower_step false c l s = omega arith

pub counted-lowered_by_all : (usage : LiveBytes) (all : List Location) (q : SegName) → counted (lowered_by_all usage all) q ≡ counted usage q - live_bytes all q
counted-lowered_by_all usage [] q = none_off (counted usage q)
  where
    none_off : (c : ℕ) → c ≡ c - 0
    none_off c = omega arith
counted-lowered_by_all usage (at ∷ all) q =
    counted-lowered_by_all (lowered usage at) all q
    ∙ ap (λ (n : ℕ). n - live_bytes all q) (counted-lowered usage at q)
    ∙ lower_step (lies_in q at) (counted usage q) at.length (live_bytes all q)
    ∙ ap (λ (n : ℕ). counted usage q - n) (sym (live_bytes-cons at all q))

-- the sum doesn't go by the order
weight : SegName → Location → ℕ
weight q at = cond (lies_in q at) at.length 0

weighed : (all : List Location) (q : SegName) → live_bytes all q ≡ sum_by (weight q) all
unfolding weight
weighed [] q = refl
weighed (at ∷ all) q = live_bytes-cons at all q ∙ ap (λ (n : ℕ). cond (lies_in q at) at.length 0 + n) (weighed all q) ∙ sym (sum_by-cons (weight q) at all)

pub live_bytes-IsPermutation : (xs ys : List Location) (q : SegName) → IsPermutation xs ys → live_bytes ys q ≡ live_bytes xs q
live_bytes-IsPermutation xs ys q moved = weighed ys q ∙ sum_by-IsPermutation (weight q) xs ys moved ∙ sym (weighed xs q)

-- the laws
HasNoZero-empty : HasNoZero empty
HasNoZero-empty q = subst (λ (o : Option ℕ). o ≢ Some 0) (sym (get-empty name_order q)) (λ e. cc)

counted-empty : (q : SegName) → counted empty q ≡ 0
counted-empty q = ap (λ (o : Option ℕ). unwrap_or o 0) (get-empty name_order q)

pub is_sum : (all : List Location) (q : SegName) → counted (raised_by_all empty all) q ≡ min (live_bytes all q) max_counted
is_sum all q =
    counted-raised_by_all empty all q (subst (λ (n : ℕ). n ≤ max_counted) (sym (counted-empty q)) (omega arith))
    ∙ ap (λ (n : ℕ). min (n + live_bytes all q) max_counted) (counted-empty q)
    ∙ ap (λ (n : ℕ). min n max_counted) (omega arith)

pub in_any_order : (xs ys : List Location) → IsPermutation xs ys → raised_by_all empty ys ≡ raised_by_all empty xs
in_any_order xs ys moved =
    same_usage (raised_by_all empty ys) (raised_by_all empty xs) (HasNoZero-raised_by_all empty ys HasNoZero-empty) (HasNoZero-raised_by_all empty xs HasNoZero-empty)
    (λ q. is_sum ys q ∙ ap (λ (n : ℕ). min n max_counted) (live_bytes-IsPermutation xs ys q moved) ∙ sym (is_sum xs q))

taken_back : (c s t most : ℕ) → c + s ≤ most → t ≡ s → min (c + s) most - t ≡ c
taken_back c s t most fits e = omega arith

pub back_again : (usage : LiveBytes) (xs ys : List Location) → HasNoZero usage → IsPermutation xs ys → ((name : SegName) → counted usage name + live_bytes xs name ≤ max_counted)
    → lowered_by_all (raised_by_all usage xs) ys ≡ usage
back_again usage xs ys none moved fits =
    same_usage (lowered_by_all (raised_by_all usage xs) ys) usage (HasNoZero-lowered_by_all (raised_by_all usage xs) ys (HasNoZero-raised_by_all usage xs none)) none
    (λ q. counted-lowered_by_all (raised_by_all usage xs) ys q
    ∙ ap (λ (n : ℕ). n - live_bytes ys q) (counted-raised_by_all usage xs q (within (counted usage q) (live_bytes xs q) max_counted (fits q)))
    ∙ taken_back (counted usage q) (live_bytes xs q) (live_bytes ys q) max_counted (fits q) (live_bytes-IsPermutation xs ys q moved))
  where
    within : (c s most : ℕ) → c + s ≤ most → c ≤ most
    within c s most fits = omega arith
