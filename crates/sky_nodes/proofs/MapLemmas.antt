-- The map by fileids does what the definitions of the tree say.
use Rattle.std.proofs.Common.{◌≡◌, ◌≢◌, ℕ, ◌<◌, List, [], ◌∷◌, Option, Some, None, refl, ap, sym, ◌∙◌, subst, arith, true, false, cond}
use Rattle.std.proofs.Common.{inl, inr}
use Rattle.std.specs.Prelude.{◌⊎◌, ◌==◌, nat_lt, IsSome, is_some, unwrap_or}
use Rattle.std.specs.BTreeMap.{insert_entry, is_at}
use Rattle.std.specs.List.{AllByRecursion}
use Rattle.std.specs.List.Sorted.{IsStrictlySortedBy}
use Rattle.std.specs.Map.{keys_of, lookup, remove_entry, set_value}
use Rattle.std.specs.Ordering.{nat_cmp}
use Rattle.std.specs.declared.cmp.Ordering.TheVariants.{Less}
use Rattle.std.proofs.lemmas.Bool.{cases_Bool, eqb-true, eqb-false, ltb-true, eq-eqb, ne_eqb, le-ltb}
use Rattle.std.proofs.lemmas.Bool.Decides.{nat_tests}
use Rattle.sky_nfs.proofs.GrowLemmas.{node_at-with_node}
use Rattle.sky_nfs.specs.Tree.{Tree, Node, node_at, with_node, without_node, no_node}
use Rattle.sky_nfs.specs.Changes.{put, edit}

-- a key is found where the numbers are equal
pub is_at-eqb : (k j : ℕ) → is_at (nat_cmp k) j ≡ (j == k)
is_at-eqb k j = grind (arith, nat_tests)

-- what is found
pub lookup-node_at : (k : ℕ) (ns : List (ℕ × Node)) → lookup (is_at (nat_cmp k)) ns ≡ node_at ns k
lookup-node_at k [] = refl
lookup-node_at k (n ∷ ns) = rw (is_at-eqb k n.0, lookup-node_at k ns) refl

-- what is put in
pub insert-with_node : (k : ℕ) (v : Node) (ns : List (ℕ × Node)) → insert_entry nat_cmp ns k v ≡ with_node ns k v
insert-with_node k v [] = refl
insert-with_node k v (n ∷ ns) = go (insert-with_node k v ns) (cases_Bool (nat_lt k n.0)) (cases_Bool (k == n.0))
  where
    go : insert_entry nat_cmp ns k v ≡ with_node ns k v → (nat_lt k n.0 ≡ true) ⊎ (nat_lt k n.0 ≡ false) → ((k == n.0) ≡ true) ⊎ ((k == n.0) ≡ false) → insert_entry nat_cmp (n ∷ ns) k v ≡ with_node (n ∷ ns) k v
    go ih (inl low) e =
        let below : k < n.0 = ltb-true k n.0 low in
        let other : n.0 ≡ k → ⊥ = λ e. omega arith in
        rw (low, ne_eqb n.0 k other) refl
    go ih (inr high) (inl same) =
        let is : k ≡ n.0 = eqb-true k n.0 same in
        rw (high, same, eq-eqb n.0 k (sym is)) (ap (λ (j : ℕ). (j, v) ∷ ns) (sym is))
    go ih (inr high) (inr other) =
        let differ : n.0 ≡ k → ⊥ = λ e. eqb-false k n.0 other (sym e) in
        rw (high, other, ne_eqb n.0 k differ, ih) refl

less-lt : (a b : ℕ) → nat_cmp a b ≡ Less → a < b
less-lt a b h = grind (arith, nat_tests)

-- a key that is found is above those that all keys are above
pub found-above : (low k : ℕ) (ns : List (ℕ × Node)) → AllByRecursion (λ y. nat_cmp low y ≡ Less) (keys_of ns) → IsSome (lookup (is_at (nat_cmp k)) ns) → low < k
found-above low k [] above there = absurd (cc)
found-above low k (n ∷ ns) above there = go (cases_Bool (n.0 == k)) (found-above low k ns above.1)
  where
    go : ((n.0 == k) ≡ true) ⊎ ((n.0 == k) ≡ false) → (IsSome (lookup (is_at (nat_cmp k)) ns) → low < k) → low < k
    go (inl same) ih =
        let is : n.0 ≡ k = eqb-true n.0 k same in
        let first : low < n.0 = less-lt low n.0 above.0 in
        omega arith
    go (inr other) ih =
        let later : IsSome (lookup (is_at (nat_cmp k)) ns) = rw (is_at-eqb k n.0, other) at there in
        ih later

-- what is put in the place of another
pub set-with_node : (k : ℕ) (v : Node) (ns : List (ℕ × Node)) → IsStrictlySortedBy nat_cmp (keys_of ns) → IsSome (lookup (is_at (nat_cmp k)) ns) → set_value (is_at (nat_cmp k)) ns v ≡ with_node ns k v
unfolding IsStrictlySortedBy
set-with_node k v [] ordered there = absurd (cc)
set-with_node k v (n ∷ ns) ordered there = go (cases_Bool (n.0 == k)) (set-with_node k v ns ordered.1)
  where
    go : ((n.0 == k) ≡ true) ⊎ ((n.0 == k) ≡ false) → (IsSome (lookup (is_at (nat_cmp k)) ns) → set_value (is_at (nat_cmp k)) ns v ≡ with_node ns k v) → set_value (is_at (nat_cmp k)) (n ∷ ns) v ≡ with_node (n ∷ ns) k v
    go (inl same) ih = rw (is_at-eqb k n.0, same) (ap (λ (j : ℕ). (j, v) ∷ ns) (eqb-true n.0 k same))
    go (inr other) ih =
        let later : IsSome (lookup (is_at (nat_cmp k)) ns) = rw (is_at-eqb k n.0, other) at there in
        let above : n.0 < k = found-above n.0 k ns ordered.0 later in
        rw (is_at-eqb k n.0, other, le-ltb k n.0 (omega arith), ih later) refl

-- a key below all others is none of them
none-below : (k : ℕ) (ns : List (ℕ × Node)) → AllByRecursion (λ y. nat_cmp k y ≡ Less) (keys_of ns) → without_node ns k ≡ ns
none-below k [] above = refl
none-below k (n ∷ ns) above =
    let first : k < n.0 = less-lt k n.0 above.0 in
    let differ : n.0 ≡ k → ⊥ = λ e. omega arith in
    rw (ne_eqb n.0 k differ) (ap (λ (ms : List (ℕ × Node)). n ∷ ms) (none-below k ns above.1))

-- what is taken out
pub remove-without_node : (k : ℕ) (ns : List (ℕ × Node)) → IsStrictlySortedBy nat_cmp (keys_of ns) → remove_entry (is_at (nat_cmp k)) ns ≡ without_node ns k
unfolding IsStrictlySortedBy
remove-without_node k [] ordered = refl
remove-without_node k (n ∷ ns) ordered = go (cases_Bool (n.0 == k)) (remove-without_node k ns ordered.1)
  where
    go : ((n.0 == k) ≡ true) ⊎ ((n.0 == k) ≡ false) → remove_entry (is_at (nat_cmp k)) ns ≡ without_node ns k → remove_entry (is_at (nat_cmp k)) (n ∷ ns) ≡ without_node (n ∷ ns) k
    go (inl same) ih =
        let is : n.0 ≡ k = eqb-true n.0 k same in
        let above : AllByRecursion (λ y. nat_cmp k y ≡ Less) (keys_of ns) = subst (λ (j : ℕ). AllByRecursion (λ y. nat_cmp j y ≡ Less) (keys_of ns)) is ordered.0 in
        rw (is_at-eqb k n.0, same) (sym (none-below k ns above))
    go (inr other) ih = rw (is_at-eqb k n.0, other) (ap (λ (ms : List (ℕ × Node)). n ∷ ms) ih)

-- a node that was lent, changed as a function says
pub put-edit : (t : Tree) (k : ℕ) (n m : Node) (change : Node → Node) → Some n ≡ node_at t.nodes k → m ≡ change n → put t k m ≡ edit t k change
put-edit t k n m change there is = ap (put t k) is ∙ ap (λ (o : Option Node). put t k (change (unwrap_or o no_node))) there

-- what stands elsewhere stays when a node is put in
pub node_at-with_other : (ns : List (ℕ × Node)) (k : ℕ) (n : Node) (j : ℕ) → k ≢ j → node_at (with_node ns k n) j ≡ node_at ns j
node_at-with_other ns k n j differ = rw (node_at-with_node ns k n j, ne_eqb k j differ) refl

-- and the node is there
pub there-with_node : (ns : List (ℕ × Node)) (k : ℕ) (n : Node) → IsSome (node_at (with_node ns k n) k)
there-with_node ns k n = rw (node_at-with_node ns k n k, eq-eqb k k refl) refl

-- what stands elsewhere stays when a node is taken out
pub node_at-without_other : (ns : List (ℕ × Node)) (k j : ℕ) → k ≢ j → node_at (without_node ns k) j ≡ node_at ns j
node_at-without_other [] k j differ = refl
node_at-without_other (n ∷ ns) k j differ = go (cases_Bool (n.0 == k)) (node_at-without_other ns k j differ)
  where
    go : ((n.0 == k) ≡ true) ⊎ ((n.0 == k) ≡ false) → node_at (without_node ns k) j ≡ node_at ns j → node_at (without_node (n ∷ ns) k) j ≡ node_at (n ∷ ns) j
    go (inl same) ih =
        let is : n.0 ≡ k = eqb-true n.0 k same in
        let apart : n.0 ≡ j → ⊥ = λ e. differ (sym is ∙ e) in
        rw (same, ne_eqb n.0 j apart) ih
    go (inr other) ih = rw other (ap (λ (o : Option Node). cond (n.0 == j) (Some n.1) o) ih)

-- a fileid at which nothing stands
without_none : (ns : List (ℕ × Node)) (k : ℕ) → node_at ns k ≡ None → without_node ns k ≡ ns
without_none [] k h = refl
without_none (n ∷ ns) k h = go (cases_Bool (n.0 == k)) (without_none ns k)
  where
    go : ((n.0 == k) ≡ true) ⊎ ((n.0 == k) ≡ false) → (node_at ns k ≡ None → without_node ns k ≡ ns) → without_node (n ∷ ns) k ≡ n ∷ ns
    go (inl same) ih =
        let found : Some n.1 ≡ None = rw same at h in
        absurd (cc)
    go (inr other) ih =
        let none : node_at ns k ≡ None = rw other at h in
        rw other (ap (λ (ms : List (ℕ × Node)). n ∷ ms) (ih none))

-- a node that is put in and taken out again
pub without-with_node : (ns : List (ℕ × Node)) (k : ℕ) (v : Node) → node_at ns k ≡ None → without_node (with_node ns k v) k ≡ ns
without-with_node [] k v h = rw (eq-eqb k k refl) refl
without-with_node (n ∷ ns) k v h = go (cases_Bool (n.0 == k)) (cases_Bool (nat_lt k n.0)) (without-with_node ns k v)
  where
    go : ((n.0 == k) ≡ true) ⊎ ((n.0 == k) ≡ false) → (nat_lt k n.0 ≡ true) ⊎ (nat_lt k n.0 ≡ false) → (node_at ns k ≡ None → without_node (with_node ns k v) k ≡ ns) → without_node (with_node (n ∷ ns) k v) k ≡ n ∷ ns
    go (inl same) order ih =
        let found : Some n.1 ≡ None = rw same at h in
        absurd (cc)
    go (inr other) (inl low) ih = rw (other, low, eq-eqb k k refl) (without_none (n ∷ ns) k h)
    go (inr other) (inr high) ih =
        let none : node_at ns k ≡ None = rw other at h in
        rw (other, high, other) (ap (λ (ms : List (ℕ × Node)). n ∷ ms) (ih none))

-- a fileid that is there isn't one that isn't
pub apart : (ns : List (ℕ × Node)) (k j : ℕ) → node_at ns k ≡ None → IsSome (node_at ns j) → k ≢ j
apart ns k j none there e =
    let here : IsSome (node_at ns k) = subst (λ (i : ℕ). IsSome (node_at ns i)) (sym e) there in
    let wrong : is_some {T = Node} None ≡ true = rw none at here in
    cc

-- nodes at two fileids may be put in in either order
pub with_node-swap : (ns : List (ℕ × Node)) (a b : ℕ) (x y : Node) → a ≢ b → with_node (with_node ns a x) b y ≡ with_node (with_node ns b y) a x
with_node-swap [] a b x y differ = grind (arith, nat_tests, differ)
with_node-swap (n ∷ ns) a b x y differ = go n.0 refl (with_node-swap ns a b x y differ)
  where
    go : (k : ℕ) → n.0 ≡ k → with_node (with_node ns a x) b y ≡ with_node (with_node ns b y) a x → with_node (with_node (n ∷ ns) a x) b y ≡ with_node (with_node (n ∷ ns) b y) a x
    go k is ih = grind (arith, nat_tests, differ, ih)
