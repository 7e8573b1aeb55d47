-- No way up to the root is longer than there are nodes.
use Rattle.std.proofs.Common.{◌≡◌, ℕ, zero, suc, ◌≤◌, List, [], ◌∷◌, refl, true, false, sym, ap, subst, ◌∙◌, length, arith, inl, inr}
use Rattle.std.specs.Prelude.{Bool, ◌==◌, ◌⊎◌, is_some, eqb, IsSome}
use Rattle.std.specs.List.{list_any, IsDistinct, AllByRecursion}
use Rattle.std.specs.Map.{lookup}
use Rattle.std.proofs.lemmas.Bool.{eqb-true, eqb-false, eq-eqb, ne_eqb, or_cases, or_parts, false≢true, or_left, or_right, false_from_ne_true}
use Rattle.std.specs.Cmp.{nat_eq_equiv}
use Rattle.std.proofs.lemmas.Map.Steps.{length-le_from_keys}
use Rattle.sky_nfs.specs.Tree.{Tree, Node, node_at, the_node, root, parent_of, ancestors}

-- the root is the last of so many ancestors, and none before
abbrev pub Exact : Tree → ℕ → ℕ → Type 0
Exact t zero k = ⊥
Exact t (suc zero) k = (k == root) ≡ true
Exact t (suc (suc m)) k = ((k == root) ≡ false) × Exact t (suc m) (parent_of (the_node t k))

exact_unique : (t : Tree) (m n k : ℕ) → Exact t m k → Exact t n k → m ≡ n
exact_unique t zero n k x y = absurd x
exact_unique t (suc m) zero k x y = absurd y
exact_unique t (suc zero) (suc zero) k x y = refl
exact_unique t (suc zero) (suc (suc n)) k x y = absurd (cc y.0)
exact_unique t (suc (suc m)) (suc zero) k x y = absurd (cc x.0)
exact_unique t (suc (suc m)) (suc (suc n)) k x y = ap suc (exact_unique t (suc m) (suc n) (parent_of (the_node t k)) x.1 y.1)

-- each ancestor on the way has a shorter one
exact_member : (t : Tree) (m k q : ℕ) → Exact t m k → list_any (eqb q) (ancestors t m k) ≡ true → (n : ℕ) × (n ≤ m) × Exact t n q
exact_member t zero k q x h = absurd x
exact_member t (suc zero) k q x h = go (or_cases (eqb q k) _ h)
  where
    go : (eqb q k ≡ true) ⊎ (false ≡ true) → (n : ℕ) × (n ≤ suc zero) × Exact t n q
    go (inl e) = let same : q ≡ k = eqb-true q k e in (suc zero, omega arith, subst (λ (j : ℕ). (j == root) ≡ true) (sym same) x)
    go (inr e) = absurd (cc)
exact_member t (suc (suc m)) k q x h = go (or_cases (eqb q k) _ h) (exact_member t (suc m) (parent_of (the_node t k)) q x.1)
  where
    go : (eqb q k ≡ true) ⊎ (list_any (eqb q) (ancestors t (suc m) (parent_of (the_node t k))) ≡ true) → (list_any (eqb q) (ancestors t (suc m) (parent_of (the_node t k))) ≡ true → (n : ℕ) × (n ≤ suc m) × Exact t n q) → (n : ℕ) × (n ≤ suc (suc m)) × Exact t n q
    go (inl e) ih = let same : q ≡ k = eqb-true q k e in (suc (suc m), omega arith, subst (λ (j : ℕ). Exact t (suc (suc m)) j) (sym same) x)
    go (inr e) ih = let r = ih e in (r.0, omega arith, r.2)

all_apart : (k : ℕ) (xs : List ℕ) → list_any (eqb k) xs ≡ false → AllByRecursion (λ y. eqb k y ≡ false) xs
all_apart k [] h = tt
all_apart k (x ∷ xs) h = let parts = or_parts _ _ h in (parts.0, all_apart k xs parts.1)

length-ancestors : (t : Tree) (m k : ℕ) → length (ancestors t m k) ≡ m
length-ancestors t zero k = refl
length-ancestors t (suc m) k = ap suc (length-ancestors t m (parent_of (the_node t k)))

-- so no ancestor comes twice
exact_distinct : (t : Tree) (m k : ℕ) → Exact t m k → IsDistinct eqb (ancestors t m k)
unfolding IsDistinct
exact_distinct t zero k x = absurd x
exact_distinct t (suc zero) k x = (tt, tt)
exact_distinct t (suc (suc m)) k x =
    let apart : list_any (eqb k) (ancestors t (suc m) (parent_of (the_node t k))) ≡ false = false_from_ne_true _ (λ h. let r = exact_member t (suc m) (parent_of (the_node t k)) k x.1 h in let same : r.0 ≡ suc (suc m) = exact_unique t r.0 (suc (suc m)) k r.2 x in omega arith) in
    (all_apart k (ancestors t (suc m) (parent_of (the_node t k))) apart, exact_distinct t (suc m) (parent_of (the_node t k)) x.1)

-- a way that has the root has it first at some place
exact_from : (t : Tree) (m k : ℕ) → list_any (λ d. d == root) (ancestors t m k) ≡ true → (n : ℕ) × (n ≤ m) × Exact t n k
exact_from t zero k h = absurd (cc)
exact_from t (suc m) k h = go (k == root) refl (or_cases (k == root) _ h) (exact_from t m (parent_of (the_node t k)))
  where
    go : (b : Bool) → (k == root) ≡ b → ((k == root) ≡ true) ⊎ (list_any (λ d. d == root) (ancestors t m (parent_of (the_node t k))) ≡ true) → (list_any (λ d. d == root) (ancestors t m (parent_of (the_node t k))) ≡ true → (n : ℕ) × (n ≤ m) × Exact t n (parent_of (the_node t k))) → (n : ℕ) × (n ≤ suc m) × Exact t n k
    go true e c ih = (suc zero, omega arith, e)
    go false e (inl f) ih = absurd (false≢true (sym e ∙ f))
    go false e (inr f) ih = step e (ih f)
      where
        step : (k == root) ≡ false → (n : ℕ) × (n ≤ m) × Exact t n (parent_of (the_node t k)) → (n : ℕ) × (n ≤ suc m) × Exact t n k
        step e r = more r.0 r.1 r.2
          where
            more : (n : ℕ) → n ≤ m → Exact t n (parent_of (the_node t k)) → (n : ℕ) × (n ≤ suc m) × Exact t n k
            more zero l x = absurd x
            more (suc n) l x = (suc (suc n), omega arith, (e, x))

exact_way : (t : Tree) (n k m : ℕ) → Exact t n k → n ≤ m → list_any (λ d. d == root) (ancestors t m k) ≡ true
exact_way t zero k m x l = absurd x
exact_way t (suc n) k zero x l = absurd (omega arith)
exact_way t (suc zero) k (suc m) x l = or_left _ _ x
exact_way t (suc (suc n)) k (suc m) x l = or_right (k == root) _ (exact_way t (suc n) (parent_of (the_node t k)) m x.1 (omega arith))

node_at-lookup : (ns : List (ℕ × Node)) (k : ℕ) → is_some (node_at ns k) ≡ true → IsSome (lookup (eqb k) ns)
node_at-lookup [] k h = absurd (cc)
node_at-lookup (n ∷ ns) k h = go (n.0 == k) refl (node_at-lookup ns k)
  where
    go : (b : Bool) → (n.0 == k) ≡ b → (is_some (node_at ns k) ≡ true → IsSome (lookup (eqb k) ns)) → IsSome (lookup (eqb k) (n ∷ ns))
    go true e ih = let back : eqb k n.0 ≡ true = eq-eqb k n.0 (sym (eqb-true n.0 k e)) in rw back refl
    go false e ih = let back : eqb k n.0 ≡ false = ne_eqb k n.0 (λ same. eqb-false n.0 k e (sym same)) in let rest : is_some (node_at ns k) ≡ true = rw e at h in rw back (ih rest)

-- where all ancestors are nodes, as many steps as there are nodes lead up
pub short_way : (t : Tree) (m k : ℕ) → ((n q : ℕ) → Exact t n k → list_any (eqb q) (ancestors t n k) ≡ true → is_some (node_at t.nodes q) ≡ true) → list_any (λ d. d == root) (ancestors t m k) ≡ true → list_any (λ d. d == root) (ancestors t (length t.nodes) k) ≡ true
short_way t m k there h =
    let r = exact_from t m k h in
    let most : length (ancestors t r.0 k) ≤ length t.nodes = length-le_from_keys nat_eq_equiv (ancestors t r.0 k) t.nodes (exact_distinct t r.0 k r.2) (λ q in'. node_at-lookup t.nodes q (there r.0 q r.2 in')) in
    exact_way t r.0 k (length t.nodes) r.2 (omega (arith, length-ancestors t r.0 k))
