-- Edits of nodes, one after another.
use Rattle.std.proofs.Common.{◌≡◌, ◌≢◌, ℕ, ◌<◌, ◌≤◌, List, [], ◌∷◌, Option, Some, None, refl, ap, sym, ◌∙◌, subst, arith, true, false, cond}
use Rattle.std.proofs.Common.{inl, inr}
use Rattle.std.specs.Prelude.{◌⊎◌, ◌==◌, Bool, nat_le, nat_lt, IsSome, IfSome, unwrap_or}
use Rattle.std.specs.List.Sorted.{IsStrictlySortedBy}
use Rattle.std.specs.Map.{keys_of}
use Rattle.std.specs.Ordering.{nat_cmp}
use Rattle.std.proofs.lemmas.Bool.{cases_Bool, eqb-true, eq-eqb, ne_eqb, le-ltb, eqb-false}
use Rattle.sky_base.specs.declared.moment.Moment.{Moment}
use Rattle.sky_nfs.proofs.GrowLemmas.{node_at-with_node}
use Rattle.sky_nfs.specs.Changes.{drop_link, edit, erase, leave, put, release, remove_name, stamp}
use Rattle.sky_nfs.specs.Tree.{Tree, Node, is_directory, named, no_node, node_at, the_node, with_node, without_node}
use Rattle.sky_nodes.specs.Ascending.{Ascends}
use Rattle.sky_nodes.proofs.MapLemmas.{found-above, lookup-node_at, node_at-with_other, node_at-without_other, with_node-swap}

-- what stands elsewhere when a node was put in
pub other_node : (t : Tree) (k j : ℕ) (n : Node) → k ≢ j → the_node (put t k n) j ≡ the_node t j
other_node t k j n differ = ap (λ (o : Option Node). unwrap_or o no_node) (node_at-with_other t.nodes k n j differ)

-- and what stands there
pub same_node : (t : Tree) (k : ℕ) (n : Node) → the_node (put t k n) k ≡ n
same_node t k n = ap (λ (o : Option Node). unwrap_or o no_node) (node_at-with_node t.nodes k n k ∙ ap (λ (b : Bool). cond b (Some n) (node_at t.nodes k)) (eq-eqb k k refl))

-- edits of two nodes may be done in either order
pub edit-swap : (t : Tree) (a b : ℕ) (f g : Node → Node) → a ≢ b → edit (edit t a f) b g ≡ edit (edit t b g) a f
edit-swap t a b f g differ =
    ap (λ (n : Node). put (edit t a f) b (g n)) (other_node t a b (f (the_node t a)) differ)
    ∙ ap (λ (ns : List (ℕ × Node)). record t { nodes = ns }) (with_node-swap t.nodes a b (f (the_node t a)) (g (the_node t b)) differ)
    ∙ sym (ap (λ (n : Node). put (edit t b g) a (f n)) (other_node t b a (g (the_node t b)) (λ e. differ (sym e))))

-- of two nodes put in at one fileid the last one stays
with_node-twice : (ns : List (ℕ × Node)) (k : ℕ) (x y : Node) → with_node (with_node ns k x) k y ≡ with_node ns k y
with_node-twice [] k x y = rw (eq-eqb k k refl) refl
with_node-twice (n ∷ ns) k x y = go (cases_Bool (n.0 == k)) (cases_Bool (nat_lt k n.0)) (with_node-twice ns k x y)
  where
    go : ((n.0 == k) ≡ true) ⊎ ((n.0 == k) ≡ false) → (nat_lt k n.0 ≡ true) ⊎ (nat_lt k n.0 ≡ false) → with_node (with_node ns k x) k y ≡ with_node ns k y → with_node (with_node (n ∷ ns) k x) k y ≡ with_node (n ∷ ns) k y
    go (inl same) order ih = rw (same, eq-eqb k k refl) refl
    go (inr other) (inl low) ih = rw (other, low, eq-eqb k k refl) refl
    go (inr other) (inr high) ih = rw (other, high, other, high) (ap (λ (ms : List (ℕ × Node)). n ∷ ms) ih)

-- two edits of one node are one
pub edit-twice : (t : Tree) (k : ℕ) (f g : Node → Node) → edit (edit t k f) k g ≡ edit t k (λ n. g (f n))
edit-twice t k f g =
    ap (λ (n : Node). put (edit t k f) k (g n)) (same_node t k (f (the_node t k)))
    ∙ ap (λ (ns : List (ℕ × Node)). record t { nodes = ns }) (with_node-twice t.nodes k (f (the_node t k)) (g (f (the_node t k))))

-- a node that is there may be put in before or after another one is taken out
without-with_other : (ns : List (ℕ × Node)) (k g : ℕ) (x : Node) → IsStrictlySortedBy nat_cmp (keys_of ns) → IsSome (node_at ns k) → g ≢ k → without_node (with_node ns k x) g ≡ with_node (without_node ns g) k x
unfolding IsStrictlySortedBy
without-with_other [] k g x ordered there differ = absurd (cc)
without-with_other (n ∷ ns) k g x ordered there differ = go (cases_Bool (n.0 == k)) (cases_Bool (n.0 == g)) (λ later. without-with_other ns k g x ordered.1 later differ)
  where
    apart : (k == g) ≡ false
    apart = ne_eqb k g (λ e. differ (sym e))

    go : ((n.0 == k) ≡ true) ⊎ ((n.0 == k) ≡ false) → ((n.0 == g) ≡ true) ⊎ ((n.0 == g) ≡ false) → (IsSome (node_at ns k) → without_node (with_node ns k x) g ≡ with_node (without_node ns g) k x)
        → without_node (with_node (n ∷ ns) k x) g ≡ with_node (without_node (n ∷ ns) g) k x
    go (inl same) (inl gone) ih = absurd (differ (sym (eqb-true n.0 g gone) ∙ eqb-true n.0 k same))
    go (inl same) (inr stays) ih = rw (same, stays, apart, same) refl
    go (inr other) (inl gone) ih =
        let later : IsSome (node_at ns k) = rw other at there in
        let above : n.0 < k = found-above n.0 k ns ordered.0 (rw (lookup-node_at k ns) later) in
        let high : nat_lt k n.0 ≡ false = le-ltb k n.0 (omega arith) in
        rw (other, high, gone) (ih later)
    go (inr other) (inr stays) ih =
        let later : IsSome (node_at ns k) = rw other at there in
        let above : n.0 < k = found-above n.0 k ns ordered.0 (rw (lookup-node_at k ns) later) in
        let high : nat_lt k n.0 ≡ false = le-ltb k n.0 (omega arith) in
        rw (other, high, stays, other, high) (ap (λ (ms : List (ℕ × Node)). n ∷ ms) (ih later))

pub erase-edit : (t : Tree) (k g : ℕ) (f : Node → Node) → Ascends t → IsSome (node_at t.nodes k) → g ≢ k → erase (edit t k f) g ≡ edit (erase t g) k f
erase-edit t k g f ordered there differ =
    ap (λ (ns : List (ℕ × Node)). record t { nodes = ns }) (without-with_other t.nodes k g (f (the_node t k)) ordered there differ)
    ∙ sym (ap (λ (o : Option Node). put (erase t g) k (f (unwrap_or o no_node))) (node_at-without_other t.nodes g k differ))

-- ---- what stays

-- what a change of a tree keeps of a node: it is there, and has no link more
pub record Keeps (t u : Tree) (j : ℕ) : Type 0 where
  pub there : IsSome (node_at t.nodes j) → IsSome (node_at u.nodes j)
  pub links : (the_node u j).nlink ≤ (the_node t j).nlink

pub keeps_then : (t u w : Tree) (j : ℕ) → Keeps t u j → Keeps u w j → Keeps t w j
keeps_then t u w j f g = record { there = λ h. g.there (f.there h); links = omega (arith, f.links, g.links) }

pub keeps_edit : (t : Tree) (k j : ℕ) (f : Node → Node) → ((n : Node) → (f n).nlink ≤ n.nlink) → Keeps t (edit t k f) j
keeps_edit t k j f fewer = go (cases_Bool (k == j))
  where
    go : ((k == j) ≡ true) ⊎ ((k == j) ≡ false) → Keeps t (edit t k f) j
    go (inl same) =
        let is : k ≡ j = eqb-true k j same in
        subst (λ (i : ℕ). Keeps t (edit t k f) i) is (record {
          there = λ h. rw (node_at-with_node t.nodes k (f (the_node t k)) k, eq-eqb k k refl) refl;
          links = rw (same_node t k (f (the_node t k))) (fewer (the_node t k));
        })
    go (inr other) =
        let differ : k ≢ j = eqb-false k j other in
        record {
          there = λ h. rw (node_at-with_other t.nodes k (f (the_node t k)) j differ) h;
          links = rw (other_node t k j (f (the_node t k)) differ) (omega arith);
        }

pub keeps_edited : (t u : Tree) (k j : ℕ) (f : Node → Node) → u ≡ edit t k f → ((n : Node) → (f n).nlink ≤ n.nlink) → Keeps t u j
keeps_edited t u k j f is fewer = subst (λ (w : Tree). Keeps t w j) (sym is) (keeps_edit t k j f fewer)

pub keeps_erase : (t : Tree) (g j : ℕ) → g ≢ j → Keeps t (erase t g) j
keeps_erase t g j differ =
    let same : node_at (without_node t.nodes g) j ≡ node_at t.nodes j = node_at-without_other t.nodes g j differ in
    record { there = λ h. rw same h; links = rw same (omega arith) }

pub keeps_release : (t : Tree) (now : Moment) (dir g j : ℕ) → g ≢ j → Keeps t (release t now dir g) j
keeps_release t now dir g j differ = go (is_directory (the_node t g)) (nat_le (the_node t g).nlink 1)
  where
    go : (b d : Bool) → Keeps t (cond b (edit (erase t g) dir drop_link) (cond d (erase t g) (edit t g (λ n. stamp now (drop_link n))))) j
    go true d = keeps_then t (erase t g) (edit (erase t g) dir drop_link) j (keeps_erase t g j differ) (keeps_edit (erase t g) dir j drop_link (λ n. omega arith))
    go false true = keeps_erase t g j differ
    go false false = keeps_edit t g j (λ n. stamp now (drop_link n)) (λ n. omega arith)

pub keeps_remove_name : (t : Tree) (now : Moment) (dir : ℕ) (name : List ℕ) (j : ℕ) → IfSome (named t dir name) (λ g. g ≢ j) → Keeps t (remove_name t now dir name) j
keeps_remove_name t now dir name j apart = go (named t dir name) refl apart
  where
    go : (o : Option ℕ) → named t dir name ≡ o → IfSome o (λ g. g ≢ j) → Keeps t (remove_name t now dir name) j
    go None e h = rw e (record { there = λ x. x; links = omega arith })
    go (Some g) e h =
        let left : Tree = edit t dir (λ d. leave now name d) in
        rw e (keeps_then t left (release left now dir g) j (keeps_edit t dir j (λ d. leave now name d) (λ n. omega arith)) (keeps_release left now dir g j h))

-- what holds of the fileid that a name stands for
pub if_some_weaker : (o : Option ℕ) (P Q : ℕ → Type 0) → ((k : ℕ) → P k → Q k) → IfSome o P → IfSome o Q
if_some_weaker None P Q weaker h = tt
if_some_weaker (Some k) P Q weaker h = weaker k h
