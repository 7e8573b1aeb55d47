-- Laws of lists of sessions.
use Rattle.std.proofs.Common.{ℕ, zero, suc, List, [], ◌∷◌, replicate, set, get_or}
use Rattle.std.specs.List.{AllByRecursion}

-- a fact of each element is one of each of n copies
pub all-replicate : {X : Type 0} (P : X → Type 0) (n : ℕ) (x : X) → P x → AllByRecursion P (replicate n x)
all-replicate P zero x p = tt
all-replicate P (suc n) x p = (p, all-replicate P n x p)

-- it stays one where an element is replaced by another of which it holds
pub all-set : {X : Type 0} (P : X → Type 0) (xs : List X) (i : ℕ) (x : X) → AllByRecursion P xs → P x → AllByRecursion P (set xs i x)
all-set P [] i x all p = tt
all-set P (y ∷ ys) zero x all p = (p, all.1)
all-set P (y ∷ ys) (suc i) x all p = (all.0, all-set P ys i x all.1 p)

-- and holds of each element
pub all-at : {X : Type 0} (P : X → Type 0) (xs : List X) (i : ℕ) (d : X) → AllByRecursion P xs → P d → P (get_or xs i d)
all-at P [] i d all p = p
all-at P (y ∷ ys) zero d all p = all.0
all-at P (y ∷ ys) (suc i) d all p = all-at P ys i d all.1 p
