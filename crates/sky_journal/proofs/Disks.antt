-- What is told of a disk before and after a call, and what crashes may leave in between.
use Rattle.std.proofs.Common.{◌≡◌, ℕ, List, Option, Some, None, Result, Ok, Err, OnOk, refl, sym, subst, ⊎_elim, inl, inr}
use Rattle.std.specs.Option.{option_map}
use Rattle.sky_outside.specs.Told.{WhereTold, BothTold}
use Rattle.sky_outside.specs.Moments.{LeavesOnly, BesideObjects}
use Rattle.sky_outside.specs.declared.storage.Storage.{Ghosts}

some_same : {A : Type 0} (a b : A) → Some a ≡ Some b → a ≡ b
some_same a b e = cc e

-- both are told or neither is, where the second is made of the first
pub both_from : {A : Type 0} (R : A → A → Type 0) (old new : Option A) (f : A → A) → new ≡ option_map f old → ((x : A) → old ≡ Some x → R x (f x)) → BothTold R old new
both_from R None new f e holds = subst (λ o. BothTold R None o) (sym e) tt
both_from R (Some x) new f e holds = subst (λ o. BothTold R (Some x) o) (sym e) (holds x refl)

-- what holds of the first, where it is told, leads to what holds of the second
pub told_from : {A : Type 0} (P Q : A → Type 0) (old new : Option A) (f : A → A) → new ≡ option_map f old → WhereTold old P → ((x : A) → old ≡ Some x → P x → Q (f x)) → WhereTold new Q
told_from P Q None new f e holds leads = subst (λ o. WhereTold o Q) (sym e) tt
told_from P Q (Some x) new f e holds leads = subst (λ o. WhereTold o Q) (sym e) (leads x refl holds)

-- what holds where something is told holds where it leads to that
pub told_then : {A : Type 0} (P Q : A → Type 0) (told : Option A) → WhereTold told P → ((x : A) → told ≡ Some x → P x → Q x) → WhereTold told Q
told_then P Q None holds leads = tt
told_then P Q (Some x) holds leads = leads x refl holds

module _ {S : Type 0} (g : Ghosts S) where
  -- what a crash leaves has Q, where it has P and P leads to Q
  pub leaves_weaker : (a b : S) (P Q : List ℕ → Type 0) → LeavesOnly g a b (BesideObjects g a P) → ((image : List ℕ) → P image → Q image) → LeavesOnly g a b (BesideObjects g a Q)
  leaves_weaker a b P Q leaves leads = record {
    later = leaves.later;
    since = λ image objects left. (leads image (leaves.since image objects left).0, (leaves.since image objects left).1);
    before = λ t image objects le left. ⊎_elim inl (λ p. inr (leads image p.0, p.1)) (leaves.before t image objects le left);
  }

-- what holds after Ok leads to more
pub ok_then : {A E : Type 0} (result : Result A E) (P Q R T : Type 0) → OnOk result P → OnOk result Q → OnOk result R → (P → Q → R → T) → OnOk result T
ok_then (Ok x) P Q R T p q r leads = leads p q r
ok_then (Err e) P Q R T p q r leads = tt

-- where the first is told, so is the second
pub both_at : {A : Type 0} (R : A → A → Type 0) (old new : Option A) (x : A) → old ≡ Some x → BothTold R old new → (y : A) × (new ≡ Some y) × R x y
both_at R None new x e both = cc e
both_at R (Some o) None x e both = absurd both
both_at R (Some o) (Some n) x e both = (n, refl, subst (λ z. R z n) (some_same o x e) both)

-- what is told is told of itself
pub both_same : {A : Type 0} (R : A → A → Type 0) (told : Option A) → ((x : A) → R x x) → BothTold R told told
both_same R None same = tt
both_same R (Some x) same = same x
