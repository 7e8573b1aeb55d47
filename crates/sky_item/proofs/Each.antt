-- Values that are read one behind the other: none yet, one more, and where one is refused.
--   after                    where reading stands behind some values
--   each_none, each_more     no values, and one more behind those that were read
--   each_stops, each_refused a refused value behind those that were read
--   each_split               values that were read are a first one and those behind it
--   ok_pair                  what reading gives is one value and one rest
--   pushed                   a value that was pushed
use Rattle.std.proofs.Common.{◌≡◌, ℕ, zero, suc, Bool, true, cond, is_ok, ◌+◌, ◌<◌, List, [], ◌∷◌, ◌++◌, Result, Ok, Err, refl, sym, ap, subst, ◌∙◌, add-one, arith}
use Rattle.sky_item.specs.declared.fault.Refusal.{Refusal}
use Rattle.sky_item.specs.declared.fault.Refusal.TheVariants.{At, Memory}
use Rattle.sky_item.specs.Taking.{Takes, TakesBy}
use Rattle.sky_item.specs.Reading.{Reader, behind, bind, give, each_at}

-- where reading stands behind some values
abbrev pub after : {S A : Type 0} → (S → A → S) → S → List A → S
after next s [] = s
after next s (x ∷ xs) = after next (next s x) xs

pub after-push : {S A : Type 0} (next : S → A → S) (s : S) (xs : List A) (x : A) → after next s (xs ++ x ∷ []) ≡ next (after next s xs) x
after-push next s [] x = refl
after-push next s (y ∷ ys) x = after-push next (next s y) ys x

pub each_none : {S A : Type 0} (p : S → Reader A) (next : S → A → S) (s : S) (bytes : List ℕ) → each_at p next 0 s bytes ≡ Ok ([], bytes)
unfolding each_at give
each_none p next s bytes = refl

-- a first value, and those behind it
abbrev pub consed : {A : Type 0} → A → Result (List A × List ℕ) ℕ → Result (List A × List ℕ) ℕ
consed x (Ok (xs, rest)) = Ok (x ∷ xs, rest)
consed x (Err left) = Err left

-- reading one more value than n
abbrev pub first_of : {S A : Type 0} → (S → Reader A) → (S → A → S) → ℕ → S → Result (A × List ℕ) ℕ → Result (List A × List ℕ) ℕ
first_of p next n s (Ok (x, rest)) = consed x (each_at p next n (next s x) rest)
first_of p next n s (Err left) = Err left

each-suc : {S A : Type 0} (p : S → Reader A) (next : S → A → S) (n : ℕ) (s : S) (bytes : List ℕ) → each_at p next (suc n) s bytes ≡ first_of p next n s (p s bytes)
unfolding each_at bind give
each-suc p next n s bytes = elim (p s bytes) as (λ r. behind (λ x. bind (each_at p next n (next s x)) (λ xs. give (x ∷ xs))) r ≡ first_of p next n s r) [
  | Ok (x, rest) ↦ elim (each_at p next n (next s x) rest) as (λ r. behind (λ xs. give (x ∷ xs)) r ≡ consed x r) [ Ok (xs, more) ↦ refl | Err left ↦ refl ]
  | Err left ↦ refl
]

-- ---- reading that gave values

pub ok_pair : {X : Type 0} (x y : X) (a b : List ℕ) (r : Result (X × List ℕ) ℕ) → r ≡ Ok (x, a) → r ≡ Ok (y, b) → (x ≡ y) × (a ≡ b)
ok_pair {X = X} x y a b r p q =
    let pair : X × List ℕ = (x, a) in
    let other : X × List ℕ = (y, b) in
    let made : X × List ℕ → Result (X × List ℕ) ℕ = λ t. Ok t in
    let e : made pair ≡ made other = sym p ∙ q in
    let same : pair ≡ other = cc in
    (ap (λ (t : X × List ℕ). t.0) same, ap (λ (t : X × List ℕ). t.1) same)

-- values that were read are a first one and those behind it
pub record Split {S A : Type 0} (p : S → Reader A) (next : S → A → S) (n : ℕ) (s : S) (bytes : List ℕ) (xs : List A) (rest : List ℕ) : Type 0 where
  pub x : A
  pub others : List A
  pub mid : List ℕ
  pub first : p s bytes ≡ Ok (x, mid)
  pub behind : each_at p next n (next s x) mid ≡ Ok (others, rest)
  pub is : x ∷ others ≡ xs

split_others : {S A : Type 0} (p : S → Reader A) (next : S → A → S) (n : ℕ) (s : S) (bytes : List ℕ) (xs : List A) (rest : List ℕ) (x : A) (mid : List ℕ) (r : Result (List A × List ℕ) ℕ)
    → p s bytes ≡ Ok (x, mid) → each_at p next n (next s x) mid ≡ r → consed x r ≡ Ok (xs, rest) → Split p next n s bytes xs rest
split_others p next n s bytes xs rest x mid (Ok (others, more)) first behind e =
    let same = ok_pair (x ∷ others) xs more rest (Ok (x ∷ others, more)) refl e in
    record { x = x; others = others; mid = mid; first = first; behind = behind ∙ ap (λ (t : List ℕ). Ok (others, t)) same.1; is = same.0 }
split_others p next n s bytes xs rest x mid (Err left) first behind e = absurd cc

split_first : {S A : Type 0} (p : S → Reader A) (next : S → A → S) (n : ℕ) (s : S) (bytes : List ℕ) (xs : List A) (rest : List ℕ) (r : Result (A × List ℕ) ℕ)
    → p s bytes ≡ r → first_of p next n s r ≡ Ok (xs, rest) → Split p next n s bytes xs rest
split_first p next n s bytes xs rest (Ok (x, mid)) first e = split_others p next n s bytes xs rest x mid (each_at p next n (next s x) mid) first refl e
split_first p next n s bytes xs rest (Err left) first e = absurd cc

pub each_split : {S A : Type 0} (p : S → Reader A) (next : S → A → S) (n : ℕ) (s : S) (bytes : List ℕ) (xs : List A) (rest : List ℕ)
    → each_at p next (suc n) s bytes ≡ Ok (xs, rest) → Split p next n s bytes xs rest
each_split p next n s bytes xs rest e = split_first p next n s bytes xs rest (p s bytes) refl (sym (each-suc p next n s bytes) ∙ e)

-- ---- a loop

-- a first value that was read, and what reading the others gives
pub first_gives : {S A : Type 0} (p : S → Reader A) (next : S → A → S) (n : ℕ) (s : S) (bytes : List ℕ) (x : A) (mid : List ℕ) (r : Result (List A × List ℕ) ℕ)
    → p s bytes ≡ Ok (x, mid) → each_at p next n (next s x) mid ≡ r → each_at p next (suc n) s bytes ≡ consed x r
first_gives p next n s bytes x mid r first behind = each-suc p next n s bytes ∙ ap (first_of p next n s) first ∙ ap (consed x) behind

pub each_more : {S A : Type 0} (p : S → Reader A) (next : S → A → S) (k : ℕ) (s : S) (bytes : List ℕ) (xs : List A) (rest : List ℕ) (x : A) (more : List ℕ)
    → each_at p next k s bytes ≡ Ok (xs, rest) → p (after next s xs) rest ≡ Ok (x, more) → each_at p next (k + 1) s bytes ≡ Ok (xs ++ x ∷ [], more)
each_more p next zero s bytes xs rest x more so_far one =
    let is = ok_pair [] xs bytes rest (each_at p next 0 s bytes) (each_none p next s bytes) so_far in
    let here : p s bytes ≡ Ok (x, more) = subst (λ (t : List ℕ). p s t ≡ Ok (x, more)) (sym is.1) (subst (λ ys. p (after next s ys) rest ≡ Ok (x, more)) (sym is.0) one) in
    subst (λ ys. each_at p next 1 s bytes ≡ Ok (ys ++ x ∷ [], more)) is.0 (first_gives p next 0 s bytes x more (Ok ([], more)) here (each_none p next (next s x) more))
each_more p next (suc k) s bytes xs rest x more so_far one =
    let t = each_split p next k s bytes xs rest so_far in
    let there : p (after next (next s t.x) t.others) rest ≡ Ok (x, more) = subst (λ ys. p (after next s ys) rest ≡ Ok (x, more)) (sym t.is) one in
    let behind = each_more p next k (next s t.x) t.mid t.others rest x more t.behind there in
    subst (λ ys. each_at p next (suc k + 1) s bytes ≡ Ok (ys ++ x ∷ [], more)) t.is
    (rw add-one (first_gives p next (suc k) s bytes t.x t.mid (Ok (t.others ++ x ∷ [], more)) t.first (rw add-one at behind)))

pub each_stops : {S A : Type 0} (p : S → Reader A) (next : S → A → S) (k n : ℕ) (s : S) (bytes : List ℕ) (xs : List A) (rest : List ℕ) (left : ℕ)
    → each_at p next k s bytes ≡ Ok (xs, rest) → p (after next s xs) rest ≡ Err left → k < n → each_at p next n s bytes ≡ Err left
each_stops p next k zero s bytes xs rest left so_far one below = absurd (omega arith)
each_stops p next zero (suc n) s bytes xs rest left so_far one below =
    let is = ok_pair [] xs bytes rest (each_at p next 0 s bytes) (each_none p next s bytes) so_far in
    let here : p s bytes ≡ Err left = subst (λ (t : List ℕ). p s t ≡ Err left) (sym is.1) (subst (λ ys. p (after next s ys) rest ≡ Err left) (sym is.0) one) in
    each-suc p next n s bytes ∙ ap (first_of p next n s) here
each_stops p next (suc k) (suc n) s bytes xs rest left so_far one below =
    let t = each_split p next k s bytes xs rest so_far in
    let there : p (after next (next s t.x) t.others) rest ≡ Err left = subst (λ ys. p (after next s ys) rest ≡ Err left) (sym t.is) one in
    first_gives p next n s bytes t.x t.mid (Err left) t.first (each_stops p next k n (next s t.x) t.mid t.others rest left t.behind there (omega arith))

-- what a call answers whose next value was refused, or had no memory
pub each_refused : {S A X : Type 0} (p : S → Reader A) (next : S → A → S) (view : X → List A) (k n : ℕ) (s : S) (bytes : List ℕ) (xs : List A) (rest now : List ℕ) (e : Refusal)
    → each_at p next k s bytes ≡ Ok (xs, rest) → Takes {X = A} (Err e) now (p (after next s xs) rest) → k < n → TakesBy view (Err e) now (each_at p next n s bytes)
each_refused p next view k n s bytes xs rest now (At left) so_far one below = each_stops p next k n s bytes xs rest left so_far one below
each_refused p next view k n s bytes xs rest now Memory so_far one below = tt

-- a value that was pushed
pub pushed : {X E : Type 0} (r : Result (Unit {0}) E) (new old : List X) (x : X) → true ≡ is_ok r → new ≡ cond (is_ok r) (old ++ x ∷ []) old → new ≡ old ++ x ∷ []
pushed r new old x ok e = e ∙ ap (λ (b : Bool). cond b (old ++ x ∷ []) old) (sym ok)
