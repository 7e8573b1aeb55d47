-- Unsigned integers, read one after the other.
--   both                       two values that were read, and what stands behind them
--   uints-zero, uints-suc      none, and one more in front
--   uints_more, uints_stop     one more behind, and a fault there
--   length-uints_at            how many were read
--   gids-few                   the groups of a caller, where they are not too many
use Rattle.std.proofs.Common.{◌≡◌, ℕ, zero, suc, ◌<◌, ◌≤◌, false, ltb, List, [], ◌∷◌, ◌++◌, length, Result, Ok, Err, refl, sym, ap, ◌∙◌, arith}
use Rattle.sky_xdr.specs.declared.fault.XdrFault.{XdrFault}
use Rattle.sky_xdr.specs.Reading.{◌>>=◌, uint_at}
use Rattle.sky_xdr.proofs.Numbers.{done, bind_ok, pair_is}
use Rattle.std.proofs.lemmas.Bool.{le-ltb}
use Rattle.sky_base.specs.Limits.{max_gids}
use Rattle.sky_rpc.specs.Reading.{uints_at, gids_at}

-- what reading gave is one value and one rest
pub both : {X : Type 0} (x y : X) (a b : List ℕ) → done {A = X × List ℕ} (x, a) ≡ done (y, b) → (x ≡ y) × (a ≡ b)
both {X = X} x y a b e = pair_is x y a b (done {A = X × List ℕ} (x, a)) refl e

pub uints-zero : (bytes : List ℕ) → uints_at 0 bytes ≡ Ok ([], bytes)
unfolding uints_at
uints-zero bytes = refl

-- the others, behind the first
abbrev pub behind : ℕ → ℕ × List ℕ → Result (List ℕ × List ℕ) XdrFault
behind n first = uints_at n first.1 >>= λ others. Ok (first.0 ∷ others.0, others.1)

pub uints-suc : (n : ℕ) (bytes : List ℕ) → uints_at (suc n) bytes ≡ (uint_at bytes >>= behind n)
unfolding uints_at
uints-suc n bytes = refl

-- what was read in front, and behind it
record Parts (n : ℕ) (bytes ns now : List ℕ) : Type 0 where
  first : ℕ
  left : List ℕ
  others : List ℕ
  first_is : uint_at bytes ≡ Ok (first, left)
  others_are : uints_at n left ≡ Ok (others, now)
  all : ns ≡ first ∷ others

parts : (n : ℕ) (bytes ns now : List ℕ) → uints_at (suc n) bytes ≡ Ok (ns, now) → Parts n bytes ns now
parts n bytes ns now e =
    let s = bind_ok (uint_at bytes) (behind n) (ns, now) (sym (uints-suc n bytes) ∙ e) in
    let t = bind_ok (uints_at n s.0.1) (λ (others : List ℕ × List ℕ). Ok (s.0.0 ∷ others.0, others.1)) (ns, now) s.2 in
    let is = both (s.0.0 ∷ t.0.0) ns t.0.1 now t.2 in
    record { first = s.0.0; left = s.0.1; others = t.0.0; first_is = s.1; others_are = t.1 ∙ ap (λ (r : List ℕ). Ok (t.0.0, r)) is.1; all = sym is.0 }

pub length-uints_at : (n : ℕ) (bytes ns now : List ℕ) → uints_at n bytes ≡ Ok (ns, now) → length ns ≡ n
length-uints_at zero bytes ns now e =
    let is = pair_is [] ns bytes now (uints_at 0 bytes) (uints-zero bytes) e in ap length (sym is.0)
length-uints_at (suc n) bytes ns now e =
    let p = parts n bytes ns now e in
    omega (arith, ap length p.all, length-uints_at n p.left p.others now p.others_are)

pub uints_more : (n : ℕ) (bytes ns now : List ℕ) (w : ℕ) (rest : List ℕ) → uints_at n bytes ≡ Ok (ns, now) → uint_at now ≡ Ok (w, rest) → uints_at (suc n) bytes ≡ Ok (ns ++ w ∷ [], rest)
uints_more zero bytes ns now w rest e f =
    let is = pair_is [] ns bytes now (uints_at 0 bytes) (uints-zero bytes) e in
    let first : uint_at bytes ≡ Ok (w, rest) = ap uint_at is.1 ∙ f in
    rw (uints-suc 0 bytes, first, uints-zero rest, ← is.0) refl
uints_more (suc n) bytes ns now w rest e f =
    let p = parts n bytes ns now e in
    let next = uints_more n p.left p.others now w rest p.others_are f in
    let read : uints_at (suc (suc n)) bytes ≡ Ok (p.first ∷ (p.others ++ w ∷ []), rest) = rw (uints-suc (suc n) bytes, p.first_is, next) refl in
    read ∙ ap (λ (x : List ℕ). Ok (x ++ w ∷ [], rest)) (sym p.all)

pub uints_stop : (n m : ℕ) (bytes ns now : List ℕ) (fault : XdrFault) → n < m → uints_at n bytes ≡ Ok (ns, now) → uint_at now ≡ Err fault → uints_at m bytes ≡ Err fault
uints_stop n zero bytes ns now fault lt e f = absurd (omega arith)
uints_stop zero (suc m) bytes ns now fault lt e f =
    let is = pair_is [] ns bytes now (uints_at 0 bytes) (uints-zero bytes) e in
    let first : uint_at bytes ≡ Err fault = ap uint_at is.1 ∙ f in
    rw (uints-suc m bytes, first) refl
uints_stop (suc n) (suc m) bytes ns now fault lt e f =
    let p = parts n bytes ns now e in
    let next = uints_stop n m p.left p.others now fault (omega arith) p.others_are f in
    rw (uints-suc m bytes, p.first_is, next) refl

pub gids-few : (bytes : List ℕ) (count : ℕ) (left : List ℕ) → uint_at bytes ≡ Ok (count, left) → count ≤ max_gids → gids_at bytes ≡ uints_at count left
unfolding gids_at
gids-few bytes count left e few =
    let within : ltb max_gids count ≡ false = le-ltb _ _ few in
    rw (e, within) refl
