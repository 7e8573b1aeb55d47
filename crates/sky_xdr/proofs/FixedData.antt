-- Fixed-length opaque data: every accepted encoding is read, and what is read has one.
--   length-fixed, length-IsFixed      how many bytes the written encoding and an accepted one have
--   IsFixed-fixed                     the written encoding is accepted
--   fixed_again, fixed_accepted       the written encoding, and an accepted one, is read again, whatever follows it
--   fixed_took                        what was read begins with an accepted encoding, and has the size that was asked for
use Rattle.std.proofs.Common.{◌≡◌, ℕ, ◌+◌, ◌-◌, ◌≤◌, false, ltb, List, ◌++◌, length, replicate, take, drop, Ok, refl, sym, ap, ◌∙◌, append_assoc, arith}
use Rattle.std.proofs.lemmas.Bool.{ltb-false, le-ltb}
use Rattle.std.proofs.lemmas.List.{take_at, drop_at, take-append-drop, length-append, length-take, length-drop, length-replicate, drop-drop, take_rest}
use Rattle.sky_xdr.specs.declared.fault.XdrFault.TheVariants.{Short}
use Rattle.sky_xdr.specs.Encoding.{padding, fixed, IsFixed, BeginsWithFixed}
use Rattle.sky_xdr.specs.Reading.{fixed_at}
use Rattle.sky_xdr.proofs.Numbers.{guard_ok, pair_is}

pub length-fixed : (v : List ℕ) → length (fixed v) ≡ length v + padding (length v)
length-fixed v = omega (arith, length-append v (replicate (padding (length v)) 0), length-replicate {A = ℕ} (padding (length v)) 0)

pub length-IsFixed : (bytes v : List ℕ) → IsFixed bytes v → length bytes ≡ length v + padding (length v)
length-IsFixed bytes v is = rw is.encoded (omega (arith, length-append v is.fill, is.fills))

-- the encoding itself is accepted
pub IsFixed-fixed : (v : List ℕ) → IsFixed (fixed v) v
IsFixed-fixed v = record { fill = replicate (padding (length v)) 0; fills = length-replicate (padding (length v)) 0; encoded = refl }

pub fixed_accepted : (bytes v rest : List ℕ) → IsFixed bytes v → fixed_at (length v) (bytes ++ rest) ≡ Ok (v, rest)
unfolding fixed_at
fixed_accepted bytes v rest is =
    let n : ℕ = length v in
    let regrouped : bytes ++ rest ≡ v ++ (is.fill ++ rest) = rw is.encoded (append_assoc v is.fill rest) in
    let sizes : length (v ++ (is.fill ++ rest)) ≡ n + (padding n + length rest) = omega (arith, length-append v (is.fill ++ rest), length-append is.fill rest, is.fills) in
    let long_enough : ltb (length (v ++ (is.fill ++ rest))) (n + padding n) ≡ false = le-ltb _ _ (omega arith) in
    let prefix : take n (v ++ (is.fill ++ rest)) ≡ v = take_at v (is.fill ++ rest) n refl in
    let after : drop (n + padding n) (v ++ (is.fill ++ rest)) ≡ rest =
    ap (λ (b : List ℕ). drop (n + padding n) b) (sym (append_assoc v is.fill rest))
    ∙ drop_at (v ++ is.fill) rest (n + padding n) (omega (arith, length-append v is.fill, is.fills)) in
    ap (fixed_at n) regrouped ∙ rw (long_enough, prefix, after) refl

pub fixed_again : (v rest : List ℕ) → fixed_at (length v) (fixed v ++ rest) ≡ Ok (v, rest)
fixed_again v rest = fixed_accepted (fixed v) v rest (IsFixed-fixed v)

-- what was read as fixed-length opaque data
pub record TookFixed (n : ℕ) (bytes v rest : List ℕ) : Type 0 where
  pub begins : BeginsWithFixed bytes v rest
  pub size : length v ≡ n
  pub rest_is : drop (n + padding n) bytes ≡ rest

pub fixed_took : (n : ℕ) (bytes v rest : List ℕ) → fixed_at n bytes ≡ Ok (v, rest) → TookFixed n bytes v rest
unfolding fixed_at
fixed_took n bytes v rest e =
    let g = guard_ok (ltb (length bytes) (n + padding n)) Short (Ok (take n bytes, drop (n + padding n) bytes)) (v, rest) e in
    let long : n + padding n ≤ length bytes = ltb-false _ _ g.0 in
    let is = pair_is (take n bytes) v (drop (n + padding n) bytes) rest (Ok (take n bytes, drop (n + padding n) bytes)) refl g.1 in
    let len : length v ≡ n = omega (arith, ap length is.0, length-take n bytes) in
    let fill : List ℕ = take (padding n) (drop n bytes) in
    let fills : length fill ≡ padding n = omega (arith, length-take (padding n) (drop n bytes), length-drop n bytes) in
    let after : drop (padding n) (drop n bytes) ≡ rest = drop-drop (padding n) n bytes ∙ is.1 in
    let halves : bytes ≡ take n bytes ++ (fill ++ drop (padding n) (drop n bytes)) =
    sym (take-append-drop n bytes) ∙ ap (λ (r : List ℕ). take n bytes ++ r) (sym (take-append-drop (padding n) (drop n bytes))) in
    let whole : bytes ≡ (v ++ fill) ++ rest =
    halves ∙ ap (λ (x : List ℕ). x ++ (fill ++ drop (padding n) (drop n bytes))) is.0 ∙ ap (λ (r : List ℕ). v ++ (fill ++ r)) after ∙ sym (append_assoc v fill rest) in
    record {
      begins = record { prefix = v ++ fill; accepted = record { fill = fill; fills = fills ∙ ap padding (sym len); encoded = refl }; parts = whole };
      size = len;
      rest_is = is.1;
    }

-- what the code takes apart
pub fixed_prefix : (bytes : List ℕ) (n p : ℕ) → p ≡ padding n → n + p ≤ length bytes
    → BeginsWithFixed bytes (take n bytes) (take (length bytes - (n + p)) (drop (n + p) bytes))
unfolding fixed_at
fixed_prefix bytes n p pad long =
    let long_enough : ltb (length bytes) (n + padding n) ≡ false = le-ltb _ _ (omega arith) in
    let read : fixed_at n bytes ≡ Ok (take n bytes, drop (n + padding n) bytes) = rw long_enough refl in
    let all : take (length bytes - (n + p)) (drop (n + p) bytes) ≡ drop (n + p) bytes = take_rest bytes (n + p) in
    rw (all, pad) (fixed_took n bytes (take n bytes) (drop (n + padding n) bytes) read).begins
