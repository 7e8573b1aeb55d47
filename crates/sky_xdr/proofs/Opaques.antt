-- Opaque data: every accepted encoding is read, and what is read has one.
--   length-opaque, length-IsOpaque     how many bytes the written encoding and an accepted one have (opaque_lengths: the first, for calls that measure)
--   AreBytes-opaque                    each byte of the written encoding is below 256
--   IsOpaque-opaque                    the written encoding is accepted
--   opaque_again, accepted_again       the written encoding, and an accepted one, is read again, whatever follows it
--   opaque_took                        what was read begins with an accepted encoding, and is within the limit
--   opaque_same                        one encoding stands for one value
use Rattle.std.proofs.Common.{◌≡◌, ℕ, ◌+◌, ◌-◌, ◌^◌, ◌<◌, ◌≤◌, false, cond, ltb, List, ◌++◌, length, replicate, take, drop, Result, Ok, Err, refl, sym, ap, subst, ◌∙◌, append_assoc, arith}
use Rattle.std.proofs.lemmas.Bool.{ltb-false, le-ltb}
use Rattle.std.proofs.lemmas.List.{take_at, drop_at, take-append-drop, length-append, length-take, length-drop, length-replicate, drop-drop, take_rest}
use Rattle.sky_xdr.specs.declared.fault.XdrFault.{XdrFault}
use Rattle.sky_xdr.specs.declared.fault.XdrFault.TheVariants.{TooLong, Short}
use Rattle.sky_xdr.specs.Encoding.{AreBytes, padding, uint, opaque, IsOpaque, BeginsWithOpaque}
use Rattle.sky_xdr.specs.Reading.{uint_at, opaque_at}
use Rattle.sky_xdr.proofs.Numbers.{AreBytes-append, AreBytes-uint, AreBytes-zeros, AreBytes-drop, AreBytes-take, bind_ok, guard_ok, pair_is, length-uint, uint_again, uint_took}

-- the length of a encoding: the length word, the bytes and the padding
pub length-opaque : (v : List ℕ) → length (opaque v) ≡ 4 + length v + padding (length v)
length-opaque v = omega (arith, length-append (uint (length v)) v, length-append (uint (length v) ++ v) (replicate (padding (length v)) 0), length-uint (length v), length-replicate {A = ℕ} (padding (length v)) 0)

-- the same, by a name that an attribute can have
pub ruleset opaque_lengths = (length-opaque)

pub length-IsOpaque : (bytes v : List ℕ) → IsOpaque bytes v → length bytes ≡ 4 + length v + padding (length v)
length-IsOpaque bytes v is = rw is.encoded (omega (arith, length-append (uint (length v)) v, length-append (uint (length v) ++ v) is.fill, length-uint (length v), is.fills))

-- the encoding itself is accepted
pub IsOpaque-opaque : (v : List ℕ) → IsOpaque (opaque v) v
IsOpaque-opaque v = record { fill = replicate (padding (length v)) 0; fills = length-replicate (padding (length v)) 0; encoded = refl }

pub AreBytes-opaque : (v : List ℕ) → AreBytes v → AreBytes (opaque v)
AreBytes-opaque v are = AreBytes-append (uint (length v) ++ v) (replicate (padding (length v)) 0) (AreBytes-append (uint (length v)) v (AreBytes-uint (length v)) are) (AreBytes-zeros (padding (length v)))

-- the bytes behind the length word: the data, or why it isn't accepted
abbrev data_of : ℕ → ℕ × List ℕ → Result (List ℕ × List ℕ) XdrFault
data_of max n = cond (ltb max n.0) (Err TooLong) (cond (ltb (length n.1) (n.0 + padding n.0)) (Err Short) (Ok (take n.0 n.1, drop (n.0 + padding n.0) n.1)))

pub accepted_again : (max : ℕ) (bytes v rest : List ℕ) → IsOpaque bytes v → length v ≤ max → length v < 2 ^ 32 → opaque_at max (bytes ++ rest) ≡ Ok (v, rest)
unfolding opaque_at
accepted_again max bytes v rest is within fits =
    let n : ℕ = length v in
    let body : List ℕ = v ++ (is.fill ++ rest) in
    let regrouped : bytes ++ rest ≡ uint n ++ body = rw is.encoded (append_assoc (uint n ++ v) is.fill rest ∙ append_assoc (uint n) v (is.fill ++ rest)) in
    let sizes : length body ≡ n + (padding n + length rest) = omega (arith, length-append v (is.fill ++ rest), length-append is.fill rest, is.fills) in
    let short_enough : ltb max n ≡ false = le-ltb _ _ within in
    let long_enough : ltb (length body) (n + padding n) ≡ false = le-ltb _ _ (omega arith) in
    let prefix : take n body ≡ v = take_at v (is.fill ++ rest) n refl in
    let after : drop (n + padding n) body ≡ rest =
    ap (λ (b : List ℕ). drop (n + padding n) b) (sym (append_assoc v is.fill rest))
    ∙ drop_at (v ++ is.fill) rest (n + padding n) (omega (arith, length-append v is.fill, is.fills)) in
    ap (opaque_at max) regrouped ∙ rw (uint_again n body fits) (rw (short_enough, long_enough, prefix, after) refl)

pub opaque_again : (max : ℕ) (v rest : List ℕ) → length v ≤ max → length v < 2 ^ 32 → opaque_at max (opaque v ++ rest) ≡ Ok (v, rest)
opaque_again max v rest within fits = accepted_again max (opaque v) v rest (IsOpaque-opaque v) within fits

-- what the tests of a length let through
data_is : (max n : ℕ) (bytes v rest : List ℕ) → data_of max (n, bytes) ≡ Ok (v, rest) → (n ≤ max) × (n + padding n ≤ length bytes) × (take n bytes ≡ v) × (drop (n + padding n) bytes ≡ rest)
data_is max n bytes v rest e =
    let g = guard_ok (ltb max n) TooLong (cond (ltb (length bytes) (n + padding n)) (Err Short) (Ok (take n bytes, drop (n + padding n) bytes))) (v, rest) e in
    let h = guard_ok (ltb (length bytes) (n + padding n)) Short (Ok (take n bytes, drop (n + padding n) bytes)) (v, rest) g.1 in
    let is = pair_is (take n bytes) v (drop (n + padding n) bytes) rest (Ok (take n bytes, drop (n + padding n) bytes)) refl h.1 in
    (ltb-false _ _ g.0, ltb-false _ _ h.0, is.0, is.1)

-- what was read as opaque data
pub record TookOpaque (max : ℕ) (bytes v rest : List ℕ) : Type 0 where
  pub begins : BeginsWithOpaque bytes v rest
  pub within : length v ≤ max
  pub fits : length v < 2 ^ 32
  pub are_bytes : AreBytes v
  pub rest_fits : AreBytes rest

pub opaque_took : (max : ℕ) (bytes v rest : List ℕ) → AreBytes bytes → opaque_at max bytes ≡ Ok (v, rest) → TookOpaque max bytes v rest
unfolding opaque_at
opaque_took max bytes v rest fits e =
    let s = bind_ok (uint_at bytes) (data_of max) (v, rest) e in
    let n : ℕ = s.0.0 in
    let body : List ℕ = s.0.1 in
    let t = uint_took bytes n body fits s.1 in
    let is = data_is max n body v rest s.2 in
    let len : length v ≡ n = omega (arith, ap length is.2, length-take n body) in
    let fill : List ℕ = take (padding n) (drop n body) in
    let fills : length fill ≡ padding n = omega (arith, length-take (padding n) (drop n body), length-drop n body) in
    let halves : body ≡ take n body ++ (fill ++ drop (padding n) (drop n body)) =
    sym (take-append-drop n body) ∙ ap (λ (r : List ℕ). take n body ++ r) (sym (take-append-drop (padding n) (drop n body))) in
    let after : drop (padding n) (drop n body) ≡ rest = drop-drop (padding n) n body ∙ is.3 in
    let split : body ≡ v ++ (fill ++ rest) = halves ∙ ap (λ (x : List ℕ). x ++ (fill ++ drop (padding n) (drop n body))) is.2 ∙ ap (λ (r : List ℕ). v ++ (fill ++ r)) after in
    let whole : bytes ≡ (uint (length v) ++ v ++ fill) ++ rest =
    t.0.parts ∙ ap (λ (k : ℕ). uint k ++ body) (sym len) ∙ ap (λ (b : List ℕ). uint (length v) ++ b) split
    ∙ sym (append_assoc (uint (length v) ++ v) fill rest ∙ append_assoc (uint (length v)) v (fill ++ rest)) in
    record {
      begins = record { prefix = uint (length v) ++ v ++ fill; accepted = record { fill = fill; fills = rw len fills; encoded = refl }; parts = whole };
      within = rw len is.0;
      fits = rw len t.1;
      are_bytes = subst AreBytes is.2 (AreBytes-take n body t.0.rest_fits);
      rest_fits = subst AreBytes is.3 (AreBytes-drop (n + padding n) body t.0.rest_fits);
    }

-- one encoding stands for one value
pub opaque_same : (v w x y : List ℕ) → length v < 2 ^ 32 → length w < 2 ^ 32 → opaque v ++ x ≡ opaque w ++ y → (v ≡ w) × (x ≡ y)
opaque_same v w x y p q e =
    let first = opaque_again (2 ^ 32) v x (omega arith) p in
    let second = opaque_again (2 ^ 32) w y (omega arith) q in
    pair_is v w x y (opaque_at (2 ^ 32) (opaque v ++ x)) first (ap (opaque_at (2 ^ 32)) e ∙ second)

-- what the code takes apart
pub opaque_prefix : (bytes body : List ℕ) (n p : ℕ) → AreBytes bytes → uint_at bytes ≡ Ok (n, body) → p ≡ padding n → n + p ≤ length body
    → BeginsWithOpaque bytes (take n body) (take (length body - (n + p)) (drop (n + p) body))
unfolding opaque_at
opaque_prefix bytes body n p fits e pad long =
    let within : ltb n n ≡ false = le-ltb _ _ (omega arith) in
    let long_enough : ltb (length body) (n + padding n) ≡ false = le-ltb _ _ (omega arith) in
    let read : opaque_at n bytes ≡ Ok (take n body, drop (n + padding n) body) = rw e (rw (within, long_enough) refl) in
    let all : take (length body - (n + p)) (drop (n + p) body) ≡ drop (n + p) body = take_rest body (n + p) in
    rw (all, pad) (opaque_took n bytes (take n body) (drop (n + padding n) body) fits read).begins
