-- When each fault comes.
--   uint_short, uhyper_short, bool_short, bool_bad, fixed_short, opaque_too_long, opaque_short      of what reading gives
--   at_ok, at_err                                                                      of what a call returned
use Rattle.std.proofs.Common.{◌≡◌, ℕ, ◌+◌, ◌<◌, ◌≤◌, ◌↔◌, List, length, Result, Ok, Err, sym, ap, ◌∙◌, arith, IsErrOf}
use Rattle.std.proofs.lemmas.List.{length-drop}
use Rattle.std.proofs.lemmas.Bool.Decides.{nat_tests}
use Rattle.sky_xdr.specs.declared.fault.XdrFault.{XdrFault}
use Rattle.sky_xdr.specs.declared.fault.XdrFault.TheVariants.{TooLong, Short, BadBool}
use Rattle.sky_xdr.specs.Reading.{word, uint_at, uhyper_at, bool_at, fixed_at, opaque_at, IsCutShort}
use Rattle.sky_xdr.specs.Encoding.{padding}

abbrev failed : {A : Type 0} → XdrFault → Result A XdrFault
failed e = Err e

err_is : {A : Type 0} (d e : XdrFault) → failed {A = A} d ≡ failed e → d ≡ e
err_is d e h = cc

-- a call that was refused reports the fault that reading gives
pub at_err : {X Y : Type 0} {P : Type 0} (read : Result Y XdrFault) (d e : XdrFault) → read ≡ Err d → (read ≡ Err e) ↔ P → IsErrOf {T = X} {E = XdrFault} (Err d) e ↔ P
at_err read d e gives is = (λ h. is.0 (gives ∙ ap failed (err_is d e h)), λ p. ap failed (err_is d e (sym gives ∙ is.1 p)))

-- and one that was not refused none
pub at_ok : {X Y : Type 0} {P : Type 0} (x : X) (read : Result Y XdrFault) (y : Y) (e : XdrFault) → read ≡ Ok y → (read ≡ Err e) ↔ P → IsErrOf {T = X} {E = XdrFault} (Ok x) e ↔ P
at_ok x read y e gives is = (λ h. absurd cc, λ p. absurd (let q = is.1 p in cc))

pub uint_short : (bytes : List ℕ) → (uint_at bytes ≡ Err Short) ↔ (length bytes < 4)
unfolding uint_at
uint_short bytes = grind (arith, nat_tests)

pub uhyper_short : (bytes : List ℕ) → (uhyper_at bytes ≡ Err Short) ↔ (length bytes < 8)
unfolding uhyper_at
uhyper_short bytes = grind (arith, nat_tests)

pub bool_short : (bytes : List ℕ) → (bool_at bytes ≡ Err Short) ↔ (length bytes < 4)
unfolding bool_at uint_at
bool_short bytes = grind (arith, nat_tests)

pub bool_bad : (bytes : List ℕ) → (bool_at bytes ≡ Err BadBool) ↔ ((4 ≤ length bytes) × (1 < word bytes))
unfolding bool_at uint_at
bool_bad bytes = grind (arith, nat_tests)

pub fixed_short : (n : ℕ) (bytes : List ℕ) → (fixed_at n bytes ≡ Err Short) ↔ (length bytes < n + padding n)
unfolding fixed_at
fixed_short n bytes = grind (arith, nat_tests)

pub opaque_too_long : (max : ℕ) (bytes : List ℕ) → (opaque_at max bytes ≡ Err TooLong) ↔ ((4 ≤ length bytes) × (max < word bytes))
unfolding opaque_at uint_at
opaque_too_long max bytes = grind (arith, nat_tests)

pub opaque_short : (max : ℕ) (bytes : List ℕ) → (opaque_at max bytes ≡ Err Short) ↔ IsCutShort max bytes
unfolding opaque_at uint_at
opaque_short max bytes = grind (arith, nat_tests, length-drop)
