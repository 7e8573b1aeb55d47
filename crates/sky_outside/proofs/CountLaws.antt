-- How the counts of several calls compose. Crates above cite these.
use Rattle.std.proofs.Common.{ℕ, ◌≤◌, ◌⊎◌, ⊎_elim, arith, ◌∙◌, refl}
use Rattle.sky_outside.specs.Count.{Rose, Counts}

-- a count that rose has risen later too
pub rose_by_then : (a b c : ℕ) → Rose a b → b ≤ c → Rose a c
rose_by_then a b c rose later = omega arith

-- a count that rose since a moment has risen since an earlier one
pub rose_since : (a b c : ℕ) → a ≤ b → Rose b c → Rose a c
rose_since a b c earlier rose = omega arith

-- a count that stands at 0 rose in no call
pub never_rose : (a : ℕ) → Rose a 0 → ⊥
never_rose a rose = omega arith

-- Two calls, one after the other, count as one that failed exactly if one of them did.
pub counts_then : {P Q R : Type 0} (a b c : ℕ) → Counts a b P → Counts b c Q → (P → R) → (Q → R) → (R → P ⊎ Q) → Counts a c R
counts_then a b c first second from_first from_second failed = record {
  grows = omega (arith, first.grows, second.grows);
  cause = λ r. ⊎_elim (λ p. rose_by_then a b c (first.cause p) second.grows) (λ q. rose_since a b c first.grows (second.cause q)) (failed r);
  quiet = λ fine. second.quiet (λ q. fine (from_second q)) ∙ first.quiet (λ p. fine (from_first p));
}

-- where no call is made, nothing failed
pub counts_none : {R : Type 0} (a : ℕ) → (R → ⊥) → Counts a a R
counts_none a never = record { grows = omega arith; cause = λ r. absurd (never r); quiet = λ _. refl }

-- a call whose failure is told by another fact, which holds exactly where the first does
pub counts_weaker : {P R : Type 0} (a b : ℕ) → Counts a b P → (P → R) → (R → P) → Counts a b R
counts_weaker a b counts told failed = record {
  grows = counts.grows;
  cause = λ r. counts.cause (failed r);
  quiet = λ fine. counts.quiet (λ p. fine (told p));
}
