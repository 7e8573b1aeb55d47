-- Counts of faults: how a device licenses the answers that blame it.
use Rattle.std.specs.Prelude.{ℕ, ◌≡◌, ◌+◌, ◌-◌, ◌^◌, ◌≤◌, min}

-- the count rose: it is greater than before, or it stands at the last value of a 64-bit counter
abbrev pub Rose : ℕ → ℕ → Type 0
Rose before now = min (before + 1) (2 ^ 64 - 1) ≤ now

-- In this call the count didn't fall, it rose if the call failed, and it stayed if the call didn't.
pub record Counts (before now : ℕ) (failed : Type 0) : Type 0 where
  pub grows : before ≤ now
  pub cause : failed → Rose before now
  pub quiet : (failed → ⊥) → now ≡ before
