-- The calls of a device in memory: which of them fail, and what came of them so far.
use Rattle.std.specs.Prelude.{ℕ, ◌+◌, ◌-◌, ◌^◌, min, List, Contains, Bool, if◌then◌else◌}

pub record CallLog : Type 0 where
  -- the numbers of the calls that fail; the first call has the number 0
  pub fail : List ℕ
  -- how many calls there were, which is the number of the next one
  pub calls : ℕ
  -- how many of them failed
  pub faults : ℕ

-- a count of 64 bits after one more, which stays at its last value
abbrev pub one_more : ℕ → ℕ
one_more n = min (n + 1) (2 ^ 64 - 1)

-- no call, and no fault
abbrev pub no_calls : List ℕ → CallLog
no_calls fail = record { fail = fail; calls = 0; faults = 0 }

-- the next call is one of those that fail
abbrev pub IsToFail : CallLog → Type 0
IsToFail log = Contains log.fail log.calls

-- after one more call, which failed or didn't
abbrev pub after_call : CallLog → Bool → CallLog
after_call log failed = record {
  fail = log.fail;
  calls = one_more log.calls;
  faults = if failed then one_more log.faults else log.faults;
}
