-- How the pending entries are kept in memory: behind 15 bytes for a batch's header, and before a closed gate.
use Rattle.std.specs.Prelude.{ℕ, ◌-◌, List, [], length, take, drop, Option, Some, None}
use Rattle.sky_journal.specs.Text.{entries_in}

-- the bytes of the entries among these bytes
abbrev pub body_in : List ℕ → List ℕ
body_in batch = take (length batch - 16) (drop 15 batch)

-- what is said, or nothing
abbrev pub or_none : Option (List (List ℕ)) → List (List ℕ)
or_none (Some entries) = entries
or_none None = []

-- the pending entries among these bytes, where there are so many of them
unfoldable pub pending_in : ℕ → List ℕ → List (List ℕ)
pending_in count batch = or_none (entries_in count (body_in batch))
