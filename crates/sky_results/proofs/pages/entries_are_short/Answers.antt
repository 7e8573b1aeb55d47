use Rattle.std.proofs.Common.{length, ap, arith}
use Rattle.sky_results.specs.Results.{entry3}
use Rattle.sky_results.proofs.Entries.{entry_within, name_within, entry_most}
use Rattle.sky_results.proofs.pages.entries_are_short.Goals as goal

pub returns-then-name-ge-TOO_LONG : goal.returns-then-name-ge-TOO_LONG
returns-then-name-ge-TOO_LONG c =
    (λ h. absurd cc, λ short. absurd (omega (arith, short, ap length c.as_slice-name.ensures, name_within c.entry-item.result, entry_within entry3 c.args.entries.now c.loop-entry.entry-index c.entry-item.result c.loop-entry-test.true c.entry-item.is)))

pub entry_length-sum-requires : goal.entry_length-sum-requires
entry_length-sum-requires c = omega (arith, ap length c.as_slice-name.ensures, entry_most c.entry-item.result)

pub overflow_add-sum : goal.overflow_add-sum
overflow_add-sum c = omega (arith, ap length c.as_slice-name.ensures, entry_most c.entry-item.result)

pub returns-then-sum-ge-TOO_LONG : goal.returns-then-sum-ge-TOO_LONG
returns-then-sum-ge-TOO_LONG c =
    (λ h. absurd cc, λ short. absurd (omega (arith, short, entry_within entry3 c.args.entries.now c.loop-entry.entry-index c.entry-item.result c.loop-entry-test.true c.entry-item.is)))
