use Rattle.std.proofs.Common.{rules, ◌≡◌, ◌-◌, List, ℕ, length, ap, sym, subst, ◌∙◌, arith, false}
use Rattle.std.specs.Int.{w64, to_be_bytes}
use Rattle.sky_outside.specs.Image.{written}
use Rattle.sky_journal.specs.Layout.{is_open}
use Rattle.sky_journal.specs.Written.{IsBehindBatchGate}
use Rattle.sky_journal.proofs.Headers.{batch_gate, numbered_batch, numbered-gate, numbered-length}
use Rattle.sky_journal.proofs.batch.put_numbers.Goals as goal

pub returns-clause-complete : goal.returns-clause-complete
returns-clause-complete c =
    let size = length c.args.batch.now - 16 in
    let is : c.put_u64.new.bytes ≡ numbered_batch c.args.batch.now c.args.count size =
    c.put_u64.ensures ∙ ap (λ (b : List ℕ). written b 7 (to_be_bytes w64 size)) c.put_u32.ensures in
    λ entries has. subst (λ (b : List ℕ). IsBehindBatchGate b entries) (sym is) (batch_gate c.args.batch.now c.args.count entries c.requires.framed c.ranges.count.fits (search rules) c.requires.closed c.requires.unused has)

pub returns-clause-closed : goal.returns-clause-closed
returns-clause-closed c =
    let size = length c.args.batch.now - 16 in
    let is : c.put_u64.new.bytes ≡ numbered_batch c.args.batch.now c.args.count size =
    c.put_u64.ensures ∙ ap (λ (b : List ℕ). written b 7 (to_be_bytes w64 size)) c.put_u32.ensures in
    let long : length (numbered_batch c.args.batch.now c.args.count size) ≡ length c.args.batch.now = numbered-length c.args.batch.now c.args.count size c.requires.framed in
    subst (λ (b : List ℕ). is_open (length b - 1) b ≡ false) (sym is)
    (ap (λ (n : ℕ). is_open (n - 1) (numbered_batch c.args.batch.now c.args.count size)) long
    ∙ numbered-gate c.args.batch.now c.args.count size c.requires.framed (length c.args.batch.now - 1) (omega (arith, c.requires.framed)) ∙ c.requires.closed)
