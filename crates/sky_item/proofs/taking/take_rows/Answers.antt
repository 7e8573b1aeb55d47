use Rattle.std.proofs.Common.{ℕ, Vec, Global, List}
use Rattle.std.proofs.lemmas.Result.{err_from_is_err_and}
use Rattle.sky_item.specs.Fields.{row_at, rows_at}
use Rattle.sky_item.proofs.Each.{each_none, each_more, each_refused, pushed}
use Rattle.sky_item.proofs.taking.take_rows.Goals as goal

pub loop-init : goal.loop-init
loop-init c = record {
  taken = rw c.in_ok-items.ensures.items (each_none (λ _. row_at) (λ s row. s) (tt {0}) c.args.reader.now);
}

pub returns-in_err-row : goal.returns-in_err-row
unfolding rows_at
returns-in_err-row c =
    let p = err_from_is_err_and c.from_residual-in_err-row.result c.from_residual-in_err-row.ensures.1 in
    rw (p.1, p.2)
    (each_refused (λ _. row_at) (λ s row. s) (λ (v : Vec (ℕ × List ℕ × ℕ) Global). v.items) c.loop.counter c.args.count (tt {0}) c.args.reader.now c.loop.items.items c.loop.reader c.take_row.new.reader c.in_err-row.field-0.0
    c.loop.invariant.taken c.in_err-row.ensures c.loop-test.true)

pub loop-preserved : goal.loop-preserved
loop-preserved c =
    let items = pushed c.push.result c.push.new.self.items c.loop.items.items c.in_ok-row.row c.in_ok-map_err.ensures.variant c.push.ensures.items in
    record {
      taken = rw items (each_more (λ _. row_at) (λ s row. s) c.loop.counter (tt {0}) c.args.reader.now c.loop.items.items c.loop.reader c.in_ok-row.row c.take_row.new.reader c.loop.invariant.taken c.in_ok-row.ensures);
    }
