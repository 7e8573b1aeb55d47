-- each row adds its name to the index
use Rattle.std.proofs.Common.{◌≡◌, ◌+◌, ◌≤◌, ◌++◌, ◌∷◌, [], ℕ, List, None, Some, map, take, drop, ◌<◌, ap, sym, subst, ◌∙◌, arith}
use Rattle.std.specs.Prelude.{is_some, true}
use Rattle.std.specs.List.{AllByRecursion}
use Rattle.std.specs.Map.{update}
use Rattle.std.specs.Str.{bytes_eq}
use Rattle.std.proofs.lemmas.List.{map-append, take_more, take_all}
use Rattle.sky_base.specs.Listing.{Entry}
use Rattle.sky_dir.specs.Kept.{IsIndexed, cookie_at}
use Rattle.sky_dir.specs.Rows.{entry_of}
use Rattle.sky_dir.proofs.KeptLemmas.{cookie_at-update}
use Rattle.sky_dir.specs.Orderly.{AscendsBelow, NamesDiffer}
use Rattle.sky_dir.proofs.OrderlyLemmas.{above_behind, all_weaker, all_middle, below_from_ascends}
use Rattle.sky_dir.proofs.RowsLemmas.{split_rows, rest_rows}
use Rattle.sky_dir.proofs.KeptSteps.{twice_not_orderly, indexed_more, indexed_wider, none_when_not_some}
use Rattle.sky_dir.proofs.indexed.index_of.Goals as goal
use Rattle.sky_dir.proofs.indexed.index_of.Goals.{then-row-least-via-then-row-least, then-row-least-via-else-row-least+then-row-next}

pub loop-row-preserved : goal.loop-row-preserved
loop-row-preserved c =
    let rows = c.args.rows.now in
    let i = c.loop-row.row-index in
    let row = c.row-item.result in
    let key : c.in_ok-key.key.items ≡ row.1 = c.in_ok-key.ensures.items ∙ c.as_bytes.ensures.same in
    let more : map entry_of (take i rows) ++ entry_of row ∷ [] ≡ map entry_of (take (i + 1) rows) =
    sym (map-append entry_of (take i rows) (row ∷ [])) ∙ ap (map entry_of) (ap (λ r. take i rows ++ r ∷ []) c.row-item.is ∙ sym (take_more rows i row (omega arith))) in
    let old : None ≡ cookie_at c.loop-row.index row.1 =
    sym (none_when_not_some c.in_ok-insert.field-0 (cc)) ∙ c.in_ok-insert.ensures.old ∙ ap (cookie_at c.loop-row.index) key in
    let have = indexed_more (map entry_of (take i rows)) c.loop-row.index c.insert.new.self c.loop-row.least c.loop-row.invariant.so_far (entry_of row) (omega arith) old
    (λ q. cookie_at-update c.in_ok-key.key.items c.loop-row.index c.insert.new.self (Some row.0) c.in_ok-insert.ensures.updates q ∙ ap (λ n. update bytes_eq (cookie_at c.loop-row.index) n (Some row.0) q) key) in
    record {
      so_far = subst (λ es. IsIndexed es c.insert.new.self (row.0 + 1)) more have;
      within = omega arith;
      coming = λ ascends.
          let above = above_behind c.args.next (map entry_of (take i rows)) (entry_of row) (map entry_of (drop (i + 1) rows)) (subst (AscendsBelow c.args.next) (split_rows rows i row (omega arith) c.row-item.is) ascends) in
          all_weaker (λ e. row.0 < e.cookie) (λ e. row.0 + 1 ≤ e.cookie) (λ e lt. omega arith) (map entry_of (drop (i + 1) rows)) above;
    }

pub returns-clause-some : goal.returns-clause-some
returns-clause-some c =
    let rows = c.args.rows.now in
    let all : map entry_of (take c.loop-row.row-index rows) ≡ map entry_of rows = ap (map entry_of) (take_all c.loop-row.row-index rows (omega arith)) in
    indexed_wider (map entry_of rows) c.loop-row.index c.loop-row.least c.args.next c.loop-row.invariant.within (subst (λ es. IsIndexed es c.loop-row.index c.loop-row.least) all c.loop-row.invariant.so_far)

pub returns-then-row-least-clause-none : goal.returns-then-row-least-clause-none
returns-then-row-least-clause-none c = λ orderly.
    let rows = c.args.rows.now in
    let i = c.loop-row.row-index in
    let row = c.row-item.result in
    let below = below_from_ascends c.args.next (map entry_of rows) orderly.0 in
    let within : row.0 < c.args.next =
    all_middle (λ e. e.cookie < c.args.next) (map entry_of (take i rows)) (entry_of row) (map entry_of (drop (i + 1) rows)) (subst (AllByRecursion (λ (e : Entry). e.cookie < c.args.next)) (split_rows rows i row (omega arith) c.row-item.is) below) in
    let not_less : c.loop-row.least ≤ row.0 =
    (subst (λ (l : List (ℕ × List ℕ × ℕ)). AllByRecursion (λ (e : Entry). c.loop-row.least ≤ e.cookie) (map entry_of l)) (rest_rows rows i row (omega arith) c.row-item.is) (c.loop-row.invariant.coming orderly.0)).0 in
    elim c.then-row-least.branch [
      | then-row-least-via-then-row-least w ↦ absurd (omega (arith, w.if-row-least.true))
      | then-row-least-via-else-row-least+then-row-next w ↦ absurd (omega (arith, w.if-row-next.true))
    ]

pub returns-then-is_some-clause-none : goal.returns-then-is_some-clause-none
returns-then-is_some-clause-none c = λ orderly.
    let rows = c.args.rows.now in
    let i = c.loop-row.row-index in
    let row = c.row-item.result in
    let key : c.in_ok-key.key.items ≡ row.1 = c.in_ok-key.ensures.items ∙ c.as_bytes.ensures.same in
    let old : c.in_ok-insert.field-0 ≡ cookie_at c.loop-row.index row.1 = c.in_ok-insert.ensures.old ∙ ap (cookie_at c.loop-row.index) key in
    let some : is_some c.in_ok-insert.field-0 ≡ true = cc in
    twice_not_orderly (map entry_of (take i rows)) c.loop-row.index c.loop-row.least c.loop-row.invariant.so_far (entry_of row) (map entry_of (drop (i + 1) rows)) (sym (ap is_some old) ∙ some)
    (subst NamesDiffer (split_rows rows i row (omega arith) c.row-item.is) orderly.1)
