use Rattle.std.proofs.Common.{◌≡◌, ℕ, ◌-◌, Vec, Global, List, Bor, Err, length, take, drop, sym, ap, ◌∙◌}
use Rattle.std.proofs.lemmas.List.{take_rest}
use Rattle.std.proofs.lemmas.Result.{err_from_is_err_and}
use Rattle.sky_base.specs.declared.place.Damage.TheVariants.{Form}
use Rattle.sky_item.specs.declared.item.Item.{Item}
use Rattle.sky_segment.specs.Damages.{items_at, said_count}
use Rattle.sky_segment.proofs.ObjectLaws.{behind_refused, all_read, some_left}
use Rattle.sky_segment.proofs.read.read_items.Goals as goal

pub returns-in_err-items : goal.returns-in_err-items
returns-in_err-items c =
    let p = err_from_is_err_and c.from_residual.result c.from_residual.ensures.1 in
    let bytes : List ℕ = c.args.bytes.now in
    let same : items_at c.args.last c.number_at-count.result (take (length bytes - 36) (drop 36 bytes)) ≡ items_at c.args.last (said_count bytes) (drop 36 bytes) =
    ap (λ (n : ℕ). items_at c.args.last n (take (length bytes - 36) (drop 36 bytes))) c.number_at-count.ensures ∙ ap (items_at c.args.last (said_count bytes)) (take_rest bytes 36) in
    rw (p.1, p.2)
    (behind_refused bytes (items_at c.args.last (said_count bytes) (drop 36 bytes)) c.in_err-items.field-0.0
    {X = Vec Item Global × Bor (List ℕ)} (λ x. (x.0.items, x.1.now)) {Y = Vec Item Global} (λ v. v.items) (rw (← same) c.in_err-items.ensures))

pub returns-then-not-is_empty : goal.returns-then-not-is_empty
returns-then-not-is_empty c =
    let bytes : List ℕ = c.args.bytes.now in
    let same : items_at c.args.last c.number_at-count.result (take (length bytes - 36) (drop 36 bytes)) ≡ items_at c.args.last (said_count bytes) (drop 36 bytes) =
    ap (λ (n : ℕ). items_at c.args.last n (take (length bytes - 36) (drop 36 bytes))) c.number_at-count.ensures ∙ ap (items_at c.args.last (said_count bytes)) (take_rest bytes 36) in
    some_left bytes c.in_ok-items.items.items c.in_ok-items.rest.now (items_at c.args.last (said_count bytes) (drop 36 bytes)) (sym same ∙ c.in_ok-items.ensures)
    (sym c.is_empty.ensures ∙ c.if-not-is_empty.true) ∙ ap (λ (n : ℕ). Err (Form n)) (sym c.saturating_sub-at.ensures)

pub returns : goal.returns
returns c =
    let bytes : List ℕ = c.args.bytes.now in
    let same : items_at c.args.last c.number_at-count.result (take (length bytes - 36) (drop 36 bytes)) ≡ items_at c.args.last (said_count bytes) (drop 36 bytes) =
    ap (λ (n : ℕ). items_at c.args.last n (take (length bytes - 36) (drop 36 bytes))) c.number_at-count.ensures ∙ ap (items_at c.args.last (said_count bytes)) (take_rest bytes 36) in
    all_read bytes c.in_ok-items.items.items c.in_ok-items.rest.now (items_at c.args.last (said_count bytes) (drop 36 bytes)) (sym same ∙ c.in_ok-items.ensures)
    (sym c.is_empty.ensures ∙ c.if-not-is_empty.false)
