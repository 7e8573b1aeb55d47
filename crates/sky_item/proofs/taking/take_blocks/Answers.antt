use Rattle.std.proofs.Common.{◌≡◌, Option, Vec, Global, List, Ok, Err, refl, sym, ap, subst, ◌∙◌}
use Rattle.std.proofs.lemmas.Result.{err_from_is_err_and}
use Rattle.sky_base.specs.declared.place.Link.{Link}
use Rattle.sky_base.specs.declared.place.Location.{Location}
use Rattle.sky_item.specs.Fields.{block_at, locations_behind, blocks_at}
use Rattle.sky_item.specs.Taking.{Takes}
use Rattle.sky_item.proofs.Each.{after-push, each_none, each_more, each_refused, pushed}
use Rattle.sky_item.proofs.taking.take_blocks.Goals as goal

pub loop-init : goal.loop-init
loop-init c = record {
  taken = rw c.in_ok-items.ensures.items (each_none block_at locations_behind c.args.locations.now c.args.reader.now);
  state = rw c.in_ok-items.ensures.items refl;
}

pub returns-in_err-block : goal.returns-in_err-block
unfolding blocks_at
returns-in_err-block c =
    let p = err_from_is_err_and c.from_residual-in_err-block.result c.from_residual-in_err-block.ensures.1 in
    rw (p.1, p.2)
    (each_refused block_at locations_behind (λ (v : Vec (Option Link) Global). v.items) c.loop.counter c.args.count c.args.locations.now c.args.reader.now c.loop.items.items c.loop.reader c.take_block.new.reader c.in_err-block.field-0.0
    c.loop.invariant.taken (subst (λ (s : List Location). Takes (Err c.in_err-block.field-0.0) c.take_block.new.reader (block_at s c.loop.reader)) c.loop.invariant.state c.in_err-block.ensures) c.loop-test.true)

pub loop-preserved : goal.loop-preserved
loop-preserved c =
    let items = pushed c.push.result c.push.new.self.items c.loop.items.items c.in_ok-block.block c.in_ok-map_err.ensures.variant c.push.ensures.items in
    record {
      taken = rw items (each_more block_at locations_behind c.loop.counter c.args.locations.now c.args.reader.now c.loop.items.items c.loop.reader c.in_ok-block.block c.take_block.new.reader c.loop.invariant.taken (subst (λ (s : List Location). block_at s c.loop.reader ≡ Ok (c.in_ok-block.block, c.take_block.new.reader)) c.loop.invariant.state c.in_ok-block.ensures));
      state = rw items (c.behind_block-left.ensures ∙ ap (λ (s : List Location). locations_behind s c.in_ok-block.block) c.loop.invariant.state ∙ sym (after-push locations_behind c.args.locations.now c.loop.items.items c.in_ok-block.block));
    }
