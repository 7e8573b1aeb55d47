use Rattle.std.proofs.Common.{◌≡◌, ◌∙◌, ℕ, ◌<◌, [], ◌∷◌, ap, length, add-one, arith}
use Rattle.std.proofs.lemmas.List.{length-append}
use Rattle.std.proofs.lemmas.Result.{err_from_is_err_and}
use Rattle.sky_rpc.specs.Reading.{uints_at}
use Rattle.sky_rpc.proofs.Uints.{uints-zero, uints_more, uints_stop, gids-few}
use Rattle.sky_rpc.proofs.cred.take_gids.Goals as goal

pub loop-init : goal.loop-init
loop-init c = record { count = ap length c.new-gids.ensures; taken = rw c.new-gids.ensures (uints-zero c.take_u32.new.self) }

pub push-requires : goal.push-requires
push-requires c = omega (arith, c.loop.invariant.count)

pub loop-preserved : goal.loop-preserved
loop-preserved c =
    let more = uints_more c.loop.counter c.take_u32.new.self c.loop.gids c.loop.reader c.in_ok-take_u32.field-0 c.take_u32-in-loop.new.self c.loop.invariant.taken c.in_ok-take_u32.ensures.exact in
    record {
      count = rw c.push.ensures (omega (arith, length-append c.loop.gids (c.in_ok-take_u32.field-0 ∷ []), c.loop.invariant.count));
      taken = rw (c.push.ensures, add-one) more;
    }

pub returns-in_err-take_u32 : goal.returns-in_err-take_u32
returns-in_err-take_u32 c =
    let p = err_from_is_err_and c.from_residual-in_err-take_u32.result c.from_residual-in_err-take_u32.ensures.1 in
    let few = gids-few c.args.reader.now c.in_ok-count.count c.take_u32.new.self c.in_ok-count.ensures.exact c.if-count.false in
    let below : c.loop.counter < c.in_ok-count.count = omega arith in
    let stop = uints_stop c.loop.counter c.in_ok-count.count c.take_u32.new.self c.loop.gids c.loop.reader c.in_err-take_u32.field-0.0 below c.loop.invariant.taken c.in_err-take_u32.ensures.exact.0 in
    record { exact = rw (p.1, p.2) (few ∙ stop) }

pub returns : goal.returns
returns c =
    let few = gids-few c.args.reader.now c.in_ok-count.count c.take_u32.new.self c.in_ok-count.ensures.exact c.if-count.false in
    let all : c.in_ok-count.count ≡ c.loop.counter = omega arith in
    record { exact = few ∙ ap (λ (n : ℕ). uints_at n c.take_u32.new.self) all ∙ c.loop.invariant.taken }
