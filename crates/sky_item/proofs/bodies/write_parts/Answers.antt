use Rattle.std.proofs.Common.{◌≡◌, ◌+◌, ◌-◌, ◌*◌, ℕ, List, length, take, drop, subst, refl, arith}
use borrow.Rule.Slice.PartMut.{put_mid}
use Rattle.sky_item.specs.Encoding.{item_front, body_bytes}
use Rattle.sky_item.proofs.Sizes.{length-item_front}
use Rattle.sky_item.proofs.Whole.{Wrote, whole_written}
use Rattle.sky_item.proofs.bodies.write_parts.Goals as goal

pub returns-in_err-write_front-clause-ok : goal.returns-in_err-write_front-clause-ok
returns-in_err-write_front-clause-ok c = absurd (omega (arith, c.requires.room, c.in_err-write_front.ensures.err, length-item_front c.args.item.now))

pub returns-in_err-write_front-clause-written : goal.returns-in_err-write_front-clause-written
returns-in_err-write_front-clause-written c = absurd (omega (arith, c.requires.room, c.in_err-write_front.ensures.err, length-item_front c.args.item.now))

pub returns-in_err-write_front-clause-behind : goal.returns-in_err-write_front-clause-behind
returns-in_err-write_front-clause-behind c = absurd (omega (arith, c.requires.room, c.in_err-write_front.ensures.err, length-item_front c.args.item.now))

whole : (c : goal.In_ok-write_front)
    → Wrote (60 + 28 * c.args.locations) (length (body_bytes c.args.item.now)) c.args.buf.now c.write_front.new.buf (item_front c.args.item.now) (body_bytes c.args.item.now)
whole c =
    let item = c.args.item.now in
    let k : ℕ = 60 + 28 * c.args.locations in
    let m : ℕ = length (body_bytes item) in
    let old : List ℕ = c.args.buf.now in
    let part : List ℕ = c.write_body.new.buf in
    let new : List ℕ = c.write_front.new.buf in
    let body = c.in_ok-write_body.ensures in
    let front = c.in_ok-write_front.ensures in
    let here : c.in_ok-write_front.field-0 ≡ k = omega (arith, front.count, length-item_front item, c.requires.locations) in
    let long : k ≡ length (item_front item) = omega (arith, length-item_front item, c.requires.locations) in
    let first : take m part ≡ body_bytes item = subst (λ (n : ℕ). take n part ≡ body_bytes item) body.count body.written in
    let rest : drop m part ≡ drop m (take (length old - k) (drop k old)) = subst (λ (n : ℕ). drop n part ≡ drop n (take (length old - k) (drop k old))) body.count body.behind in
    let before : take k new ≡ item_front item = subst (λ (n : ℕ). take n new ≡ item_front item) here front.written in
    let behind : drop k new ≡ drop k (put_mid k (length old - k) old part) = subst (λ (n : ℕ). drop n new ≡ drop n (put_mid k (length old - k) old part)) here front.behind in
    whole_written k m old part new (item_front item) (body_bytes item) (omega (arith, c.requires.size, c.requires.room)) long refl first rest before behind

pub returns-clause-written : goal.returns-clause-written
returns-clause-written c = rw c.requires.size (whole c).written

pub returns-clause-behind : goal.returns-clause-behind
returns-clause-behind c = rw c.requires.size (whole c).behind
