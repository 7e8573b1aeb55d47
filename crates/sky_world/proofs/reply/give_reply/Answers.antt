use Rattle.std.proofs.Common.{◌+◌, ◌≡◌, ◌≤◌, ℕ, List, ap, drop, length, take, arith}
use Rattle.std.proofs.lemmas.List.{drop-take, length-take}
use Rattle.sky_world.proofs.reply.give_reply.Goals as goal

pub write_reply_frame-requires-clause-formed : goal.write_reply_frame-requires-clause-formed
write_reply_frame-requires-clause-formed g c =
    let n : ℕ = c.args.count in
    let b : List ℕ = c.args.buf.now in
    let cut : length (drop 9 (take (9 + n) b)) ≡ length (take n (drop 9 b)) = ap length (drop-take 9 n b) in
    let most : length (drop 9 (take (9 + n) b)) ≤ 1048576 = omega (arith, cut, length-take n (drop 9 b), c.requires.count) in
    most
