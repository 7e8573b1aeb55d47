use Rattle.std.proofs.Common.{◌+◌, ℕ, List, ap, ◌∙◌, sym, take, drop, arith}
use Rattle.std.proofs.lemmas.List.{drop-drop}
use Rattle.sky_rpc.proofs.Replies.{written_reply}
use Rattle.sky_rpc.proofs.reply.write_reply.Goals as goal

pub returns-clause-written : goal.returns-clause-written
returns-clause-written c =
    let h = c.in_ok-head.ensures in
    let words = c.words_of-words.ensures in
    let buffer : List ℕ = c.write_words.new.buf in
    let old : List ℕ = c.args.buf.now in
    let written = written_reply c.args.body c.args.xid _ c.in_ok-head.head c.words_of-words.result.now buffer old words.words words.count (omega (arith, words.count, c.count_of-results.ensures)) (omega arith) h.len h.prefix h.behind in
    ap (λ (n : ℕ). take (c.in_ok-head.head + n) buffer) c.count_of-results.ensures ∙ written

pub returns-clause-behind : goal.returns-clause-behind
returns-clause-behind c =
    let h = c.in_ok-head.ensures in
    let count : ℕ = c.count_of-results.result in
    sym (drop-drop count c.in_ok-head.head c.write_words.new.buf) ∙ ap (drop count) h.behind ∙ drop-drop count c.in_ok-head.head c.args.buf.now
