use Rattle.std.proofs.Common.{◌*◌, ℕ, List, ◌++◌, ap, ◌∙◌, take, drop, append_assoc, sym, get_or, arith}
use Rattle.std.proofs.lemmas.List.{drop-drop}
use Rattle.sky_xdr.specs.Writing.{written_of, unwritten_of}
use Rattle.sky_xdr.specs.Encoding.{uint}
use Rattle.sky_rpc.specs.Call.{uints}
use Rattle.sky_rpc.proofs.Replies.{uints-more}
use Rattle.sky_rpc.proofs.reply.put_words.Goals as goal

pub loop-word-preserved : goal.loop-word-preserved
loop-word-preserved c =
    let i = c.loop-word.word-index in
    let words = c.args.words.now in
    let before : List ℕ = written_of c.args.writer.now in
    let left : List ℕ = unwritten_of c.args.writer.now in
    let h = c.in_ok-put_u32.ensures in
    let so_far = c.loop-word.invariant in
    record {
      written = h.written ∙ ap (λ (t : List ℕ). t ++ uint (get_or words i 0)) so_far.written ∙ append_assoc before (uints (take i words)) (uint (get_or words i 0))
          ∙ ap (λ (t : List ℕ). before ++ t) (sym (uints-more words i c.loop-word-test.true));
      unwritten = h.unwritten ∙ ap (drop 4) so_far.unwritten ∙ drop-drop 4 (4 * i) left ∙ ap (λ (n : ℕ). drop n left) (omega arith);
      room = omega (arith, h.room, so_far.room);
      same_buffer = c.put_u32.ensures.same_buffer ∙ so_far.same_buffer;
    }
