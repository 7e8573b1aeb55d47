use Rattle.std.proofs.Common.{◌≡◌, ◌+◌, ◌*◌, ◌++◌, take, drop}
use Rattle.sky_xdr.specs.Writing.{written_of, unwritten_of, room_of, name_of}
use Rattle.sky_rpc.specs.Call.{uints}
use Rattle.sky_rpc.proofs.reply.put_words.Given as goal

-- so many words are written
abbrev pub invariant-loop-word : goal.invariant-loop-word
invariant-loop-word l = record {
  written : written_of l.writer ≡ written_of l.initial.writer ++ uints (take l.word-index l.words);
  unwritten : unwritten_of l.writer ≡ drop (4 * l.word-index) (unwritten_of l.initial.writer);
  room : room_of l.writer + 4 * l.word-index ≡ room_of l.initial.writer;
  same_buffer : name_of l.writer ≡ name_of l.initial.writer;
}
