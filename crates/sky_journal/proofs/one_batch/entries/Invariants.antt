use Rattle.std.proofs.Common.{◌≡◌, ◌≤◌, ℕ, List, false}
use Rattle.sky_journal.specs.Looking.{area_in, Shows, Went}
use Rattle.sky_journal.specs.OnePass.{IsRead}
use Rattle.sky_journal.proofs.one_batch.entries.Given as goal

-- the batch was read up to the mark, and no read failed
abbrev pub invariant-loop-read : goal.invariant-loop-read
invariant-loop-read g l =
    record {
      order : l.mark.at ≤ l.end;
      size : g.D.Storage.bytes_of l.disk ≡ g.D.Storage.bytes_of l.fn.disk;
      went : Went g.D.Storage l.fn.disk l.fn.pieces l.disk l.pieces false;
      so_far : (image : List ℕ) → Shows g.D.Storage l.fn.disk l.fn.pieces image → IsRead g.G.Grammar.is_entry (area_in l.span image) l.p l.end l.count l.read l.mark;
    }
