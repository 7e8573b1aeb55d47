use Rattle.std.proofs.Common.{◌≡◌, ◌≤◌, ◌<◌, ◌-◌, ℕ, List, false}
use Rattle.sky_base.specs.Limits.{max_number}
use Rattle.sky_journal.specs.Layout.{area_header}
use Rattle.sky_journal.specs.Looking.{area_in, Shows, Went}
use Rattle.sky_journal.specs.OnePass.{IsReadTo}
use Rattle.sky_journal.proofs.area.read_batches.Given as goal

-- the area was read so far, and no read failed
abbrev pub invariant-batches : goal.invariant-batches
invariant-batches g l =
    record {
      header : area_header ≤ l.filled.end;
      inside : l.filled.end < l.span.size;
      order : l.base ≤ l.filled.last;
      number : l.filled.last < max_number;
      size : g.D.Storage.bytes_of l.disk ≡ g.D.Storage.bytes_of l.fn.disk;
      went : Went g.D.Storage l.fn.disk l.fn.pieces l.disk l.pieces false;
      so_far : (image : List ℕ) → Shows g.D.Storage l.fn.disk l.fn.pieces image → IsReadTo g.G.Grammar.is_entry (area_in l.span image) l.base l.filled.last l.filled.end;
    }

abbrev pub decreases-batches : goal.decreases-batches
decreases-batches g l = l.span.size - l.filled.end
