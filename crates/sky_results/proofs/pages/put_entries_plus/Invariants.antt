use Rattle.std.proofs.Common.{◌≡◌, ◌+◌, ◌++◌, length, take, flat_map}
use Rattle.sky_xdr.specs.Writing.{written_of, room_of, name_of}
use Rattle.sky_results.specs.Results.{entryplus3}
use Rattle.sky_results.proofs.pages.put_entries_plus.Given as goal

-- the entries so far are written behind what was written before
abbrev pub invariant-loop-entry : goal.invariant-loop-entry
invariant-loop-entry l =
    (written_of l.writer ≡ written_of l.initial.writer ++ flat_map entryplus3 (take l.entry-index l.entries))
    × (room_of l.writer + length (flat_map entryplus3 (take l.entry-index l.entries)) ≡ room_of l.initial.writer)
    × (name_of l.writer ≡ name_of l.initial.writer)
