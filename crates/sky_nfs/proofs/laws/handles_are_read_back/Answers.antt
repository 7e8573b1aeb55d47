use Rattle.sky_nfs.proofs.HandleLemmas.{volume_in-handle_bytes, fileid_in-handle_bytes}
use Rattle.sky_nfs.proofs.laws.handles_are_read_back.Goals as goal

pub returns-clause-volume : goal.returns-clause-volume
returns-clause-volume c = volume_in-handle_bytes

pub returns-clause-fileid : goal.returns-clause-fileid
returns-clause-fileid c = fileid_in-handle_bytes
