-- A handle is read back.
use Rattle.std.proofs.Common.{◌≡◌, ℕ, ◌<◌, ◌^◌}
use Rattle.std.proofs.lemmas.Nat.{from_be_bytes-to_be_bytes_8}
use Rattle.sky_nfs.specs.Handles.{handle_bytes, volume_in, fileid_in}

pub volume_in-handle_bytes : (volume fileid : ℕ) → volume < 2 ^ 64 → volume_in (handle_bytes volume fileid) ≡ volume
unfolding volume_in
volume_in-handle_bytes volume fileid h = from_be_bytes-to_be_bytes_8 volume h

pub fileid_in-handle_bytes : (volume fileid : ℕ) → fileid < 2 ^ 64 → fileid_in (handle_bytes volume fileid) ≡ fileid
unfolding fileid_in
fileid_in-handle_bytes volume fileid h = from_be_bytes-to_be_bytes_8 fileid h
