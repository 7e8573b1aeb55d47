use Rattle.sky_rpc.proofs.Calls.{message_again, other_version_again, bad_cred_again, found}
use Rattle.sky_rpc.proofs.Encodings.{encoded}
use Rattle.sky_rpc.proofs.laws.calls_are_read.Goals as goal

pub returns : goal.returns
returns c = record {
  calls = message_again;
  other_versions = other_version_again;
  bad_creds = bad_cred_again;
  only = found;
  some = encoded;
}
