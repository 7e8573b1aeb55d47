-- Replies of ONC RPC (RFC 5531, section 9), and how each is encoded.
use Rattle.std.specs.Prelude.{ℕ, true, List, [], ◌++◌}
use Rattle.sky_record.specs.Record.{fragment}
use Rattle.sky_xdr.specs.Encoding.{uint}
use Rattle.sky_rpc.specs.Call.{no_auth}

-- a reply
pub data Reply : Type 0 where
  -- the call was done, with these results
  Success : (results : List ℕ) → Reply
  -- there is no such program
  ProgUnavail : Reply
  -- the program has version 3 alone
  ProgMismatch : Reply
  -- the program has no such procedure
  ProcUnavail : Reply
  -- the arguments are not the procedure's
  GarbageArgs : Reply
  -- the server could not do the call, and the results have no status of their own that says so
  SystemErr : Reply
  -- the version of RPC is another than 2
  BadVersion : Reply
  -- the credential does not say who calls
  BadCred : Reply

-- a reply to a call that was accepted: MSG_ACCEPTED is 0. Then come a verifier, the status and what belongs to it (accepted_reply)
abbrev pub accepted : ℕ → List ℕ → List ℕ
accepted stat data_of = uint 0 ++ no_auth ++ uint stat ++ data_of

-- a reply to a call that was denied: MSG_DENIED is 1. Then come the status and what belongs to it (rejected_reply)
abbrev pub denied : ℕ → List ℕ → List ℕ
denied stat data_of = uint 1 ++ uint stat ++ data_of

-- the lowest and the highest version that there is, where they are one
abbrev pub only_version : ℕ → List ℕ
only_version version = uint version ++ uint version

-- the encoding of a reply behind its message's type: the numbers of accept_stat are 0 to 5, RPC_MISMATCH is 0, AUTH_ERROR 1,
-- and AUTH_BADCRED 1
unfoldable pub reply_body : Reply → List ℕ
reply_body (Success results) = accepted 0 results
reply_body ProgUnavail = accepted 1 []
reply_body ProgMismatch = accepted 2 (only_version 3)
reply_body ProcUnavail = accepted 3 []
reply_body GarbageArgs = accepted 4 []
reply_body SystemErr = accepted 5 []
reply_body BadVersion = denied 0 (only_version 2)
reply_body BadCred = denied 1 (uint 1)

-- the message of a reply: the call's number, REPLY, which is 1, and the reply
unfoldable pub reply_message : ℕ → Reply → List ℕ
reply_message xid reply = uint xid ++ uint 1 ++ reply_body reply

-- its record: the message in one fragment
unfoldable pub reply_record : ℕ → Reply → List ℕ
reply_record xid reply = fragment (record { last = true; bytes = reply_message xid reply })
