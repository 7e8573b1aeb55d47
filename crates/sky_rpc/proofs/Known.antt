-- The definitions on known messages: each lemma holds by computation.
use Rattle.std.proofs.Common.{◌≡◌, List, ℕ, [], ◌∷◌, ◌++◌, Ok, Err, Some, None, refl}
use Rattle.sky_xdr.specs.Encoding.{uint}
use Rattle.sky_xdr.specs.Reading.{word, uint_at, opaque_at, end_at}
use Rattle.sky_rpc.specs.declared.call.RpcRefusal.TheVariants as refusal
use Rattle.sky_rpc.specs.Call.{nobody}
use Rattle.sky_rpc.specs.Reading.{start_at, auth_at, body_at, uints_at, gids_at, auth_sys_at, cred_at, call_at}
use Rattle.sky_rpc.specs.Reply.{ProgUnavail, BadVersion, BadCred, ProgMismatch, Success, reply_body, reply_message, reply_record}

-- a word of one byte
abbrev w : ℕ → List ℕ
w n = 0 ∷ 0 ∷ 0 ∷ n ∷ []

-- NULL of program 100003, version 3, under AUTH_NONE: 40 bytes
abbrev null_call : List ℕ
null_call = w 7 ++ w 0 ++ w 2 ++ (0 ∷ 1 ∷ 0x86 ∷ 0xa3 ∷ []) ++ w 3 ++ w 0 ++ w 0 ++ w 0 ++ w 0 ++ w 0

null_is_read : call_at null_call ≡ Ok (record { xid = 7; program = 100003; version = 3; procedure = 0; cred = nobody; args = [] })
unfolding call_at start_at body_at auth_at cred_at uint_at opaque_at word
null_is_read = refl

-- the same of version 3 of RPC, and nothing behind that
version_three : call_at (w 7 ++ w 0 ++ w 3) ≡ Err (refusal.BadVersion 7)
unfolding call_at start_at uint_at word
version_three = refl

-- the version is judged where the header isn't whole too, and before the credential
nothing_behind : call_at (w 7 ++ w 0 ++ w 2) ≡ Err refusal.NotCall
unfolding call_at start_at body_at uint_at word
nothing_behind = refl

-- a reply, and a call that ends within the version
no_call : call_at (w 7 ++ w 1 ++ w 3) ≡ Err refusal.NotCall
unfolding call_at start_at uint_at word
no_call = refl

eleven_bytes : call_at (w 7 ++ w 0 ++ (0 ∷ 0 ∷ 0 ∷ [])) ≡ Err refusal.NotCall
unfolding call_at start_at uint_at word
eleven_bytes = refl

-- flavor 2 with an empty body
other_flavor : cred_at (record { flavor = 2; body = [] }) ≡ None
unfolding cred_at
other_flavor = refl

-- stamp 9, machine `m`, user 1000 of group 100, further groups 5 and 6
auth_sys_known : cred_at (record { flavor = 1; body = w 9 ++ w 1 ++ (109 ∷ 0 ∷ 0 ∷ 0 ∷ []) ++ (0 ∷ 0 ∷ 3 ∷ 0xe8 ∷ []) ++ w 100 ++ w 2 ++ w 5 ++ w 6 })
    ≡ Some (record { uid = 1000; gid = 100; gids = 5 ∷ 6 ∷ [] })
unfolding cred_at auth_sys_at gids_at uints_at uint_at opaque_at end_at word
auth_sys_known = refl

-- the replies, each as its record
denied_known : reply_record 7 BadVersion ≡ (0x80 ∷ 0 ∷ 0 ∷ 0x18 ∷ []) ++ w 7 ++ w 1 ++ w 1 ++ w 0 ++ w 2 ++ w 2
unfolding reply_record reply_message reply_body uint
denied_known = refl

bad_cred_known : reply_record 7 BadCred ≡ (0x80 ∷ 0 ∷ 0 ∷ 0x14 ∷ []) ++ w 7 ++ w 1 ++ w 1 ++ w 1 ++ w 1
unfolding reply_record reply_message reply_body uint
bad_cred_known = refl

unavail_known : reply_record 7 ProgUnavail ≡ (0x80 ∷ 0 ∷ 0 ∷ 0x18 ∷ []) ++ w 7 ++ w 1 ++ w 0 ++ w 0 ++ w 0 ++ w 1
unfolding reply_record reply_message reply_body uint
unavail_known = refl

mismatch_known : reply_record 7 ProgMismatch ≡ (0x80 ∷ 0 ∷ 0 ∷ 0x20 ∷ []) ++ w 7 ++ w 1 ++ w 0 ++ w 0 ++ w 0 ++ w 2 ++ w 3 ++ w 3
unfolding reply_record reply_message reply_body uint
mismatch_known = refl

success_known : reply_record 7 (Success (w 4)) ≡ (0x80 ∷ 0 ∷ 0 ∷ 0x1c ∷ []) ++ w 7 ++ w 1 ++ w 0 ++ w 0 ++ w 0 ++ w 0 ++ w 4
unfolding reply_record reply_message reply_body uint
success_known = refl
