-- Reading a reply: no two replies have one encoding.
use Rattle.std.proofs.Common.{◌≡◌, ℕ, true, cond, eqb, List, [], ◌++◌, length, drop, Result, Ok, refl, sym, ap, ◌∙◌, append_assoc, arith}
use Rattle.std.proofs.lemmas.List.{append-nil, drop_at}
use Rattle.sky_record.specs.Record.{header}
use Rattle.sky_xdr.specs.declared.fault.XdrFault.{XdrFault}
use Rattle.sky_xdr.specs.Encoding.{uint}
use Rattle.sky_xdr.specs.Reading.{◌>>=◌, uint_at}
use Rattle.sky_xdr.proofs.Numbers.{ok_is, uint_again, uint_same}
use Rattle.sky_rpc.specs.Call.{IsUint}
use Rattle.sky_rpc.specs.Reply.{Reply, Success, ProgUnavail, ProgMismatch, ProcUnavail, GarbageArgs, SystemErr, BadVersion, BadCred, reply_body, reply_message, reply_record}

-- the reply to a call that was accepted, by its status and the bytes behind it
abbrev accepted_as : ℕ → List ℕ → Reply
accepted_as stat results =
    cond (eqb stat 0) (Success results) (cond (eqb stat 1) ProgUnavail (cond (eqb stat 2) ProgMismatch (cond (eqb stat 3) ProcUnavail (cond (eqb stat 4) GarbageArgs SystemErr))))

-- the reply behind MSG_ACCEPTED: a verifier's flavor and the length of its body, then the status
abbrev accepted_in : List ℕ → Result Reply XdrFault
accepted_in bytes = uint_at bytes >>= λ flavor. uint_at flavor.1 >>= λ body. uint_at body.1 >>= λ stat. Ok (accepted_as stat.0 stat.1)

-- the reply behind MSG_DENIED
abbrev denied_in : List ℕ → Result Reply XdrFault
denied_in bytes = uint_at bytes >>= λ stat. Ok (cond (eqb stat.0 0) BadVersion BadCred)

-- the reply that an encoding stands for
body_in : List ℕ → Result Reply XdrFault
body_in bytes = uint_at bytes >>= λ stat. cond (eqb stat.0 0) (accepted_in stat.1) (denied_in stat.1)

accepted_again : (stat : ℕ) (results : List ℕ) → IsUint stat → body_in (uint 0 ++ (uint 0 ++ (uint 0 ++ (uint stat ++ results)))) ≡ Ok (accepted_as stat results)
unfolding body_in
accepted_again stat results fits = rw (uint_again 0 _ (omega arith), uint_again 0 _ (omega arith), uint_again 0 _ (omega arith), uint_again stat results fits) refl

denied_again : (stat : ℕ) (rest : List ℕ) → IsUint stat → body_in (uint 1 ++ (uint stat ++ rest)) ≡ Ok (cond (eqb stat 0) BadVersion BadCred)
unfolding body_in
denied_again stat rest fits = rw (uint_again 1 _ (omega arith), uint_again stat rest fits) refl

-- an accepted reply's parts, with a verifier that says nothing
accepted-parts : (a b c d e : List ℕ) → a ++ (b ++ (c ++ [] ++ [])) ++ d ++ e ≡ a ++ (b ++ (c ++ (d ++ e)))
accepted-parts a b c d e = simp (append_assoc, append-nil)

body_again : (reply : Reply) → body_in (reply_body reply) ≡ Ok reply
unfolding reply_body
body_again (Success results) = ap body_in (accepted-parts (uint 0) (uint 0) (uint 0) (uint 0) results) ∙ accepted_again 0 results (omega arith)
body_again ProgUnavail = ap body_in (accepted-parts (uint 0) (uint 0) (uint 0) (uint 1) []) ∙ accepted_again 1 [] (omega arith)
body_again ProgMismatch = ap body_in (accepted-parts (uint 0) (uint 0) (uint 0) (uint 2) (uint 3 ++ uint 3)) ∙ accepted_again 2 (uint 3 ++ uint 3) (omega arith)
body_again ProcUnavail = ap body_in (accepted-parts (uint 0) (uint 0) (uint 0) (uint 3) []) ∙ accepted_again 3 [] (omega arith)
body_again GarbageArgs = ap body_in (accepted-parts (uint 0) (uint 0) (uint 0) (uint 4) []) ∙ accepted_again 4 [] (omega arith)
body_again SystemErr = ap body_in (accepted-parts (uint 0) (uint 0) (uint 0) (uint 5) []) ∙ accepted_again 5 [] (omega arith)
body_again BadVersion = ap body_in (append_assoc (uint 1) (uint 0) (uint 2 ++ uint 2)) ∙ denied_again 0 (uint 2 ++ uint 2) (omega arith)
body_again BadCred = ap body_in (append_assoc (uint 1) (uint 1) (uint 1)) ∙ denied_again 1 (uint 1) (omega arith)

bodies_apart : (reply answer : Reply) → reply_body reply ≡ reply_body answer → reply ≡ answer
bodies_apart reply answer e = ok_is reply answer (sym (body_again reply) ∙ ap body_in e ∙ body_again answer)

messages_apart : (xid other : ℕ) (reply answer : Reply) → IsUint xid → IsUint other → reply_message xid reply ≡ reply_message other answer → (xid ≡ other) × (reply ≡ answer)
unfolding reply_message
messages_apart xid other reply answer p q e =
    let whole : uint xid ++ (uint 1 ++ reply_body reply) ≡ uint other ++ (uint 1 ++ reply_body answer) =
    sym (append_assoc (uint xid) (uint 1) (reply_body reply)) ∙ e ∙ append_assoc (uint other) (uint 1) (reply_body answer) in
    let first = uint_same xid other (uint 1 ++ reply_body reply) (uint 1 ++ reply_body answer) p q whole in
    let second = uint_same 1 1 (reply_body reply) (reply_body answer) (omega arith) (omega arith) first.1 in
    (first.0, bodies_apart reply answer second.1)

-- the message behind the header of its fragment
message_in : (xid : ℕ) (reply : Reply) → drop 4 (reply_record xid reply) ≡ reply_message xid reply
unfolding reply_record
message_in xid reply = drop_at (header true (length (reply_message xid reply))) (reply_message xid reply) 4 refl

pub records_apart : (xid other : ℕ) (reply answer : Reply) → IsUint xid → IsUint other → reply_record xid reply ≡ reply_record other answer → (xid ≡ other) × (reply ≡ answer)
records_apart xid other reply answer p q e = messages_apart xid other reply answer p q (sym (message_in xid reply) ∙ ap (drop 4) e ∙ message_in other answer)
