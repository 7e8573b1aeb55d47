-- Calls: what is accepted is read, and what is read, or refused, is what the grammar says.
--   message_again, other_version_again, bad_cred_again     what reading gives of what the grammar says
--   found                                                  what the grammar says of what reading gives
--   returned, if_found, if_refused                         and of what a call returned
use Rattle.std.proofs.Common.{◌≡◌, ◌≢◌, ℕ, Bool, true, false, eqb, Option, List, ◌++◌, Result, Ok, Err, Some, None, ok_or, MatchResult, IfOk, IfErr, refl, sym, ap, subst, ◌∙◌, append_assoc, arith}
use Rattle.std.proofs.lemmas.Bool.{eqb-true}
use Rattle.std.proofs.lemmas.Bool.Decides.{nat_tests}
use Rattle.sky_base.specs.declared.cred.Cred.{Cred}
use Rattle.sky_xdr.specs.declared.fault.XdrFault.{XdrFault}
use Rattle.sky_xdr.specs.Encoding.{AreBytes, uint}
use Rattle.sky_xdr.specs.Reading.{◌>>=◌, Gives}
use Rattle.sky_xdr.proofs.Numbers.{Took, Took-then, bind_ok, ok_is, uint_again, uint_took}
use Rattle.sky_rpc.specs.declared.call.RpcCall.{RpcCall}
use Rattle.sky_rpc.specs.declared.call.RpcRefusal.{RpcRefusal}
use Rattle.sky_rpc.specs.declared.call.RpcRefusal.TheVariants.{NotCall, BadVersion, BadCred}
use Rattle.sky_rpc.specs.Call.{OpaqueAuth, CallHeader, CallMessage, IsUint, IsOpaqueAuth, IsCred, IsCallHeader, IsCallMessage, IsOtherVersion, HasBadCred, IsRefused, message_with}
use Rattle.sky_rpc.specs.Reading.{Start, CallBody, start_at, body_at, cred_at, call_at, or_refuse, check}
use Rattle.sky_rpc.specs.Values.{message_of}
use Rattle.sky_rpc.proofs.Uints.{both}
use Rattle.sky_rpc.proofs.Auths.{auth_again, auth_took, TookAuth, cred_again, cred_took}

-- ---- the first three words

start_again : (xid kind rpcvers : ℕ) (rest : List ℕ) → IsUint xid → IsUint kind → IsUint rpcvers
    → start_at (uint xid ++ (uint kind ++ (uint rpcvers ++ rest))) ≡ Ok (record { xid = xid; kind = kind; rpcvers = rpcvers }, rest)
unfolding start_at
start_again xid kind rpcvers rest p q r = rw (uint_again xid _ p, uint_again kind _ q, uint_again rpcvers rest r) refl

record TookStart (bytes : List ℕ) (start : Start) (rest : List ℕ) : Type 0 where
  xid : IsUint start.xid
  rpcvers : IsUint start.rpcvers
  took : Took bytes (uint start.xid ++ uint start.kind ++ uint start.rpcvers) rest

start_moved : (bytes : List ℕ) (s t : Start) (a b : List ℕ) → s ≡ t → a ≡ b → TookStart bytes s a → TookStart bytes t b
start_moved bytes s t a b p q took = subst (λ (r : List ℕ). TookStart bytes t r) q (subst (λ (x : Start). TookStart bytes x a) p took)

start_took : (bytes : List ℕ) (start : Start) (rest : List ℕ) → AreBytes bytes → start_at bytes ≡ Ok (start, rest) → TookStart bytes start rest
unfolding start_at
start_took bytes start rest fits e =
    let x = bind_ok _ _ _ e in
    let k = bind_ok _ _ _ x.2 in
    let v = bind_ok _ _ _ k.2 in
    let made : Start = record { xid = x.0.0; kind = k.0.0; rpcvers = v.0.0 } in
    let is : (made ≡ start) × (v.0.1 ≡ rest) = both made start v.0.1 rest v.2 in
    let xid = uint_took bytes x.0.0 x.0.1 fits x.1 in
    let kind = uint_took x.0.1 k.0.0 k.0.1 xid.0.rest_fits k.1 in
    let rpcvers = uint_took k.0.1 v.0.0 v.0.1 kind.0.rest_fits v.1 in
    let all = Took-then bytes (uint x.0.0 ++ uint k.0.0) k.0.1 (uint v.0.0) v.0.1 (Took-then bytes (uint x.0.0) x.0.1 (uint k.0.0) k.0.1 xid.0 kind.0) rpcvers.0 in
    let took : TookStart bytes made v.0.1 = record { xid = xid.1; rpcvers = rpcvers.1; took = all } in
    start_moved bytes made start v.0.1 rest is.0 is.1 took

-- ---- what stands behind them

body_again : (program version procedure : ℕ) (cred_bytes verf_bytes : List ℕ) (cred verf : OpaqueAuth) (args : List ℕ)
    → IsUint program → IsUint version → IsUint procedure → IsOpaqueAuth cred_bytes cred → IsOpaqueAuth verf_bytes verf
    → body_at (uint program ++ (uint version ++ (uint procedure ++ (cred_bytes ++ (verf_bytes ++ args))))) ≡ Ok (record { program = program; version = version; procedure = procedure; cred = cred; args = args })
unfolding body_at
body_again program version procedure cred_bytes verf_bytes cred verf args p q r c v =
    rw (uint_again program _ p, uint_again version _ q, uint_again procedure _ r, auth_again cred_bytes cred (verf_bytes ++ args) c, auth_again verf_bytes verf args v) refl

record TookBody (bytes : List ℕ) (body : CallBody) : Type 0 where
  cred_bytes : List ℕ
  verf_bytes : List ℕ
  verf : OpaqueAuth
  program : IsUint body.program
  version : IsUint body.version
  procedure : IsUint body.procedure
  cred : IsOpaqueAuth cred_bytes body.cred
  verf_is : IsOpaqueAuth verf_bytes verf
  took : Took bytes (uint body.program ++ uint body.version ++ uint body.procedure ++ cred_bytes ++ verf_bytes) body.args
  are_bytes : AreBytes body.cred.body

-- a credential or a verifier was taken
auth_part : (bytes : List ℕ) (auth : OpaqueAuth) (rest : List ℕ) (t : TookAuth bytes auth rest) → Took bytes t.prefix rest
auth_part bytes auth rest t = record { parts = t.parts; rest_fits = t.rest_fits }

body_took : (bytes : List ℕ) (body : CallBody) → AreBytes bytes → body_at bytes ≡ Ok body → TookBody bytes body
unfolding body_at
body_took bytes body fits e =
    let p = bind_ok _ _ _ e in
    let v = bind_ok _ _ _ p.2 in
    let f = bind_ok _ _ _ v.2 in
    let c = bind_ok _ _ _ f.2 in
    let w = bind_ok _ _ _ c.2 in
    let made : CallBody = record { program = p.0.0; version = v.0.0; procedure = f.0.0; cred = c.0.0; args = w.0.1 } in
    let program = uint_took bytes p.0.0 p.0.1 fits p.1 in
    let version = uint_took p.0.1 v.0.0 v.0.1 program.0.rest_fits v.1 in
    let procedure = uint_took v.0.1 f.0.0 f.0.1 version.0.rest_fits f.1 in
    let cred = auth_took f.0.1 c.0.0 c.0.1 procedure.0.rest_fits c.1 in
    let verf = auth_took c.0.1 w.0.0 w.0.1 cred.rest_fits w.1 in
    let two = Took-then bytes (uint p.0.0) p.0.1 (uint v.0.0) v.0.1 program.0 version.0 in
    let three = Took-then bytes (uint p.0.0 ++ uint v.0.0) v.0.1 (uint f.0.0) f.0.1 two procedure.0 in
    let four = Took-then bytes (uint p.0.0 ++ uint v.0.0 ++ uint f.0.0) f.0.1 cred.prefix c.0.1 three (auth_part f.0.1 c.0.0 c.0.1 cred) in
    let all = Took-then bytes (uint p.0.0 ++ uint v.0.0 ++ uint f.0.0 ++ cred.prefix) c.0.1 verf.prefix w.0.1 four (auth_part c.0.1 w.0.0 w.0.1 verf) in
    let took : TookBody bytes made = record {
      cred_bytes = cred.prefix;
      verf_bytes = verf.prefix;
      verf = w.0.0;
      program = program.1;
      version = version.1;
      procedure = procedure.1;
      cred = cred.accepted;
      verf_is = verf.accepted;
      took = all;
      are_bytes = cred.are_bytes;
    } in
    subst (λ (b : CallBody). TookBody bytes b) (ok_is made body w.2) took

-- ---- what is accepted is read

-- what stands behind the version of RPC in a call
abbrev behind_version : (h : CallHeader) (cred_bytes verf_bytes args : List ℕ) → List ℕ
behind_version h cred_bytes verf_bytes args = uint h.program ++ (uint h.version ++ (uint h.procedure ++ (cred_bytes ++ (verf_bytes ++ args))))

-- the parts of a call, one behind the other
eight : (a b c d e f g h i : List ℕ) → (a ++ b ++ c ++ d ++ e ++ f ++ g ++ h) ++ i ≡ a ++ (b ++ (c ++ (d ++ (e ++ (f ++ (g ++ (h ++ i)))))))
eight a b c d e f g h i = simp append_assoc

header_parts : (head args : List ℕ) (h : CallHeader) (is : IsCallHeader head h) → head ++ args ≡ uint h.xid ++ (uint 0 ++ (uint 2 ++ behind_version h is.cred_bytes is.verf_bytes args))
header_parts head args h is =
    ap (λ (t : List ℕ). t ++ args) is.encoded ∙ eight (uint h.xid) (uint 0) (uint 2) (uint h.program) (uint h.version) (uint h.procedure) is.cred_bytes is.verf_bytes args

-- what a call with this header is read as
abbrev read_with : CallHeader → List ℕ → Option Cred → Result CallMessage RpcRefusal
read_with h args who = ok_or who (BadCred h.xid) >>= λ cred. Ok (message_with h cred args)

header_again : (head args : List ℕ) (h : CallHeader) → IsCallHeader head h → call_at (head ++ args) ≡ read_with h args (cred_at h.cred)
unfolding call_at
header_again head args h is =
    let start = start_again h.xid 0 2 (behind_version h is.cred_bytes is.verf_bytes args) is.xid (omega arith) (omega arith) in
    let body = body_again h.program h.version h.procedure is.cred_bytes is.verf_bytes h.cred h.verf args is.program is.version is.procedure is.cred is.verf in
    rw (header_parts head args h is, start, body) refl

pub message_again : (bytes : List ℕ) (message : CallMessage) → IsCallMessage bytes message → call_at bytes ≡ Ok message
message_again bytes message is =
    ap call_at is.encoded ∙ header_again is.head is.args is.header is.accepted ∙ ap (read_with is.header is.args) (cred_again is.header.cred is.cred is.caller) ∙ ap (λ (m : CallMessage). Ok m) (sym is.says)

pub other_version_again : (bytes : List ℕ) (xid : ℕ) → IsOtherVersion bytes xid → call_at bytes ≡ Err (BadVersion xid)
unfolding call_at
other_version_again bytes xid is =
    let start = start_again xid 0 is.rpcvers is.rest is.xid_fits (omega arith) is.rpcvers_fits in
    let grouped : bytes ≡ uint xid ++ (uint 0 ++ (uint is.rpcvers ++ is.rest)) = is.encoded ∙ simp append_assoc in
    let other : eqb is.rpcvers 2 ≡ false = grind (arith, nat_tests, is.other) in
    rw (grouped, start, other) refl

-- who calls, where the grammar knows nobody
no_cred : (auth : OpaqueAuth) (who : Option Cred) → AreBytes auth.body → ((cred : Cred) → IsCred auth cred → ⊥) → cred_at auth ≡ who → cred_at auth ≡ None
no_cred auth None fits none e = e
no_cred auth (Some cred) fits none e = absurd (none cred (cred_took auth cred fits e))

-- the body of an accepted credential has bytes
cred_bytes : (head args : List ℕ) (h : CallHeader) → AreBytes (head ++ args) → IsCallHeader head h → AreBytes h.cred.body
cred_bytes head args h fits is =
    let rest : List ℕ = behind_version h is.cred_bytes is.verf_bytes args in
    let start = start_again h.xid 0 2 rest is.xid (omega arith) (omega arith) in
    let body = body_again h.program h.version h.procedure is.cred_bytes is.verf_bytes h.cred h.verf args is.program is.version is.procedure is.cred is.verf in
    let took = start_took (head ++ args) _ rest fits (ap start_at (header_parts head args h is) ∙ start) in
    (body_took rest _ took.took.rest_fits body).are_bytes

pub bad_cred_again : (bytes : List ℕ) (xid : ℕ) → AreBytes bytes → HasBadCred bytes xid → call_at bytes ≡ Err (BadCred xid)
bad_cred_again bytes xid fits is =
    let body = cred_bytes is.head is.args is.header (subst AreBytes is.encoded fits) is.accepted in
    let none = no_cred is.header.cred (cred_at is.header.cred) body is.nobody_calls refl in
    ap call_at is.encoded ∙ header_again is.head is.args is.header is.accepted ∙ ap (read_with is.header is.args) none ∙ ap (λ (n : ℕ). Err (BadCred n)) is.number

-- ---- what reading gives is what the grammar says

-- what the grammar says of a call, or of a refusal but NotCall
abbrev Says : List ℕ → Result CallMessage RpcRefusal → Type 0
Says bytes (Ok message) = IsCallMessage bytes message
Says bytes (Err NotCall) = Unit {0}
Says bytes (Err (BadVersion xid)) = IsOtherVersion bytes xid
Says bytes (Err (BadCred xid)) = HasBadCred bytes xid

says_cred : (bytes head args : List ℕ) (h : CallHeader) (who : Option Cred) → AreBytes h.cred.body → IsCallHeader head h → bytes ≡ head ++ args → cred_at h.cred ≡ who → Says bytes (read_with h args who)
says_cred bytes head args h (Some cred) fits accepted encoded e = record {
  header = h;
  head = head;
  cred = cred;
  args = args;
  accepted = accepted;
  caller = cred_took h.cred cred fits e;
  says = refl;
  encoded = encoded;
}
says_cred bytes head args h None fits accepted encoded e = record {
  header = h;
  head = head;
  args = args;
  accepted = accepted;
  number = refl;
  nobody_calls = λ cred is. let some = cred_again h.cred cred is in absurd cc;
  encoded = encoded;
}

-- a message that is a call of version 2, by what stands behind the version
abbrev with_body : ℕ → Result CallBody XdrFault → Result CallMessage RpcRefusal
with_body xid body = or_refuse body NotCall >>= λ b. ok_or (cred_at b.cred) (BadCred xid) >>= λ cred. Ok (record { xid = xid; program = b.program; version = b.version; procedure = b.procedure; cred = cred; args = b.args })

regrouped : (a b c d e f g h i bytes rest : List ℕ) → bytes ≡ (a ++ b ++ c) ++ rest → rest ≡ (d ++ e ++ f ++ g ++ h) ++ i → bytes ≡ (a ++ b ++ c ++ d ++ e ++ f ++ g ++ h) ++ i
regrouped a b c d e f g h i bytes rest p q = p ∙ ap (λ (t : List ℕ). (a ++ b ++ c) ++ t) q ∙ simp append_assoc

says_body : (bytes : List ℕ) (start : Start) (rest : List ℕ) (body : Result CallBody XdrFault) → TookStart bytes start rest → start.kind ≡ 0 → start.rpcvers ≡ 2 → body_at rest ≡ body → Says bytes (with_body start.xid body)
says_body bytes start rest (Err fault) took kind rpcvers e = tt
says_body bytes start rest (Ok b) took kind rpcvers e =
    let t = body_took rest b took.took.rest_fits e in
    let header : CallHeader = record { xid = start.xid; program = b.program; version = b.version; procedure = b.procedure; cred = b.cred; verf = t.verf } in
    let head : List ℕ = uint start.xid ++ uint 0 ++ uint 2 ++ uint b.program ++ uint b.version ++ uint b.procedure ++ t.cred_bytes ++ t.verf_bytes in
    let accepted : IsCallHeader head header = record {
      cred_bytes = t.cred_bytes;
      verf_bytes = t.verf_bytes;
      xid = took.xid;
      program = t.program;
      version = t.version;
      procedure = t.procedure;
      cred = t.cred;
      verf = t.verf_is;
      encoded = refl;
    } in
    let first : bytes ≡ (uint start.xid ++ uint 0 ++ uint 2) ++ rest =
    took.took.parts ∙ ap (λ (n : ℕ). (uint start.xid ++ uint n ++ uint start.rpcvers) ++ rest) kind ∙ ap (λ (n : ℕ). (uint start.xid ++ uint 0 ++ uint n) ++ rest) rpcvers in
    let encoded : bytes ≡ head ++ b.args = regrouped (uint start.xid) (uint 0) (uint 2) (uint b.program) (uint b.version) (uint b.procedure) t.cred_bytes t.verf_bytes b.args bytes rest first t.took.parts in
    says_cred bytes head b.args header (cred_at b.cred) t.are_bytes accepted encoded refl

-- a message of type CALL, by whether the version is 2
says_version : (bytes : List ℕ) (start : Start) (rest : List ℕ) (is_two : Bool) → TookStart bytes start rest → start.kind ≡ 0 → eqb start.rpcvers 2 ≡ is_two
    → Says bytes (check is_two (BadVersion start.xid) >>= λ version. with_body start.xid (body_at rest))
says_version bytes start rest true took kind e = says_body bytes start rest (body_at rest) took kind (eqb-true _ _ e) refl
says_version bytes start rest false took kind e =
    let other : start.rpcvers ≢ 2 = grind (arith, nat_tests, e) in
    record {
      rpcvers = start.rpcvers;
      rest = rest;
      xid_fits = took.xid;
      rpcvers_fits = took.rpcvers;
      other = other;
      encoded = took.took.parts ∙ ap (λ (n : ℕ). (uint start.xid ++ uint n ++ uint start.rpcvers) ++ rest) kind;
    }

says_kind : (bytes : List ℕ) (start : Start) (rest : List ℕ) (is_call : Bool) → TookStart bytes start rest → eqb start.kind 0 ≡ is_call
    → Says bytes (check is_call NotCall >>= λ call. check (eqb start.rpcvers 2) (BadVersion start.xid) >>= λ version. with_body start.xid (body_at rest))
says_kind bytes start rest true took e = says_version bytes start rest (eqb start.rpcvers 2) took (eqb-true _ _ e) refl
says_kind bytes start rest false took e = tt

-- the whole reading, behind the first three words
abbrev with_start : Result (Start × List ℕ) XdrFault → Result CallMessage RpcRefusal
with_start start = or_refuse start NotCall >>= λ s. check (eqb s.0.kind 0) NotCall >>= λ call. check (eqb s.0.rpcvers 2) (BadVersion s.0.xid) >>= λ version. with_body s.0.xid (body_at s.1)

says_start : (bytes : List ℕ) (start : Result (Start × List ℕ) XdrFault) → AreBytes bytes → start_at bytes ≡ start → Says bytes (with_start start)
says_start bytes (Err fault) fits e = tt
says_start bytes (Ok s) fits e = says_kind bytes s.0 s.1 (eqb s.0.kind 0) (start_took bytes s.0 s.1 fits e) refl

says : (bytes : List ℕ) → AreBytes bytes → Says bytes (call_at bytes)
unfolding call_at
says bytes fits = says_start bytes (start_at bytes) fits refl

-- and NotCall is what the grammar knows nothing of
not_call : (bytes : List ℕ) → AreBytes bytes → call_at bytes ≡ Err NotCall → IsRefused bytes NotCall
not_call bytes fits e =
    (λ message is. let again = message_again bytes message is in absurd cc, λ xid is. let again = other_version_again bytes xid is in absurd cc, λ xid is. let again = bad_cred_again bytes xid fits is in absurd cc)

found_from : (bytes : List ℕ) (read : Result CallMessage RpcRefusal) → AreBytes bytes → call_at bytes ≡ read → Says bytes read → MatchResult read (IsCallMessage bytes) (IsRefused bytes)
found_from bytes (Ok message) fits e is = is
found_from bytes (Err NotCall) fits e is = not_call bytes fits e
found_from bytes (Err (BadVersion xid)) fits e is = is
found_from bytes (Err (BadCred xid)) fits e is = is

pub found : (bytes : List ℕ) → AreBytes bytes → MatchResult (call_at bytes) (IsCallMessage bytes) (IsRefused bytes)
found bytes fits = found_from bytes (call_at bytes) fits refl (says bytes fits)

-- what was returned is what the grammar says
pub returned : (bytes : List ℕ) (result : Result RpcCall RpcRefusal) → AreBytes bytes → Gives message_of result (call_at bytes) → MatchResult result (λ c. IsCallMessage bytes (message_of c)) (IsRefused bytes)
returned bytes (Ok c) fits e = subst (λ (read : Result CallMessage RpcRefusal). MatchResult read (IsCallMessage bytes) (IsRefused bytes)) e (found bytes fits)
returned bytes (Err refusal) fits e = subst (λ (read : Result CallMessage RpcRefusal). MatchResult read (IsCallMessage bytes) (IsRefused bytes)) e (found bytes fits)

pub if_found : (bytes : List ℕ) (result : Result RpcCall RpcRefusal) → MatchResult result (λ c. IsCallMessage bytes (message_of c)) (IsRefused bytes) → IfOk result (λ c. IsCallMessage bytes (message_of c))
if_found bytes (Ok c) is = is
if_found bytes (Err refusal) is = tt

pub if_refused : (bytes : List ℕ) (result : Result RpcCall RpcRefusal) → MatchResult result (λ c. IsCallMessage bytes (message_of c)) (IsRefused bytes) → IfErr result (IsRefused bytes)
if_refused bytes (Ok c) is = tt
if_refused bytes (Err refusal) is = is
