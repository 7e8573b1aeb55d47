-- Credentials and verifiers: what is accepted is read, and what is read is accepted.
--   auth_again, auth_took             a credential or a verifier as it is sent
--   gids_again, gids_took             the groups of a caller
--   auth_sys_again, auth_sys_took     the body of an AUTH_SYS credential
--   cred_again, cred_took             who calls
use Rattle.std.proofs.Common.{◌≡◌, ℕ, zero, suc, Bool, true, false, cond, eqb, ◌≤◌, List, [], ◌∷◌, ◌++◌, length, Result, Ok, Err, Some, None, refl, sym, ap, subst, ◌∙◌, append_assoc, arith}
use Rattle.std.specs.List.{AllByRecursion}
use Rattle.std.specs.Result.{result_ok}
use Rattle.std.proofs.lemmas.Bool.{eqb-true, ltb-false}
use Rattle.std.proofs.lemmas.List.{append-nil}
use Rattle.sky_base.specs.Limits.{max_auth_bytes, max_machine_name_bytes, max_gids}
use Rattle.sky_base.specs.declared.cred.Cred.{Cred}
use Rattle.sky_xdr.specs.declared.fault.XdrFault.{XdrFault}
use Rattle.sky_xdr.specs.Encoding.{AreBytes, uint}
use Rattle.sky_xdr.proofs.Numbers.{Took, Took-then, bind_ok, guard_ok, ok_is, pair_is, uint_again, uint_took, end_again, end_took}
use Rattle.sky_xdr.proofs.Opaques.{accepted_again, opaque_took}
use Rattle.sky_rpc.specs.Call.{OpaqueAuth, IsUint, uints, nobody, IsOpaqueAuth, IsAuthSys, IsCred, auth_none, auth_sys}
use Rattle.sky_rpc.specs.Reading.{auth_at, uints_at, gids_at, auth_sys_at, cred_at}
use Rattle.sky_rpc.proofs.Uints.{both, uints-zero, uints-suc, gids-few}

-- ---- as they are sent

pub auth_again : (bytes : List ℕ) (auth : OpaqueAuth) (rest : List ℕ) → IsOpaqueAuth bytes auth → auth_at (bytes ++ rest) ≡ Ok (auth, rest)
unfolding auth_at
auth_again bytes auth rest is =
    let regrouped : bytes ++ rest ≡ uint auth.flavor ++ (is.body ++ rest) = ap (λ (t : List ℕ). t ++ rest) is.encoded ∙ append_assoc (uint auth.flavor) is.body rest in
    rw (regrouped, uint_again auth.flavor (is.body ++ rest) is.flavor, accepted_again max_auth_bytes is.body auth.body rest is.accepted is.within (omega (arith, is.within))) refl

pub record TookAuth (bytes : List ℕ) (auth : OpaqueAuth) (rest : List ℕ) : Type 0 where
  pub prefix : List ℕ
  pub accepted : IsOpaqueAuth prefix auth
  pub parts : bytes ≡ prefix ++ rest
  pub are_bytes : AreBytes auth.body
  pub rest_fits : AreBytes rest

pub auth_took : (bytes : List ℕ) (auth : OpaqueAuth) (rest : List ℕ) → AreBytes bytes → auth_at bytes ≡ Ok (auth, rest) → TookAuth bytes auth rest
unfolding auth_at
auth_took bytes auth rest fits e =
    let s = bind_ok _ _ _ e in
    let t = bind_ok _ _ _ s.2 in
    let made : OpaqueAuth = record { flavor = s.0.0; body = t.0.0 } in
    let is = both made auth t.0.1 rest t.2 in
    let flavor = uint_took bytes s.0.0 s.0.1 fits s.1 in
    let body = opaque_took max_auth_bytes s.0.1 t.0.0 t.0.1 flavor.0.rest_fits t.1 in
    let took : TookAuth bytes made t.0.1 = record {
      prefix = uint s.0.0 ++ body.begins.prefix;
      accepted = record { body = body.begins.prefix; flavor = flavor.1; accepted = body.begins.accepted; within = body.within; encoded = refl };
      parts = flavor.0.parts ∙ ap (λ (t : List ℕ). uint s.0.0 ++ t) body.begins.parts ∙ sym (append_assoc (uint s.0.0) body.begins.prefix t.0.1);
      are_bytes = body.are_bytes;
      rest_fits = body.rest_fits;
    } in
    subst (λ (r : List ℕ). TookAuth bytes auth r) is.1 (subst (λ (a : OpaqueAuth). TookAuth bytes a t.0.1) is.0 took)

-- ---- the groups of a caller

uints_again : (ns rest : List ℕ) → AllByRecursion IsUint ns → uints_at (length ns) (uints ns ++ rest) ≡ Ok (ns, rest)
uints_again [] rest all = uints-zero rest
uints_again (n ∷ ns) rest all =
    rw (uints-suc (length ns) ((uint n ++ uints ns) ++ rest), append_assoc (uint n) (uints ns) rest, uint_again n (uints ns ++ rest) all.0, uints_again ns rest all.1) refl

-- what was read as unsigned integers, one behind the other
record TookUints (n : ℕ) (bytes ns rest : List ℕ) : Type 0 where
  took : Took bytes (uints ns) rest
  fit : AllByRecursion IsUint ns
  count : length ns ≡ n

uints_took : (n : ℕ) (bytes ns rest : List ℕ) → AreBytes bytes → uints_at n bytes ≡ Ok (ns, rest) → TookUints n bytes ns rest
uints_took zero bytes ns rest fits e =
    let is = pair_is [] ns bytes rest (uints_at 0 bytes) (uints-zero bytes) e in
    let none : TookUints 0 bytes [] bytes = record { took = record { parts = refl; rest_fits = fits }; fit = tt; count = refl } in
    subst (λ (r : List ℕ). TookUints 0 bytes ns r) is.1 (subst (λ (x : List ℕ). TookUints 0 bytes x bytes) is.0 none)
uints_took (suc n) bytes ns rest fits e =
    let s = bind_ok _ _ _ (sym (uints-suc n bytes) ∙ e) in
    let t = bind_ok _ _ _ s.2 in
    let is : (s.0.0 ∷ t.0.0 ≡ ns) × (t.0.1 ≡ rest) = both (s.0.0 ∷ t.0.0) ns t.0.1 rest t.2 in
    let first = uint_took bytes s.0.0 s.0.1 fits s.1 in
    let others = uints_took n s.0.1 t.0.0 t.0.1 first.0.rest_fits t.1 in
    let all : TookUints (suc n) bytes (s.0.0 ∷ t.0.0) t.0.1 = record {
      took = Took-then bytes (uint s.0.0) s.0.1 (uints t.0.0) t.0.1 first.0 others.took;
      fit = (first.1, others.fit);
      count = ap suc others.count;
    } in
    subst (λ (r : List ℕ). TookUints (suc n) bytes ns r) is.1 (subst (λ (x : List ℕ). TookUints (suc n) bytes x t.0.1) is.0 all)

pub gids_again : (gids rest : List ℕ) → AllByRecursion IsUint gids → length gids ≤ max_gids → gids_at (uint (length gids) ++ (uints gids ++ rest)) ≡ Ok (gids, rest)
gids_again gids rest all few =
    gids-few (uint (length gids) ++ (uints gids ++ rest)) (length gids) (uints gids ++ rest) (uint_again (length gids) (uints gids ++ rest) (omega arith)) few ∙ uints_again gids rest all

-- what was read as the groups of a caller
pub record TookGids (bytes gids rest : List ℕ) : Type 0 where
  pub took : Took bytes (uint (length gids) ++ uints gids) rest
  pub fit : AllByRecursion IsUint gids
  pub few : length gids ≤ max_gids

pub gids_took : (bytes gids rest : List ℕ) → AreBytes bytes → gids_at bytes ≡ Ok (gids, rest) → TookGids bytes gids rest
unfolding gids_at
gids_took bytes gids rest fits e =
    let s = bind_ok _ _ _ e in
    let g = guard_ok _ _ _ _ s.2 in
    let count = uint_took bytes s.0.0 s.0.1 fits s.1 in
    let all = uints_took s.0.0 s.0.1 gids rest count.0.rest_fits g.1 in
    record {
      took = Took-then bytes (uint (length gids)) s.0.1 (uints gids) rest (subst (λ (n : ℕ). Took bytes (uint n) s.0.1) (sym all.count) count.0) all.took;
      fit = all.fit;
      few = subst (λ (n : ℕ). n ≤ max_gids) (sym all.count) (ltb-false _ _ g.0);
    }

-- ---- the body of an AUTH_SYS credential

pub auth_sys_again : (body : List ℕ) (cred : Cred) → IsAuthSys body cred → auth_sys_at body ≡ Ok cred
unfolding auth_sys_at
auth_sys_again body cred is =
    let after_gids : List ℕ = uint (length cred.gids) ++ (uints cred.gids ++ []) in
    let after_name : List ℕ = uint cred.uid ++ (uint cred.gid ++ after_gids) in
    let regrouped : body ≡ uint is.stamp ++ (is.name ++ after_name) = is.encoded ∙ simp (append_assoc, append-nil) in
    rw (regrouped, uint_again is.stamp _ is.stamp_fits, accepted_again max_machine_name_bytes is.name is.machine_name after_name is.accepted is.within (omega (arith, is.within)), uint_again cred.uid _ is.uid, uint_again cred.gid _ is.gid, gids_again cred.gids [] is.gids is.gids_within, end_again) refl

-- six parts, one behind the other
six : (a b c d e f : List ℕ) → (a ++ b ++ c ++ d ++ (e ++ f)) ++ [] ≡ a ++ b ++ c ++ d ++ e ++ f
six a b c d e f = simp (append_assoc, append-nil)

pub auth_sys_took : (body : List ℕ) (cred : Cred) → AreBytes body → auth_sys_at body ≡ Ok cred → IsAuthSys body cred
unfolding auth_sys_at
auth_sys_took body cred fits e =
    let s = bind_ok _ _ _ e in
    let m = bind_ok _ _ _ s.2 in
    let u = bind_ok _ _ _ m.2 in
    let g = bind_ok _ _ _ u.2 in
    let gs = bind_ok _ _ _ g.2 in
    let n = bind_ok _ _ _ gs.2 in
    let made : Cred = record { uid = u.0.0; gid = g.0.0; gids = gs.0.0 } in
    let stamp = uint_took body s.0.0 s.0.1 fits s.1 in
    let name = opaque_took max_machine_name_bytes s.0.1 m.0.0 m.0.1 stamp.0.rest_fits m.1 in
    let uid = uint_took m.0.1 u.0.0 u.0.1 name.rest_fits u.1 in
    let gid = uint_took u.0.1 g.0.0 g.0.1 uid.0.rest_fits g.1 in
    let gids = gids_took g.0.1 gs.0.0 gs.0.1 gid.0.rest_fits gs.1 in
    let end : gs.0.1 ≡ [] = end_took gs.0.1 n.0 n.1 in
    let named : Took s.0.1 name.begins.prefix m.0.1 = record { parts = name.begins.parts; rest_fits = name.rest_fits } in
    let a = Took-then body (uint s.0.0) s.0.1 name.begins.prefix m.0.1 stamp.0 named in
    let b = Took-then body _ m.0.1 (uint u.0.0) u.0.1 a uid.0 in
    let d = Took-then body _ u.0.1 (uint g.0.0) g.0.1 b gid.0 in
    let whole = Took-then body _ g.0.1 (uint (length gs.0.0) ++ uints gs.0.0) gs.0.1 d gids.took in
    let text : List ℕ = uint s.0.0 ++ name.begins.prefix ++ uint u.0.0 ++ uint g.0.0 ++ (uint (length gs.0.0) ++ uints gs.0.0) in
    let took : IsAuthSys body made = record {
      stamp = s.0.0;
      machine_name = m.0.0;
      name = name.begins.prefix;
      stamp_fits = stamp.1;
      accepted = name.begins.accepted;
      within = name.within;
      uid = uid.1;
      gid = gid.1;
      gids = gids.fit;
      gids_within = gids.few;
      encoded = whole.parts ∙ ap (λ (r : List ℕ). text ++ r) end ∙ six (uint s.0.0) name.begins.prefix (uint u.0.0) (uint g.0.0) (uint (length gs.0.0)) (uints gs.0.0);
    } in
    subst (λ (x : Cred). IsAuthSys body x) (ok_is made cred n.2) took

-- ---- who calls

pub cred_again : (auth : OpaqueAuth) (cred : Cred) → IsCred auth cred → cred_at auth ≡ Some cred
unfolding cred_at
cred_again auth cred (auth_none flavor is) = rw (flavor, is) refl
cred_again auth cred (auth_sys flavor is) = rw (flavor, auth_sys_again auth.body cred is) refl

-- a result that is there
ok_of : {A : Type 0} (r : Result A XdrFault) (x : A) → result_ok r ≡ Some x → r ≡ Ok x
ok_of (Ok y) x e = cc
ok_of (Err fault) x e = absurd cc

-- who calls, by whether the flavor is 0, and whether it is 1
cred_cases : (none sys : Bool) (auth : OpaqueAuth) (cred : Cred) → AreBytes auth.body → (none ≡ true → auth.flavor ≡ 0) → (sys ≡ true → auth.flavor ≡ 1)
    → cond none (Some nobody) (cond sys (result_ok (auth_sys_at auth.body)) None) ≡ Some cred → IsCred auth cred
cred_cases true sys auth cred fits is_none is_sys e = auth_none (is_none refl) cc
cred_cases false true auth cred fits is_none is_sys e = auth_sys (is_sys refl) (auth_sys_took auth.body cred fits (ok_of (auth_sys_at auth.body) cred e))
cred_cases false false auth cred fits is_none is_sys e = absurd cc

pub cred_took : (auth : OpaqueAuth) (cred : Cred) → AreBytes auth.body → cred_at auth ≡ Some cred → IsCred auth cred
unfolding cred_at
cred_took auth cred fits e = cred_cases (eqb auth.flavor 0) (eqb auth.flavor 1) auth cred fits (eqb-true _ _) (eqb-true _ _) e
