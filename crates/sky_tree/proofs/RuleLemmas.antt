-- Rules that are tried one after another.
use Rattle.std.proofs.Common.{◌≡◌, [], ◌∷◌, ◌++◌, Option, Some, None, refl, cond, true, false}
use Rattle.std.specs.Prelude.{Bool}
use Rattle.sky_nfs.specs.Rules.{Rules, first_of}
use Rattle.sky_nfs.specs.declared.status.NfsStatus.{NfsStatus}

-- where the first rules refuse, all do
pub refused_by : (r s : Rules) (e : NfsStatus) → Some e ≡ first_of r → Some e ≡ first_of (r ++ s)
refused_by [] s e h = absurd (cc)
refused_by (rule ∷ r) s e h = go rule.0 refl (refused_by r s e)
  where
    go : (b : Bool) → rule.0 ≡ b → (Some e ≡ first_of r → Some e ≡ first_of (r ++ s)) → Some e ≡ first_of ((rule ∷ r) ++ s)
    go true is rest = rw is (rw is at h)
    go false is rest = rw is (rest (rw is at h))

-- where they don't, the others decide
pub passed_by : (r s : Rules) → None ≡ first_of r → first_of (r ++ s) ≡ first_of s
passed_by [] s h = refl
passed_by (rule ∷ r) s h = go rule.0 refl (passed_by r s)
  where
    go : (b : Bool) → rule.0 ≡ b → (None ≡ first_of r → first_of (r ++ s) ≡ first_of s) → first_of ((rule ∷ r) ++ s) ≡ first_of s
    go true is rest = let wrong : None ≡ Some rule.1 = rw is at h in absurd (cc)
    go false is rest = rw is (rest (rw is at h))

-- the same for a rule alone, whose test the code has under another name
pub refuses : (b test : Bool) (s e : NfsStatus) (rest : Option NfsStatus) → b ≡ test → Some e ≡ cond b (Some s) None → Some e ≡ cond test (Some s) rest
refuses b test s e rest is h = rw (← is) (refused_one b s e rest h)
  where
    refused_one : (b : Bool) (s e : NfsStatus) (rest : Option NfsStatus) → Some e ≡ cond b (Some s) None → Some e ≡ cond b (Some s) rest
    refused_one true s e rest h = h
    refused_one false s e rest h = absurd (cc)

pub passes : (b test : Bool) (s : NfsStatus) (x rest : Option NfsStatus) → b ≡ test → None ≡ cond b (Some s) None → x ≡ rest → x ≡ cond test (Some s) rest
passes b test s x rest is h more = rw (← is) (passed_one b s x rest h more)
  where
    passed_one : (b : Bool) (s : NfsStatus) (x rest : Option NfsStatus) → None ≡ cond b (Some s) None → x ≡ rest → x ≡ cond b (Some s) rest
    passed_one true s x rest h more = absurd (cc)
    passed_one false s x rest h more = more

pub decides : (b test : Bool) (s : NfsStatus) (x rest : Option NfsStatus) → b ≡ test → x ≡ cond b (Some s) rest → x ≡ cond test (Some s) rest
decides b test s x rest is h = rw (← is) h
