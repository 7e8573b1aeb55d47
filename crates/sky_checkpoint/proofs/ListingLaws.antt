-- What one name more changes in the answers to a listing.
use Rattle.std.proofs.Common.{◌≡◌, ◌⊎◌, ⊎_elim, inl, inr, ℕ, ◌<◌, ◌≤◌, min, max, Bool, true, false, cond, List, [], ◌∷◌, ◌++◌, Option, Some, None, Ordering, IsTrue, refl, sym, ◌∙◌, ap, subst, arith}
use Rattle.std.specs.Prelude.{IfNone, IfSome, if◌then◌else◌}
use Rattle.std.proofs.lemmas.List.Elements.{Contains-append_cases, Contains-append_left, Contains-append_right, Contains-push, Contains-push_cases}
use Rattle.std.proofs.lemmas.Bool.{cases_lt}
use Rattle.std.specs.declared.cmp.Ordering.TheVariants.{Less, Equal, Greater}
use Rattle.std.specs.Ordering.{is_le, is_lt, ord_max, ordering_reverse}
use Rattle.std.specs.BTreeMap.Comparable.{le_lt_trans}
use Rattle.std.specs.Cmp.{tied_itself}
use Rattle.sky_base.specs.Order.{name_order}
use Rattle.sky_base.specs.declared.object.Dir.TheVariants.{Proxy, Cleaner}
use Rattle.sky_base.specs.declared.object.SegName.{SegName}
use Rattle.sky_base.proofs.OrderLaws.{exact_names}
use Rattle.sky_outside.specs.declared.site.Held.{Held}
use Rattle.sky_outside.proofs.CloudLaws.{names_total}
use Rattle.sky_checkpoint.specs.Listing.{CompleteRuns, IsCheckOf, IsLast, IsListed, IsUpTo, KnownRuns, ProxyChecks, is_check_of, last_checkpoint, later_of, with_name}
use Rattle.sky_checkpoint.specs.SoFar.{GreatestSoFar, LastSoFar, LeastSoFar}

-- the order of names
up_to_itself : (a : SegName) → IsUpTo a a
up_to_itself a = subst (λ (o : Ordering). IsTrue (is_le o)) (sym (tied_itself names_total a)) refl

up_to_trans : (a b c : SegName) → IsUpTo a b → IsUpTo b c → IsUpTo a c
up_to_trans a b c first second = by (name_order b c) refl
  where
    by : (o : Ordering) → name_order b c ≡ o → IsUpTo a c
    by Less is = subst (λ (o : Ordering). IsTrue (is_le o)) (sym (le_lt_trans names_total a b c first is)) refl
    by Equal is = subst (λ (n : SegName). IsUpTo a n) (exact_names b c is) first
    by Greater is = absurd (let never : IsTrue (is_le Greater) = subst (λ (o : Ordering). IsTrue (is_le o)) is second in cc)

-- the later of two names
pub record IsLater (a b later : SegName) : Type 0 where
  pub first : IsUpTo a later
  pub second : IsUpTo b later
  pub one : (later ≡ a) ⊎ (later ≡ b)

pub max_is_later : (a b : SegName) → IsLater a b (ord_max name_order a b)
max_is_later a b = by (name_order b a) refl
  where
    by : (o : Ordering) → name_order b a ≡ o → IsLater a b (cond (is_lt o) a b)
    by Less is = record { first = up_to_itself a; second = subst (λ (o : Ordering). IsTrue (is_le o)) (sym is) refl; one = inl refl }
    by Equal is = record { first = subst (λ (n : SegName). IsUpTo n b) (exact_names b a is) (up_to_itself b); second = up_to_itself b; one = inr refl }
    by Greater is = record { first = subst (λ (o : Ordering). IsTrue (is_le o)) (sym (names_total.antisymm a b ∙ ap ordering_reverse is)) refl; second = up_to_itself b; one = inr refl }

-- a name that was listed is still so
listed_more : (listed : List Held) (held : Held) (name : SegName) → IsListed listed name → IsListed (listed ++ held ∷ []) name
listed_more listed held name is = (is.0, Contains-append_left listed (held ∷ []) is.0 is.1, is.2)

listed_now : (listed : List Held) (held : Held) → IsListed (listed ++ held ∷ []) held.name
listed_now listed held = (held, Contains-push listed held, refl)

-- a name that is listed with one more was so, or is that one
listed_cases : (listed : List Held) (held : Held) (name : SegName) → IsListed (listed ++ held ∷ []) name → IsListed listed name ⊎ (name ≡ held.name)
listed_cases listed held name is =
    ⊎_elim (λ before. inl (is.0, before, is.2)) (λ now. inr (sym is.2 ∙ ap (λ (h : Held). h.name) (sym now))) (Contains-push_cases listed held is.0 is.1)

-- ---- the last checkpoint of the proxy

-- what is listed with one more, wherever that stands
pub record IsOneMore (listed : List Held) (held : Held) (all : List Held) : Type 0 where
  pub old : (name : SegName) → IsListed listed name → IsListed all name
  pub this : IsListed all held.name
  pub cases : (name : SegName) → IsListed all name → IsListed listed name ⊎ (name ≡ held.name)

pub one_behind : (listed : List Held) (held : Held) → IsOneMore listed held (listed ++ held ∷ [])
one_behind listed held = record { old = listed_more listed held; this = listed_now listed held; cases = listed_cases listed held }

one_before : (listed : List Held) (held : Held) → IsOneMore listed held (held ∷ listed)
one_before listed held = record {
  old = λ name is. (is.0, Contains-append_right (held ∷ []) listed is.0 is.1, is.2);
  this = (held, Contains-append_left (held ∷ []) listed held (Contains-push [] held), refl);
  cases = λ name is. ⊎_elim
      (λ only. ⊎_elim (λ none. let below : none.0 < 0 = none.1 in absurd (omega arith)) (λ now. inr (sym is.2 ∙ ap (λ (h : Held). h.name) (sym now))) (Contains-push_cases [] held is.0 only))
      (λ before. inl (is.0, before, is.2)) (Contains-append_cases (held ∷ []) listed is.0 is.1);
}

module _ (listed : List Held) (held : Held) (all : List Held) (more : IsOneMore listed held all) where
  last_skips : (last : Option SegName) → ¬ (IsCheckOf Proxy held.name) → LastSoFar listed last → LastSoFar all last
  last_skips last not_one = by last
    where
      before : (name : SegName) → ProxyChecks all name → ProxyChecks listed name
      before name is = (⊎_elim (λ was. was) (λ now. absurd (not_one (subst (IsCheckOf Proxy) now is.1))) (more.cases name is.0), is.1)

      by : (last : Option SegName) → LastSoFar listed last → LastSoFar all last
      by None none = λ name is. none name (before name is)
      by (Some name) found = record { member = (more.old name found.member.0, found.member.1); none_behind = λ other is. found.none_behind other (before other is) }

  last_later : (last : Option SegName) → IsCheckOf Proxy held.name → LastSoFar listed last → LastSoFar all (Some (later_of last held.name))
  last_later None is_one none = record {
    member = (more.this, is_one);
    none_behind = λ other is. ⊎_elim (λ was. absurd (none other (was, is.1))) (λ now. subst (λ (n : SegName). IsUpTo other n) now (up_to_itself other)) (more.cases other is.0);
  }
  last_later (Some last) is_one found =
      let later = max_is_later last held.name in
      record {
        member = ⊎_elim (λ old. subst (ProxyChecks all) (sym old) (more.old last found.member.0, found.member.1)) (λ new. subst (ProxyChecks all) (sym new) (more.this, is_one)) later.one;
        none_behind = λ other among. ⊎_elim
            (λ was. up_to_trans other last (ord_max name_order last held.name) (found.none_behind other (was, among.1)) later.first)
            (λ now. subst (λ (n : SegName). IsUpTo n (ord_max name_order last held.name)) (sym now) later.second) (more.cases other among.0);
      }

  by_kind : (b : Bool) (last : Option SegName) → is_check_of Proxy held.name ≡ b → LastSoFar listed last → LastSoFar all (if b then Some (later_of last held.name) else last)
  by_kind true last is found = last_later last is found
  by_kind false last isnt found = last_skips last (λ is. let both : true ≡ false = sym is ∙ isnt in absurd cc) found

  -- the last checkpoint with one more name
  pub last_with_name : (last : Option SegName) → LastSoFar listed last → LastSoFar all (with_name last held.name)
  last_with_name last found = by_kind (is_check_of Proxy held.name) last refl found

-- ---- the least complete run

run_before : (listed : List Held) (held : Held) (above run : ℕ) → CompleteRuns (listed ++ held ∷ []) above run → CompleteRuns listed above run ⊎ (IsCheckOf Cleaner held.name × (held.name.run ≡ run))
run_before listed held above run is =
    ⊎_elim (λ was. inl (is.0, (is.1.0, was, is.1.2, is.1.3)))
    (λ now. inr (subst (IsCheckOf Cleaner) now is.1.2, ap (λ (n : SegName). n.run) (sym now) ∙ is.1.3)) (listed_cases listed held is.1.0 is.1.1)

run_more : (listed : List Held) (held : Held) (above run : ℕ) → CompleteRuns listed above run → CompleteRuns (listed ++ held ∷ []) above run
run_more listed held above run is = (is.0, (is.1.0, listed_more listed held is.1.0 is.1.1, is.1.2, is.1.3))

pub least_skips : (listed : List Held) (held : Held) (above : ℕ) (least : Option ℕ) → (IsCheckOf Cleaner held.name → held.name.run ≤ above) → LeastSoFar listed above least → LeastSoFar (listed ++ held ∷ []) above least
least_skips listed held above least not_one = by least
  where
    before : (run : ℕ) → CompleteRuns (listed ++ held ∷ []) above run → CompleteRuns listed above run
    before run is =
        ⊎_elim (λ was. was) (λ now. let low : held.name.run ≤ above = not_one now.0 in let high : above < run = is.0 in let same : held.name.run ≡ run = now.1 in absurd (omega arith))
        (run_before listed held above run is)

    by : (least : Option ℕ) → LeastSoFar listed above least → LeastSoFar (listed ++ held ∷ []) above least
    by None none = λ run is. none run (before run is)
    by (Some run) found = record { member = run_more listed held above run found.member; none_below = λ other is. found.none_below other (before other is) }

pub least_first : (listed : List Held) (held : Held) (above : ℕ) → IsCheckOf Cleaner held.name → above < held.name.run → LeastSoFar listed above None → LeastSoFar (listed ++ held ∷ []) above (Some held.name.run)
least_first listed held above is_one high none = record {
  member = (high, (held.name, listed_now listed held, is_one, refl));
  none_below = λ other is. ⊎_elim (λ was. absurd (none other was)) (λ now. let same : held.name.run ≡ other = now.1 in omega arith) (run_before listed held above other is);
}

pub least_lesser : (listed : List Held) (held : Held) (above least : ℕ) → IsCheckOf Cleaner held.name → above < held.name.run → LeastSoFar listed above (Some least) → LeastSoFar (listed ++ held ∷ []) above (Some (min least held.name.run))
least_lesser listed held above least is_one high found = record {
  member = ⊎_elim
      (λ old. subst (CompleteRuns (listed ++ held ∷ []) above) (sym old) (run_more listed held above least found.member))
      (λ new. subst (CompleteRuns (listed ++ held ∷ []) above) (sym new) (high, (held.name, listed_now listed held, is_one, refl))) (one least held.name.run);
  none_below = λ other is. ⊎_elim
      (λ was. let far : least ≤ other = found.none_below other was in omega arith)
      (λ now. let same : held.name.run ≡ other = now.1 in omega arith) (run_before listed held above other is);
}
  where
    one : (a b : ℕ) → (min a b ≡ a) ⊎ (min a b ≡ b)
    one a b = ⊎_elim (λ less. inl (omega arith)) (λ most. inr (omega arith)) (cases_lt a b)

-- ---- the greatest run that is known

known_before : (listed : List Held) (held : Held) (merged run : ℕ) → KnownRuns (listed ++ held ∷ []) merged run → KnownRuns listed merged run ⊎ ((held.name.dir ≡ Cleaner) × (held.name.run ≡ run))
known_before listed held merged run =
    ⊎_elim (λ same. inl (inl same))
    (λ is. ⊎_elim (λ was. inl (inr (is.0, was, is.2, is.3)))
    (λ now. inr (ap (λ (n : SegName). n.dir) (sym now) ∙ is.2, ap (λ (n : SegName). n.run) (sym now) ∙ is.3)) (listed_cases listed held is.0 is.1))

known_more : (listed : List Held) (held : Held) (merged run : ℕ) → KnownRuns listed merged run → KnownRuns (listed ++ held ∷ []) merged run
known_more listed held merged run = ⊎_elim (λ same. inl same) (λ is. inr (is.0, listed_more listed held is.0 is.1, is.2, is.3))

pub greatest_skips : (listed : List Held) (held : Held) (merged greatest : ℕ) → ¬ (held.name.dir ≡ Cleaner) → GreatestSoFar listed merged greatest → GreatestSoFar (listed ++ held ∷ []) merged greatest
greatest_skips listed held merged greatest not_one found = record {
  member = known_more listed held merged greatest found.member;
  none_above = λ other is. ⊎_elim (λ was. found.none_above other was) (λ now. absurd (not_one now.0)) (known_before listed held merged other is);
}

pub greatest_greater : (listed : List Held) (held : Held) (merged greatest : ℕ) → held.name.dir ≡ Cleaner → GreatestSoFar listed merged greatest → GreatestSoFar (listed ++ held ∷ []) merged (max greatest held.name.run)
greatest_greater listed held merged greatest is_one found = record {
  member = ⊎_elim
      (λ old. subst (KnownRuns (listed ++ held ∷ []) merged) (sym old) (known_more listed held merged greatest found.member))
      (λ new. subst (KnownRuns (listed ++ held ∷ []) merged) (sym new) (inr (held.name, listed_now listed held, is_one, refl))) (one greatest held.name.run);
  none_above = λ other is. ⊎_elim
      (λ was. let near : other ≤ greatest = found.none_above other was in omega arith)
      (λ now. let same : held.name.run ≡ other = now.1 in omega arith) (known_before listed held merged other is);
}
  where
    one : (a b : ℕ) → (max a b ≡ a) ⊎ (max a b ≡ b)
    one a b = ⊎_elim (λ less. inr (omega arith)) (λ most. inl (omega arith)) (cases_lt a b)

-- nothing is listed yet
listed_none : (name : SegName) → ¬ (IsListed [] name)
listed_none name is = let below : is.1.0 < 0 = is.1.1 in omega arith

pub last_none : LastSoFar [] None
last_none name is = listed_none name is.0

-- what is computed of a listing is its last checkpoint
last_computed : (listed : List Held) → LastSoFar listed (last_checkpoint listed)
last_computed [] = last_none
last_computed (held ∷ listed) = last_with_name listed held (held ∷ listed) (one_before listed held) (last_checkpoint listed) (last_computed listed)

pub least_none : (above : ℕ) → LeastSoFar [] above None
least_none above run is = listed_none is.1.0 is.1.1

pub greatest_none : (merged : ℕ) → GreatestSoFar [] merged merged
greatest_none merged = record {
  member = inl refl;
  none_above = λ other is. ⊎_elim (λ same. omega arith) (λ some. absurd (listed_none some.0 some.1)) is;
}

-- two last checkpoints are the same
up_to_both : (a b : SegName) → IsUpTo a b → IsUpTo b a → a ≡ b
up_to_both a b first second = by (name_order a b) refl
  where
    by : (o : Ordering) → name_order a b ≡ o → a ≡ b
    by Less is =
        let never : IsTrue (is_le Greater) = subst (λ (o : Ordering). IsTrue (is_le o)) (names_total.antisymm b a ∙ ap ordering_reverse is) second in
        absurd cc
    by Equal is = exact_names a b is
    by Greater is = let never : IsTrue (is_le Greater) = subst (λ (o : Ordering). IsTrue (is_le o)) is first in absurd cc

one_last : (listed : List Held) (a b : Option SegName) → LastSoFar listed a → LastSoFar listed b → a ≡ b
one_last listed None None first second = refl
one_last listed None (Some b) first second = absurd (first b second.member)
one_last listed (Some a) None first second = absurd (second a first.member)
one_last listed (Some a) (Some b) first second = ap Some (up_to_both a b (second.none_behind a first.member) (first.none_behind b second.member))

-- what was seen in the end is what is computed
pub last_is : (listed : List Held) (last : Option SegName) → LastSoFar listed last → last ≡ last_checkpoint listed
last_is listed last found = one_last listed last (last_checkpoint listed) found (last_computed listed)

-- what a test that failed, or held, says
pub isnt_true : {r b : Bool} → r ≡ b → r ≡ false → ¬ (IsTrue b)
isnt_true tells e is = let both : true ≡ false = sym is ∙ sym tells ∙ e in cc

pub is_true : {r b : Bool} → r ≡ b → r ≡ true → IsTrue b
is_true tells e = sym tells ∙ e

-- what was seen in the end is all
pub none_listed : (listed : List Held) (last : Option SegName) → LastSoFar listed last → IfNone last ((name : SegName) → ¬ (ProxyChecks listed name))
none_listed listed None none = none
none_listed listed (Some name) found = tt

pub last_listed : (listed : List Held) → IfSome (last_checkpoint listed) (IsLast (ProxyChecks listed))
last_listed listed = by (last_checkpoint listed) (last_computed listed)
  where
    by : (last : Option SegName) → LastSoFar listed last → IfSome last (IsLast (ProxyChecks listed))
    by None none = tt
    by (Some name) found = found

pub none_computed : (listed : List Held) → IfNone (last_checkpoint listed) ((name : SegName) → ¬ (ProxyChecks listed name))
none_computed listed = none_listed listed (last_checkpoint listed) (last_computed listed)

pub none_complete : (listed : List Held) (above : ℕ) (least : Option ℕ) → LeastSoFar listed above least → IfNone least ((run : ℕ) → ¬ (CompleteRuns listed above run))
none_complete listed above None none = none
none_complete listed above (Some run) found = tt
