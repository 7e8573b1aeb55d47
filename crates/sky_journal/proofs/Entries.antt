-- The entries of which bytes are made: bytes are entries exactly where they are framed entries one directly behind the other.
--   entries_in-length, -bytes, -framed    what follows where there are entries
--   entries_in-more                       with one entry more behind them
--   pending-length, pending-more          the same of the pending entries in memory
use Rattle.std.specs.Prelude.{nat_lt, if◌then◌else◌}
use Rattle.std.specs.List.{AllByRecursion, concat}
use Rattle.std.specs.Option.{option_and_then, option_map}
use Rattle.std.proofs.Common.{◌≡◌, ℕ, zero, suc, ◌+◌, ◌-◌, ◌*◌, ◌≤◌, Bool, true, false, List, [], ◌∷◌, ◌++◌, length, take, drop, Option, Some, None, refl, sym, ap, ◌∙◌, subst, arith, length-append, length-drop}
use Rattle.std.proofs.lemmas.Bool.{le-ltb, ltb-false}
use Rattle.std.proofs.lemmas.List.{append-nil, length-take-le, length_push, take-take, take-append-le, take_at, drop_at, drop-take, drop-append-le, take-append-drop}
use Rattle.std.proofs.lemmas.List.Folds.{concat-append}
use Rattle.std.proofs.lemmas.List.Sums.{sum_by-cons}
use Rattle.std.proofs.lemmas.Option.{same_Some}
use Rattle.sky_journal.specs.Layout.{number_4}
use Rattle.sky_journal.specs.Text.{first_entry, entries_in}
use Rattle.sky_journal.specs.Journal.{IsFramed, bytes_of}
use Rattle.sky_journal.specs.Pending.{body_in, pending_in}
use Rattle.sky_journal.proofs.Frames.{number_4-same}

-- ---- the first entry

-- what bytes begin with, and what stands behind it
record IsFirst (bytes : List ℕ) (x : List ℕ × List ℕ) : Type 0 where
  parts : x.0 ++ x.1 ≡ bytes
  framed : IsFramed x.0

first_found_at : (bytes : List ℕ) (x : List ℕ × List ℕ) (a b : Bool) → nat_lt (length bytes) 4 ≡ a → nat_lt (length bytes) (4 + number_4 0 bytes) ≡ b
    → (if a then None else (if b then None else Some (take (4 + number_4 0 bytes) bytes, drop (4 + number_4 0 bytes) bytes))) ≡ Some x → IsFirst bytes x
first_found_at bytes x true b short shorter e = absurd cc
first_found_at bytes x false true short shorter e = absurd cc
first_found_at bytes x false false short shorter e =
    let n = 4 + number_4 0 bytes in
    let fits : n ≤ length bytes = ltb-false _ _ shorter in
    let long : length (take n bytes) ≡ n = length-take-le n bytes fits in
    let same : number_4 0 (take n bytes) ≡ number_4 0 bytes = number_4-same 0 4 _ _ (omega arith) (take-take 4 n bytes (omega arith)) in
    subst (λ (x : List ℕ × List ℕ). IsFirst bytes x) (same_Some (take n bytes, drop n bytes) x e) (record {
      parts = take-append-drop n bytes;
      framed = record { least = omega (arith, long); length_is = omega (arith, long, same) };
    })

first_found : (bytes : List ℕ) (x : List ℕ × List ℕ) → first_entry bytes ≡ Some x → IsFirst bytes x
unfolding first_entry
first_found bytes x e = first_found_at bytes x (nat_lt (length bytes) 4) (nat_lt (length bytes) (4 + number_4 0 bytes)) refl refl e

first_again : (e rest : List ℕ) → IsFramed e → first_entry (e ++ rest) ≡ Some (e, rest)
unfolding first_entry
first_again e rest framed =
    let same : number_4 0 (e ++ rest) ≡ number_4 0 e = number_4-same 0 4 _ _ (omega arith) (take-append-le 4 e rest framed.least) in
    let long : length (e ++ rest) ≡ length e + length rest = length-append e rest in
    let is : length e ≡ 4 + number_4 0 (e ++ rest) = omega (arith, framed.length_is, same) in
    let a : nat_lt (length (e ++ rest)) 4 ≡ false = le-ltb _ _ (omega (arith, framed.least)) in
    let b : nat_lt (length (e ++ rest)) (4 + number_4 0 (e ++ rest)) ≡ false = le-ltb _ _ (omega arith) in
    rw (a, b, take_at e rest _ is, drop_at e rest _ is) refl

-- ---- entries

-- bytes are so many framed entries, one directly behind the other
pub record AreEntries (n : ℕ) (bytes : List ℕ) (es : List (List ℕ)) : Type 0 where
  pub count : length es ≡ n
  pub parts : concat es ≡ bytes
  pub framed : AllByRecursion IsFramed es

found_rest : (n : ℕ) (bytes : List ℕ) (x : List ℕ × List ℕ) (o : Option (List (List ℕ))) (es : List (List ℕ)) → IsFirst bytes x
    → ((others : List (List ℕ)) → o ≡ Some others → AreEntries n x.1 others) → option_map (λ entries. x.0 ∷ entries) o ≡ Some es → AreEntries (suc n) bytes es
found_rest n bytes x None es first rest e = absurd cc
found_rest n bytes x (Some others) es first rest e =
    let r = rest others refl in
    subst (λ (l : List (List ℕ)). AreEntries (suc n) bytes l) (same_Some (x.0 ∷ others) es e) (record {
      count = ap suc r.count;
      parts = ap (λ (l : List ℕ). x.0 ++ l) r.parts ∙ first.parts;
      framed = (first.framed, r.framed);
    })

found_first : (n : ℕ) (bytes : List ℕ) (o : Option (List ℕ × List ℕ)) (es : List (List ℕ)) → first_entry bytes ≡ o
    → ((rest : List ℕ) (others : List (List ℕ)) → entries_in n rest ≡ Some others → AreEntries n rest others)
    → option_and_then (λ x. option_map (λ entries. x.0 ∷ entries) (entries_in n x.1)) o ≡ Some es → AreEntries (suc n) bytes es
found_first n bytes None es first rest e = absurd cc
found_first n bytes (Some x) es first rest e = found_rest n bytes x (entries_in n x.1) es (first_found bytes x first) (rest x.1) e

pub entries_found : (n : ℕ) (bytes : List ℕ) (es : List (List ℕ)) → entries_in n bytes ≡ Some es → AreEntries n bytes es
unfolding entries_in
entries_found zero [] es e = subst (λ (l : List (List ℕ)). AreEntries 0 [] l) (same_Some [] es e) (record { count = refl; parts = refl; framed = tt })
entries_found zero (b ∷ bs) es e = absurd cc
entries_found (suc n) bytes es e = found_first n bytes (first_entry bytes) es refl (entries_found n) e

entries_joined : (es : List (List ℕ)) → AllByRecursion IsFramed es → entries_in (length es) (concat es) ≡ Some es
unfolding entries_in
entries_joined [] framed = refl
entries_joined (e ∷ es) framed = rw (first_again e (concat es) framed.0) (ap (λ (o : Option (List (List ℕ))). option_map (λ x. e ∷ x) o) (entries_joined es framed.1))

pub entries_again : (n : ℕ) (bytes : List ℕ) (es : List (List ℕ)) → AreEntries n bytes es → entries_in n bytes ≡ Some es
entries_again n bytes es are =
    subst (λ (m : ℕ). entries_in m bytes ≡ Some es) are.count
    (subst (λ (l : List ℕ). entries_in (length es) l ≡ Some es) are.parts (entries_joined es are.framed))

concat_long : (es : List (List ℕ)) → bytes_of es ≡ length (concat es)
concat_long [] = refl
concat_long (e ∷ es) = omega (arith, sum_by-cons length e es, concat_long es, length-append e (concat es))

pub all_push : (es : List (List ℕ)) (e : List ℕ) → AllByRecursion IsFramed es → IsFramed e → AllByRecursion IsFramed (es ++ e ∷ [])
all_push [] e all framed = (framed, tt)
all_push (f ∷ es) e all framed = (all.0, all_push es e all.1 framed)

-- ---- what follows

-- there are as many as it was asked for
pub entries_in-length : (n : ℕ) (bytes : List ℕ) (es : List (List ℕ)) → entries_in n bytes ≡ Some es → length es ≡ n
entries_in-length n bytes es e = (entries_found n bytes es e).count

-- they have all the bytes
pub entries_in-bytes : (n : ℕ) (bytes : List ℕ) (es : List (List ℕ)) → entries_in n bytes ≡ Some es → bytes_of es ≡ length bytes
entries_in-bytes n bytes es e = concat_long es ∙ ap (λ (l : List ℕ). length l) (entries_found n bytes es e).parts

-- each of them is framed
pub entries_in-framed : (n : ℕ) (bytes : List ℕ) (es : List (List ℕ)) → entries_in n bytes ≡ Some es → AllByRecursion IsFramed es
entries_in-framed n bytes es e = (entries_found n bytes es e).framed

-- an entry behind them is one entry more
pub entries_in-more : (n : ℕ) (bytes : List ℕ) (es : List (List ℕ)) (e : List ℕ) → entries_in n bytes ≡ Some es → IsFramed e
    → entries_in (n + 1) (bytes ++ e) ≡ Some (es ++ e ∷ [])
entries_in-more n bytes es e is framed =
    let are = entries_found n bytes es is in
    entries_again (n + 1) (bytes ++ e) (es ++ e ∷ []) (record {
      count = omega (arith, length_push es e, are.count);
      parts = concat-append es (e ∷ []) ∙ cc (ap (λ (l : List ℕ). concat es ++ l) (append-nil e), ap (λ (l : List ℕ). l ++ e) are.parts);
      framed = all_push es e are.framed framed;
    })

-- framed entries have at least four bytes each
pub entries_in-many : (es : List (List ℕ)) → AllByRecursion IsFramed es → 4 * length es ≤ bytes_of es
entries_in-many [] framed = omega arith
entries_in-many (e ∷ es) framed = omega (arith, sum_by-cons length e es, entries_in-many es framed.1, framed.0.least)

-- ---- the pending entries

-- there are as many pending entries as is counted, in all bytes of the batch but its header and the gate behind it
pub pending-length : (count : ℕ) (batch : List ℕ) → entries_in count (body_in batch) ≡ Some (pending_in count batch) → 16 ≤ length batch
    → (length (pending_in count batch) ≡ count) × (bytes_of (pending_in count batch) ≡ length batch - 16)
pending-length count batch e least =
    let long : length (take (length batch - 16) (drop 15 batch)) ≡ length batch - 16 = length-take-le _ _ (omega (arith, length-drop 15 batch)) in
    (entries_in-length count (body_in batch) _ e, entries_in-bytes count (body_in batch) _ e ∙ long)

-- the batch with one entry more, and the closed gate behind it
abbrev pub batch_with : List ℕ → List ℕ → List ℕ
batch_with batch entry = take (length batch - 1) batch ++ entry ++ 0 ∷ []

body_in-more : (batch entry : List ℕ) → 16 ≤ length batch → body_in (batch_with batch entry) ≡ body_in batch ++ entry
body_in-more batch entry least =
    let prefix = take (length batch - 1) batch in
    let long : length prefix ≡ length batch - 1 = length-take-le _ batch (omega arith) in
    let all : length (prefix ++ entry ++ 0 ∷ []) ≡ length batch + length entry =
    omega (arith, long, length-append prefix entry, length_push (prefix ++ entry) 0) in
    let body = take (length batch - 16) (drop 15 batch) in
    let body_long : length body ≡ length batch - 16 = length-take-le _ _ (omega (arith, length-drop 15 batch)) in
    let same_end : length batch - 1 ≡ 15 + (length batch - 16) = omega arith in
    let begins : drop 15 prefix ≡ body = ap (λ (n : ℕ). drop 15 (take n batch)) same_end ∙ drop-take 15 _ batch in
    let rest : drop 15 (prefix ++ entry ++ 0 ∷ []) ≡ (body ++ entry) ++ 0 ∷ [] =
    drop-append-le 15 (prefix ++ entry) (0 ∷ []) (omega (arith, long, length-append prefix entry))
    ∙ ap (λ (l : List ℕ). l ++ 0 ∷ []) (drop-append-le 15 prefix entry (omega (arith, long)) ∙ ap (λ (l : List ℕ). l ++ entry) begins) in
    let fits : length (body ++ entry) ≡ length (prefix ++ entry ++ 0 ∷ []) - 16 = omega (arith, all, body_long, length-append body entry) in
    ap (λ (l : List ℕ). take (length (prefix ++ entry ++ 0 ∷ []) - 16) l) rest ∙ take_at (body ++ entry) (0 ∷ []) _ fits

-- so the bytes of the batch with one entry more are one entry more
pub pending-again : (count : ℕ) (batch entry : List ℕ) → entries_in count (body_in batch) ≡ Some (pending_in count batch) → 16 ≤ length batch → IsFramed entry
    → entries_in (count + 1) (body_in (batch_with batch entry)) ≡ Some (pending_in count batch ++ entry ∷ [])
pending-again count batch entry e least framed =
    ap (λ (l : List ℕ). entries_in (count + 1) l) (body_in-more batch entry least) ∙ entries_in-more count (body_in batch) (pending_in count batch) entry e framed

-- and are pending
pub pending-is : (count : ℕ) (batch : List ℕ) (es : List (List ℕ)) → entries_in count (body_in batch) ≡ Some es → pending_in count batch ≡ es
unfolding pending_in
pending-is count batch es e = rw e refl

pub pending-more : (count : ℕ) (batch entry : List ℕ) → entries_in count (body_in batch) ≡ Some (pending_in count batch) → 16 ≤ length batch → IsFramed entry
    → pending_in (count + 1) (batch_with batch entry) ≡ pending_in count batch ++ entry ∷ []
pending-more count batch entry e least framed = pending-is (count + 1) (batch_with batch entry) _ (pending-again count batch entry e least framed)

-- and there is nothing else among them
pub pending-kept : (count : ℕ) (batch entry : List ℕ) → entries_in count (body_in batch) ≡ Some (pending_in count batch) → 16 ≤ length batch → IsFramed entry
    → entries_in (count + 1) (body_in (batch_with batch entry)) ≡ Some (pending_in (count + 1) (batch_with batch entry))
pending-kept count batch entry e least framed =
    pending-again count batch entry e least framed ∙ ap (λ (l : List (List ℕ)). Some l) (sym (pending-more count batch entry e least framed))
