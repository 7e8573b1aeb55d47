-- Entries: what is of the grammar is read, and what is read is of the grammar.
--   entry_again               an entry is read as its change, whatever follows it
--   entry_sound               what is read is an entry of that change (ReadEntry)
--   one_change, no_prefix     no bytes are the entries of two changes, nor begin with others
use Rattle.std.proofs.Common.{◌≡◌, ℕ, ◌+◌, ◌≤◌, Bool, true, false, cond, ltb, ◌&&◌, List, [], ◌++◌, length, take, Option, Some, None, Result, Ok, Err, refl, sym, ap, subst, ◌∙◌, append_assoc, arith}
use Rattle.std.specs.Bool.{IsTrue}
use Rattle.std.specs.Option.{option_and_then, option_map}
use Rattle.std.specs.Str.{bytes_eq}
use Rattle.std.proofs.lemmas.Bool.{ltb-false, le-ltb, and_from, and_parts, cond-true}
use Rattle.std.proofs.lemmas.List.{append-nil, take_at, length-append, length-take, nil_from_length}
use Rattle.std.proofs.Math.Seq.{take-append-add}
use Rattle.std.proofs.lemmas.Slice.Eq.{bytes_eq-Decides}
use Rattle.sky_nfs.specs.Calls.{procedure_of, is_change}
use Rattle.sky_nfs.specs.declared.call.Call.{Call}
use Rattle.sky_nfs.specs.declared.call.Change.{Change}
use Rattle.sky_xdr.specs.declared.fault.XdrFault.{XdrFault}
use Rattle.sky_xdr.specs.Encoding.{AreBytes, uint}
use Rattle.sky_xdr.specs.Reading.{uint_at}
use Rattle.sky_xdr.proofs.Numbers.{uint_again, uint_took, length-uint, AreBytes-take}
use Rattle.sky_args.specs.Args.{args_bytes}
use Rattle.sky_args.specs.Reading.{ArgRefusal, args_at}
use Rattle.sky_args.specs.Sizes.{FitsUint, FitsMoment, FitsTypes}
use Rattle.sky_args.proofs.ArgsLaws.{args_sound}
use Rattle.sky_args.proofs.SizeLaws.{accepted_fits}
use Rattle.sky_args.proofs.WrittenLaws as arguments
use Rattle.sky_entry.specs.declared.reading.Head.{Head}
use Rattle.sky_entry.specs.Entry.{body_bytes, entry_bytes, FitsCred, FitsChange, IsEntry}
use Rattle.sky_entry.specs.Reading.{head_at, change_with, change_behind, if_written, body_at, entry_behind, entry_at}
use Rattle.sky_entry.proofs.Sizes.{length-entry_bytes}
use Rattle.sky_entry.proofs.HeadReads.{head_reads, head_found, head_fits}

-- ---- what is of the grammar is read

-- what stands before the arguments of a change
abbrev head_of : Change → Head
head_of c = record { moment = c.moment; cred = c.cred; procedure = procedure_of c.call }

procedure_fits : (call : Call) → IsTrue (is_change call) → FitsUint (procedure_of call)
procedure_fits call changes = grind arith

change_again : (c : Change) → FitsChange c → change_behind (head_at (body_bytes c)) ≡ Some c
unfolding body_bytes
change_again c fits =
    let head : Head = head_of c in
    let read : head_at (body_bytes c) ≡ Ok (head, args_bytes c.call) =
    (head_reads.again head _ (head_found head fits.moment fits.cred (procedure_fits c.call fits.changes))).read (args_bytes c.call) in
    ap change_behind read ∙ ap (change_with head) (arguments.written_read c.call fits.call)

kept : (c : Change) → IsTrue (is_change c.call) → if_written (body_bytes c) c ≡ Some c
kept c changes =
    let same : bytes_eq (body_bytes c) (body_bytes c) ≡ true = (bytes_eq-Decides (body_bytes c) (body_bytes c)).1 refl in
    cond-true (is_change c.call && bytes_eq (body_bytes c) (body_bytes c)) (Some c) None (and_from _ _ changes same)

body_again : (c : Change) → FitsChange c → body_at (body_bytes c) ≡ Some c
unfolding body_at
body_again c fits = ap (option_and_then (if_written (body_bytes c))) (change_again c fits) ∙ kept c fits.changes

-- a body behind its length, and what follows it
behind_again : (n : ℕ) (body rest : List ℕ) (c : Change) → length body ≡ n → body_at body ≡ Some c
    → entry_behind (Ok (n, body ++ rest)) ≡ Some (c, 4 + n)
behind_again n body rest c long is =
    let within : ltb (length (body ++ rest)) n ≡ false = le-ltb _ _ (omega (arith, length-append body rest)) in
    rw (within, take_at body rest n long, is) refl

pub entry_again : (bytes rest : List ℕ) (c : Change) → IsEntry bytes c → entry_at (bytes ++ rest) ≡ Some (c, length bytes)
unfolding entry_at entry_bytes
entry_again bytes rest c is =
    let body : List ℕ = body_bytes c in
    let n : ℕ = length body in
    let long : length bytes ≡ 4 + n = omega (arith, ap length is.encoded, length-entry_bytes c) in
    let grouped : bytes ++ rest ≡ uint n ++ (body ++ rest) = ap (λ (t : List ℕ). t ++ rest) is.encoded ∙ append_assoc (uint n) body rest in
    let read : uint_at (bytes ++ rest) ≡ Ok (n, body ++ rest) = ap uint_at grouped ∙ uint_again n (body ++ rest) is.length_fits in
    ap entry_behind read ∙ behind_again n body rest c refl (body_again c is.fits) ∙ ap (λ (k : ℕ). Some (c, k)) (sym long)

-- ---- what is read is of the grammar

-- a body that was read
record ReadBody (body : List ℕ) (c : Change) : Type 0 where
  fits : FitsChange c
  written : body_bytes c ≡ body

some_is : {A : Type 0} (x y : A) → Some x ≡ Some y → x ≡ y
some_is x y e = cc

-- a choice that gave a value
chosen : {A : Type 0} (b : Bool) (x y : A) → cond b (Some x) None ≡ Some y → (b ≡ true) × (x ≡ y)
chosen true x y e = (refl, some_is x y e)
chosen false x y e = absurd cc

-- a step that gave a value
step : {A B : Type 0} (f : A → Option B) (o : Option A) (y : B) → option_and_then f o ≡ Some y → (x : A) × (o ≡ Some x) × (f x ≡ Some y)
step f None y e = absurd cc
step f (Some x) y e = (x, refl, e)

-- the parts of a change that was read
record Parts (head : Head) (r : Result Call ArgRefusal) (c : Change) : Type 0 where
  moment : head.moment ≡ c.moment
  cred : head.cred ≡ c.cred
  call : r ≡ Ok c.call

with_parts : (head : Head) (r : Result Call ArgRefusal) (c : Change) → change_with head r ≡ Some c → Parts head r c
with_parts head (Ok call) c e =
    let made : Change = record { cred = head.cred; moment = head.moment; call = call } in
    let same : made ≡ c = some_is made c e in
    record { moment = ap (λ (d : Change). d.moment) same; cred = ap (λ (d : Change). d.cred) same; call = ap (λ (d : Change). Ok d.call) same }
with_parts head (Err refusal) c e = absurd cc

-- each field of a change that was read is of its type
record FitsFields (c : Change) : Type 0 where
  moment : FitsMoment c.moment
  cred : FitsCred c.cred
  call : FitsTypes c.call

change_sound : (body : List ℕ) (r : Result (Head × List ℕ) XdrFault) (c : Change) → AreBytes body → head_at body ≡ r → change_behind r ≡ Some c → FitsFields c
change_sound body (Ok (head, args)) c fits read e =
    let begins = head_reads.sound.begins body head args fits read in
    let fields = head_fits head begins.prefix begins.is in
    let parts = with_parts head (args_at head.procedure args) c e in
    let sound = args_sound head.procedure args c.call begins.rest_fits parts.call in
    record {
      moment = subst FitsMoment parts.moment fields.0;
      cred = subst FitsCred parts.cred fields.1;
      call = accepted_fits args c.call sound.1;
    }
change_sound body (Err fault) c fits read e = absurd cc

body_sound : (body : List ℕ) (c : Change) → AreBytes body → body_at body ≡ Some c → ReadBody body c
unfolding body_at
body_sound body c fits e =
    let s = step (if_written body) (change_behind (head_at body)) c e in
    let is = chosen (is_change s.0.call && bytes_eq (body_bytes s.0) body) s.0 c s.2 in
    let both = and_parts (is_change s.0.call) (bytes_eq (body_bytes s.0) body) is.0 in
    let fields = change_sound body (head_at body) s.0 fits refl s.1 in
    let read : ReadBody body s.0 = record {
      fits = record { moment = fields.moment; cred = fields.cred; call = fields.call; changes = both.0 };
      written = (bytes_eq-Decides (body_bytes s.0) body).0 both.1;
    } in
    subst (λ (d : Change). ReadBody body d) is.1 read

-- an entry that was read
pub record ReadEntry (bytes : List ℕ) (c : Change) (n : ℕ) : Type 0 where
  pub is : IsEntry (take n bytes) c
  pub within : n ≤ length bytes

-- a choice of a value, unless a test holds
unless : {A : Type 0} (b : Bool) (o : Option A) (y : A) → cond b None o ≡ Some y → (b ≡ false) × (o ≡ Some y)
unless true o y e = absurd cc
unless false o y e = (refl, e)

-- a value that was counted
counted : (n : ℕ) (o : Option Change) (y : Change × ℕ) → option_map (λ c. (c, n)) o ≡ Some y → (x : Change) × (o ≡ Some x) × ((x, n) ≡ y)
counted n None y e = absurd cc
counted n (Some x) y e = (x, refl, some_is (x, n) y e)

-- the bytes of an entry, behind whose length its body was read
entry_is : (bytes rest : List ℕ) (k : ℕ) (c : Change) → bytes ≡ uint k ++ rest → k ≤ length rest → body_bytes c ≡ take k rest
    → (length (body_bytes c) ≡ k) × (take (4 + k) bytes ≡ entry_bytes c)
unfolding entry_bytes
entry_is bytes rest k c parts long written =
    let size : length (body_bytes c) ≡ k = omega (arith, ap length written, length-take k rest) in
    let prefix : take (4 + k) (uint k ++ rest) ≡ uint k ++ take k rest =
    ap (λ (m : ℕ). take (m + k) (uint k ++ rest)) (sym (length-uint k)) ∙ take-append-add (uint k) rest k in
    (size, ap (take (4 + k)) parts ∙ prefix ∙ ap (λ (b : List ℕ). uint k ++ b) (sym written) ∙ ap (λ (m : ℕ). uint m ++ body_bytes c) (sym size))

-- a body behind its length
behind_sound : (bytes : List ℕ) (r : Result (ℕ × List ℕ) XdrFault) (c : Change) (n : ℕ) → AreBytes bytes → uint_at bytes ≡ r → entry_behind r ≡ Some (c, n) → ReadEntry bytes c n
behind_sound bytes (Ok (k, rest)) c n fits read e =
    let t = uint_took bytes k rest fits read in
    let test = unless (ltb (length rest) k) (option_map (λ d. (d, 4 + k)) (body_at (take k rest))) (c, n) e in
    let found = counted (4 + k) (body_at (take k rest)) (c, n) test.1 in
    let long : k ≤ length rest = ltb-false _ _ test.0 in
    let body = body_sound (take k rest) found.0 (AreBytes-take k rest t.0.rest_fits) found.1 in
    let is = entry_is bytes rest k found.0 t.0.parts long body.written in
    let entry : ReadEntry bytes found.0 (4 + k) = record {
      is = record { fits = body.fits; length_fits = omega (arith, is.0, t.1); encoded = is.1 };
      within = omega (arith, long, ap length t.0.parts, length-append (uint k) rest, length-uint k);
    } in
    let same_change : found.0 ≡ c = ap (λ (p : Change × ℕ). p.0) found.2 in
    let same_count : 4 + k ≡ n = ap (λ (p : Change × ℕ). p.1) found.2 in
    subst (λ (m : ℕ). ReadEntry bytes c m) same_count (subst (λ (d : Change). ReadEntry bytes d (4 + k)) same_change entry)
behind_sound bytes (Err fault) c n fits read e = absurd cc

pub entry_sound : (bytes : List ℕ) (c : Change) (n : ℕ) → AreBytes bytes → entry_at bytes ≡ Some (c, n) → ReadEntry bytes c n
unfolding entry_at
entry_sound bytes c n fits e = behind_sound bytes (uint_at bytes) c n fits refl e

-- ---- one reading

same_pair : (a b : Change) (m n : ℕ) (r : Option (Change × ℕ)) → r ≡ Some (a, m) → r ≡ Some (b, n) → (a ≡ b) × (m ≡ n)
same_pair a b m n r p q =
    let e : (a, m) ≡ (b, n) = some_is (a, m) (b, n) (sym p ∙ q) in
    (ap (λ (t : Change × ℕ). t.0) e, ap (λ (t : Change × ℕ). t.1) e)

pub one_change : (bytes : List ℕ) (a b : Change) → IsEntry bytes a → IsEntry bytes b → a ≡ b
one_change bytes a b p q = (same_pair a b _ _ _ (entry_again bytes [] a p) (entry_again bytes [] b q)).0

pub no_prefix : (bytes more : List ℕ) (a b : Change) → IsEntry bytes a → IsEntry (bytes ++ more) b → more ≡ []
no_prefix bytes more a b p q =
    let second = entry_again (bytes ++ more) [] b q in
    let whole : entry_at (bytes ++ more) ≡ Some (b, length (bytes ++ more)) = ap entry_at (sym (append-nil (bytes ++ more))) ∙ second in
    let same : length bytes ≡ length (bytes ++ more) = (same_pair a b _ _ _ (entry_again bytes more a p) whole).1 in
    nil_from_length more (omega (arith, length-append bytes more))

-- ---- what is written

pub written_found : (c : Change) → FitsChange c → FitsUint (length (body_bytes c)) → IsEntry (entry_bytes c) c
written_found c fits small = record { fits = fits; length_fits = small; encoded = refl }

pub written_read : (c : Change) (rest : List ℕ) → FitsChange c → FitsUint (length (body_bytes c))
    → entry_at (entry_bytes c ++ rest) ≡ Some (c, length (entry_bytes c))
written_read c rest fits small = entry_again (entry_bytes c) rest c (written_found c fits small)
