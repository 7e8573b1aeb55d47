-- A record's text, byte by byte: what has come of it is determined, and nothing comes after its end.
use Rattle.std.proofs.Common.{◌≡◌, ℕ, suc, ◌+◌, ◌-◌, ◌%◌, ◌^◌, ◌<◌, ◌≤◌, Bool, true, false, cond, ltb, leb, List, [], ◌∷◌, ◌++◌, length, Option, Some, None, refl, sym, ap, ◌∙◌, append_assoc, arith}
use Rattle.std.specs.Int.{w32, from_be_bytes}
use Rattle.std.proofs.lemmas.Bool.{lt-ltb, le-ltb, le-leb, lt-leb}
use Rattle.std.proofs.lemmas.List.{append-nil, length-append}
use Rattle.std.proofs.lemmas.Nat.{from_be_bytes-to_be_bytes_4}
use Rattle.sky_base.specs.Limits.{max_record_bytes}
use Rattle.sky_record.specs.Record.{Fragment, header, fragment, encoding, joined, NoneLast, IsRecordPrefix}
use Rattle.sky_record.specs.Stream.{Progress, AtHeader, InFragment, Whole, TooLong, Received, nothing, IsOpen, IsSoFar, Comes}
use Rattle.sky_record.specs.Parts.{with_due, with_header}
use Rattle.sky_record.proofs.Sound.{encoding-push, joined-push, IsWhole-parts}

abbrev at : List ℕ → Progress → Option Received
at bytes progress = Some (record { bytes = bytes; progress = progress })

abbrev step_at : List ℕ → Progress → ℕ → Option Received
step_at bytes (AtHeader part) b = at bytes (with_header (length bytes) (part ++ b ∷ []))
step_at bytes (InFragment last due) b = at (bytes ++ b ∷ []) (with_due last (due - 1))
step_at bytes Whole b = None
step_at bytes TooLong b = None

abbrev step : Option Received → ℕ → Option Received
step None b = None
step (Some r) b = step_at r.bytes r.progress b

abbrev steps : Option Received → List ℕ → Option Received
steps o [] = o
steps o (b ∷ bs) = steps (step o b) bs

steps-append : (o : Option Received) (xs ys : List ℕ) → steps o (xs ++ ys) ≡ steps (steps o xs) ys
steps-append o [] ys = refl
steps-append o (x ∷ xs) ys = steps-append (step o x) xs ys

steps-none : (bs : List ℕ) → steps None bs ≡ None
steps-none [] = refl
steps-none (b ∷ bs) = steps-none bs

-- ---- a header, a fragment, and fragments

abbrev after_header : ℕ → Bool → ℕ → Progress
after_header had last size = cond (ltb max_record_bytes (had + size)) TooLong (with_due last size)

steps_header : (bytes : List ℕ) (last : Bool) (size : ℕ) → size < 2 ^ 31 → steps (at bytes (AtHeader [])) (header last size) ≡ at bytes (after_header (length bytes) last size)
steps_header bytes true size lt =
    let word : from_be_bytes w32 (header true size) ≡ 2 ^ 31 + size = from_be_bytes-to_be_bytes_4 (2 ^ 31 + size) (omega arith) in
    let size_is : (2 ^ 31 + size) % 2 ^ 31 ≡ size = omega arith in
    ap (λ (w : ℕ). at bytes (after_header (length bytes) (leb (2 ^ 31) w) (w % 2 ^ 31))) word
    ∙ ap (λ (n : ℕ). at bytes (after_header (length bytes) (leb (2 ^ 31) (2 ^ 31 + size)) n)) size_is
    ∙ ap (λ (b : Bool). at bytes (after_header (length bytes) b size)) (le-leb (2 ^ 31) (2 ^ 31 + size) (omega arith))
steps_header bytes false size lt =
    let word : from_be_bytes w32 (header false size) ≡ size = from_be_bytes-to_be_bytes_4 size (omega arith) in
    let size_is : size % 2 ^ 31 ≡ size = omega arith in
    ap (λ (w : ℕ). at bytes (after_header (length bytes) (leb (2 ^ 31) w) (w % 2 ^ 31))) word
    ∙ ap (λ (n : ℕ). at bytes (after_header (length bytes) (leb (2 ^ 31) size) n)) size_is
    ∙ ap (λ (b : Bool). at bytes (after_header (length bytes) b size)) (lt-leb (2 ^ 31) size lt)

steps_bytes : (bytes part : List ℕ) (last : Bool) (due : ℕ) → steps (at bytes (with_due last (length part + due))) part ≡ at (bytes ++ part) (with_due last due)
steps_bytes bytes [] last due =
    ap (λ (n : ℕ). at bytes (with_due last n)) (omega arith) ∙ ap (λ (t : List ℕ). at t (with_due last due)) (sym (append-nil bytes))
steps_bytes bytes (b ∷ part) last due =
    rw (lt-ltb 0 (suc (length part) + due) (omega arith))
    (ap (λ (n : ℕ). steps (at (bytes ++ b ∷ []) (with_due last n)) part) (omega arith)
    ∙ steps_bytes (bytes ++ b ∷ []) part last due
    ∙ ap (λ (t : List ℕ). at t (with_due last due)) (append_assoc bytes (b ∷ []) part))

-- a header within the limit, and some bytes of its fragment
steps_part : (bytes part : List ℕ) (last : Bool) (due : ℕ) → length (bytes ++ part) + due ≤ max_record_bytes
    → steps (at bytes (AtHeader [])) (header last (length part + due) ++ part) ≡ at (bytes ++ part) (with_due last due)
steps_part bytes part last due within =
    let size : ℕ = length part + due in
    let total : length bytes + size ≤ max_record_bytes = omega (arith, length-append bytes part) in
    let after : after_header (length bytes) last size ≡ with_due last size = rw (le-ltb max_record_bytes (length bytes + size) total) refl in
    steps-append (at bytes (AtHeader [])) (header last size) part
    ∙ ap (λ (o : Option Received). steps o part) (steps_header bytes last size (omega arith) ∙ ap (at bytes) after)
    ∙ steps_bytes bytes part last due

steps_fragment : (bytes : List ℕ) (f : Fragment) → length (bytes ++ f.bytes) ≤ max_record_bytes → steps (at bytes (AtHeader [])) (fragment f) ≡ at (bytes ++ f.bytes) (with_due f.last 0)
steps_fragment bytes f within =
    ap (λ (n : ℕ). steps (at bytes (AtHeader [])) (header f.last n ++ f.bytes)) (omega arith) ∙ steps_part bytes f.bytes f.last 0 (omega arith)

steps_fragments : (bytes : List ℕ) (fs : List Fragment) → NoneLast fs → length (bytes ++ joined fs) ≤ max_record_bytes → steps (at bytes (AtHeader [])) (encoding fs) ≡ at (bytes ++ joined fs) (AtHeader [])
steps_fragments bytes [] none within = ap (λ (t : List ℕ). at t (AtHeader [])) (sym (append-nil bytes))
steps_fragments bytes (f ∷ fs) none within =
    let regrouped : bytes ++ (f.bytes ++ joined fs) ≡ (bytes ++ f.bytes) ++ joined fs = sym (append_assoc bytes f.bytes (joined fs)) in
    let all : length ((bytes ++ f.bytes) ++ joined fs) ≤ max_record_bytes = omega (arith, ap length regrouped) in
    steps-append (at bytes (AtHeader [])) (fragment f) (encoding fs)
    ∙ ap (λ (o : Option Received). steps o (encoding fs))
    (steps_fragment bytes f (omega (arith, length-append (bytes ++ f.bytes) (joined fs))) ∙ ap (λ (b : Bool). at (bytes ++ f.bytes) (with_due b 0)) none.0)
    ∙ steps_fragments (bytes ++ f.bytes) fs none.1 all
    ∙ ap (λ (t : List ℕ). at t (AtHeader [])) (sym regrouped)

-- ---- what has come of a record

steps_prefix : (text bytes : List ℕ) → IsRecordPrefix text bytes → steps (Some nothing) text ≡ at bytes (AtHeader [])
steps_prefix text bytes h =
    ap (steps (Some nothing)) h.encoded ∙ steps_fragments [] h.fragments h.none_last (omega (arith, ap length h.joins, h.within)) ∙ ap (λ (t : List ℕ). at t (AtHeader [])) (sym h.joins)

behind_prefix : (prefix bytes more text : List ℕ) → IsRecordPrefix prefix bytes → text ≡ prefix ++ more → steps (Some nothing) text ≡ steps (at bytes (AtHeader [])) more
behind_prefix prefix bytes more text h e =
    ap (steps (Some nothing)) e ∙ steps-append (Some nothing) prefix more ∙ ap (λ (o : Option Received). steps o more) (steps_prefix prefix bytes h)

steps_short : (bytes part : List ℕ) → length part < 4 → steps (at bytes (AtHeader [])) part ≡ at bytes (AtHeader part)
steps_short bytes [] short = refl
steps_short bytes (a ∷ []) short = refl
steps_short bytes (a ∷ b ∷ []) short = refl
steps_short bytes (a ∷ b ∷ c ∷ []) short = refl
steps_short bytes (a ∷ b ∷ c ∷ d ∷ part) short = absurd (omega arith)

steps_so_far : (text bytes : List ℕ) (progress : Progress) → IsSoFar text bytes progress → steps (Some nothing) text ≡ at bytes progress
steps_so_far text bytes (AtHeader part) h = behind_prefix h.prefix bytes part text h.is_prefix h.text_is ∙ steps_short bytes part h.short
steps_so_far text bytes (InFragment last due) h =
    behind_prefix h.prefix h.before (header last (length h.part + due) ++ h.part) text h.is_prefix h.text_is
    ∙ steps_part h.before h.part last due (omega (arith, ap length h.bytes_is, h.within))
    ∙ ap (λ (p : Progress). at (h.before ++ h.part) p) (rw (lt-ltb 0 due h.some_due) refl)
    ∙ ap (λ (t : List ℕ). at t (InFragment last due)) (sym h.bytes_is)
steps_so_far text bytes Whole h =
    let p = IsWhole-parts h.fragments h.whole in
    let prefix : List Fragment = p.0 in
    let final : Fragment = p.1 in
    let joins : bytes ≡ joined prefix ++ final.bytes = h.joins ∙ ap joined p.4 ∙ joined-push prefix final in
    let lengths = ap length joins in
    ap (steps (Some nothing)) (h.encoded ∙ ap encoding p.4 ∙ encoding-push prefix final)
    ∙ steps-append (Some nothing) (encoding prefix) (fragment final)
    ∙ ap (λ (o : Option Received). steps o (fragment final)) (steps_fragments [] prefix p.2 (omega (arith, lengths, h.within, length-append (joined prefix) final.bytes)))
    ∙ steps_fragment (joined prefix) final (omega (arith, lengths, h.within))
    ∙ ap (λ (b : Bool). at (joined prefix ++ final.bytes) (with_due b 0)) p.3
    ∙ ap (λ (t : List ℕ). at t Whole) (sym joins)
steps_so_far text bytes TooLong h =
    behind_prefix h.prefix bytes (header h.last h.size) text h.is_prefix h.text_is
    ∙ steps_header bytes h.last h.size h.size_fits
    ∙ ap (at bytes) (rw (lt-ltb max_record_bytes (length bytes + h.size) h.passes) refl)

-- what has come of a record is determined by its text
pub one_received : (text : List ℕ) (r s : Received) → Comes text r → Comes text s → r ≡ s
one_received text r s p q =
    let e = sym (steps_so_far text r.bytes r.progress p) ∙ steps_so_far text s.bytes s.progress q in
    let f : Some r ≡ Some s = e in cc

step-closed : (bytes : List ℕ) (progress : Progress) (b : ℕ) → (IsOpen progress → ⊥) → step_at bytes progress b ≡ None
step-closed bytes (AtHeader part) b closed = absurd (closed tt)
step-closed bytes (InFragment last due) b closed = absurd (closed tt)
step-closed bytes Whole b closed = refl
step-closed bytes TooLong b closed = refl

-- nothing comes of a record after its end
pub nothing_after : (text : List ℕ) (b : ℕ) (more : List ℕ) (r s : Received) → Comes text r → (IsOpen r.progress → ⊥) → Comes (text ++ b ∷ more) s → ⊥
nothing_after text b more r s p closed q =
    let e : Some s ≡ None =
    sym (steps_so_far (text ++ b ∷ more) s.bytes s.progress q) ∙ steps-append (Some nothing) text (b ∷ more) ∙ ap (λ (o : Option Received). steps o (b ∷ more)) (steps_so_far text r.bytes r.progress p)
    ∙ ap (λ (o : Option Received). steps o more) (step-closed r.bytes r.progress b closed) ∙ steps-none more in
    absurd cc
