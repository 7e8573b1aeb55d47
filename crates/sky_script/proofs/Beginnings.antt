-- Bytes begin in one way and in no other.
use Rattle.std.proofs.Common.{◌≡◌, ◌<◌, ◌≤◌, ◌^◌, ℕ, true, false, inl, inr, List, [], ◌++◌, length, take, drop, get_or, refl, sym, ap, subst, ◌∙◌, append_assoc, arith}
use Rattle.std.proofs.lemmas.Bool.{false≢true, cases_lt, cases_eq, cases_Bool}
use Rattle.std.proofs.lemmas.Bool.Decides.{nat_tests}
use Rattle.std.proofs.lemmas.List.{length-append, take-append-drop, length-take-le, nil_from_length}
use Rattle.sky_base.specs.declared.moment.Moment.{Moment}
use Rattle.sky_xdr.specs.Encoding.{AreBytes, uint}
use Rattle.sky_xdr.specs.Reading.{word}
use Rattle.sky_xdr.proofs.Numbers.{uint_same, AreBytes-drop, AreBytes-take, word_fits}
use Rattle.sky_script.specs.Frame.{InFrame, Begin, Bytes, Close, SetMoment, Stat, Restart, RestartWithoutJournal, End, header, Parts, parts_of, frame, in_frame, is_header, IsInFrame, second, session_count, payload_limit}
use Rattle.sky_script.specs.Beginning.{IsRefused, refused_header, refused_moment, IsCutShort, within_header, within_payload, Begins, with_frame, with_refused, cut_short, HasOneBeginning}
use Rattle.sky_script.proofs.Headers.{header_split, moment_of, moment_split, moment_fits}
use Rattle.sky_script.proofs.FrameLaws.{known_fits, in_frame_known, header_same, length-header, length-moment, frame-parts, frame_same, prefixes_same}

-- one header isn't both
known_not_refused : (k s l m t n : ℕ) → k ≡ m → s ≡ t → l ≡ n → is_header k s l ≡ true → is_header m t n ≡ false → ⊥
known_not_refused k s l m t n a b c known refused =
    let same : is_header k s l ≡ is_header m t n = λ i. is_header (a i) (b i) (c i) in
    false≢true (sym refused ∙ sym same ∙ known)

-- what a refused beginning begins with: a header that is refused, or that of a moment with what follows
pub data Head (taken : List ℕ) : Type 0 where
  bad : (kind session len : ℕ) → session < 2 ^ 32 → len < 2 ^ 32 → taken ≡ header kind session len → is_header kind session len ≡ false → Head taken
  moment : (at : Moment) → at.seconds < 2 ^ 32 → at.nanos < 2 ^ 32 → second ≤ at.nanos → taken ≡ header 4 0 8 ++ (uint at.seconds ++ uint at.nanos) → Head taken

head_of : (taken : List ℕ) → IsRefused taken → Head taken
head_of taken (refused_header kind session len k s l is denied) = bad kind session len s l is denied
head_of taken (refused_moment at s n is late) =
    moment at s n late (is ∙ ap (λ (m : ℕ). header 4 0 m ++ (uint at.seconds ++ uint at.nanos)) (length-moment at))

-- a header, and nothing behind it
bare : (k s l : ℕ) (x : List ℕ) → header k s l ++ x ≡ header k s l ++ ([] ++ x)
bare k s l x = refl

-- a moment's payload with what follows it is one moment's
late_moment : (a b : Moment) (x y : List ℕ) → a.seconds < 2 ^ 32 → a.nanos < 2 ^ 32 → b.seconds < 2 ^ 32 → b.nanos < 2 ^ 32
    → (uint a.seconds ++ uint a.nanos) ++ x ≡ (uint b.seconds ++ uint b.nanos) ++ y → (a.seconds ≡ b.seconds) × (a.nanos ≡ b.nanos) × (x ≡ y)
late_moment a b x y p q u v e =
    let s = uint_same a.seconds b.seconds (uint a.nanos ++ x) (uint b.nanos ++ y) p u (sym (append_assoc (uint a.seconds) (uint a.nanos) x) ∙ e ∙ append_assoc (uint b.seconds) (uint b.nanos) y) in
    let n = uint_same a.nanos b.nanos x y q v s.1 in
    (s.0, n.0, n.1)

-- ---- a frame, and what is refused

-- a frame whose header is that of a moment is one
moment_only : (f : InFrame) → IsInFrame f → (parts_of f).kind ≡ 4 → (at : Moment) × (f ≡ SetMoment at)
moment_only (Begin s) formed is = absurd (omega arith)
moment_only (Bytes s p) formed is = absurd (omega arith)
moment_only (Close s) formed is = absurd (omega arith)
moment_only (SetMoment at) formed is = (at, refl)
moment_only Stat formed is = absurd (omega arith)
moment_only Restart formed is = absurd (omega arith)
moment_only RestartWithoutJournal formed is = absurd (omega arith)
moment_only End formed is = absurd (omega arith)

-- a moment that may go in isn't late
moment_not_late : (a b : Moment) (x y : List ℕ) → IsInFrame (SetMoment a) → b.seconds < 2 ^ 32 → b.nanos < 2 ^ 32 → second ≤ b.nanos
    → (uint a.seconds ++ uint a.nanos) ++ x ≡ (uint b.seconds ++ uint b.nanos) ++ y → ⊥
moment_not_late a b x y formed s n late e =
    let h = late_moment a b x y formed.0 (omega (arith, formed.1)) s n e in
    omega (arith, h.1, formed.1)

late_not_frame : (f : InFrame) (at : Moment) (x y : List ℕ) → IsInFrame f → at.seconds < 2 ^ 32 → at.nanos < 2 ^ 32 → second ≤ at.nanos
    → (parts_of f).kind ≡ 4 → (parts_of f).payload ++ x ≡ (uint at.seconds ++ uint at.nanos) ++ y → ⊥
late_not_frame (Begin s) at x y formed p q late k e = absurd (omega (arith, k))
late_not_frame (Bytes s b) at x y formed p q late k e = absurd (omega (arith, k))
late_not_frame (Close s) at x y formed p q late k e = absurd (omega (arith, k))
late_not_frame (SetMoment a) at x y formed p q late k e = moment_not_late a at x y formed p q late e
late_not_frame Stat at x y formed p q late k e = absurd (omega (arith, k))
late_not_frame Restart at x y formed p q late k e = absurd (omega (arith, k))
late_not_frame RestartWithoutJournal at x y formed p q late k e = absurd (omega (arith, k))
late_not_frame End at x y formed p q late k e = absurd (omega (arith, k))

frame_not_head : (f : InFrame) (taken rest others : List ℕ) → IsInFrame f → in_frame f ++ rest ≡ taken ++ others → Head taken → ⊥
frame_not_head f taken rest others formed e (bad kind session len s l is denied) =
    let p = parts_of f in
    let fits = known_fits p.kind p.session (length p.payload) (in_frame_known f formed) in
    let h = header_same p.kind p.session (length p.payload) kind session len (p.payload ++ rest) others fits.0 fits.1 s l (sym (frame-parts p rest) ∙ e ∙ ap (λ (t : List ℕ). t ++ others) is) in
    known_not_refused p.kind p.session (length p.payload) kind session len h.0 h.1 h.2 (in_frame_known f formed) denied
frame_not_head f taken rest others formed e (moment at s n late is) =
    let p = parts_of f in
    let m = uint at.seconds ++ uint at.nanos in
    let fits = known_fits p.kind p.session (length p.payload) (in_frame_known f formed) in
    let behind : taken ++ others ≡ header 4 0 8 ++ (m ++ others) = ap (λ (t : List ℕ). t ++ others) is ∙ append_assoc (header 4 0 8) m others in
    let h = header_same p.kind p.session (length p.payload) 4 0 8 (p.payload ++ rest) (m ++ others) fits.0 fits.1 (omega arith) (omega arith) (sym (frame-parts p rest) ∙ e ∙ behind) in
    late_not_frame f at rest others formed s n late h.0 h.3

pub frame_not_refused : (f : InFrame) (bytes taken rest others : List ℕ) → IsInFrame f → bytes ≡ in_frame f ++ rest → IsRefused taken → bytes ≡ taken ++ others → ⊥
frame_not_refused f bytes taken rest others formed e refused d = frame_not_head f taken rest others formed (sym e ∙ d) (head_of taken refused)

-- ---- a frame, and what is cut short

pub frame_not_cut : (f : InFrame) (bytes rest : List ℕ) → IsInFrame f → bytes ≡ in_frame f ++ rest → IsCutShort bytes → ⊥
frame_not_cut f bytes rest formed e (within_header short) =
    let p = parts_of f in
    omega (arith, ap length (e ∙ frame-parts p rest), length-append (header p.kind p.session (length p.payload)) (p.payload ++ rest), length-header p.kind p.session (length p.payload))
frame_not_cut f bytes rest formed e (within_payload kind session len more is known short) =
    let p = parts_of f in
    let fits = known_fits p.kind p.session (length p.payload) (in_frame_known f formed) in
    let fits' = known_fits kind session len known in
    let h = header_same p.kind p.session (length p.payload) kind session len (p.payload ++ rest) more fits.0 fits.1 fits'.0 fits'.1 (sym (frame-parts p rest) ∙ sym e ∙ is) in
    omega (arith, h.2, ap length h.3, length-append p.payload rest)

-- ---- what is refused, and what is cut short

head_not_cut : (bytes taken rest : List ℕ) → Head taken → bytes ≡ taken ++ rest → IsCutShort bytes → ⊥
head_not_cut bytes taken rest (bad kind session len s l is denied) e (within_header short) =
    omega (arith, ap length e, length-append taken rest, ap length is, length-header kind session len)
head_not_cut bytes taken rest (moment at s n late is) e (within_header short) =
    let m = uint at.seconds ++ uint at.nanos in
    omega (arith, ap length e, length-append taken rest, ap length is, length-append (header 4 0 8) m, length-header 4 0 8)
head_not_cut bytes taken rest (bad kind session len s l is denied) e (within_payload kind' session' len' more is' known short) =
    let fits = known_fits kind' session' len' known in
    let h = header_same kind' session' len' kind session len more rest fits.0 fits.1 s l (sym is' ∙ e ∙ ap (λ (t : List ℕ). t ++ rest) is) in
    known_not_refused kind' session' len' kind session len h.0 h.1 h.2 known denied
head_not_cut bytes taken rest (moment at s n late is) e (within_payload kind' session' len' more is' known short) =
    let m = uint at.seconds ++ uint at.nanos in
    let fits = known_fits kind' session' len' known in
    let behind : taken ++ rest ≡ header 4 0 8 ++ (m ++ rest) = ap (λ (t : List ℕ). t ++ rest) is ∙ append_assoc (header 4 0 8) m rest in
    let h = header_same kind' session' len' 4 0 8 more (m ++ rest) fits.0 fits.1 (omega arith) (omega arith) (sym is' ∙ e ∙ behind) in
    omega (arith, h.2, ap length h.3, length-append m rest, length-moment at)

pub refused_not_cut : (bytes taken rest : List ℕ) → IsRefused taken → bytes ≡ taken ++ rest → IsCutShort bytes → ⊥
refused_not_cut bytes taken rest refused e cut = head_not_cut bytes taken rest (head_of taken refused) e cut

-- ---- what is refused in two ways

heads_same : (taken other rest others : List ℕ) → Head taken → Head other → taken ++ rest ≡ other ++ others → (taken ≡ other) × (rest ≡ others)
heads_same taken other rest others (bad k s l p q is denied) (bad k' s' l' p' q' is' denied') e =
    let h = header_same k s l k' s' l' rest others p q p' q' (ap (λ (t : List ℕ). t ++ rest) (sym is) ∙ e ∙ ap (λ (t : List ℕ). t ++ others) is') in
    let same : header k s l ≡ header k' s' l' = λ i. header (h.0 i) (h.1 i) (h.2 i) in
    (is ∙ same ∙ sym is', h.3)
heads_same taken other rest others (bad k s l p q is denied) (moment at p' q' late is') e =
    let m = uint at.seconds ++ uint at.nanos in
    let behind : other ++ others ≡ header 4 0 8 ++ (m ++ others) = ap (λ (t : List ℕ). t ++ others) is' ∙ append_assoc (header 4 0 8) m others in
    let h = header_same k s l 4 0 8 rest (m ++ others) p q (omega arith) (omega arith) (ap (λ (t : List ℕ). t ++ rest) (sym is) ∙ e ∙ behind) in
    absurd (known_not_refused 4 0 8 k s l (sym h.0) (sym h.1) (sym h.2) refl denied)
heads_same taken other rest others (moment at p q late is) (bad k s l p' q' is' denied) e =
    let m = uint at.seconds ++ uint at.nanos in
    let behind : taken ++ rest ≡ header 4 0 8 ++ (m ++ rest) = ap (λ (t : List ℕ). t ++ rest) is ∙ append_assoc (header 4 0 8) m rest in
    let h = header_same k s l 4 0 8 others (m ++ rest) p' q' (omega arith) (omega arith) (ap (λ (t : List ℕ). t ++ others) (sym is') ∙ sym e ∙ behind) in
    absurd (known_not_refused 4 0 8 k s l (sym h.0) (sym h.1) (sym h.2) refl denied)
heads_same taken other rest others (moment a p q late is) (moment b p' q' late' is') e =
    let m = uint a.seconds ++ uint a.nanos in
    let n = uint b.seconds ++ uint b.nanos in
    let first : taken ++ rest ≡ header 4 0 8 ++ (m ++ rest) = ap (λ (t : List ℕ). t ++ rest) is ∙ append_assoc (header 4 0 8) m rest in
    let second : other ++ others ≡ header 4 0 8 ++ (n ++ others) = ap (λ (t : List ℕ). t ++ others) is' ∙ append_assoc (header 4 0 8) n others in
    let h = header_same 4 0 8 4 0 8 (m ++ rest) (n ++ others) (omega arith) (omega arith) (omega arith) (omega arith) (sym first ∙ e ∙ second) in
    let r = prefixes_same m n rest others (length-moment a ∙ sym (length-moment b)) h.3 in
    (is ∙ ap (λ (t : List ℕ). header 4 0 8 ++ t) r.0 ∙ sym is', r.1)

pub refused_same : (bytes taken other rest others : List ℕ) → IsRefused taken → IsRefused other → bytes ≡ taken ++ rest → bytes ≡ other ++ others
    → (taken ≡ other) × (rest ≡ others)
refused_same bytes taken other rest others p q e d = heads_same taken other rest others (head_of taken p) (head_of other q) (sym e ∙ d)

-- ---- each list of bytes begins

-- a header that may go in, by its kind
data Known (kind session len : ℕ) : Type 0 where
  begin : kind ≡ 1 → session < session_count → len ≡ 0 → Known kind session len
  carried : kind ≡ 2 → session < session_count → len ≤ payload_limit → Known kind session len
  close : kind ≡ 3 → session < session_count → len ≡ 0 → Known kind session len
  moment_at : kind ≡ 4 → session ≡ 0 → len ≡ 8 → Known kind session len
  stat : kind ≡ 16 → session ≡ 0 → len ≡ 0 → Known kind session len
  restart : kind ≡ 20 → session ≡ 0 → len ≡ 0 → Known kind session len
  restart_without_journal : kind ≡ 21 → session ≡ 0 → len ≡ 0 → Known kind session len
  end : kind ≡ 99 → session ≡ 0 → len ≡ 0 → Known kind session len

known_one : (k s l : ℕ) → k ≡ 1 → is_header k s l ≡ true → (s < session_count) × (l ≡ 0)
known_one k s l is known = grind (arith, nat_tests)

known_two : (k s l : ℕ) → k ≡ 2 → is_header k s l ≡ true → (s < session_count) × (l ≤ payload_limit)
known_two k s l is known = grind (arith, nat_tests)

known_three : (k s l : ℕ) → k ≡ 3 → is_header k s l ≡ true → (s < session_count) × (l ≡ 0)
known_three k s l is known = grind (arith, nat_tests)

known_four : (k s l : ℕ) → k ≡ 4 → is_header k s l ≡ true → (s ≡ 0) × (l ≡ 8)
known_four k s l is known = grind (arith, nat_tests)

known_sixteen : (k s l : ℕ) → k ≡ 16 → is_header k s l ≡ true → (s ≡ 0) × (l ≡ 0)
known_sixteen k s l is known = grind (arith, nat_tests)

known_twenty : (k s l : ℕ) → k ≡ 20 → is_header k s l ≡ true → (s ≡ 0) × (l ≡ 0)
known_twenty k s l is known = grind (arith, nat_tests)

known_twenty_one : (k s l : ℕ) → k ≡ 21 → is_header k s l ≡ true → (s ≡ 0) × (l ≡ 0)
known_twenty_one k s l is known = grind (arith, nat_tests)

known_other : (k s l : ℕ) → (k ≡ 1 → ⊥) → (k ≡ 2 → ⊥) → (k ≡ 3 → ⊥) → (k ≡ 4 → ⊥) → (k ≡ 16 → ⊥) → (k ≡ 20 → ⊥) → (k ≡ 21 → ⊥)
    → is_header k s l ≡ true → (k ≡ 99) × (s ≡ 0) × (l ≡ 0)
known_other k s l a b c d f g h known = grind (arith, nat_tests)

known : (k s l : ℕ) → is_header k s l ≡ true → Known k s l
known k s l is =
    elim (cases_eq k 1) [
      | inl e ↦ let h = known_one k s l e is in begin e h.0 h.1
      | inr a ↦ elim (cases_eq k 2) [
        | inl e ↦ let h = known_two k s l e is in carried e h.0 h.1
        | inr b ↦ elim (cases_eq k 3) [
          | inl e ↦ let h = known_three k s l e is in close e h.0 h.1
          | inr c ↦ elim (cases_eq k 4) [
            | inl e ↦ let h = known_four k s l e is in moment_at e h.0 h.1
            | inr d ↦ elim (cases_eq k 16) [
              | inl e ↦ let h = known_sixteen k s l e is in stat e h.0 h.1
              | inr f ↦ elim (cases_eq k 20) [
                | inl e ↦ let h = known_twenty k s l e is in restart e h.0 h.1
                | inr g ↦ elim (cases_eq k 21) [
                  | inl e ↦ let h = known_twenty_one k s l e is in restart_without_journal e h.0 h.1
                  | inr r ↦ let h = known_other k s l a b c d f g r is in end h.0 h.1 h.2
                ]
              ]
            ]
          ]
        ]
      ]
    ]

-- the encoding of a frame, from its parts
from_parts : (p : Parts) (k s l : ℕ) (payload rest : List ℕ) → k ≡ p.kind → s ≡ p.session → payload ≡ p.payload → length payload ≡ l
    → header k s l ++ (payload ++ rest) ≡ frame p ++ rest
from_parts p k s l payload rest a b c long =
    let same : header k s l ++ (payload ++ rest) ≡ header p.kind p.session (length p.payload) ++ (p.payload ++ rest) =
    λ i. header (a i) (b i) ((sym long ∙ ap length c) i) ++ (c i ++ rest) in
    same ∙ sym (frame-parts p rest)

-- a whole frame with this header and this payload, or a moment that is refused
made : (k s l : ℕ) (payload rest : List ℕ) → AreBytes payload → length payload ≡ l → Known k s l → Begins (header k s l ++ (payload ++ rest))
made k s l payload rest fits long (begin e less none) =
    with_frame (Begin s) rest less (from_parts (parts_of (Begin s)) k s l payload rest e refl (nil_from_length payload (long ∙ none)) long)
made k s l payload rest fits long (carried e less within) =
    with_frame (Bytes s payload) rest (less, omega (arith, long, within)) (from_parts (parts_of (Bytes s payload)) k s l payload rest e refl refl long)
made k s l payload rest fits long (close e less none) =
    with_frame (Close s) rest less (from_parts (parts_of (Close s)) k s l payload rest e refl (nil_from_length payload (long ∙ none)) long)
made k s l payload rest fits long (moment_at e zero eight) =
    let at = moment_of payload in
    let split = moment_split payload fits (long ∙ eight) in
    let bounds = moment_fits payload fits in
    let is : header k s l ++ (payload ++ rest) ≡ in_frame (SetMoment at) ++ rest =
    from_parts (parts_of (SetMoment at)) k s l payload rest e zero split long in
    elim (cases_lt at.nanos second) [
      | inl lt ↦ with_frame (SetMoment at) rest (bounds.0, lt) is
      | inr late ↦ with_refused (in_frame (SetMoment at)) rest (refused_moment at bounds.0 bounds.1 refl late) is
    ]
made k s l payload rest fits long (stat e zero none) =
    with_frame Stat rest tt (from_parts (parts_of Stat) k s l payload rest e zero (nil_from_length payload (long ∙ none)) long)
made k s l payload rest fits long (restart e zero none) =
    with_frame Restart rest tt (from_parts (parts_of Restart) k s l payload rest e zero (nil_from_length payload (long ∙ none)) long)
made k s l payload rest fits long (restart_without_journal e zero none) =
    with_frame RestartWithoutJournal rest tt (from_parts (parts_of RestartWithoutJournal) k s l payload rest e zero (nil_from_length payload (long ∙ none)) long)
made k s l payload rest fits long (end e zero none) =
    with_frame End rest tt (from_parts (parts_of End) k s l payload rest e zero (nil_from_length payload (long ∙ none)) long)

-- behind a header
behind_header : (k s l : ℕ) (back : List ℕ) → k < 2 ^ 8 → s < 2 ^ 32 → l < 2 ^ 32 → AreBytes back → Begins (header k s l ++ back)
behind_header k s l back p q r fits =
    elim (cases_Bool (is_header k s l)) [
      | inr denied ↦ with_refused (header k s l) back (refused_header k s l p q r refl denied) refl
      | inl is ↦ elim (cases_lt (length back) l) [
        | inl short ↦ cut_short (within_payload k s l back refl is short)
        | inr whole ↦
            let payload = take l back in
            let begun = made k s l payload (drop l back) (AreBytes-take l back fits) (length-take-le l back whole) (known k s l is) in
            subst (λ (x : List ℕ). Begins (header k s l ++ x)) (take-append-drop l back) begun
      ]
    ]

pub begins : (bytes : List ℕ) → AreBytes bytes → Begins bytes
begins bytes fits =
    elim (cases_lt (length bytes) 9) [
      | inl short ↦ cut_short (within_header short)
      | inr long ↦
          let at = header_split bytes fits long in
          subst Begins (sym at) (behind_header (get_or bytes 0 0) (word (drop 1 bytes)) (word (drop 5 bytes)) (drop 9 bytes) (fits 0)
          (word_fits (drop 1 bytes) (AreBytes-drop 1 bytes fits)) (word_fits (drop 5 bytes) (AreBytes-drop 5 bytes fits)) (AreBytes-drop 9 bytes fits))
    ]

-- bytes begin in one way and in no other
pub one_beginning : (bytes : List ℕ) → HasOneBeginning bytes
one_beginning bytes = record {
  some = begins bytes;
  one_frame = λ f g rest others i j e d. frame_same f g rest others i j (sym e ∙ d);
  one_refused = λ taken other rest others p q e d. refused_same bytes taken other rest others p q e d;
  not_refused = λ f taken rest others formed e refused d. frame_not_refused f bytes taken rest others formed e refused d;
  not_cut = λ f rest formed e cut. frame_not_cut f bytes rest formed e cut;
  refused_not_cut = λ taken rest refused e cut. refused_not_cut bytes taken rest refused e cut;
}
