-- Frames and their headers: sizes, and that one encoding stands for one frame. Crates above cite these.
--   known_fits, payload_fits         a header of a frame that may go in has numbers in their range
--   in_frame_known                   the header of such a frame is one
--   length-header, length-frame, length-in_frame, in_frame_bound      how many bytes they have
--   header_same, parts_same, frame_same      one encoding stands for one
use Rattle.std.proofs.Common.{◌≡◌, ◌+◌, ◌<◌, ◌≤◌, ◌^◌, ℕ, true, List, [], ◌∷◌, ◌++◌, length, refl, sym, ap, ◌∙◌, append_assoc, arith}
use Rattle.std.proofs.lemmas.Bool.Decides.{nat_tests}
use Rattle.std.proofs.lemmas.List.{length-append, append-nil}
use Rattle.sky_base.specs.declared.moment.Moment.{Moment}
use Rattle.sky_xdr.specs.Encoding.{uint}
use Rattle.sky_xdr.proofs.Numbers.{uint_same, length-uint}
use Rattle.sky_script.specs.Frame.{InFrame, Begin, Bytes, Close, SetMoment, Stat, Restart, RestartWithoutJournal, End, Parts, header, frame, parts_of, in_frame, is_header, IsInFrame, payload_limit}

-- ---- headers

-- the numbers of a header that may go in fit their words
pub known_fits : (kind session len : ℕ) → is_header kind session len ≡ true → (session < 2 ^ 32) × (len < 2 ^ 32)
known_fits kind session len known = grind (arith, nat_tests)

-- and what it says that the frame carries is no more than a frame may
pub payload_fits : (kind session len : ℕ) → is_header kind session len ≡ true → len ≤ payload_limit
payload_fits kind session len known = grind (arith, nat_tests)

pub length-header : (k s l : ℕ) → length (header k s l) ≡ 9
length-header k s l = simp (length-append, length-uint) (omega arith)

-- two prefixes of one length
pub prefixes_same : {A : Type 0} → (a b x y : List A) → length a ≡ length b → a ++ x ≡ b ++ y → (a ≡ b) × (x ≡ y)
prefixes_same [] [] x y long e = (refl, e)
prefixes_same [] (d ∷ b) x y long e = absurd (omega arith)
prefixes_same (c ∷ a) [] x y long e = absurd (omega arith)
prefixes_same (c ∷ a) (d ∷ b) x y long e =
    let tails : a ++ x ≡ b ++ y = cc in
    let rest = prefixes_same a b x y (omega arith) tails in
    (cc (rest.0), rest.1)

-- a header, taken apart
header-parts : (k s l : ℕ) (x : List ℕ) → header k s l ++ x ≡ k ∷ (uint s ++ (uint l ++ x))
header-parts k s l x = ap (λ (t : List ℕ). k ∷ t) (append_assoc (uint s) (uint l) x)

-- a header is read in one way
pub header_same : (k s l m t n : ℕ) (x y : List ℕ) → s < 2 ^ 32 → l < 2 ^ 32 → t < 2 ^ 32 → n < 2 ^ 32 → header k s l ++ x ≡ header m t n ++ y
    → (k ≡ m) × (s ≡ t) × (l ≡ n) × (x ≡ y)
header_same k s l m t n x y p q u v e =
    let whole : k ∷ (uint s ++ (uint l ++ x)) ≡ m ∷ (uint t ++ (uint n ++ y)) = sym (header-parts k s l x) ∙ e ∙ header-parts m t n y in
    let first : k ≡ m = cc in
    let tails : uint s ++ (uint l ++ x) ≡ uint t ++ (uint n ++ y) = cc in
    let a = uint_same s t (uint l ++ x) (uint n ++ y) p u tails in
    let b = uint_same l n x y q v a.1 in
    (first, a.0, b.0, b.1)

-- ---- frames

-- a frame is nine bytes longer than its payload
pub length-frame : (p : Parts) → length (frame p) ≡ 9 + length p.payload
length-frame p = simp (length-append, length-uint) (omega arith)

-- a moment has eight bytes
pub length-moment : (at : Moment) → length (uint at.seconds ++ uint at.nanos) ≡ 8
length-moment at = omega (arith, length-append (uint at.seconds) (uint at.nanos), length-uint at.seconds, length-uint at.nanos)

-- and its frame seventeen
pub length-in_moment : (at : Moment) → length (in_frame (SetMoment at)) ≡ 17
length-in_moment at = omega (arith, length-frame (parts_of (SetMoment at)), length-moment at)

-- the payload of a frame that may go in
pub payload_within : (f : InFrame) → IsInFrame f → length (parts_of f).payload ≤ payload_limit
payload_within (Begin session) formed = omega arith
payload_within (Bytes session payload) formed = formed.1
payload_within (Close session) formed = omega arith
payload_within (SetMoment at) formed = omega (arith, length-moment at)
payload_within Stat formed = omega arith
payload_within Restart formed = omega arith
payload_within RestartWithoutJournal formed = omega arith
payload_within End formed = omega arith

-- a frame that may go in has at least 9 bytes and at most 9 + 2^20
pub in_frame_bound : (f : InFrame) → IsInFrame f → (9 ≤ length (in_frame f)) × (length (in_frame f) ≤ 1048585)
in_frame_bound f formed =
    let within = payload_within f formed in
    (omega (arith, length-frame (parts_of f)), omega (arith, length-frame (parts_of f), within))

-- the header of a frame that may go in is one
pub in_frame_known : (f : InFrame) → IsInFrame f → is_header (parts_of f).kind (parts_of f).session (length (parts_of f).payload) ≡ true
in_frame_known (Begin session) formed = grind (arith, nat_tests)
in_frame_known (Bytes session payload) formed = grind (arith, nat_tests, formed.0, formed.1)
in_frame_known (Close session) formed = grind (arith, nat_tests)
in_frame_known (SetMoment at) formed = rw (length-moment at) refl
in_frame_known Stat formed = refl
in_frame_known Restart formed = refl
in_frame_known RestartWithoutJournal formed = refl
in_frame_known End formed = refl

-- a frame, taken apart
pub frame-parts : (p : Parts) (x : List ℕ) → frame p ++ x ≡ header p.kind p.session (length p.payload) ++ (p.payload ++ x)
frame-parts p x = append_assoc (header p.kind p.session (length p.payload)) p.payload x

-- what is known of two frames with one encoding: the kinds, the sessions and the payloads are one, and so is what follows
record AreAlike (p q : Parts) (x y : List ℕ) : Type 0 where
  kind : p.kind ≡ q.kind
  session : p.session ≡ q.session
  payload : p.payload ≡ q.payload
  rest : x ≡ y

alike : (f g : InFrame) (x y : List ℕ) → IsInFrame f → IsInFrame g → in_frame f ++ x ≡ in_frame g ++ y → AreAlike (parts_of f) (parts_of g) x y
alike f g x y i j e =
    let p = parts_of f in
    let q = parts_of g in
    let u = known_fits p.kind p.session (length p.payload) (in_frame_known f i) in
    let v = known_fits q.kind q.session (length q.payload) (in_frame_known g j) in
    let h = header_same p.kind p.session (length p.payload) q.kind q.session (length q.payload) (p.payload ++ x) (q.payload ++ y) u.0 u.1 v.0 v.1 (sym (frame-parts p x) ∙ e ∙ frame-parts q y) in
    let r = prefixes_same p.payload q.payload x y h.2 h.3 in
    record { kind = h.0; session = h.1; payload = r.0; rest = r.1 }

-- moments with one encoding are one
moments_same : (a b : Moment) → IsInFrame (SetMoment a) → IsInFrame (SetMoment b) → uint a.seconds ++ uint a.nanos ≡ uint b.seconds ++ uint b.nanos → a ≡ b
moments_same a b i j e =
    let s = uint_same a.seconds b.seconds (uint a.nanos) (uint b.nanos) i.0 j.0 e in
    let n = uint_same a.nanos b.nanos [] [] (omega (arith, i.1)) (omega (arith, j.1)) (append-nil (uint a.nanos) ∙ s.1 ∙ sym (append-nil (uint b.nanos))) in
    λ k. record { seconds = s.0 k; nanos = n.0 k }

-- frames that agree in kind, session and payload are one
same_by_parts : (f g : InFrame) (x y : List ℕ) → IsInFrame f → IsInFrame g → AreAlike (parts_of f) (parts_of g) x y → f ≡ g
same_by_parts (Begin s) (Begin t) x y i j a = ap Begin a.session
same_by_parts (Bytes s p) (Bytes t q) x y i j a = λ k. Bytes (a.session k) (a.payload k)
same_by_parts (Close s) (Close t) x y i j a = ap Close a.session
same_by_parts (SetMoment m) (SetMoment n) x y i j a = ap SetMoment (moments_same m n i j a.payload)
same_by_parts Stat Stat x y i j a = refl
same_by_parts Restart Restart x y i j a = refl
same_by_parts RestartWithoutJournal RestartWithoutJournal x y i j a = refl
same_by_parts End End x y i j a = refl
same_by_parts f g x y i j a = absurd (omega (arith, a.kind))

-- one encoding stands for one frame
pub frame_same : (f g : InFrame) (x y : List ℕ) → IsInFrame f → IsInFrame g → in_frame f ++ x ≡ in_frame g ++ y → (f ≡ g) × (x ≡ y)
frame_same f g x y i j e = let a = alike f g x y i j e in (same_by_parts f g x y i j a, a.rest)
