-- A stream's readings: there is one of each, and feeding goes on with it.
use Rattle.std.proofs.Common.{◌≡◌, ℕ, ◌+◌, ◌-◌, ◌%◌, ◌^◌, ◌<◌, ◌≤◌, Bool, cond, ltb, leb, List, [], ◌∷◌, ◌++◌, length, map, ◌⊎◌, inl, inr, refl, sym, ap, subst, ◌∙◌, append_assoc, arith}
use Rattle.std.specs.List.{flat_map, AllByRecursion}
use Rattle.std.specs.Int.{w32, from_be_bytes}
use Rattle.std.proofs.lemmas.Bool.{cond_both}
use Rattle.std.proofs.lemmas.List.{append-nil, append_cancel_left, length-append}
use Rattle.sky_base.specs.Limits.{max_record_bytes}
use Rattle.sky_record.specs.declared.assembler.Fed.{Fed}
use Rattle.sky_record.specs.declared.assembler.Fed.TheVariants as fed
use Rattle.sky_record.specs.Record.{Fragment, encoding, joined, IsWhole, IsRecord}
use Rattle.sky_record.specs.Stream.{Progress, AtHeader, InFragment, Whole, TooLong, Received, nothing, IsOpen, IsSoFar, Comes, Ends, ReadsRecords, Completes}
use Rattle.sky_record.specs.Parts.{with_due, with_header}
use Rattle.sky_record.specs.Feeding.{answer_at, FedReads}
use Rattle.sky_record.proofs.Sound.{IsBytes, IsBytes-one, IsBytes-append, no_prefix, header_goes_on, fragment_goes_on}
use Rattle.sky_record.proofs.Machine.{one_received, nothing_after}

abbrev received : List ℕ → Progress → Received
received bytes progress = record { bytes = bytes; progress = progress }

-- ---- two texts that begin one stream

either_longer : (a x b y : List ℕ) → a ++ x ≡ b ++ y → ((m : List ℕ) × (b ≡ a ++ m) × (x ≡ m ++ y)) ⊎ ((m : List ℕ) × (a ≡ b ++ m) × (y ≡ m ++ x))
either_longer [] x b y e = inl (b, refl, e)
either_longer (c ∷ a) x [] y e = inr (c ∷ a, refl, sym e)
either_longer (c ∷ a) x (d ∷ b) y e =
    let heads : c ≡ d = cc in
    let tails : a ++ x ≡ b ++ y = cc in
    elim (either_longer a x b y tails) [
      | inl p ↦ inl (p.0, ap (λ (t : List ℕ). d ∷ t) p.1 ∙ ap (λ (h : ℕ). h ∷ (a ++ p.0)) (sym heads), p.2)
      | inr p ↦ inr (p.0, ap (λ (t : List ℕ). c ∷ t) p.1 ∙ ap (λ (h : ℕ). h ∷ (b ++ p.0)) heads, p.2)
    ]

open_or_closed : (p : Progress) → IsOpen p ⊎ (IsOpen p → ⊥)
open_or_closed (AtHeader part) = inl tt
open_or_closed (InFragment last due) = inl tt
open_or_closed Whole = inr (λ o. o)
open_or_closed TooLong = inr (λ o. o)

-- behind a text that is all of the stream, or a whole record, or too long, no longer text begins the stream
same_text : (text more x y : List ℕ) (r s : Received) → Comes text r → Comes (text ++ more) s → x ≡ more ++ y → (IsOpen r.progress → x ≡ []) → (text ++ more ≡ text) × (r ≡ s) × (x ≡ y)
same_text text [] x y r s p q e all = (append-nil text, one_received text r s p (subst (λ (t : List ℕ). Comes t s) (append-nil text) q), e)
same_text text (b ∷ more) x y r s p q e all =
    elim (open_or_closed r.progress) [
      | inl o ↦ let f : (b ∷ more) ++ y ≡ [] = sym e ∙ all o in absurd cc
      | inr closed ↦ absurd (nothing_after text b more r s p closed q)
    ]

pub one_text : (text x other y : List ℕ) (r s : Received) → Comes text r → Comes other s → text ++ x ≡ other ++ y → (IsOpen r.progress → x ≡ []) → (IsOpen s.progress → y ≡ []) → (text ≡ other) × (r ≡ s) × (x ≡ y)
one_text text x other y r s p q e all_x all_y =
    elim (either_longer text x other y e) [
      | inl m ↦
          let t = same_text text m.0 x y r s p (subst (λ (u : List ℕ). Comes u s) m.1 q) m.2 all_x in
          (sym t.0 ∙ sym m.1, t.1, t.2)
      | inr m ↦
          let t = same_text other m.0 y x s r q (subst (λ (u : List ℕ). Comes u r) m.1 p) m.2 all_y in
          (m.1 ∙ t.0, sym t.1, sym t.2)
    ]

-- no record goes on behind a text at which it ended
ends_before : (text more bytes : List ℕ) (r : Received) → Comes text r → (IsOpen r.progress → ⊥) → 0 < length more → IsRecord (text ++ more) bytes → ⊥
ends_before text [] bytes r p closed some h = absurd (omega arith)
ends_before text (b ∷ more) bytes r p closed some h = nothing_after text b more r (received bytes Whole) p closed h

-- ---- one reading

-- the text at which a stream's end stands
record Stop (stream : List ℕ) (end : Received) : Type 0 where
  text : List ℕ
  after : List ℕ
  is : stream ≡ text ++ after
  comes : Comes text end
  all : IsOpen end.progress → after ≡ []
  not_whole : end.progress ≡ Whole → ⊥

stop_of : (stream bytes : List ℕ) (progress : Progress) → Ends stream bytes progress → Stop stream (received bytes progress)
stop_of stream bytes (AtHeader part) h = record { text = stream; after = []; is = sym (append-nil stream); comes = h; all = λ _. refl; not_whole = λ e. absurd cc }
stop_of stream bytes (InFragment last due) h = record { text = stream; after = []; is = sym (append-nil stream); comes = h; all = λ _. refl; not_whole = λ e. absurd cc }
stop_of stream bytes Whole h = absurd h
stop_of stream bytes TooLong h = record { text = h.0; after = h.1; is = h.2; comes = h.3; all = λ o. absurd o; not_whole = λ e. absurd cc }

stop_is_no_record : (stream : List ℕ) (end : Received) (text rest first : List ℕ) → Stop stream end → stream ≡ text ++ rest → IsRecord text first → ⊥
stop_is_no_record stream end text rest first s e h =
    let one = one_text s.text s.after text rest end (received first Whole) s.comes h (sym s.is ∙ e) s.all (λ o. absurd o) in
    s.not_whole (ap (λ (r : Received). r.progress) one.1)

pub one_reading : (stream : List ℕ) (records others : List (List ℕ)) (end other : Received) → ReadsRecords stream records end → ReadsRecords stream others other → (records ≡ others) × (end ≡ other)
one_reading stream [] [] end other p q =
    let s = stop_of stream end.bytes end.progress p in
    let t = stop_of stream other.bytes other.progress q in
    (refl, (one_text s.text s.after t.text t.after end other s.comes t.comes (sym s.is ∙ t.is) s.all t.all).1)
one_reading stream [] (b ∷ others) end other p q = absurd (stop_is_no_record stream end q.0 q.1 b (stop_of stream end.bytes end.progress p) q.2 q.3)
one_reading stream (a ∷ records) [] end other p q = absurd (stop_is_no_record stream other p.0 p.1 a (stop_of stream other.bytes other.progress q) p.2 p.3)
one_reading stream (a ∷ records) (b ∷ others) end other p q =
    let one = one_text p.0 p.1 q.0 q.1 (received a Whole) (received b Whole) p.3 q.3 (sym p.2 ∙ q.2) (λ o. absurd o) (λ o. absurd o) in
    let rest = one_reading p.1 records others end other p.4 (subst (λ (t : List ℕ). ReadsRecords t others other) (sym one.2) q.4) in
    let heads : a ≡ b = ap (λ (r : Received). r.bytes) one.1 in
    (ap (λ (t : List ℕ). t ∷ records) heads ∙ ap (λ (t : List (List ℕ)). b ∷ t) rest.0, rest.1)

-- ---- a reading goes on

pub reads_nothing : ReadsRecords [] [] nothing
reads_nothing = record { prefix = []; is_prefix = no_prefix; text_is = refl; short = omega arith }

open_end : (stream bytes : List ℕ) (progress : Progress) → Ends stream bytes progress → IsOpen progress → IsSoFar stream bytes progress
open_end stream bytes (AtHeader part) h o = h
open_end stream bytes (InFragment last due) h o = h
open_end stream bytes Whole h o = absurd o
open_end stream bytes TooLong h o = absurd o

fed_first : (stream bytes : List ℕ) (progress : Progress) → IsSoFar stream bytes progress → FedReads (answer_at progress) stream [] (received bytes progress)
fed_first stream bytes (AtHeader part) h = (tt, h)
fed_first stream bytes (InFragment last due) h = (tt, h)
fed_first stream bytes Whole h = (stream, [], sym (append-nil stream), h, reads_nothing)
fed_first stream bytes TooLong h = (refl, (stream, [], sym (append-nil stream), h))

fed_later : (answer : Fed) (stream text rest first : List ℕ) (records : List (List ℕ)) (r : Received) → stream ≡ text ++ rest → IsRecord text first → FedReads answer rest records r → FedReads answer stream (first ∷ records) r
fed_later fed.Message stream text rest first records r e h p = (text, rest, e, h, p)
fed_later fed.More stream text rest first records r e h p = (p.0, (text, rest, e, h, p.1))
fed_later fed.TooLong stream text rest first records r e h p = (p.0, (text, rest, e, h, p.1))

-- what goes on of a record goes on of the stream
pub reads_on : (stream more : List ℕ) (records : List (List ℕ)) (old new : Received) → ReadsRecords stream records old → IsOpen old.progress
    → ((text : List ℕ) → Comes text old → Comes (text ++ more) new) → FedReads (answer_at new.progress) (stream ++ more) records new
reads_on stream more [] old new h o goes = fed_first (stream ++ more) new.bytes new.progress (goes stream (open_end stream old.bytes old.progress h o))
reads_on stream more (first ∷ records) old new h o goes =
    let e : stream ++ more ≡ h.0 ++ (h.1 ++ more) = ap (λ (t : List ℕ). t ++ more) h.2 ∙ append_assoc h.0 h.1 more in
    fed_later (answer_at new.progress) (stream ++ more) h.0 (h.1 ++ more) first records new e h.3 (reads_on h.1 more records old new h.4 o goes)

-- what comes behind a header that is too long does not matter
pub too_long_reads_on : (stream more : List ℕ) (records : List (List ℕ)) (bytes : List ℕ) → ReadsRecords stream records (received bytes TooLong) → ReadsRecords (stream ++ more) records (received bytes TooLong)
too_long_reads_on stream more [] bytes h = (h.0, h.1 ++ more, ap (λ (t : List ℕ). t ++ more) h.2 ∙ append_assoc h.0 h.1 more, h.3)
too_long_reads_on stream more (first ∷ records) bytes h = (h.0, h.1 ++ more, ap (λ (t : List ℕ). t ++ more) h.2 ∙ append_assoc h.0 h.1 more, h.3, too_long_reads_on h.1 more records bytes h.4)

-- ---- each stream has a reading

PartFits : Progress → Type 0
PartFits (AtHeader part) = IsBytes part
PartFits (InFragment last due) = Unit {0}
PartFits Whole = Unit {0}
PartFits TooLong = Unit {0}

abbrev HasReading : List ℕ → Type 0
HasReading stream = (records : List (List ℕ)) × (end : Received) × PartFits end.progress × ReadsRecords stream records end

with_due_fits : (last : Bool) (due : ℕ) → PartFits (with_due last due)
unfolding PartFits
with_due_fits last due =
    cond_both (ltb 0 due) (InFragment last due) (cond last Whole (AtHeader [])) PartFits (λ _. tt)
    (λ _. cond_both last Whole (AtHeader []) PartFits (λ _. tt) (λ _ i. omega arith))

with_header_fits : (had : ℕ) (part : List ℕ) → IsBytes part → PartFits (with_header had part)
unfolding PartFits
with_header_fits had part fits =
    let word : ℕ = from_be_bytes w32 part in
    let size : ℕ = word % 2 ^ 31 in
    let last : Bool = leb (2 ^ 31) word in
    cond_both (ltb (length part) 4) (AtHeader part) (cond (ltb max_record_bytes (had + size)) TooLong (with_due last size)) PartFits (λ _. fits)
    (λ _. cond_both (ltb max_record_bytes (had + size)) TooLong (with_due last size) PartFits (λ _. tt) (λ _. with_due_fits last size))

reading_of : (stream : List ℕ) (records : List (List ℕ)) (bytes : List ℕ) (progress : Progress) → FedReads (answer_at progress) stream records (received bytes progress) → PartFits progress → HasReading stream
unfolding PartFits
reading_of stream records bytes (AtHeader part) h fits = (records, received bytes (AtHeader part), fits, h.1)
reading_of stream records bytes (InFragment last due) h fits = (records, received bytes (InFragment last due), tt, h.1)
reading_of stream records bytes Whole h fits = (records ++ bytes ∷ [], nothing, (λ i. omega arith), h)
reading_of stream records bytes TooLong h fits = (records, received bytes TooLong, tt, h.1)

not_whole : (stream : List ℕ) (records : List (List ℕ)) (bytes : List ℕ) → ReadsRecords stream records (received bytes Whole) → ⊥
not_whole stream [] bytes h = h
not_whole stream (first ∷ records) bytes h = not_whole h.1 records bytes h.4

pub closed_reads_on : (stream more : List ℕ) (records : List (List ℕ)) (bytes : List ℕ) (progress : Progress) → ReadsRecords stream records (received bytes progress) → (IsOpen progress → ⊥) → ReadsRecords (stream ++ more) records (received bytes progress)
closed_reads_on stream more records bytes (AtHeader part) h closed = absurd (closed tt)
closed_reads_on stream more records bytes (InFragment last due) h closed = absurd (closed tt)
closed_reads_on stream more records bytes Whole h closed = absurd (not_whole stream records bytes h)
closed_reads_on stream more records bytes TooLong h closed = too_long_reads_on stream more records bytes h

-- of one byte more
byte_reads_on : (stream : List ℕ) (b : ℕ) (records : List (List ℕ)) (bytes : List ℕ) (progress : Progress) → b < 256 → PartFits progress → ReadsRecords stream records (received bytes progress) → HasReading (stream ++ b ∷ [])
unfolding PartFits
byte_reads_on stream b records bytes (AtHeader part) lt fits h =
    let all : IsBytes (part ++ b ∷ []) = IsBytes-append part (b ∷ []) fits (IsBytes-one b lt) in
    let progress : Progress = with_header (length bytes) (part ++ b ∷ []) in
    reading_of (stream ++ b ∷ []) records bytes progress
    (reads_on stream (b ∷ []) records (received bytes (AtHeader part)) (received bytes progress) h tt
    (λ text comes. header_goes_on text bytes part (b ∷ []) comes (omega (arith, comes.short, length-append part (b ∷ []))) all))
    (with_header_fits (length bytes) (part ++ b ∷ []) all)
byte_reads_on stream b records bytes (InFragment last due) lt fits h =
    let progress : Progress = with_due last (due - 1) in
    reading_of (stream ++ b ∷ []) records (bytes ++ b ∷ []) progress
    (reads_on stream (b ∷ []) records (received bytes (InFragment last due)) (received (bytes ++ b ∷ []) progress) h tt
    (λ text comes. fragment_goes_on text bytes (b ∷ []) last due comes (omega (arith, comes.some_due))))
    (with_due_fits last (due - 1))
byte_reads_on stream b records bytes Whole lt fits h = absurd (not_whole stream records bytes h)
byte_reads_on stream b records bytes TooLong lt fits h = (records, received bytes TooLong, tt, too_long_reads_on stream (b ∷ []) records bytes h)

bytes_read_on : (stream more : List ℕ) → AllByRecursion (λ b. b < 256) more → HasReading stream → HasReading (stream ++ more)
bytes_read_on stream [] fits h = subst HasReading (sym (append-nil stream)) h
bytes_read_on stream (b ∷ more) fits h =
    subst HasReading (append_assoc stream (b ∷ []) more) (bytes_read_on (stream ++ b ∷ []) more fits.1 (byte_reads_on stream b h.0 h.1.bytes h.1.progress fits.0 h.2 h.3))

nothing_fits : PartFits (AtHeader [])
unfolding PartFits
nothing_fits i = omega arith

pub has_reading : (stream : List ℕ) → AllByRecursion (λ b. b < 256) stream → (records : List (List ℕ)) × (end : Received) × ReadsRecords stream records end
has_reading stream fits =
    let h = bytes_read_on [] stream fits ([], nothing, nothing_fits, reads_nothing) in
    (h.0, h.1, h.3)

-- ---- records that were cut into fragments in any way

pub cut_reads : (cuts : List (List Fragment)) → AllByRecursion (λ cut. IsWhole cut × (length (joined cut) ≤ max_record_bytes)) cuts → ReadsRecords (flat_map encoding cuts) (map joined cuts) nothing
cut_reads [] h = reads_nothing
cut_reads (cut ∷ cuts) h =
    (encoding cut, flat_map encoding cuts, refl, record { fragments = cut; whole = h.0.0; encoded = refl; joins = refl; within = h.0.1 }, cut_reads cuts h.1)

-- ---- a part of a record

-- what has come of a text at its end, where nothing before its end was the end of a record or a header too long
part_reading : (text more bytes : List ℕ) (records : List (List ℕ)) (end : Received) → 0 < length more → IsRecord (text ++ more) bytes → ReadsRecords text records end → (last : Received) × IsOpen last.progress × ReadsRecords text [] last
part_reading text more bytes (first ∷ records) end some h p =
    let e : text ++ more ≡ p.0 ++ (p.1 ++ more) = ap (λ (t : List ℕ). t ++ more) p.2 ∙ append_assoc p.0 p.1 more in
    absurd (ends_before p.0 (p.1 ++ more) bytes (received first Whole) p.3 (λ o. o) (omega (arith, length-append p.1 more)) (subst (λ (t : List ℕ). IsRecord t bytes) e h))
part_reading text more bytes [] end some h p =
    elim (open_or_closed end.progress) [
      | inl o ↦ (end, o, p)
      | inr closed ↦
          let s = stop_of text end.bytes end.progress p in
          let e : text ++ more ≡ s.text ++ (s.after ++ more) = ap (λ (t : List ℕ). t ++ more) s.is ∙ append_assoc s.text s.after more in
          absurd (ends_before s.text (s.after ++ more) bytes end s.comes closed (omega (arith, length-append s.after more)) (subst (λ (t : List ℕ). IsRecord t bytes) e h))
    ]

pub part_reads : (text more bytes : List ℕ) → AllByRecursion (λ b. b < 256) text → 0 < length more → IsRecord (text ++ more) bytes → (end : Received) × IsOpen end.progress × ReadsRecords text [] end
part_reads text more bytes fits some h =
    let r = has_reading text fits in
    part_reading text more bytes r.0 r.1 some h r.2

-- ---- a stream that goes on

-- the records of a stream stay where it goes on
pub records_stay : (stream more : List ℕ) (records all : List (List ℕ)) (end last : Received) → ReadsRecords stream records end → ReadsRecords (stream ++ more) all last → (later : List (List ℕ)) × (all ≡ records ++ later)
records_stay stream more [] all end last p q = (all, refl)
records_stay stream more (first ∷ records) [] end last p q =
    let e : stream ++ more ≡ p.0 ++ (p.1 ++ more) = ap (λ (t : List ℕ). t ++ more) p.2 ∙ append_assoc p.0 p.1 more in
    absurd (stop_is_no_record (stream ++ more) last p.0 (p.1 ++ more) first (stop_of (stream ++ more) last.bytes last.progress q) e p.3)
records_stay stream more (first ∷ records) (other ∷ all) end last p q =
    let e : stream ++ more ≡ p.0 ++ (p.1 ++ more) = ap (λ (t : List ℕ). t ++ more) p.2 ∙ append_assoc p.0 p.1 more in
    let one = one_text p.0 (p.1 ++ more) q.0 q.1 (received first Whole) (received other Whole) p.3 q.3 (sym e ∙ q.2) (λ o. absurd o) (λ o. absurd o) in
    let rest = records_stay p.1 more records all end last p.4 (subst (λ (t : List ℕ). ReadsRecords t all last) (sym one.2) q.4) in
    let heads : first ≡ other = ap (λ (r : Received). r.bytes) one.1 in
    (rest.0, ap (λ (t : List (List ℕ)). other ∷ t) rest.1 ∙ ap (λ (t : List ℕ). t ∷ (records ++ rest.0)) (sym heads))

bytes-append : (xs ys : List ℕ) → AllByRecursion (λ b. b < 256) xs → AllByRecursion (λ b. b < 256) ys → AllByRecursion (λ b. b < 256) (xs ++ ys)
bytes-append [] ys p q = q
bytes-append (x ∷ xs) ys p q = (p.0, bytes-append xs ys p.1 q)

-- each piece of bytes completes some records
pub completes_some : (stream piece : List ℕ) → AllByRecursion (λ b. b < 256) stream → AllByRecursion (λ b. b < 256) piece → (records : List (List ℕ)) × (end : Received) × Completes stream piece records end
completes_some stream piece fits more =
    let old = has_reading stream fits in
    let new = has_reading (stream ++ piece) (bytes-append stream piece fits more) in
    let later = records_stay stream piece old.0 new.0 old.1 new.1 old.2 new.2 in
    (later.0, new.1, record { before = old.0; part = old.1; read = old.2; goes_on = subst (λ (t : List (List ℕ)). ReadsRecords (stream ++ piece) t new.1) later.1 new.2 })

-- and no others
pub completes_one : (stream piece : List ℕ) (records others : List (List ℕ)) (end other : Received) → Completes stream piece records end → Completes stream piece others other → (records ≡ others) × (end ≡ other)
completes_one stream piece records others end other p q =
    let before : p.before ≡ q.before = (one_reading stream p.before q.before p.part q.part p.read q.read).0 in
    let all = one_reading (stream ++ piece) (p.before ++ records) (q.before ++ others) end other p.goes_on q.goes_on in
    (append_cancel_left q.before records others (ap (λ (t : List (List ℕ)). t ++ records) (sym before) ∙ all.0), all.1)
