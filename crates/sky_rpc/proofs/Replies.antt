-- How a reply's record is put together.
--   length-uints, uints-more     words in a row
--   record-parts                 a reply's record is its words and its results
--   written_reply                a buffer into which the words were written before the results
use Rattle.std.proofs.Common.{◌≡◌, ℕ, ◌+◌, ◌*◌, ◌^◌, ◌<◌, ◌≤◌, List, [], ◌∷◌, ◌++◌, length, get_or, take, drop, refl, sym, ap, ◌∙◌, append_assoc, arith}
use Rattle.std.proofs.Math.Seq.{take-add}
use Rattle.std.proofs.lemmas.Grind.{flat_map-append}
use Rattle.std.proofs.lemmas.List.{append-nil, length-append, length-drop, length-take-le, take_more}
use Rattle.sky_xdr.specs.Encoding.{uint}
use Rattle.sky_xdr.proofs.Numbers.{length-uint}
use Rattle.sky_rpc.specs.Call.{uints}
use Rattle.sky_rpc.specs.Reply.{Reply, reply_body, reply_message, reply_record}
use Rattle.sky_rpc.specs.Values.{reply_of, results_in, results_count, message_length}
use Rattle.sky_rpc.specs.declared.reply.ReplyBody.{ReplyBody}
use Rattle.sky_rpc.specs.declared.reply.ReplyBody.TheVariants as body

-- ---- words in a row

pub length-uints : (ns : List ℕ) → length (uints ns) ≡ 4 * length ns
length-uints [] = refl
length-uints (n ∷ ns) = omega (arith, length-append (uint n) (uints ns), length-uint n, length-uints ns)

pub uints-append : (ms ns : List ℕ) → uints (ms ++ ns) ≡ uints ms ++ uints ns
uints-append ms ns = flat_map-append uint ms ns

-- one word more
pub uints-more : (ns : List ℕ) (i : ℕ) → i < length ns → uints (take (i + 1) ns) ≡ uints (take i ns) ++ uint (get_or ns i 0)
uints-more ns i lt =
    ap uints (take_more ns i 0 lt) ∙ uints-append (take i ns) (get_or ns i 0 ∷ []) ∙ ap (λ (t : List ℕ). uints (take i ns) ++ t) (append-nil (uint (get_or ns i 0)))

-- ---- replies

-- the results, where they are all there
length-results_in : (b : ReplyBody) (bytes : List ℕ) → results_count b ≤ length bytes → length (results_in b bytes) ≡ results_count b
length-results_in (body.Success count) bytes fits = length-take-le count bytes fits
length-results_in body.ProgUnavail bytes fits = refl
length-results_in body.ProgMismatch bytes fits = refl
length-results_in body.ProcUnavail bytes fits = refl
length-results_in body.GarbageArgs bytes fits = refl
length-results_in body.SystemErr bytes fits = refl
length-results_in body.BadVersion bytes fits = refl
length-results_in body.BadCred bytes fits = refl

-- a buffer that has room for the record has the results
results_there : (b : ReplyBody) (bytes : List ℕ) → 4 + message_length b ≤ length bytes → results_count b ≤ length (drop 28 bytes)
results_there (body.Success count) bytes fits = omega (arith, length-drop 28 bytes)
results_there body.ProgUnavail bytes fits = omega arith
results_there body.ProgMismatch bytes fits = omega arith
results_there body.ProcUnavail bytes fits = omega arith
results_there body.GarbageArgs bytes fits = omega arith
results_there body.SystemErr bytes fits = omega arith
results_there body.BadVersion bytes fits = omega arith
results_there body.BadCred bytes fits = omega arith

-- they begin at byte 28 of the record
results-at : (b : ReplyBody) (bytes : List ℕ) (head : ℕ) → head + results_count b ≡ 4 + message_length b → take (results_count b) (drop head bytes) ≡ results_in b (drop 28 bytes)
results-at (body.Success count) bytes head len = let at : head ≡ 28 = omega arith in ap (λ (n : ℕ). take count (drop n bytes)) at
results-at body.ProgUnavail bytes head len = refl
results-at body.ProgMismatch bytes head len = refl
results-at body.ProcUnavail bytes head len = refl
results-at body.GarbageArgs bytes head len = refl
results-at body.SystemErr bytes head len = refl
results-at body.BadVersion bytes head len = refl
results-at body.BadCred bytes head len = refl

-- the record of a reply whose encoding is these words and these results
record-parts : (xid message : ℕ) (words results : List ℕ) (reply : Reply) → reply_body reply ≡ uints words ++ results → message ≡ 8 + 4 * length words + length results
    → (uints ((2 ^ 31 + message) ∷ xid ∷ 1 ∷ []) ++ uints words) ++ results ≡ reply_record xid reply
unfolding reply_record reply_message uint
record-parts xid message words results reply parts len =
    let all : List ℕ = uint xid ++ uint 1 ++ reply_body reply in
    let size : length all ≡ message =
    omega (arith, len, length-append (uint xid ++ uint 1) (reply_body reply), length-append (uint xid) (uint 1), length-uint xid, length-uint 1, ap length parts, length-append (uints words) results, length-uints words) in
    let grouped : (h : List ℕ) → (h ++ (uint xid ++ (uint 1 ++ [])) ++ uints words) ++ results ≡ h ++ (uint xid ++ uint 1 ++ (uints words ++ results)) =
    λ h. simp (append_assoc, append-nil) in
    grouped (uint (2 ^ 31 + message)) ∙ ap (λ (t : List ℕ). uint (2 ^ 31 + message) ++ (uint xid ++ uint 1 ++ t)) (sym parts) ∙ ap (λ (n : ℕ). uint (2 ^ 31 + n) ++ all) (sym size)

-- a buffer into which the words were written before the results
pub written_reply : (b : ReplyBody) (xid message head : ℕ) (words buffer old : List ℕ)
    → ((bytes : List ℕ) → reply_body (reply_of b bytes) ≡ uints words ++ results_in b bytes) → 8 + 4 * length words + results_count b ≡ message_length b
    → message ≡ message_length b → 4 + message ≤ length old → head ≡ 12 + 4 * length words
    → take head buffer ≡ uints ((2 ^ 31 + message) ∷ xid ∷ 1 ∷ []) ++ uints words → drop head buffer ≡ drop head old
    → take (head + results_count b) buffer ≡ reply_record xid (reply_of b (drop 28 old))
written_reply b xid message head words buffer old parts count message_is fits head_is prefix behind =
    let bytes : List ℕ = drop 28 old in
    let results : List ℕ = results_in b bytes in
    let at : take (results_count b) (drop head old) ≡ results = results-at b old head (omega arith) in
    let there : results_count b ≤ length bytes = results_there b old (omega arith) in
    let size : message ≡ 8 + 4 * length words + length results = omega (arith, length-results_in b bytes there) in
    take-add head (results_count b) buffer
    ∙ ap (λ (t : List ℕ). t ++ take (results_count b) (drop head buffer)) prefix
    ∙ ap (λ (t : List ℕ). (uints ((2 ^ 31 + message) ∷ xid ∷ 1 ∷ []) ++ uints words) ++ t) (ap (take (results_count b)) behind ∙ at)
    ∙ record-parts xid message words results (reply_of b bytes) (parts bytes) size
