-- A record with one call more.
use Rattle.std.proofs.Common.{◌≡◌, ℕ, ◌+◌, ◌≤◌, Bool, List, [], ◌∷◌, ◌++◌, length, map, take, drop, All, refl, ◌∙◌, ap, arith, length-append}
use Rattle.std.proofs.lemmas.List.{take_all, drop_at, drop-append-le, take-append-le, length-drop, map-append}
use Rattle.std.proofs.lemmas.List.Elements.{recursion_from_All}
use Rattle.std.specs.List.{AllByRecursion}
use Rattle.sky_outside.specs.Image.{bytes_at}
use Rattle.sky_memory.specs.Past.{Call}
use Rattle.sky_memory.specs.Record.{RecordState, noted}
use Rattle.sky_memory.specs.Entries.{call_of, IsKept}
use Rattle.sky_memory.specs.declared.record.Entry.{Entry}
use Rattle.sky_memory.specs.declared.record.Step.{Step}

-- bytes that lie in a list lie in a longer one
bytes_at-more : (bs more : List ℕ) (from n : ℕ) → from + n ≤ length bs → bytes_at (bs ++ more) from n ≡ bytes_at bs from n
bytes_at-more bs more from n within =
    ap (take n) (drop-append-le from bs more (omega arith)) ∙ take-append-le n (drop from bs) more (omega (arith, length-drop from bs))

call_of-more : (bs more : List ℕ) (e : Entry) → IsKept (length bs) e → call_of (bs ++ more) e ≡ call_of bs e
call_of-more bs more e kept =
    ap (λ (l : List ℕ). let c : Call = record { step = e.step; bytes = l; happened = e.happened } in c) (bytes_at-more bs more e.from e.length kept.within)

calls-more : (bs more : List ℕ) (es : List Entry) → AllByRecursion (IsKept (length bs)) es → map (call_of (bs ++ more)) es ≡ map (call_of bs) es
calls-more bs more [] all = refl
calls-more bs more (e ∷ es) all = let here = call_of-more bs more e all.0 in let there = calls-more bs more es all.1 in cc

-- the new bytes lie at the end
last_bytes : (bs more : List ℕ) → bytes_at (bs ++ more) (length bs) (length more) ≡ more
last_bytes bs more = ap (take (length more)) (drop_at bs more (length bs) refl) ∙ take_all (length more) more (omega arith)

-- a record that keeps these entries, with these bytes
abbrev pub keeps : ℕ → ℕ → List ℕ → List Entry → RecordState
keeps most room bs es = record { calls = map (call_of bs) es; most = most; used = length bs; room = room }

abbrev pub entry_at : Step → Bool → ℕ → ℕ → Entry
entry_at step happened from n = record { step = step; happened = happened; from = from; length = n }

pub noted_is : (bs more : List ℕ) (es : List Entry) (step : Step) (happened : Bool) (most room : ℕ) → All (IsKept (length bs)) es
    → keeps most room (bs ++ more) (es ++ entry_at step happened (length bs) (length more) ∷ []) ≡ noted (keeps most room bs es) (record { step = step; bytes = more; happened = happened })
noted_is bs more es step happened most room kept =
    let new = entry_at step happened (length bs) (length more) in
    let call : Call = record { step = step; bytes = more; happened = happened } in
    let to : List Call → ℕ → RecordState = λ calls used. record { calls = calls; most = most; used = used; room = room } in
    let last : call_of (bs ++ more) new ≡ call = ap (λ (l : List ℕ). let c : Call = record { step = step; bytes = l; happened = happened } in c) (last_bytes bs more) in
    let calls : map (call_of (bs ++ more)) (es ++ new ∷ []) ≡ map (call_of bs) es ++ call ∷ [] =
    map-append (call_of (bs ++ more)) es (new ∷ [])
    ∙ ap (λ (l : List Call). l ++ call_of (bs ++ more) new ∷ []) (calls-more bs more es (recursion_from_All (IsKept (length bs)) es kept))
    ∙ ap (λ (c : Call). map (call_of bs) es ++ c ∷ []) last in
    ap (λ (l : List Call). to l (length (bs ++ more))) calls ∙ ap (to (map (call_of bs) es ++ call ∷ [])) (length-append bs more)
