-- Frames that are shown one behind the other.
use Rattle.std.proofs.Common.{◌≡◌, ◌∙◌, ◌+◌, ℕ, Option, Result, Err, IsErrOf, ◌≢◌, List, [], ◌∷◌, ◌++◌, length, refl, sym, ap, subst, inl, inr, arith}
use Rattle.std.proofs.lemmas.List.{append-nil, length-append}
use Rattle.std.proofs.lemmas.Grind.{flat_map-append}
use Rattle.std.specs.List.{AllByRecursion}
use Rattle.sky_outside.specs.Told.{Had, Given, WhereTold}
use Rattle.sky_outside.proofs.ToldLaws.{Had-none, Had-then, Given-none, Given-then}
use Rattle.sky_script.specs.Frame.{Parts, frame, magic}
use Rattle.sky_xdr.specs.Encoding.{uint}
use Rattle.sky_xdr.proofs.Numbers.{length-uint}
use Rattle.sky_show.specs.Frames.{HadSome}
use Rattle.sky_show.specs.Ending.{IsOfLine, IsOfMagic}
use Rattle.sky_show.specs.declared.ending.Ending.{Ending}
use Rattle.sky_show.specs.declared.ending.Ending.TheVariants as ending
use Rattle.sky_show.specs.declared.showing.Stop.{Stop}
use Rattle.sky_show.specs.declared.showing.Stop.TheVariants as stop
use Rattle.sky_show.specs.Shown.{Shown, GoesOn, WereShown, StoppedBy, IsStop, Ran, no_magic, no_start, RanFrom, stopped, long, frame_limit, frames_of, lines_of, line_for, ending_of}

-- so many frames were shown, the first of which was due at 8 and the next one is due at this place
pub record SoFar (place count : ℕ) (had left before after : Option (List ℕ)) : Type 0 where
  pub shown : List Shown
  pub were : WereShown shown had left before after
  pub place_is : place ≡ 8 + length (frames_of shown)
  pub count_is : length shown ≡ count

-- none at first
pub at_first : (had before : Option (List ℕ)) → SoFar 8 0 had had before before
at_first had before = record {
  shown = [];
  were = record { read = Had-none had; written = Given-none before; go_on = tt };
  place_is = refl;
  count_is = refl;
}

all_then : (shown : List Shown) (s : Shown) → AllByRecursion GoesOn shown → GoesOn s → AllByRecursion GoesOn (shown ++ s ∷ [])
all_then [] s all goes = (goes, tt)
all_then (x ∷ xs) s all goes = (all.0, all_then xs s all.1 goes)

frames_then : (shown : List Shown) (s : Shown) → frames_of (shown ++ s ∷ []) ≡ frames_of shown ++ frame s.answer
frames_then shown s = flat_map-append (λ (x : Shown). frame x.answer) shown (s ∷ []) ∙ ap (λ (x : List ℕ). frames_of shown ++ x) (append-nil (frame s.answer))

lines_then : (shown : List Shown) (s : Shown) → lines_of (shown ++ s ∷ []) ≡ lines_of shown ++ line_for s
lines_then shown s = flat_map-append line_for shown (s ∷ []) ∙ ap (λ (x : List ℕ). lines_of shown ++ x) (append-nil (line_for s))

-- and then one more
pub and_then : (place count len : ℕ) (had left next before after then : Option (List ℕ)) (s : Shown)
    → SoFar place count had left before after → GoesOn s → len ≡ length (frame s.answer) → Had left next (frame s.answer) → Given after then (line_for s)
    → SoFar (place + len) (count + 1) had next before then
and_then place count len had left next before after then s far goes size read written =
    let frames = frames_then far.shown s in
    record {
      shown = far.shown ++ s ∷ [];
      were = record {
        read = subst (λ (x : List ℕ). Had had next x) (sym frames) (Had-then had left next (frames_of far.shown) (frame s.answer) far.were.read read);
        written = subst (λ (x : List ℕ). Given before then x) (sym (lines_then far.shown s)) (Given-then before after then (lines_of far.shown) (line_for s) far.were.written written);
        go_on = all_then far.shown s far.were.go_on goes;
      };
      place_is = omega (arith, far.place_is, size, ap length frames, length-append (frames_of far.shown) (frame s.answer));
      count_is = omega (arith, far.count_is, length-append far.shown (s ∷ []));
    }

-- and then it ended by a cause
pub and_stopped : (place count : ℕ) (result : Ending) (why : Stop) (had left last before after given : Option (List ℕ))
    → SoFar place count had left before after → IsStop why → result ≡ ending_of why place → StoppedBy why left last after given
    → RanFrom 8 result had last before given
and_stopped place count result why had left last before after given far is said by = record {
  shown = far.shown;
  behind = left;
  given = after;
  were = far.were;
  ended = stopped why is (said ∙ ap (λ (x : ℕ). ending_of why x) far.place_is) by;
}

-- or since there were too many
pub and_long : (place count : ℕ) (had left before after : Option (List ℕ)) → SoFar place count had left before after → count ≡ frame_limit
    → RanFrom 8 ending.Long had left before after
and_long place count had left before after far all = record {
  shown = far.shown;
  behind = left;
  given = after;
  were = far.were;
  ended = long refl (far.count_is ∙ all) refl refl;
}

-- a frame has a header of nine bytes, and its payload
frame_size : (p : Parts) → length (frame p) ≡ 9 + length p.payload
frame_size p = omega (arith, length-append (uint p.session ++ uint (length p.payload)) p.payload, length-append (uint p.session) (uint (length p.payload)), length-uint p.session, length-uint (length p.payload))

-- a frame that does not end the answers was read, and its line was written
pub shown_on : (had left before after : Option (List ℕ)) (answer : Parts) (s : Shown) → s.answer ≡ answer → (answer.kind ≡ 99 → ⊥) → Had had left (frame answer) → Given before after (line_for s)
    → (x : Shown) × GoesOn x × (9 + length answer.payload ≡ length (frame x.answer)) × Had had left (frame x.answer) × Given before after (line_for x)
shown_on had left before after answer s is goes read written =
    (s, λ e. goes (sym (ap (λ (p : Parts). p.kind) is) ∙ e), sym (frame_size answer) ∙ sym (ap (λ (p : Parts). length (frame p)) is), subst (λ (p : Parts). Had had left (frame p)) (sym is) read, written)

-- it ended before the first frame
pub at_once : (e : Ending) (had before : Option (List ℕ)) → IsOfLine e → RanFrom 8 e had had before before
at_once e had before (inl fault) = record {
  shown = [];
  behind = had;
  given = before;
  were = record { read = Had-none had; written = Given-none before; go_on = tt };
  ended = stopped (stop.Ended ending.RecordingFault) tt fault (([], Had-none had), refl);
}
at_once e had before (inr memory) = record {
  shown = [];
  behind = had;
  given = before;
  were = record { read = Had-none had; written = Given-none before; go_on = tt };
  ended = stopped (stop.Ended ending.Memory) tt memory (([], Had-none had), refl);
}

-- it ended where the magic was due
pub before_start : (r : Result (Unit {0}) Ending) (e : Ending) (had left before : Option (List ℕ)) → r ≡ Err e → IsOfMagic e
    → (IsErrOf r (ending.Malformed 0) → (taken : List ℕ) × (length taken ≡ 8) × (taken ≢ magic) × Had had left taken)
    → HadSome had left → (IsErrOf r ending.Early → WhereTold left (λ rest. rest ≡ []))
    → Ran e had left before before
before_start r e had left before is (inl other) none some early =
    let at = none (is ∙ ap Err other) in
    no_magic at.0 at.1 at.2 at.3 other refl
before_start r e had left before is (inr (inl told)) none some early =
    no_start (subst (λ (x : Ending). IsStop (stop.Ended x)) (sym told) tt) (λ sink. absurd cc) some (λ same. early (is ∙ ap Err same)) refl
before_start r e had left before is (inr (inr fault)) none some early =
    no_start (subst (λ (x : Ending). IsStop (stop.Ended x)) (sym fault) tt) (λ sink. absurd cc) some (λ same. early (is ∙ ap Err same)) refl
