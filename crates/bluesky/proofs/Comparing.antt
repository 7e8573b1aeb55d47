-- Two readings of one list of bytes, side by side: one goes on where the other stops, or they are of the same frames.
use Rattle.std.proofs.Common.{◌≡◌, ◌<◌, List, ℕ, [], ◌∷◌, ◌++◌, length, refl, sym, ap, subst, ◌∙◌, append_assoc, arith}
use Rattle.std.specs.List.{AllByRecursion}
use Rattle.sky_script.specs.Frame as frame
use Rattle.sky_script.specs.Frame.{InFrame, OutFrame, End, IsInFrame, in_frame, in_frames}
use Rattle.sky_script.specs.Beginning.{IsRefused, IsCutShort}
use Rattle.sky_script.proofs.FrameLaws.{frame_same}
use Rattle.sky_script.proofs.Beginnings.{frame_not_refused, frame_not_cut}
use Rattle.sky_world.specs.Meaning.{State, Supply, Step, Steps, IsStep}

-- a reading goes on at these bytes
pub record GoesOn (rest : List ℕ) : Type 0 where
  pub f : InFrame
  pub more : List ℕ
  pub formed : IsInFrame f
  pub encoded : rest ≡ in_frame f ++ more
  pub step : IsStep f

-- two readings are of the same frames
pub record AreOne (fs gs : List InFrame) (r q : List ℕ) : Type 0 where
  pub frames : fs ≡ gs
  pub rest : r ≡ q

-- two readings are, or one of them goes on where the other stopped
pub data Compares (fs gs : List InFrame) (r q : List ℕ) : Type 0 where
  are_one : AreOne fs gs r q → Compares fs gs r q
  first_on : length gs < length fs → GoesOn q → Compares fs gs r q
  second_on : length fs < length gs → GoesOn r → Compares fs gs r q

-- the same frame before both
compares_on : (f : InFrame) (fs gs : List InFrame) (r q : List ℕ) → Compares fs gs r q → Compares (f ∷ fs) (f ∷ gs) r q
compares_on f fs gs r q (are_one is) = are_one (record { frames = ap (λ (x : List InFrame). f ∷ x) is.frames; rest = is.rest })
compares_on f fs gs r q (first_on less on) = first_on (omega arith) on
compares_on f fs gs r q (second_on less on) = second_on (omega arith) on

-- a frame that has a step is not the end
pub is_step : (mem : Supply) (s t : State) (f : InFrame) (outs : List OutFrame) → Step mem s f outs t → IsStep f
is_step mem s t (frame.Begin session) outs step = tt
is_step mem s t (frame.Bytes session payload) outs step = tt
is_step mem s t (frame.Close session) outs step = tt
is_step mem s t (frame.SetMoment at) outs step = tt
is_step mem s t frame.Stat outs step = tt
is_step mem s t frame.Restart outs step = tt
is_step mem s t frame.RestartWithoutJournal outs step = tt
is_step mem s t frame.End outs step = step

-- two readings of one list of bytes
pub compared : (mem supply : Supply) (from begun : State) (fs gs : List InFrame) (os ps : List OutFrame) (s t : State) (r q : List ℕ)
    → AllByRecursion IsInFrame fs → AllByRecursion IsInFrame gs → Steps mem from fs os s → Steps supply begun gs ps t → in_frames fs ++ r ≡ in_frames gs ++ q
    → Compares fs gs r q
compared mem supply from begun [] [] os ps s t r q ok ok' a b e = are_one (record { frames = refl; rest = e })
compared mem supply from begun [] (g ∷ gs) os ps s t r q ok ok' a b e =
    second_on (omega arith) (record { f = g; more = in_frames gs ++ q; formed = ok'.0; encoded = e ∙ append_assoc (in_frame g) (in_frames gs) q; step = is_step supply begun b.0 g b.1 b.3 })
compared mem supply from begun (f ∷ fs) [] os ps s t r q ok ok' a b e =
    first_on (omega arith) (record { f = f; more = in_frames fs ++ r; formed = ok.0; encoded = sym e ∙ append_assoc (in_frame f) (in_frames fs) r; step = is_step mem from a.0 f a.1 a.3 })
compared mem supply from begun (f ∷ fs) (g ∷ gs) os ps s t r q ok ok' a b e =
    let whole : in_frame f ++ (in_frames fs ++ r) ≡ in_frame g ++ (in_frames gs ++ q) = sym (append_assoc (in_frame f) (in_frames fs) r) ∙ e ∙ append_assoc (in_frame g) (in_frames gs) q in
    let one = frame_same f g (in_frames fs ++ r) (in_frames gs ++ q) ok.0 ok'.0 whole in
    let ind = compares_on f fs gs r q (compared mem supply a.0 b.0 fs gs a.2 b.2 s t r q ok.1 ok'.1 a.4 b.4 one.1) in
    subst (λ (x : InFrame). Compares (f ∷ fs) (x ∷ gs) r q) one.0 ind

-- ---- where a reading doesn't go on

-- at the end
pub end_not_on : (rest back : List ℕ) → rest ≡ in_frame End ++ back → GoesOn rest → ⊥
end_not_on rest back end on =
    let only : on.f ≡ End = (frame_same on.f End on.more back on.formed tt (sym on.encoded ∙ end)).0 in
    subst IsStep only on.step

-- at what is refused
pub refused_not_on : (rest taken back : List ℕ) → IsRefused taken → rest ≡ taken ++ back → GoesOn rest → ⊥
refused_not_on rest taken back refused is on = frame_not_refused on.f rest taken on.more back on.formed on.encoded refused is

-- where the bytes are cut short
pub cut_not_on : (rest : List ℕ) → IsCutShort rest → GoesOn rest → ⊥
cut_not_on rest cut on = frame_not_cut on.f rest on.more on.formed on.encoded cut
