-- A run by the settings that a text says, and one that did not come to know any.
use Rattle.std.proofs.Common.{◌≡◌, ℕ, List, Option, None, Some, ◌⊎◌, inl, inr, refl, sym, ◌∙◌, subst}
use Rattle.sky_base.specs.declared.status.Status.{Status}
use Rattle.sky_base.specs.declared.status.Status.TheVariants as status
use Rattle.sky_outside.specs.CloudMap.{CloudMap}
use Rattle.sky_outside.specs.Moments.{NothingPending}
use Rattle.sky_outside.specs.Told.{WhereTold}
use Rattle.sky_outside.specs.declared.storage.Storage.{Ghosts}
use Rattle.sky_settings.specs.declared.settings.Fields.{Fields}
use Rattle.sky_settings_file.specs.Table.{SaysSettings}
use Rattle.sky_world.specs.Opening.{IsRefusedAs, LeavesRefusedAs}
use Rattle.bluesky.specs.Asked.{IsUnsaid}
use Rattle.bluesky.specs.Run.{SinkUse, GaveUnopened, IsExact, IsFree, Ran, RanUnopened}
use Rattle.bluesky.proofs.Beginning.{no_refusal, unclaimed}
use Rattle.bluesky.proofs.Sites.{found_none}

-- a text says no two settings
pub says_one : (text : List ℕ) (a b : Fields) → SaysSettings text a → SaysSettings text b → a ≡ b
says_one text a b one other = let same : Some a ≡ Some b = sym one.1 ∙ other.1 in cc

-- such a status refuses no site for what it has
unsaid_refuses : (settings : Fields) (v : Status) → IsUnsaid v → (image : List ℕ) (objects : CloudMap) → IsRefusedAs settings.volume settings.journal_area v image objects
unsaid_refuses settings status.Words of image objects = tt
unsaid_refuses settings status.Settings of image objects = tt
unsaid_refuses settings status.Memory of image objects = tt
unsaid_refuses settings status.SinkFault of image objects = tt
unsaid_refuses settings status.Done of image objects = absurd of
unsaid_refuses settings (status.Malformed at) of image objects = absurd of
unsaid_refuses settings status.Early of image objects = absurd of
unsaid_refuses settings status.SourceFault of image objects = absurd of
unsaid_refuses settings status.JournalFault of image objects = absurd of
unsaid_refuses settings status.CloudFault of image objects = absurd of
unsaid_refuses settings (status.Foreign at) of image objects = absurd of
unsaid_refuses settings (status.Missing name) of image objects = absurd of
unsaid_refuses settings (status.Damaged name damage) of image objects = absurd of
unsaid_refuses settings status.Worn of image objects = absurd of
unsaid_refuses settings status.Long of image objects = absurd of

unsaid_leaves : {S : Type 0} (g : Ghosts S) (s : S) (v : Status) → IsUnsaid v → LeavesRefusedAs g s s v
unsaid_leaves g s status.Words of = tt
unsaid_leaves g s status.Settings of = tt
unsaid_leaves g s status.Memory of = tt
unsaid_leaves g s status.SinkFault of = tt
unsaid_leaves g s status.Done of = absurd of
unsaid_leaves g s (status.Malformed at) of = absurd of
unsaid_leaves g s status.Early of = absurd of
unsaid_leaves g s status.SourceFault of = absurd of
unsaid_leaves g s status.JournalFault of = absurd of
unsaid_leaves g s status.CloudFault of = absurd of
unsaid_leaves g s (status.Foreign at) of = absurd of
unsaid_leaves g s (status.Missing name) of = absurd of
unsaid_leaves g s (status.Damaged name damage) of = absurd of
unsaid_leaves g s status.Worn of = absurd of
unsaid_leaves g s status.Long of = absurd of

-- a run that did not come to know its settings opened nothing, by whichever
pub ran_unsaid : {S : Type 0} (g : Ghosts S) (settings : Fields) (s : S) (had : Option (List ℕ)) (sink : SinkUse) (v : Status) → NothingPending g s → IsUnsaid v → GaveUnopened v sink
    → Ran g settings s s v (record { had = had; left = had }) sink
ran_unsaid g settings s had sink v nothing of gave = inl (record {
  took = refl;
  gave = gave;
  refused = no_refusal g settings s v (unsaid_refuses settings v of);
  untouched = unsaid_leaves g s v of;
  leaves = found_none g settings s nothing;
  boots = unclaimed 1 (g.objects s);
})

-- want of memory and a failed sink are asked for by no bytes
pub free_exact : (v : Status) (bytes : Option (List ℕ)) → (v ≡ status.Memory) ⊎ (v ≡ status.SinkFault) → WhereTold bytes (IsExact v)
free_exact v None of = tt
free_exact v (Some bytes) of = λ memory course expected rest reading. inr (free v of)
  where
    free : (v : Status) → (v ≡ status.Memory) ⊎ (v ≡ status.SinkFault) → IsFree v
    free v (inl is) = subst IsFree (sym is) tt
    free v (inr is) = subst IsFree (sym is) tt

pub unsaid_of : (v : Status) → (v ≡ status.Memory) ⊎ (v ≡ status.SinkFault) → IsUnsaid v
unsaid_of v (inl is) = subst IsUnsaid (sym is) tt
unsaid_of v (inr is) = subst IsUnsaid (sym is) tt
