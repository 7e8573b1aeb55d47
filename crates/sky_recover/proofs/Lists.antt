-- What is listed up to an object, and with it. Crates above cite this.
use Rattle.std.specs.Prelude.{max}
use Rattle.std.proofs.Common.{◌≡◌, ℕ, ◌+◌, ◌<◌, false, List, [], ◌∷◌, ◌++◌, length, take, get_or, add-one, ap, sym, ◌∙◌}
use Rattle.std.proofs.Math.Seq.{take-suc}
use Rattle.sky_base.specs.declared.object.Dir.TheVariants.{Proxy}
use Rattle.sky_outside.specs.declared.site.Held.{Held}
use Rattle.sky_sound.specs.Cloud.{epoch_behind, next_epoch}
use Rattle.sky_sound.proofs.Clouds.{epoch_more}

-- what stands for an object where a list has none
abbrev pub no_object : Held
no_object = record { name = record { dir = Proxy; run = 0; seq = 0; last = false }; length = 0 }

module _ (held : List Held) (i : ℕ) (within : i < length held) where
  one_more : take (i + 1) held ≡ take i held ++ get_or held i no_object ∷ []
  one_more = rw add-one (take-suc held i no_object within)

  epoch_with : next_epoch (take (i + 1) held) ≡ max (next_epoch (take i held)) (epoch_behind (get_or held i no_object).name.dir (get_or held i no_object).name.run)
  epoch_with = ap next_epoch one_more ∙ epoch_more (take i held) (get_or held i no_object)

  -- the epoch by the objects so far, and by the next one too
  pub epoch_next : (so_far behind larger : ℕ) → so_far ≡ next_epoch (take i held) → behind ≡ epoch_behind (get_or held i no_object).name.dir (get_or held i no_object).name.run
      → larger ≡ max so_far behind → larger ≡ next_epoch (take (i + 1) held)
  epoch_next so_far behind larger first here both =
      both ∙ ap (λ (n : ℕ). max n behind) first ∙ ap (λ (n : ℕ). max (next_epoch (take i held)) n) here ∙ sym epoch_with
