-- What is listed of a cloud, object by object, and after a put. Crates above cite this.
use Rattle.std.specs.Prelude.{max}
use Rattle.std.proofs.Common.{◌≡◌, ℕ, false, List, [], ◌∷◌, ◌++◌, map, Option, None, Ordering, refl, ap, ◌∙◌, arith}
use Rattle.std.specs.declared.cmp.Ordering.TheVariants.{Less, Equal, Greater}
use Rattle.std.specs.FinMap.{entries, entries-insert}
use Rattle.std.specs.FinMap.Entries.{put, by_order}
use Rattle.sky_base.specs.declared.object.Dir.TheVariants.{Proxy}
use Rattle.sky_base.specs.declared.object.SegName.{SegName}
use Rattle.sky_base.specs.Order.{name_order}
use Rattle.sky_outside.specs.CloudMap.{CloudMap, after_put, held_of}
use Rattle.sky_outside.specs.declared.site.Held.{Held}
use Rattle.sky_outside.proofs.CloudLaws.{names_total}
use Rattle.sky_checkpoint.specs.Listing.{is_check_of, last_checkpoint, with_name}
use Rattle.sky_sound.specs.Cloud.{epoch_behind, next_epoch, checkpoint_in}

-- one object more is listed
pub epoch_more : (listed : List Held) (held : Held) → next_epoch (listed ++ held ∷ []) ≡ max (next_epoch listed) (epoch_behind held.name.dir held.name.run)
epoch_more [] held = max_same (epoch_behind held.name.dir held.name.run)
  where
    max_same : (n : ℕ) → max n 1 ≡ max 1 n
    max_same n = omega arith
epoch_more (x ∷ listed) held =
    let on : next_epoch (listed ++ held ∷ []) ≡ max (next_epoch listed) (epoch_behind held.name.dir held.name.run) = epoch_more listed held in
    ap (λ (n : ℕ). max (epoch_behind x.name.dir x.name.run) n) on ∙ max_on (epoch_behind x.name.dir x.name.run) (next_epoch listed) (epoch_behind held.name.dir held.name.run)
  where
    max_on : (a b c : ℕ) → max a (max b c) ≡ max (max a b) c
    max_on a b c = omega arith

-- ---- after a put of what is no checkpoint

passes : (last : Option SegName) (name : SegName) → is_check_of Proxy name ≡ false → with_name last name ≡ last
passes last name isnt = rw isnt refl

module _ (name : SegName) (bytes : List ℕ) (isnt : is_check_of Proxy name ≡ false) where
  put_by : (o : Ordering) (e : SegName × List ℕ) (es : List (SegName × List ℕ)) → last_checkpoint (map held_of (put name_order name bytes es)) ≡ last_checkpoint (map held_of es)
      → last_checkpoint (map held_of (by_order o ((name, bytes) ∷ e ∷ es) ((e.0, bytes) ∷ es) (e ∷ put name_order name bytes es))) ≡ last_checkpoint (map held_of (e ∷ es))
  put_by Less e es rest = passes (last_checkpoint (map held_of (e ∷ es))) name isnt
  put_by Equal e es rest = refl
  put_by Greater e es rest = ap (λ (last : Option SegName). with_name last e.0) rest

  put_listed : (es : List (SegName × List ℕ)) → last_checkpoint (map held_of (put name_order name bytes es)) ≡ last_checkpoint (map held_of es)
  put_listed [] = passes None name isnt
  put_listed (e ∷ es) = put_by (name_order name e.0) e es (put_listed es)

  -- the last checkpoint is as before
  pub checkpoint_after : (objects : CloudMap) → checkpoint_in (after_put name bytes objects) ≡ checkpoint_in objects
  checkpoint_after objects =
      ap (λ (es : List (SegName × List ℕ)). last_checkpoint (map held_of es)) (entries-insert names_total objects name bytes) ∙ put_listed (entries objects)
