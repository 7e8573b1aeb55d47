-- What a cloud shows after the next epoch was claimed by its boot object. Crates above cite this.
use Rattle.std.specs.Prelude.{max}
use Rattle.std.proofs.Common.{◌≡◌, ℕ, ◌+◌, ◌≤◌, List, [], ◌∷◌, map, Ordering, refl, ap, ◌∙◌, arith}
use Rattle.std.specs.declared.cmp.Ordering.TheVariants.{Less, Equal, Greater}
use Rattle.std.specs.FinMap.{entries, entries-insert}
use Rattle.std.specs.FinMap.Entries.{put}
use Rattle.sky_base.specs.declared.object.SegName.{SegName}
use Rattle.sky_base.specs.Order.{name_order}
use Rattle.sky_outside.specs.CloudMap.{CloudMap, after_put, held_of}
use Rattle.sky_outside.proofs.CloudLaws.{names_total, names_exact}
use Rattle.sky_sound.specs.Boot.{boot_name, boot_bytes, claimed}
use Rattle.sky_sound.specs.Cloud.{epoch_behind, next_epoch, epoch_after, checkpoint_in}
use Rattle.sky_sound.specs.Recovery.{recovered, history_of, IsSound, FindsSame}
use Rattle.sky_sound.proofs.Clouds.{checkpoint_after}

max_swap : (a b c : ℕ) → max a (max b c) ≡ max b (max a c)
max_swap a b c = omega arith

max_twice : (a c : ℕ) → max a c ≡ max a (max a c)
max_twice a c = omega arith

module _ (name : SegName) (bytes : List ℕ) where
  put_by : (o : Ordering) (e : SegName × List ℕ) (es : List (SegName × List ℕ)) → name_order name e.0 ≡ o
      → next_epoch (map held_of (put name_order name bytes es)) ≡ max (epoch_behind name.dir name.run) (next_epoch (map held_of es))
      → next_epoch (map held_of (put name_order name bytes (e ∷ es))) ≡ max (epoch_behind name.dir name.run) (next_epoch (map held_of (e ∷ es)))
  put_by Less e es is rest = rw is refl
  put_by Equal e es is rest = rw (is, names_exact name e.0 is) (max_twice (epoch_behind e.0.dir e.0.run) (next_epoch (map held_of es)))
  put_by Greater e es is rest = rw (is, rest) (max_swap (epoch_behind e.0.dir e.0.run) (epoch_behind name.dir name.run) (next_epoch (map held_of es)))

  put_listed : (es : List (SegName × List ℕ)) → next_epoch (map held_of (put name_order name bytes es)) ≡ max (epoch_behind name.dir name.run) (next_epoch (map held_of es))
  put_listed [] = refl
  put_listed (e ∷ es) = put_by (name_order name e.0) e es refl (put_listed es)

  -- the next epoch after a put
  pub epoch_after-put : (objects : CloudMap) → epoch_after (after_put name bytes objects) ≡ max (epoch_behind name.dir name.run) (epoch_after objects)
  epoch_after-put objects = ap (λ (es : List (SegName × List ℕ)). next_epoch (map held_of es)) (entries-insert names_total objects name bytes) ∙ put_listed (entries objects)

-- it is one more
pub epoch_after-claimed : (objects : CloudMap) → epoch_after (claimed objects) ≡ epoch_after objects + 1
epoch_after-claimed objects =
    let e : epoch_after (claimed objects) ≡ max (epoch_after objects + 1) (epoch_after objects) = epoch_after-put (boot_name (epoch_after objects)) (boot_bytes (epoch_after objects)) objects in
    omega (arith, e)

-- so it is not less
pub epoch_kept-claimed : (objects : CloudMap) → epoch_after objects ≤ epoch_after (claimed objects)
epoch_kept-claimed objects = omega (arith, epoch_after-claimed objects)

-- the last checkpoint is as before
pub checkpoint_in-claimed : (objects : CloudMap) → checkpoint_in (claimed objects) ≡ checkpoint_in objects
checkpoint_in-claimed objects = checkpoint_after (boot_name (epoch_after objects)) (boot_bytes (epoch_after objects)) refl objects

-- what recovery finds stays
pub recovered-claimed : (volume size : ℕ) (image : List ℕ) (objects : CloudMap) → recovered volume size image (claimed objects) ≡ recovered volume size image objects
unfolding recovered
recovered-claimed volume size image objects = rw (checkpoint_in-claimed objects) refl

pub history_of-claimed : (volume size : ℕ) (image : List ℕ) (objects : CloudMap) → history_of volume size image (claimed objects) ≡ history_of volume size image objects
unfolding history_of
history_of-claimed volume size image objects = rw (checkpoint_in-claimed objects) refl

-- so does a sound site stay sound
pub sound-claimed : (volume size : ℕ) (image : List ℕ) (objects : CloudMap) → IsSound volume size image objects → FindsSame volume size image objects image (claimed objects)
sound-claimed volume size image objects is = record {
  sound = record {
    history = is.history;
    stands_for = history_of-claimed volume size image objects ∙ is.stands_for;
    legal = is.legal;
  };
  same = recovered-claimed volume size image objects;
  epoch = epoch_kept-claimed objects;
}
