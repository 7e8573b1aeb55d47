-- What the cloud says of a volume: the epochs that its objects show, its last checkpoint, and the tree and the number of changes
-- that it holds.
use Rattle.std.specs.Prelude.{◌≡◌, ℕ, ◌+◌, max, List, [], ◌∷◌, Option, None}
use Rattle.sky_base.specs.declared.object.Dir.{Dir}
use Rattle.sky_base.specs.declared.object.Dir.TheVariants.{Proxy, Cleaner}
use Rattle.sky_base.specs.declared.object.SegName.{SegName}
use Rattle.sky_outside.specs.CloudMap.{CloudMap, listing}
use Rattle.sky_outside.specs.declared.site.Held.{Held}
use Rattle.sky_nfs.specs.Tree.{Tree, empty_tree}
use Rattle.sky_checkpoint.specs.Listing.{last_checkpoint}

-- the epoch behind that of an object of the proxy; the first epoch is 1, whatever the cleaner has
abbrev pub epoch_behind : Dir → ℕ → ℕ
epoch_behind Proxy run = run + 1
epoch_behind Cleaner run = 1

-- the next epoch of the proxy: 1 more than the greatest of which an object is listed, or 1
abbrev pub next_epoch : List Held → ℕ
next_epoch [] = 1
next_epoch (held ∷ more) = max (epoch_behind held.name.dir held.name.run) (next_epoch more)

-- the same by the objects that a cloud holds
abbrev pub epoch_after : CloudMap → ℕ
epoch_after objects = next_epoch (listing objects)

-- the last checkpoint of the proxy among the objects that a cloud holds
abbrev pub checkpoint_in : CloudMap → Option SegName
checkpoint_in objects = last_checkpoint (listing objects)

-- a cloud has no checkpoint of the proxy
abbrev pub HasNoCheckpoint : CloudMap → Type 0
HasNoCheckpoint objects = checkpoint_in objects ≡ None

-- up to which change a cloud holds a volume. Without a checkpoint it is 0, and checkpoints are not read yet
abbrev pub covers_of : CloudMap → ℕ
covers_of objects = 0

-- the tree that a cloud holds of a volume. Without a checkpoint it is the empty one
abbrev pub cloud_tree : ℕ → CloudMap → Tree
cloud_tree volume objects = empty_tree volume
