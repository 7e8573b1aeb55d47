-- The handle of a node that a tree has.
use Rattle.std.proofs.Common.{◌≡◌, ℕ, ◌<◌, ◌^◌, refl, Option, Some, None, true, cond}
use Rattle.std.specs.Prelude.{option_map, length, is_some, unwrap_or}
use Rattle.std.proofs.lemmas.Bool.{eq-eqb}
use Rattle.sky_nfs.proofs.HandleLemmas.{volume_in-handle_bytes, fileid_in-handle_bytes}
use Rattle.sky_nfs.specs.Handles.{handle_bytes, volume_in, is_handle_of}
use Rattle.sky_nfs.specs.Results.{post_attributes}
use Rattle.sky_nfs.specs.Tree.{Tree, Node, no_node, node_at, attributes_of}

length-handle_bytes : (volume fileid : ℕ) → length (handle_bytes volume fileid) ≡ 16
length-handle_bytes volume fileid = refl

-- a volume's handle is one of it
pub is_handle_of-handle_bytes : (volume fileid : ℕ) → volume < 2 ^ 64 → is_handle_of volume (handle_bytes volume fileid) ≡ true
is_handle_of-handle_bytes volume fileid fits =
    rw (eq-eqb (length (handle_bytes volume fileid)) 16 (length-handle_bytes volume fileid), eq-eqb (volume_in (handle_bytes volume fileid)) volume (volume_in-handle_bytes volume fileid fits)) refl

-- the attributes of the object that a node's handle names
pub post_attributes-handle : (t : Tree) (fileid : ℕ) → t.volume < 2 ^ 64 → fileid < 2 ^ 64 → option_map (λ n. attributes_of t.volume fileid n) (node_at t.nodes fileid) ≡ post_attributes t (handle_bytes t.volume fileid)
post_attributes-handle t fileid volume_fits fits = rw (is_handle_of-handle_bytes t.volume fileid volume_fits, fileid_in-handle_bytes t.volume fileid fits) (go (node_at t.nodes fileid) refl)
  where
    go : (o : Option Node) → node_at t.nodes fileid ≡ o → option_map (λ n. attributes_of t.volume fileid n) o ≡ cond (is_some o) (Some (attributes_of t.volume fileid (unwrap_or (node_at t.nodes fileid) no_node))) None
    go None e = refl
    go (Some n) e = rw e refl
