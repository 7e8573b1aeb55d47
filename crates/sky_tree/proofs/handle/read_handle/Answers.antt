use Rattle.std.proofs.Common.{◌≡◌, ◌∙◌, refl, ap, sym}
use Rattle.std.proofs.lemmas.Bool.{eq-eqb, ne_eqb}
use Rattle.std.specs.Int.{from_be_bytes, w64}
use Rattle.std.specs.Prelude.{length}
use Rattle.sky_nfs.specs.Handles.{volume_in, fileid_in}
use Rattle.sky_tree.proofs.handle.read_handle.Goals as goal

pub returns-then-number_in-volume-clause-found : goal.returns-then-number_in-volume-clause-found
unfolding volume_in fileid_in
returns-then-number_in-volume-clause-found c =
    let named : volume_in c.args.bytes.now ≡ c.args.volume = sym (c.number_in.ensures ∙ ap (from_be_bytes w64) c.split_at.ensures.front) ∙ c.if-number_in-volume.true in (
      rw (eq-eqb (length c.args.bytes.now) 16 c.if-bytes-ne16.false, eq-eqb (volume_in c.args.bytes.now) c.args.volume named) refl,
      c.number_in-then-number_in-volume.ensures ∙ ap (from_be_bytes w64) c.split_at.ensures.back,
    )

pub returns-else-number_in-volume-clause-none : goal.returns-else-number_in-volume-clause-none
unfolding volume_in
returns-else-number_in-volume-clause-none c =
    let named : c.number_in.result ≡ volume_in c.args.bytes.now = c.number_in.ensures ∙ ap (from_be_bytes w64) c.split_at.ensures.front in
    rw (eq-eqb (length c.args.bytes.now) 16 c.if-bytes-ne16.false, ne_eqb (volume_in c.args.bytes.now) c.args.volume (λ e. c.if-number_in-volume.false (named ∙ e))) refl
