-- How many bytes the parts of results have.
--   length-nfstime3, length-specdata3, length-fattr3, length-wcc_attr, length-nfs_fh3, length-post_op_fh3
--   nfs_fh3-parts      a handle is encoded as its length, the volume and the fileid
--   sizes              these, and those of XDR's items, by one name
use Rattle.std.proofs.Common.{◌≡◌, ◌++◌, ℕ, length, refl, sym, ◌∙◌, append_assoc, arith}
use Rattle.std.proofs.lemmas.List.{length-append, append-nil}
use Rattle.sky_base.specs.declared.attr.Attr.{Attr}
use Rattle.sky_base.specs.declared.attr.Device.{Device}
use Rattle.sky_base.specs.declared.moment.Moment.{Moment}
use Rattle.sky_nfs.specs.declared.answer.WccAttr.{WccAttr}
use Rattle.sky_nfs.specs.declared.handle.Handle.{Handle}
use Rattle.sky_xdr.specs.Encoding.{uint, uhyper}
use Rattle.sky_xdr.proofs.Opaques.{length-opaque}
use Rattle.sky_xdr.proofs.Numbers.{length-uint, length-uhyper, length-bool}
use Rattle.sky_results.specs.Attributes.{nfstime3, specdata3, fattr3, nfs_fh3, post_op_fh3}
use Rattle.sky_results.specs.Wcc.{wcc_attr}

pub length-nfstime3 : (t : Moment) → length (nfstime3 t) ≡ 8
unfolding nfstime3
length-nfstime3 t = simp (length-append, length-uint)

pub length-specdata3 : (d : Device) → length (specdata3 d) ≡ 8
unfolding specdata3
length-specdata3 d = simp (length-append, length-uint)

pub length-fattr3 : (a : Attr) → length (fattr3 a) ≡ 84
unfolding fattr3
length-fattr3 a = simp (length-append, length-uint, length-uhyper, length-nfstime3, length-specdata3)

pub length-wcc_attr : (w : WccAttr) → length (wcc_attr w) ≡ 24
unfolding wcc_attr
length-wcc_attr w = simp (length-append, length-uhyper, length-nfstime3)

pub nfs_fh3-parts : (h : Handle) → nfs_fh3 h ≡ uint 16 ++ uhyper h.volume ++ uhyper h.fileid
unfolding nfs_fh3 uhyper
nfs_fh3-parts h = append-nil (uint 16 ++ (uhyper h.volume ++ uhyper h.fileid)) ∙ sym (append_assoc (uint 16) (uhyper h.volume) (uhyper h.fileid))

pub length-nfs_fh3 : (h : Handle) → length (nfs_fh3 h) ≡ 20
length-nfs_fh3 h = rw nfs_fh3-parts (simp (length-append, length-uint, length-uhyper))

pub length-post_op_fh3 : (h : Handle) → length (post_op_fh3 h) ≡ 24
unfolding post_op_fh3
length-post_op_fh3 h = simp (length-append, length-bool, length-nfs_fh3)

pub ruleset sizes = (length-append, length-uint, length-uhyper, length-bool, length-nfstime3, length-specdata3, length-fattr3, length-wcc_attr, length-nfs_fh3, length-post_op_fh3)

pub ruleset opaque_sizes = (sizes, length-opaque)

pub ruleset handle_sizes = (length-nfs_fh3, nfs_fh3-parts)
