-- Attributes, handles, and objects before and after a call are read in one way (HasOneReading), each by the items
-- that it is made of.
use Rattle.std.proofs.Common.{◌≡◌, ℕ, ◌==◌, true, cond, List, ◌++◌, Option, refl, sym, ap, ◌∙◌, lit<}
use Rattle.std.specs.Prelude.{IfSome}
use Rattle.sky_base.specs.declared.attr.Attr.{Attr}
use Rattle.sky_base.specs.declared.attr.Device.{Device}
use Rattle.sky_base.specs.declared.attr.Kind.{Kind}
use Rattle.sky_base.specs.declared.attr.Kind.TheVariants.{Regular, Directory, SymbolicLink}
use Rattle.sky_base.specs.declared.moment.Moment.{Moment}
use Rattle.sky_nfs.specs.declared.answer.WccAttr.{WccAttr}
use Rattle.sky_nfs.specs.declared.answer.WccData.{WccData}
use Rattle.sky_nfs.specs.declared.handle.Handle.{Handle}
use Rattle.sky_xdr.specs.Encoding.{uint}
use Rattle.sky_results.specs.Attributes.{ftype3, nfstime3, specdata3, fattr3, post_op_attr, nfs_fh3, post_op_fh3}
use Rattle.sky_results.specs.Wcc.{wcc_attr, pre_op_attr, wcc_data}
use Rattle.sky_results.specs.Ranges.{IsU32, MomentFits, DeviceFits, AttrFits, ToldFits, HandleFits, WccAttrFits, WccFits}
use Rattle.sky_results.proofs.OneReading.{HasOneReading, Always, uint_once, uhyper_once, bool_once, both, along, under, optional_once}
use Rattle.sky_results.proofs.Sizes.{nfs_fh3-parts}

pub nfstime3_once : HasOneReading MomentFits nfstime3
unfolding nfstime3
nfstime3_once = under (λ a p. (p.0, p.1)) (along (both uint_once uint_once)
    (λ (a : Moment). (a.seconds, a.nanos))
    (λ t. record { seconds = t.0; nanos = t.1 }) (λ a. refl))

pub specdata3_once : HasOneReading DeviceFits specdata3
unfolding specdata3
specdata3_once = under (λ a p. (p.0, p.1)) (along (both uint_once uint_once)
    (λ (a : Device). (a.major, a.minor))
    (λ t. record { major = t.0; minor = t.1 }) (λ a. refl))

-- the kind that a number stands for, where it stands for one
kind_of : ℕ → Kind
kind_of n = cond (n == 1) Regular (cond (n == 2) Directory SymbolicLink)

kind_of-ftype3 : (k : Kind) → kind_of (ftype3 k) ≡ k
unfolding kind_of
kind_of-ftype3 Regular = refl
kind_of-ftype3 Directory = refl
kind_of-ftype3 SymbolicLink = refl

ftype3_fits : (k : Kind) → IsU32 (ftype3 k)
ftype3_fits Regular = lit< tt
ftype3_fits Directory = lit< tt
ftype3_fits SymbolicLink = lit< tt

kind_once : HasOneReading Always (λ (k : Kind). uint (ftype3 k))
kind_once = under (λ k p. ftype3_fits k) (along uint_once ftype3 kind_of kind_of-ftype3)

pub fattr3_once : HasOneReading AttrFits fattr3
unfolding fattr3
fattr3_once = under (λ a p. ((((((((((((tt, p.0), p.1), p.2), p.3), p.4), p.5), p.6), p.7), p.8), p.9), p.10), p.11)) (along (both (both (both (both (both (both (both (both (both (both (both (both kind_once uint_once) uint_once) uint_once) uint_once) uhyper_once) uhyper_once) specdata3_once) uhyper_once) uhyper_once) nfstime3_once) nfstime3_once) nfstime3_once)
    (λ (a : Attr). ((((((((((((a.kind, a.mode), a.nlink), a.uid), a.gid), a.size), a.used), a.rdev), a.fsid), a.fileid), a.atime), a.mtime), a.ctime))
    (λ t. record { kind = t.0.0.0.0.0.0.0.0.0.0.0.0; mode = t.0.0.0.0.0.0.0.0.0.0.0.1; nlink = t.0.0.0.0.0.0.0.0.0.0.1; uid = t.0.0.0.0.0.0.0.0.0.1; gid = t.0.0.0.0.0.0.0.0.1; size = t.0.0.0.0.0.0.0.1; used = t.0.0.0.0.0.0.1; rdev = t.0.0.0.0.0.1; fsid = t.0.0.0.0.1; fileid = t.0.0.0.1; atime = t.0.0.1; mtime = t.0.1; ctime = t.1 }) (λ a. refl))

pub post_op_attr_once : HasOneReading ToldFits post_op_attr
unfolding post_op_attr
post_op_attr_once = optional_once fattr3_once post_op_attr refl (λ a. refl)

pub nfs_fh3_once : HasOneReading HandleFits nfs_fh3
nfs_fh3_once = record {
  once = λ a b x y p q e.
      let h = along (both (both uint_once uhyper_once) uhyper_once) (λ (a : Handle). ((16, a.volume), a.fileid)) (λ t. record { volume = t.0.1; fileid = t.1 }) (λ a. refl) in
      h.once a b x y ((lit< tt, p.0), p.1) ((lit< tt, q.0), q.1)
      (sym (ap (λ (l : List ℕ). l ++ x) (nfs_fh3-parts a)) ∙ e ∙ ap (λ (l : List ℕ). l ++ y) (nfs_fh3-parts b));
}

pub post_op_fh3_once : HasOneReading HandleFits post_op_fh3
unfolding post_op_fh3
post_op_fh3_once = under (λ a p. (tt, p)) (along (both bool_once nfs_fh3_once) (λ (a : Handle). (true, a)) (λ t. t.1) (λ a. refl))

pub wcc_attr_once : HasOneReading WccAttrFits wcc_attr
unfolding wcc_attr
wcc_attr_once = under (λ a p. ((p.0, p.1), p.2)) (along (both (both uhyper_once nfstime3_once) nfstime3_once)
    (λ (a : WccAttr). ((a.size, a.mtime), a.ctime))
    (λ t. record { size = t.0.0; mtime = t.0.1; ctime = t.1 }) (λ a. refl))

pub pre_op_attr_once : HasOneReading (λ (o : Option WccAttr). IfSome o WccAttrFits) pre_op_attr
unfolding pre_op_attr
pre_op_attr_once = optional_once wcc_attr_once pre_op_attr refl (λ a. refl)

pub wcc_data_once : HasOneReading WccFits wcc_data
unfolding wcc_data
wcc_data_once = under (λ a p. (p.0, p.1)) (along (both pre_op_attr_once post_op_attr_once)
    (λ (a : WccData). (a.before, a.after))
    (λ t. record { before = t.0; after = t.1 }) (λ a. refl))
