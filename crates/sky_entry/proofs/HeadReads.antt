-- What stands before the arguments: it is read from the bytes that are it, and from no others.
--   IsCaller, IsHead          which bytes are who made a change, and what stands before the arguments
--   head_reads                that is what head_at reads
--   head_found                a head is written as such bytes
use Rattle.std.proofs.Common.{◌≡◌, ℕ, ◌≤◌, List, ◌++◌, length, Ok, refl, ap, append_assoc, arith}
use Rattle.std.specs.List.{AllByRecursion}
use Rattle.sky_base.specs.Limits.{max_gids}
use Rattle.sky_base.specs.declared.cred.Cred.{Cred}
use Rattle.sky_base.specs.declared.moment.Moment.{Moment}
use Rattle.std.proofs.lemmas.List.{length-append}
use Rattle.sky_xdr.specs.Encoding.{AreBytes, uint}
use Rattle.sky_xdr.specs.Grammar.{◌and_then◌, IsUint}
use Rattle.sky_xdr.proofs.Grammars.{Reads, uint_reads, then_again, last_again, then_sound, last_sound, in_then, in_3}
use Rattle.sky_rpc.specs.Call.{uints}
use Rattle.sky_rpc.specs.Reading.{gids_at}
use Rattle.sky_rpc.proofs.Auths.{gids_again, gids_took}
use Rattle.sky_args.specs.Parts.{IsMoment, moment_bytes}
use Rattle.sky_args.specs.Sizes.{FitsUint, FitsMoment}
use Rattle.sky_args.proofs.PartReads.{moment_reads}
use Rattle.sky_entry.specs.declared.reading.Head.{Head}
use Rattle.sky_entry.specs.Entry.{caller_bytes, FitsCred}
use Rattle.sky_entry.specs.Reading.{caller_at, head_at}

-- bytes are the further groups of a caller
pub record IsGids (gids bytes : List ℕ) : Type 0 where
  pub encoded : bytes ≡ uint (length gids) ++ uints gids
  pub fit : AllByRecursion FitsUint gids
  pub few : length gids ≤ max_gids

gids_reads : Reads gids_at IsGids
gids_reads = record {
  again = λ gids bytes is. record {
    read = λ rest. rw (is.encoded, append_assoc (uint (length gids)) (uints gids) rest) (gids_again gids rest is.fit is.few);
  };
  sound = record {
    begins = λ bytes gids rest fits e.
        let t = gids_took bytes gids rest fits e in
        record { prefix = _; is = record { encoded = refl; fit = t.fit; few = t.few }; parts = t.took.parts; rest_fits = t.took.rest_fits };
  };
}

-- bytes are who made a change
abbrev pub IsCaller : Cred → List ℕ → Type 0
IsCaller cred = IsUint cred.uid and_then IsUint cred.gid and_then IsGids cred.gids

caller_reads : Reads caller_at IsCaller
unfolding caller_at
caller_reads = record {
  again = λ cred bytes is. then_again _ uint_reads (λ y is_y. then_again _ uint_reads (λ z is_z. last_again _ gids_reads is_z) is_y) is;
  sound = then_sound _ uint_reads (λ uid. then_sound _ uint_reads (λ gid. last_sound _ gids_reads (λ gids z is_z y is_y x is_x. in_then x _ is_x (in_then y z is_y is_z))));
}

-- bytes are what stands before the arguments
abbrev pub IsHead : Head → List ℕ → Type 0
IsHead head = IsMoment head.moment and_then IsCaller head.cred and_then IsUint head.procedure

pub head_reads : Reads head_at IsHead
unfolding head_at
head_reads = record {
  again = λ head bytes is. then_again _ moment_reads (λ y is_y. then_again _ caller_reads (λ z is_z. last_again _ uint_reads is_z) is_y) is;
  sound = then_sound _ moment_reads (λ moment. then_sound _ caller_reads (λ cred. last_sound _ uint_reads (λ procedure z is_z y is_y x is_x. in_then x _ is_x (in_then y z is_y is_z))));
}

-- ---- it is written as such bytes

caller_found : (cred : Cred) → FitsCred cred → IsCaller cred (caller_bytes cred)
unfolding caller_bytes
caller_found cred fits =
    rw (append_assoc (uint cred.uid ++ uint cred.gid) (uint (length cred.gids)) (uints cred.gids))
    (in_3 _ _ _ (refl, fits.uid) (refl, fits.gid) (record { encoded = refl; fit = fits.gids; few = fits.gids_within }))

moment_found : (m : Moment) → FitsMoment m → IsMoment m (moment_bytes m)
unfolding moment_bytes
moment_found m fits = in_then _ _ (refl, fits.0) (refl, fits.1)

pub head_found : (head : Head) → FitsMoment head.moment → FitsCred head.cred → FitsUint head.procedure
    → IsHead head (moment_bytes head.moment ++ caller_bytes head.cred ++ uint head.procedure)
head_found head moment cred procedure = in_3 _ _ _ (moment_found head.moment moment) (caller_found head.cred cred) (refl, procedure)

-- ---- its fields are of their types

pub head_fits : (head : Head) (bytes : List ℕ) → IsHead head bytes → FitsMoment head.moment × FitsCred head.cred
head_fits head bytes is =
    let caller = is.is_second.is_first in (
      (is.is_first.is_first.1, is.is_first.is_second.1),
      record {
        uid = caller.is_first.1;
        gid = caller.is_second.is_first.1;
        gids = caller.is_second.is_second.fit;
        gids_within = caller.is_second.is_second.few;
      },
    )

-- ---- the arguments behind it are a part of the body

pub args_long : (body args : List ℕ) (head : Head) → AreBytes body → head_at body ≡ Ok (head, args) → length args ≤ length body
args_long body args head fits read =
    let begins = head_reads.sound.begins body head args fits read in
    omega (arith, ap length begins.parts, length-append begins.prefix args)
