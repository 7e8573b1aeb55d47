-- The parts of items are read from the bytes that are their encoding, and from no others.
use Rattle.std.proofs.Common.{◌≡◌, ℕ, zero, suc, ◌-◌, ◌^◌, ◌<◌, ◌≤◌, Option, Some, None, List, [], ◌++◌, length, refl, sym, ap, ◌∙◌, append_assoc, arith, lit<}
use Rattle.std.proofs.lemmas.List.{append-nil}
use Rattle.sky_base.specs.Limits.{max_number, max_object_bytes}
use Rattle.sky_base.specs.declared.object.Dir.{Dir}
use Rattle.sky_base.specs.declared.object.Dir.TheVariants.{Proxy, Cleaner}
use Rattle.sky_base.specs.declared.moment.Moment.{Moment}
use Rattle.sky_base.specs.declared.place.ItemId.{ItemId}
use Rattle.sky_base.specs.declared.place.Location.{Location}
use Rattle.sky_xdr.specs.Encoding.{uint, uhyper}
use Rattle.sky_item.specs.declared.item.Times.{Times}
use Rattle.sky_item.specs.declared.parts.Owner.{Owner}
use Rattle.sky_item.specs.Encoding.{id_bytes, dir_code, location_bytes, moment_bytes, times_bytes, verifier_bytes}
use Rattle.sky_item.specs.Items.{IsId, IsLocation, IsMoment, AreTimes, IsVerifier, FitsUint, max_mode}
use Rattle.sky_item.specs.Reading.{give}
use Rattle.sky_item.specs.Fields.{max_uint, max_uhyper, id_at, dir_of, location_at, moment_at, times_at, owner_at, kept_or_zero, verifier_at}
use Rattle.sky_item.proofs.Codecs.{Reads, Chain, Within, Any, uint_reads, uhyper_reads, then_reads, last_reads, by_reads, by_chain, done_reads, written_chain, raw_reads}

pub id_reads : Reads id_at id_bytes IsId
unfolding id_at id_bytes
id_reads = by_reads id_bytes IsId
    (λ b. simp append-nil refl)
    (λ b is. (record { low = omega arith; high = omega (arith, is.epoch) }, (record { low = omega arith; high = omega (arith, is.counter) }, tt)))
    (λ b t. record { epoch = omega (arith, t.0.high); counter = omega (arith, t.1.0.high) })
    (then_reads (λ (i : ItemId). i.epoch) _ _ _ Any (uhyper_reads 0 (max_number - 1) (lit< tt)) (λ epoch _.
    last_reads (λ (i : ItemId). i.counter) (λ counter. record { epoch = epoch; counter = counter }) _ (uhyper_reads 0 max_uhyper (lit< tt))
    (λ b c e f. let same : record { epoch = b.epoch; counter = b.counter } ≡ record { epoch = epoch; counter = c } = cc in same)
    (λ c is. (tt, refl)) (λ c. refl)))

-- ---- locations

dir_back : (d : Dir) → dir_of (dir_code d) ≡ d
dir_back Proxy = refl
dir_back Cleaner = refl

code_back : (code : ℕ) → Within 0 1 code → dir_code (dir_of code) ≡ code
code_back zero w = refl
code_back (suc zero) w = refl
code_back (suc (suc n)) w = absurd (omega (arith, w.high))

code_small : (d : Dir) → Within 0 1 (dir_code d)
code_small Proxy = record { low = omega arith; high = omega arith }
code_small Cleaner = record { low = omega arith; high = omega arith }

pub location_reads : Reads location_at location_bytes IsLocation
unfolding location_at location_bytes
location_reads = by_reads location_bytes IsLocation
    (λ b. simp (append_assoc, append-nil) refl)
    (λ b is. (
      code_small b.dir,
      (
        record { low = omega arith; high = omega (arith, is.run) },
        (
          record { low = omega arith; high = omega (arith, is.seq) },
          (record { low = omega arith; high = omega (arith, is.within) }, (record { low = omega arith; high = omega (arith, is.within) }, tt)),
        ),
      ),
    ))
    (λ b t. record { run = omega (arith, t.1.0.high); seq = omega (arith, t.1.1.0.high); within = omega (arith, t.1.1.1.0.high, t.1.1.1.1.0.high) })
    (then_reads (λ (at : Location). dir_code at.dir) _ _ _ Any (uint_reads 0 1 (lit< tt)) (λ dir is_dir.
    then_reads (λ (at : Location). at.run) _ _ _ _ (uhyper_reads 0 (max_number - 1) (lit< tt)) (λ run _.
    then_reads (λ (at : Location). at.seq) _ _ _ _ (uhyper_reads 0 (max_number - 1) (lit< tt)) (λ seq _.
    then_reads (λ (at : Location). at.offset) _ _ _ _ (uint_reads 0 max_object_bytes (lit< tt)) (λ offset _.
    by_chain (λ (b : Location). Within 0 (max_object_bytes - b.offset) b.length × Unit {0})
    (λ b e t. (record { low = omega arith; high = omega (arith, t.0.high, e.1) }, tt))
    (λ b e t. (record { low = omega arith; high = omega (arith, t.0.high, e.1) }, tt))
    (last_reads (λ (at : Location). at.length) (λ long. record { dir = dir_of dir; run = run; seq = seq; offset = offset; length = long }) _
    (uint_reads 0 (max_object_bytes - offset) (omega arith))
    (λ b c e f.
    let d : b.dir ≡ dir_of dir = sym (dir_back b.dir) ∙ ap dir_of e.0.0.0.1 in
    let same : record { dir = b.dir; run = b.run; seq = b.seq; offset = b.offset; length = b.length } ≡ record { dir = dir_of dir; run = run; seq = seq; offset = offset; length = c } = cc in
    same)
    (λ c is. ((((tt, code_back dir is_dir), refl), refl), refl)) (λ c. refl)))))))

-- ---- moments

pub moment_reads : Reads moment_at moment_bytes IsMoment
unfolding moment_at moment_bytes
moment_reads = by_reads moment_bytes IsMoment
    (λ b. simp append-nil refl)
    (λ b is. (record { low = omega arith; high = omega (arith, is.0) }, (record { low = omega arith; high = omega (arith, is.1) }, tt)))
    (λ b t. (omega (arith, t.0.high), omega (arith, t.1.0.high)))
    (then_reads (λ (m : Moment). m.seconds) _ _ _ Any (uint_reads 0 max_uint (lit< tt)) (λ seconds _.
    last_reads (λ (m : Moment). m.nanos) (λ nanos. record { seconds = seconds; nanos = nanos }) _ (uint_reads 0 max_uint (lit< tt))
    (λ b c e f. let same : record { seconds = b.seconds; nanos = b.nanos } ≡ record { seconds = seconds; nanos = c } = cc in same)
    (λ c is. (tt, refl)) (λ c. refl)))

pub times_reads : Reads times_at times_bytes AreTimes
unfolding times_at times_bytes
times_reads = by_reads times_bytes AreTimes
    (λ b. simp (append_assoc, append-nil) refl)
    (λ b is. (is.0, (is.1, (is.2, tt))))
    (λ b t. (t.0, t.1.0, t.1.1.0))
    (then_reads (λ (t : Times). t.atime) _ _ _ Any moment_reads (λ atime _.
    then_reads (λ (t : Times). t.mtime) _ _ _ _ moment_reads (λ mtime _.
    last_reads (λ (t : Times). t.ctime) (λ ctime. record { atime = atime; mtime = mtime; ctime = ctime }) _ moment_reads
    (λ b c e f. let same : record { atime = b.atime; mtime = b.mtime; ctime = b.ctime } ≡ record { atime = atime; mtime = mtime; ctime = c } = cc in same)
    (λ c is. ((tt, refl), refl)) (λ c. refl))))

-- ---- who may do what

-- the fields of a node behind its kind, within their limits
pub record IsOwner (links : ℕ) (o : Owner) : Type 0 where
  pub mode : o.mode ≤ max_mode
  pub nlink : o.nlink ≤ links
  pub uid : FitsUint o.uid
  pub gid : FitsUint o.gid

abbrev pub written_owner : Owner → List ℕ
written_owner o = uint o.mode ++ uint o.nlink ++ uint o.uid ++ uint o.gid

pub owner_reads : (links : ℕ) → links < 2 ^ 32 → Reads (owner_at links) written_owner (IsOwner links)
unfolding owner_at
owner_reads links small = by_reads written_owner (IsOwner links)
    (λ b. simp (append_assoc, append-nil) refl)
    (λ b is. (record { low = omega arith; high = is.mode }, (record { low = omega arith; high = is.nlink }, (record { low = omega arith; high = omega (arith, is.uid) }, (record { low = omega arith; high = omega (arith, is.gid) }, tt)))))
    (λ b t. record { mode = t.0.high; nlink = t.1.0.high; uid = omega (arith, t.1.1.0.high); gid = omega (arith, t.1.1.1.0.high) })
    (then_reads (λ (o : Owner). o.mode) _ _ _ Any (uint_reads 0 max_mode (lit< tt)) (λ mode _.
    then_reads (λ (o : Owner). o.nlink) _ _ _ _ (uint_reads 0 links small) (λ nlink _.
    then_reads (λ (o : Owner). o.uid) _ _ _ _ (uint_reads 0 max_uint (lit< tt)) (λ uid _.
    last_reads (λ (o : Owner). o.gid) (λ gid. record { mode = mode; nlink = nlink; uid = uid; gid = gid }) _ (uint_reads 0 max_uint (lit< tt))
    (λ b c e f. let same : record { mode = b.mode; nlink = b.nlink; uid = b.uid; gid = b.gid } ≡ record { mode = mode; nlink = nlink; uid = uid; gid = c } = cc in same)
    (λ c is. (((tt, refl), refl), refl)) (λ c. refl)))))

-- ---- verifiers

abbrev kept_code : Option (List ℕ) → ℕ
kept_code None = 0
kept_code (Some v) = 1

abbrev kept_bytes : Option (List ℕ) → List ℕ
kept_bytes None = []
kept_bytes (Some v) = v

-- what stands behind whether a verifier is kept
abbrev kept_written : Option (List ℕ) → List ℕ
kept_written None = uhyper 0
kept_written (Some v) = v

no_verifier : (b : Option (List ℕ)) → kept_code b ≡ 0 → b ≡ None
no_verifier None e = refl
no_verifier (Some v) e = absurd (omega (arith, e))

some_verifier : (b : Option (List ℕ)) (c : List ℕ) → kept_code b ≡ 1 → kept_bytes b ≡ c → b ≡ Some c
some_verifier None c e f = absurd (omega (arith, e))
some_verifier (Some v) c e f = ap Some f

some_written : (b : Option (List ℕ)) → kept_code b ≡ 1 → kept_bytes b ≡ kept_written b
some_written None e = absurd (omega (arith, e))
some_written (Some v) e = refl

some_long : (b : Option (List ℕ)) → kept_code b ≡ 1 → IsVerifier b → length (kept_bytes b) ≡ 8
some_long None e is = absurd (omega (arith, e))
some_long (Some v) e is = is

some_is : (b : Option (List ℕ)) → kept_code b ≡ 1 → length (kept_bytes b) ≡ 8 → IsVerifier b
some_is None e is = tt
some_is (Some v) e is = is

kept_small : (b : Option (List ℕ)) → Within 0 1 (kept_code b)
kept_small None = record { low = omega arith; high = omega arith }
kept_small (Some v) = record { low = omega arith; high = omega arith }

written : (b : Option (List ℕ)) → uint (kept_code b) ++ kept_written b ≡ verifier_bytes b
unfolding verifier_bytes
written None = refl
written (Some v) = refl

-- the verifier behind whether it is kept
abbrev Kept : ℕ → Option (List ℕ) → Type 0
Kept kept b = Any b × (kept_code b ≡ kept)

kept_chain : (kept : ℕ) → Within 0 1 kept → Chain (kept_or_zero kept) kept_written IsVerifier (Kept kept)
kept_chain zero w =
    written_chain kept_written (λ b e. rw (no_verifier b e.1) (append-nil (uhyper 0)))
    (by_chain IsVerifier (λ b e t. (record { low = omega arith; high = omega arith }, tt)) (λ b e t. rw (no_verifier b e.1) tt)
    (then_reads (λ (b : Option (List ℕ)). 0) (λ none. give None) (λ _. []) (λ _. Unit {0}) (Kept 0) (uhyper_reads 0 0 (lit< tt)) (λ none is.
    done_reads None (λ b. Kept 0 b × (0 ≡ none)) (λ b e. no_verifier b e.0.1) ((tt, refl), omega (arith, is.high)))))
kept_chain (suc zero) w =
    written_chain kept_written (λ b e. append-nil (kept_bytes b) ∙ some_written b e.1)
    (by_chain IsVerifier (λ b e t. (some_long b e.1 t, tt)) (λ b e t. some_is b e.1 t.0)
    (last_reads kept_bytes (λ bytes. Some bytes) (Kept 1) (raw_reads 8) (λ b c e f. some_verifier b c e.1 f) (λ c is. (tt, refl)) (λ c. refl)))
kept_chain (suc (suc n)) w = absurd (omega (arith, w.high))

pub verifier_reads : Reads verifier_at verifier_bytes IsVerifier
unfolding verifier_at verifier_bytes
verifier_reads = by_reads verifier_bytes IsVerifier written (λ b is. (kept_small b, is)) (λ b t. t.1)
    (then_reads kept_code kept_or_zero kept_written IsVerifier Any (uint_reads 0 1 (lit< tt)) kept_chain)
