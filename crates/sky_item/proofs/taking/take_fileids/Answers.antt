use Rattle.std.proofs.Common.{◌≡◌, ℕ, Vec, Global, ◌+◌, ◌-◌, Ok, Err, refl, sym, subst, ◌∙◌}
use Rattle.std.proofs.lemmas.Result.{err_from_is_err_and}
use Rattle.sky_base.specs.Limits.{max_fileid}
use Rattle.sky_item.specs.Reading.{uhyper_within}
use Rattle.sky_item.specs.Fields.{fileids_at}
use Rattle.sky_item.specs.Taking.{Takes}
use Rattle.sky_item.proofs.Each.{after-push, each_none, each_more, each_refused, pushed}
use Rattle.sky_item.proofs.taking.take_fileids.Goals as goal

pub loop-init : goal.loop-init
loop-init c = record {
  taken = rw c.in_ok-items.ensures.items (each_none (λ least. uhyper_within least (max_fileid - 1)) (λ least fileid. fileid + 1) 0 c.args.reader.now);
  state = rw c.in_ok-items.ensures.items refl;
}

pub returns-in_err-fileid : goal.returns-in_err-fileid
unfolding fileids_at
returns-in_err-fileid c =
    let p = err_from_is_err_and c.from_residual-in_err-fileid.result c.from_residual-in_err-fileid.ensures.1 in
    rw (p.1, p.2)
    (each_refused (λ least. uhyper_within least (max_fileid - 1)) (λ least fileid. fileid + 1) (λ (v : Vec ℕ Global). v.items) c.loop.counter c.args.count 0 c.args.reader.now c.loop.items.items c.loop.reader c.take_u64.new.reader c.in_err-fileid.field-0.0
    c.loop.invariant.taken (subst (λ (s : ℕ). Takes (Err c.in_err-fileid.field-0.0) c.take_u64.new.reader (uhyper_within s (max_fileid - 1) c.loop.reader)) c.loop.invariant.state c.in_err-fileid.ensures.exact) c.loop-test.true)

pub loop-preserved : goal.loop-preserved
loop-preserved c =
    let items = pushed c.push.result c.push.new.self.items c.loop.items.items c.in_ok-fileid.fileid c.in_ok-map_err.ensures.variant c.push.ensures.items in
    record {
      taken = rw items (each_more (λ least. uhyper_within least (max_fileid - 1)) (λ least fileid. fileid + 1) c.loop.counter 0 c.args.reader.now c.loop.items.items c.loop.reader c.in_ok-fileid.fileid c.take_u64.new.reader c.loop.invariant.taken (subst (λ (s : ℕ). uhyper_within s (max_fileid - 1) c.loop.reader ≡ Ok (c.in_ok-fileid.fileid, c.take_u64.new.reader)) c.loop.invariant.state c.in_ok-fileid.ensures.exact));
      state = rw items (refl ∙ sym (after-push (λ least fileid. fileid + 1) 0 c.loop.items.items c.in_ok-fileid.fileid));
    }
