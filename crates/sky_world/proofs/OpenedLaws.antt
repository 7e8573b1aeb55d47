-- Laws of an opening, as the world takes it: what was found, and with which status it is refused.
use Rattle.std.specs.Prelude.{IfErr}
use Rattle.std.proofs.Common.{◌≡◌, ℕ, ◌≤◌, Result, Ok, Err, refl, sym, ap}
use Rattle.sky_base.specs.declared.place.Lost.TheVariants.{Damaged, Missing}
use Rattle.sky_base.specs.declared.status.Status.{Status}
use Rattle.sky_base.specs.declared.status.Status.TheVariants as status
use Rattle.sky_calls.specs.Durable.{DurableView}
use Rattle.sky_nfs.specs.History.{last_tree}
use Rattle.sky_outside.specs.Count.{Counts, Rose}
use Rattle.sky_outside.specs.declared.storage.Storage.{Ghosts}
use Rattle.sky_outside.proofs.CountLaws.{counts_weaker}
use Rattle.sky_recover.specs.Opening.{Found, IsFoundOn, IsOpenOn, IsOpened, WhereBothTold, found_by}
use Rattle.sky_recover.specs.Refusals.{IsRefusedBy, LeavesRefused}
use Rattle.sky_recover.specs.declared.fault.OpenFault.{OpenFault}
use Rattle.sky_recover.specs.declared.fault.OpenFault.TheVariants.{CloudFault, DiskFault, Foreign, Lost, Memory, Worn}
use Rattle.sky_recover.specs.declared.opened.Opened.{Opened}
use Rattle.sky_script.specs.Frame as frame
use Rattle.sky_script.specs.Frame.{OutFrame}
use Rattle.sky_world.specs.Meaning.{opening}
use Rattle.sky_world.specs.Opening.{IsOfOpening, IsRefusedAs, LeavesRefusedAs, status_of}

-- what was found, and the frame that says it
pub opened_as : {S : Type 0} (g : Ghosts S) (volume size : ℕ) (s t : S) (durable : DurableView) (opened : Opened) → IsOpened g volume size s t durable opened
    → (found : Found) × IsFoundOn g volume size s found × IsOpenOn g t found × (durable.tree ≡ last_tree found.history) × (durable.journal ≡ found.journal)
    × (opening found ≡ frame.Opened opened.epoch opened.k opened.journal) × (opened.epoch ≡ found.epoch)
opened_as g volume size s t durable opened is =
    let found : Found = found_by opened is.history durable.journal in
    let said : opening found ≡ frame.Opened opened.epoch opened.k opened.journal = λ i. frame.Opened opened.epoch (sym is.k i) (sym is.journal i) in
    (found, is.found, is.opens, is.tree, refl, said, refl)

pub of_opening : (fault : OpenFault) → IsOfOpening (status_of fault)
of_opening DiskFault = tt
of_opening CloudFault = tt
of_opening Memory = tt
of_opening (Foreign at) = tt
of_opening (Lost (Missing name)) = tt
of_opening (Lost (Damaged name damage)) = tt
of_opening Worn = tt

-- why it is refused
pub refused_as : {S : Type 0} (g : Ghosts S) (volume size : ℕ) (s : S) (fault : OpenFault) → WhereBothTold g s (IsRefusedBy volume size fault) → WhereBothTold g s (IsRefusedAs volume size (status_of fault))
refused_as g volume size s DiskFault is = is
refused_as g volume size s CloudFault is = is
refused_as g volume size s Memory is = is
refused_as g volume size s (Foreign at) is = is
refused_as g volume size s (Lost (Missing name)) is = is
refused_as g volume size s (Lost (Damaged name damage)) is = is
refused_as g volume size s Worn is = is

-- what the refusal left as it was
pub left_as : {S : Type 0} (g : Ghosts S) (s t : S) (fault : OpenFault) → LeavesRefused g s t fault → LeavesRefusedAs g s t (status_of fault)
left_as g s t DiskFault is = is
left_as g s t CloudFault is = is
left_as g s t Memory is = is
left_as g s t (Foreign at) is = is
left_as g s t (Lost (Missing name)) is = is
left_as g s t (Lost (Damaged name damage)) is = is
left_as g s t Worn is = is

-- a sink that failed says nothing of it
pub left_sunk : {T S : Type 0} (r : Result T Status) (g : Ghosts S) (s t : S) → IfErr r (λ why. why ≡ status.SinkFault) → IfErr r (LeavesRefusedAs g s t)
left_sunk (Ok x) g s t is = is
left_sunk (Err why) g s t is = rw is tt

-- how a count of faults went, by its parts
pub counts_of : {failed : Type 0} (a b : ℕ) → a ≤ b → (failed → Rose a b) → ((failed → ⊥) → b ≡ a) → Counts a b failed
counts_of a b grows cause quiet = record { grows = grows; cause = cause; quiet = quiet }

-- which device is blamed
disk_blamed : (fault : OpenFault) → status_of fault ≡ status.JournalFault → fault ≡ DiskFault
disk_blamed DiskFault e = refl
disk_blamed CloudFault e = absurd cc
disk_blamed Memory e = absurd cc
disk_blamed (Foreign at) e = absurd cc
disk_blamed (Lost (Missing name)) e = absurd cc
disk_blamed (Lost (Damaged name damage)) e = absurd cc
disk_blamed Worn e = absurd cc

cloud_blamed : (fault : OpenFault) → status_of fault ≡ status.CloudFault → fault ≡ CloudFault
cloud_blamed DiskFault e = absurd cc
cloud_blamed CloudFault e = refl
cloud_blamed Memory e = absurd cc
cloud_blamed (Foreign at) e = absurd cc
cloud_blamed (Lost (Missing name)) e = absurd cc
cloud_blamed (Lost (Damaged name damage)) e = absurd cc
cloud_blamed Worn e = absurd cc

module _ {X Y : Type 0} (a b : ℕ) (fault : OpenFault) where
  pub counts_disk : Counts a b ((let r : Result X OpenFault = Err fault in r) ≡ Err DiskFault) → Counts a b ((let r : Result Y Status = Err (status_of fault) in r) ≡ Err status.JournalFault)
  counts_disk counts =
      counts_weaker a b counts
      (λ e. let same : fault ≡ DiskFault = cc in ap (λ (f : OpenFault). let r : Result Y Status = Err (status_of f) in r) same)
      (λ e. let same : status_of fault ≡ status.JournalFault = cc in ap (λ (f : OpenFault). let r : Result X OpenFault = Err f in r) (disk_blamed fault same))

  pub counts_cloud : Counts a b ((let r : Result X OpenFault = Err fault in r) ≡ Err CloudFault) → Counts a b ((let r : Result Y Status = Err (status_of fault) in r) ≡ Err status.CloudFault)
  counts_cloud counts =
      counts_weaker a b counts
      (λ e. let same : fault ≡ CloudFault = cc in ap (λ (f : OpenFault). let r : Result Y Status = Err (status_of f) in r) same)
      (λ e. let same : status_of fault ≡ status.CloudFault = cc in ap (λ (f : OpenFault). let r : Result X OpenFault = Err f in r) (cloud_blamed fault same))
