-- The entry of a change begins with its length.
use Rattle.std.proofs.Common.{◌≡◌, ◌<◌, ◌^◌, ℕ, List, ◌++◌, length, take, ap, ◌∙◌, refl, arith, length-append}
use Rattle.std.specs.Int.{w32, to_be_bytes, from_be_bytes}
use Rattle.std.proofs.lemmas.List.{take_at}
use Rattle.std.proofs.lemmas.Nat.{from_be_bytes-to_be_bytes_4}
use Rattle.sky_nfs.specs.declared.call.Change.{Change}
use Rattle.sky_xdr.specs.Encoding.{uint}
use Rattle.sky_entry.specs.Entry.{body_bytes, entry_bytes}
use Rattle.sky_journal.specs.Journal.{IsFramed}
use Rattle.sky_journal.specs.Layout.{number_4}

framed : (body : List ℕ) → length body < 2 ^ 32 → IsFramed (uint (length body) ++ body)
unfolding uint number_4
framed body fits = record {
  least = omega (arith, length-append (to_be_bytes w32 (length body)) body);
  length_is =
      let number : from_be_bytes w32 (take 4 (to_be_bytes w32 (length body) ++ body)) ≡ length body =
      ap (λ (l : List ℕ). from_be_bytes w32 l) (take_at (to_be_bytes w32 (length body)) body 4 refl) ∙ from_be_bytes-to_be_bytes_4 (length body) fits in
      omega (arith, number, length-append (to_be_bytes w32 (length body)) body);
}

pub entry_framed : (c : Change) → length (entry_bytes c) < 2 ^ 32 → IsFramed (entry_bytes c)
unfolding entry_bytes uint
entry_framed c fits = framed (body_bytes c) (omega (arith, fits, length-append (to_be_bytes w32 (length (body_bytes c))) (body_bytes c)))
