use Rattle.std.proofs.Common.{◌≡◌, Option, Some, None, ap, refl, ◌∙◌, ℕ, List}
use Rattle.std.specs.Borrow.{MutBor}
use Rattle.std.specs.BTreeMap.{is_at, BTreeMap}
use Rattle.std.specs.Map.{keys_of, lookup, set_value}
use Rattle.std.specs.List.Sorted.{IsStrictlySortedBy}
use Rattle.std.specs.Option.{OnSome, option_copied_mut}
use Rattle.std.specs.Ordering.{nat_cmp}
use Rattle.std.specs.Prelude.{IsSome}
use Rattle.sky_nfs.specs.Changes.{put}
use Rattle.sky_nfs.specs.Tree.{Tree, Node, node_at}
use Rattle.std.proofs.lemmas.Map.Steps.{set_value_same}
use Rattle.sky_nodes.specs.Lending.{IsPut}
use Rattle.sky_nodes.proofs.MapLemmas.{lookup-node_at, set-with_node}
use Rattle.sky_nodes.proofs.nodes.Nodes.get_mut.Goals as goal

abbrev tree : ℕ → ℕ → List (ℕ × Node) → Tree
tree volume next ns = record { volume = volume; nodes = ns; next_fileid = next }

-- the tree with the lent node's last value
lent : (t : Tree) (volume next k : ℕ) (ns ms : List (ℕ × Node)) (w : Node) (r : Option (MutBor Node)) → tree volume next ns ≡ t → IsStrictlySortedBy nat_cmp (keys_of ns)
    → option_copied_mut r ≡ lookup (is_at (nat_cmp k)) ns → ms ≡ set_value (is_at (nat_cmp k)) ns w → OnSome r (IsPut t (tree volume next ms) k w)
lent t volume next k ns ms w None view ordered found written = tt
lent t volume next k ns ms w (Some x) view ordered found written =
    let there : IsSome (lookup (is_at (nat_cmp k)) ns) = rw (← found) refl in
    let same : node_at t.nodes k ≡ Some w → tree volume next ms ≡ t = λ h.
    let found : lookup (is_at (nat_cmp k)) ns ≡ Some w = lookup-node_at k ns ∙ ap (λ (t : Tree). node_at t.nodes k) view ∙ h in
    ap (tree volume next) (written ∙ set_value_same (is_at (nat_cmp k)) ns w found) ∙ view in
    (ap (tree volume next) (written ∙ set-with_node k w ns ordered there) ∙ ap (λ (t : Tree). put t k w) view, same)

pub returns : goal.returns
returns c =
    let i = c.self.inside in
    let k = c.args.fileid in (
      (
        refl,
        λ w. lent c.args.self.now i.volume i.next_fileid k i.nodes.entries (c.get_mut.follows.lender w).entries w c.get_mut.result c.self.view_is c.self.invariant c.get_mut.ensures.value (c.get_mut.follows.holds w).0,
        ap (λ (m : BTreeMap ℕ Node). tree i.volume i.next_fileid m.entries) c.get_mut.follows.holds-at-none ∙ c.self.view_is,
      ),
      record {
        writes_back = tt;
        value = c.get_mut.ensures.value ∙ lookup-node_at k i.nodes.entries ∙ ap (λ (t : Tree). node_at t.nodes k) c.self.view_is;
      },
    )
