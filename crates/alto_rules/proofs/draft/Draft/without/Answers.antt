-- The loop went over the keys in order.
use Rattle.std.proofs.Common.{◌≡◌, sym, ap, ◌∙◌, map-id}
use Rattle.std.proofs.lemmas.Map.Iter.{iter_end}
use Rattle.std.specs.Prelude.{List, map}
use Rattle.std.specs.BTreeSet.{IsOrdered}
use Rattle.alto_rows.specs.declared.key.Key.{Key}
use Rattle.alto_rows.specs.declared.write.Write.{Write}
use Rattle.alto_edits.specs.Writes.{deleting}
use Rattle.alto_rules.specs.Draft.{wrote}
use Rattle.alto_rules.proofs.Orders.{by_key_cmp}
use Rattle.alto_rules.proofs.draft.Draft.without.Goals as goal

pub returns-clause-deleted : goal.returns-clause-deleted
returns-clause-deleted g c =
    let given = c.into_iter-key-iterator.ensures.into_iter_gives in
    let all : c.loop-key.yielded ≡ c.args.keys.keys =
    sym (map-id c.loop-key.yielded)
    ∙ (iter_end (λ (x : Key). x) c.args.keys.keys c.loop-key.yielded _ _ _ _ given.0 c.loop-key.yielded_by c.in-None.is
    c.next.ensures.steps).0 in
    c.loop-key.invariant
    ∙ ap (λ (more : List Write). wrote c.args.self more) (ap (λ (keys : List Key). map deleting keys) all)

pub returns-clause-ordered : goal.returns-clause-ordered
returns-clause-ordered g c =
    by_key_cmp (λ R. IsOrdered R c.args.keys) c.into_iter-key-iterator.ensures.into_iter_gives.4

pub returns-in_err-draft-clause-ordered : goal.returns-in_err-draft-clause-ordered
returns-in_err-draft-clause-ordered g c =
    by_key_cmp (λ R. IsOrdered R c.args.keys) c.into_iter-key-iterator.ensures.into_iter_gives.4
