-- Write by write the costs are those of rows after it.
use Rattle.std.proofs.Common.{◌≡◌, ◌++◌, ◌∷◌, ◌+◌, ◌∙◌, [], ap, length, refl, subst, sym, take, zip}
use Rattle.std.proofs.lemmas.List.{take_all, take_more}
use Rattle.alto_rows.specs.Rows.{after}
use Rattle.alto_rows.proofs.WriteLemmas.{after-push, sorted_after}
use Rattle.cost_tables.specs.Tables.{HasCostsOf}
use Rattle.cost_tables.proofs.from_source.FromSource.overwritten.Goals as goal

pub loop-write-init : goal.loop-write-init
loop-write-init c =
    let names = c.args.self.now.1.list.names in
    let own : c.in_ok-costs.costs ≡ c.costs.result.now = c.in_ok-costs.ensures in
    record {
      even = ap length own ∙ c.costs.ensures.even;
      told = λ before sorted had.
          subst (HasCostsOf before c.args.net.now c.args.metric.now c.args.self.now.0)
          (sym (ap (zip names) own ∙ c.costs.ensures.costs)) had;
    }

pub overwrite-requires : goal.overwrite-requires
overwrite-requires c =
    c.loop-write.invariant.even ∙ sym (ap (λ list. length list.names) c.destinations.ensures)

pub loop-write-preserved : goal.loop-write-preserved
loop-write-preserved c =
    let writes = c.args.writes.now in
    let i = c.loop-write.write-index in
    let write = c.write-item.result in
    let more : take (i + 1) writes ≡ take i writes ++ write ∷ [] =
    rw (take_more writes i write c.loop-write-test.true, ← c.write-item.is) refl in
    record {
      even = c.overwrite.ensures.even ∙ c.loop-write.invariant.even;
      told = λ before sorted had.
          let told = c.overwrite.ensures.told c.if-not-overwrite.false (after before (take i writes))
          (sorted_after before (take i writes) sorted) in
          rw (more, after-push before (take i writes) write)
          (rw (c.source.ensures, c.destinations.ensures) at (told
          (rw (c.source.ensures, c.destinations.ensures) (c.loop-write.invariant.told before sorted had))));
    }

pub with_costs-requires : goal.with_costs-requires
with_costs-requires c = c.loop-write.invariant.even

pub returns-clause-costs : goal.returns-clause-costs
returns-clause-costs c before sorted had =
    let writes = c.args.writes.now in
    rw c.in_ok-with_costs.ensures.costs
    (subst (λ so_far. HasCostsOf (after before so_far) c.args.net.now c.args.metric.now c.args.self.now.0
    (zip c.args.self.now.1.list.names c.loop-write.costs))
    (take_all c.loop-write.write-index writes c.loop-write-test.false) (c.loop-write.invariant.told before sorted had))
