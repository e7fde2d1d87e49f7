use Rattle.std.proofs.Common.{rules, ◌≡◌, ◌-◌, ◌<◌, ◌≤◌, None, ◌∷◌, arith, ap, sym, ◌∙◌, subst, length, get_or, suc}
use Rattle.std.proofs.Common.{option_copied}
use Rattle.std.specs.List.Sorted.{IsNonDecreasingBy}
use Rattle.pid_prefix.specs.Index.{EndsIn}
use Rattle.pid_prefix.proofs.RangesLemmas.{firsts_rise, length-zipped, pid_at-begun}
use Rattle.pid_prefix.proofs.ranges.Ranges.pid_at.Goals as goal

pub count_begun-requires-clause-rise : goal.count_begun-requires-clause-rise
count_begun-requires-clause-rise g c =
    let t = c.self.inside in
    subst (IsNonDecreasingBy g.N.Number.value) (sym c.deref.ensures.value)
    (firsts_rise g.N.Number.value t.firsts.items t.pids c.self.invariant.0
    (subst (IsNonDecreasingBy (λ range. range.0)) (sym c.self.view_is) c.requires))

pub count_begun-requires-clause-part : goal.count_begun-requires-clause-part
count_begun-requires-clause-part g c =
    let t = c.self.inside in
    let value = g.N.Number.value in
    let rise = firsts_rise value t.firsts.items t.pids c.self.invariant.0
    (subst (IsNonDecreasingBy (λ range. range.0)) (sym c.self.view_is) c.requires) in
    let many : length t.firsts.items ≡ c.len.result = search rules in
    subst (λ firsts. EndsIn value firsts c.args.sought.now c.part-begun.result.0 c.part-begun.result.1)
    (sym c.deref.ensures.value)
    (c.part-begun.ensures t.firsts.items many (c.self.invariant.1 rise))

pub returns-in_err-last-clause-pid : goal.returns-in_err-last-clause-pid
returns-in_err-last-clause-pid g c =
    let t = c.self.inside in
    let found = pid_at-begun g.N.Number.value t.firsts.items c.deref.result.now t.pids c.args.self.now
    c.args.sought.now c.count_begun.result c.deref.ensures.value c.self.view_is c.self.invariant.0
    c.count_begun.ensures.within c.count_begun.ensures.begun in
    let none : c.count_begun.result ≡ 0 = omega (arith, c.in_err-last.ensures) in
    ap option_copied c.from_residual.ensures ∙ (sym (ap (λ at. get_or (None ∷ t.pids) at None) none) ∙ found)

pub returns-in_err-last-clause-cost : goal.returns-in_err-last-clause-cost
returns-in_err-last-clause-cost g c =
    let t = c.self.inside in
    let many = length-zipped g.N.Number.value t.firsts.items t.pids c.self.invariant.0 in
    omega (arith, c.count_begun.ensures.cost, many, ap length c.deref.ensures.value, ap length c.self.view_is)

pub returns-clause-pid : goal.returns-clause-pid
returns-clause-pid g c =
    let t = c.self.inside in
    let last = c.in_ok-last.last in
    let is : (1 ≤ c.count_begun.result) × (last ≡ c.count_begun.result - 1) = c.in_ok-last.ensures in
    let found = pid_at-begun g.N.Number.value t.firsts.items c.deref.result.now t.pids c.args.self.now
    c.args.sought.now c.count_begun.result c.deref.ensures.value c.self.view_is c.self.invariant.0
    c.count_begun.ensures.within c.count_begun.ensures.begun in
    let behind : c.count_begun.result ≡ suc last = omega (arith, is.0, is.1) in
    let low : last < length t.pids = omega (
      arith,
      is.0,
      is.1,
      c.count_begun.ensures.within,
      ap length c.deref.ensures.value,
      c.self.invariant.0,
    ) in
    c.at.ensures ∙ (ap (λ at. get_or (None ∷ t.pids) at None) (sym behind) ∙ found)

pub returns-clause-cost : goal.returns-clause-cost
returns-clause-cost g c =
    let t = c.self.inside in
    let many = length-zipped g.N.Number.value t.firsts.items t.pids c.self.invariant.0 in
    omega (arith, c.count_begun.ensures.cost, many, ap length c.deref.ensures.value, ap length c.self.view_is)
