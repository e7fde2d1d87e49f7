use Rattle.std.proofs.Common.{◌≡◌, ◌+◌, ◌<◌, ◌≤◌, [], ◌∷◌, ◌++◌, None, ap, sym, ◌∙◌, subst, arith, vec_len, length}
use Rattle.std.proofs.lemmas.List.Elements.{All-push}
use Rattle.std.specs.List.{All}
use Rattle.pid_prefix.specs.declared.block.Block.{Block}
use Rattle.pid_prefix.specs.declared.range.Range.{Range}
use Rattle.pid_prefix.specs.Bits.{end_of}
use Rattle.pid_prefix.specs.Sweep.{IsInnermostAround, IsSwept, innermost_row}
use Rattle.pid_prefix.proofs.SweepLemmas.{all_past, outer_of, popped}
use Rattle.pid_prefix.proofs.sweep.close_until.Goals as goal

pub loop-last-preserved : goal.loop-last-preserved
loop-last-preserved c =
    let some : (block : Block) × IsInnermostAround c.deref.result.now block
    × (c.in-Some.last + 1 ≡ end_of block.first block.len) × (c.in-Some.last < c.args.number) =
    c.in-Some.ensures.some in
    let around = c.loop-last.around.items in
    let outer = some.1.0 in
    let parts : around ≡ outer ++ some.0 ∷ [] = sym c.deref.ensures.value ∙ some.1.1 in
    let whole : vec_len c.loop-last.around ≡ length around = c.loop-last.around.ok.0 in
    let left : c.pop.new.self.items ≡ outer = c.pop.ensures.rest
    ∙ outer_of around outer some.0 (vec_len c.loop-last.around) parts whole in
    let row : c.row_around.result ≡ innermost_row None outer = c.row_around.ensures
    ∙ ap (innermost_row None) (c.deref-in-Some.ensures.value ∙ left) in
    let range : Range = record { first = c.in-Some.last + 1; row = c.row_around.result } in
    let pushed : c.push.new.self.items ≡ c.loop-last.ranges.items ++ range ∷ [] = c.in_ok-push.ensures.items in
    record {
      swept = λ blocks h. subst (IsSwept blocks c.push.new.self.items) (sym left)
          (popped blocks c.loop-last.ranges.items c.push.new.self.items around outer some.0 c.in-Some.last
          c.row_around.result parts some.2 row pushed (c.loop-last.invariant.swept blocks h));
      by = λ h. subst (All (λ r. r.first ≤ c.args.number)) (sym pushed)
          (All-push (λ r. r.first ≤ c.args.number) c.loop-last.ranges.items
          range (c.loop-last.invariant.by h) (omega arith));
    }

pub returns-clause-swept : goal.returns-clause-swept
returns-clause-swept c = λ blocks h.
    let swept = c.loop-last.invariant.swept blocks h in (
      swept,
      all_past blocks c.loop-last.ranges.items c.loop-last.around.items c.args.number swept
          (λ block is. c.in_default.ensures.none
          block (subst (λ all. IsInnermostAround all block) (sym c.deref.ensures.value) is)),
    )
