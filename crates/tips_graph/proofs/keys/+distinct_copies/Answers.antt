-- The sets of both halves are merged.
use Rattle.std.proofs.Common.{◌≡◌, ◌∙◌}
use Rattle.std.proofs.lemmas.Result.{IfOk-weaker}
use Rattle.tips_graph.specs.Keys.{key_set}
use Rattle.tips_graph.proofs.RisingLemmas.{part_set, parts_set}
use Rattle.tips_graph.proofs.keys.+distinct_copies.Goals as goal

pub returns : goal.returns
returns t c =
    let front = c.split_at.result.0.now in
    let back = c.split_at.result.1.now in
    let older : c.deref.result.now ≡ key_set front = c.deref.ensures.value ∙ c.in_ok-older.ensures in
    let newer : c.deref-2.result.now ≡ key_set back = c.deref-2.ensures.value ∙ c.in_ok-newer.ensures in
    IfOk-weaker c.merged.result _ _
    (λ distinct made. made ∙ parts_set c.args.keys.now front back c.deref.result.now c.deref-2.result.now _
    c.split_at.ensures.front c.split_at.ensures.back older newer)
    (c.merged.ensures (part_set front c.deref.result.now older) (part_set back c.deref-2.result.now newer))
