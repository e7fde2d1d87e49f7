use Rattle.std.proofs.Common.{ℕ, List, get_or, take, ap, sym, ◌∙◌}
use Rattle.std.proofs.lemmas.List.{take_all, take_more}
use Rattle.alto_book.specs.Walks.{document_at}
use Rattle.alto_drill.specs.Trials.{contents_of, TrialData, with_contents, with_edges}
use Rattle.alto_drill.proofs.TrialLemmas.{with_more, with_none}
use Rattle.alto_drill.proofs.patches.try_edges.Goals as goal

pub loop-i-init : goal.loop-i-init
loop-i-init g c = λ book is. with_none book c.args.of.now c.args.trials.now

pub try_edge-requires : goal.try_edge-requires
try_edge-requires g c = (c.requires.0, c.requires.1, c.requires.2 c.loop-i.i-index (0, 0) c.loop-i-test.true)

pub loop-i-preserved : goal.loop-i-preserved
loop-i-preserved g c = λ book is.
    let edge : ℕ × ℕ = get_or c.args.edges.now c.loop-i.i-index (0, 0) in
    c.in_ok-try_edge.ensures book is
    ∙ ap (λ (trials : TrialData). with_contents (document_at book c.args.of.now edge.0)
    (document_at book c.args.of.now edge.1) (contents_of book c.args.of.now edge) trials)
    (c.loop-i.invariant book is)
    ∙ with_more book c.args.of.now (take c.loop-i.i-index c.args.edges.now) edge c.args.trials.now
    ∙ ap (λ (edges : List (ℕ × ℕ)). with_edges book c.args.of.now edges c.args.trials.now)
    (sym (take_more c.args.edges.now c.loop-i.i-index (0, 0) c.loop-i-test.true))

pub returns : goal.returns
returns g c = λ book is.
    c.loop-i.invariant book is
    ∙ ap (λ (edges : List (ℕ × ℕ)). with_edges book c.args.of.now edges c.args.trials.now)
    (take_all c.loop-i.i-index c.args.edges.now c.loop-i-test.false)
