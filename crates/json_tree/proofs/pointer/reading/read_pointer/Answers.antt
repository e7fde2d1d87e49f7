use Rattle.std.proofs.Common.{◌≢◌, nat_eq, [], length, true≢false, sym, ap, ◌∙◌, arith}
use Rattle.std.proofs.lemmas.Str.Pattern.{strip_prefix_char}
use Rattle.json_tree.proofs.PointerLemmas.{breaks_at_start}
use Rattle.json_tree.proofs.pointer.reading.read_pointer.Goals as goal

pub returns-in-None-clause-err : goal.returns-in-None-clause-err
returns-in-None-clause-err c =
    let filled : c.args.text.now ≢ [] =
    λ none. true≢false (sym (c.is_empty.ensures ∙ ap (λ text. nat_eq (length text) 0) none) ∙ c.if-is_empty.false) in
    breaks_at_start c.args.text.now
    filled (rw c.in-None.is at (strip_prefix_char 47 c.args.text.now c.strip_prefix.result
    c.strip_prefix.ensures.cases (omega arith)))
