use Rattle.std.proofs.Common.{◌∙◌, sym, ap, subst, List, [], ◌∷◌, ◌++◌, ◌+◌, inl, inr, arith, drop}
use Rattle.std.proofs.lemmas.List.{take_rest}
use Rattle.alto_rows.specs.declared.key.Key.{Key}
use Rattle.tips_graph.proofs.MergeLemmas.{IsMergedTo, merged_older, merged_both, merged_newer, merged_end}
use Rattle.tips_graph.proofs.keys.merged.Goals as goal
use Rattle.tips_graph.proofs.keys.merged.Goals.{then-loop-i-test+else-j-newer, else-loop-i-test}

pub loop-i-preserved-in-Less : goal.loop-i-preserved-in-Less
loop-i-preserved-in-Less c = record {
  older_within = omega (arith, c.loop-i-test.true);
  newer_within = c.loop-i.invariant.newer_within;
  made =
      subst (λ (keys : List Key). IsMergedTo c.args.older.now c.args.newer.now keys (c.loop-i.i + 1) c.loop-i.j)
      (sym (c.in_ok-push-in-Less.ensures.items ∙ ap (λ (key : Key). c.loop-i.keys.items ++ key ∷ [])
      c.in_ok-copy_of_key-in-Less.ensures))
      (merged_older c.args.older.now c.args.newer.now c.loop-i.keys.items c.loop-i.i c.loop-i.j c.index-older-i.result
      c.index-newer-j.result
      (record {
        older_within = c.loop-i-test.true;
        newer_within = c.if-j-newer.true;
        older_is = c.index-older-i.is;
        newer_is = c.index-newer-j.is;
      })
      (sym c.order.ensures ∙ c.in-Less.is) c.loop-i.invariant.made);
}

pub loop-i-preserved-in-Equal : goal.loop-i-preserved-in-Equal
loop-i-preserved-in-Equal c = record {
  older_within = omega (arith, c.loop-i-test.true);
  newer_within = omega (arith, c.if-j-newer.true);
  made =
      subst (λ (keys : List Key). IsMergedTo c.args.older.now c.args.newer.now keys (c.loop-i.i + 1) (c.loop-i.j + 1))
      (sym (c.in_ok-push-in-Equal.ensures.items ∙ ap (λ (key : Key). c.loop-i.keys.items ++ key ∷ [])
      c.in_ok-copy_of_key-in-Equal.ensures))
      (merged_both c.args.older.now c.args.newer.now c.loop-i.keys.items c.loop-i.i c.loop-i.j c.index-older-i.result
      c.index-newer-j.result
      (record {
        older_within = c.loop-i-test.true;
        newer_within = c.if-j-newer.true;
        older_is = c.index-older-i.is;
        newer_is = c.index-newer-j.is;
      })
      (sym c.order.ensures ∙ c.in-Equal.is) c.loop-i.invariant.made);
}

pub loop-i-preserved : goal.loop-i-preserved
loop-i-preserved c = record {
  older_within = c.loop-i.invariant.older_within;
  newer_within = omega (arith, c.if-j-newer.true);
  made =
      subst (λ (keys : List Key). IsMergedTo c.args.older.now c.args.newer.now keys c.loop-i.i (c.loop-i.j + 1))
      (sym (c.in_ok-push-in-Greater.ensures.items ∙ ap (λ (key : Key). c.loop-i.keys.items ++ key ∷ [])
      c.in_ok-copy_of_key-in-Greater.ensures))
      (merged_newer c.args.older.now c.args.newer.now c.loop-i.keys.items c.loop-i.i c.loop-i.j c.index-older-i.result
      c.index-newer-j.result
      (record {
        older_within = c.loop-i-test.true;
        newer_within = c.if-j-newer.true;
        older_is = c.index-older-i.is;
        newer_is = c.index-newer-j.is;
      })
      (sym c.order.ensures ∙ c.in-Greater.is) c.loop-i.invariant.made);
}

pub returns : goal.returns
returns c = λ one two.
    c.in_ok-append_copies-2.ensures
    ∙ ap (λ (more : List Key). c.append_copies.new.keys.items ++ more) (take_rest c.args.newer.now c.loop-i.j)
    ∙ ap (λ (keys : List Key). keys ++ drop c.loop-i.j c.args.newer.now)
    (c.in_ok-append_copies.ensures ∙ ap (λ (more : List Key). c.loop-i.keys.items ++ more)
    (take_rest c.args.older.now c.loop-i.i))
    ∙ merged_end c.args.older.now c.args.newer.now c.loop-i.keys.items c.loop-i.i c.loop-i.j
    (elim c.loop-i-test.branch [
      | then-loop-i-test+else-j-newer w ↦ inr (omega (arith, w.if-j-newer))
      | else-loop-i-test
          w ↦ inl (omega (arith, w.loop-i-test))
    ])
    c.loop-i.invariant.made one two
