use Rattle.std.proofs.Common.{◌≡◌, [], ◌∷◌, ◌++◌, sym, ap, ◌∙◌, subst, arith, rules, append_assoc, nat_cmp}
use Rattle.std.proofs.lemmas.Result.{on_ok_weaker}
use Rattle.std.specs.Cmp.Lexicographic.{slice_cmp}
use Rattle.std.specs.List.Sorted.{IsStrictlySortedBy}
use Rattle.std.specs.Map.{keys_of}
use Rattle.json.specs.Token.{begin_array, begin_object, key}
use Rattle.json.specs.Tree.{json_tokens, items_tokens, members_tokens}
use Rattle.serde_json.specs.Written.{outline, items_outline, members_outline}
use Rattle.serde_json.proofs.Numbers.{number_of-decimal}
use Rattle.json_tree.specs.Tree.{data_of, items_data, entries_data}
use Rattle.json_tree.proofs.Objects.{Entry, put_last}
use Rattle.json_tree.proofs.Trees.{data_of_num, data_of_list, data_of_object}
use Rattle.json_tree.proofs.writing.+write.Goals as goal

pub write-returns-in-Num-clause-reads : goal.write-returns-in-Num-clause-reads
write-returns-in-Num-clause-reads t c =
    let seen = ap data_of c.in-Num.is ∙ data_of_num c.in-Num.number in
    on_ok_weaker c.u64.result (λ _. rw (seen, number_of-decimal c.in-Num.number (omega arith))) c.u64.ensures.ok

pub write-returns-in_ok-begin_array-in-List-clause-tokens : goal.write-returns-in_ok-begin_array-in-List-clause-tokens
write-returns-in_ok-begin_array-in-List-clause-tokens t c =
    let seen = ap data_of c.in-List.is ∙ data_of_list c.in-List.trees in
    let opened : c.begin_array.new.self.tokens ≡ c.args.out.now.tokens ++ begin_array ∷ [] = search rules in
    on_ok_weaker c.write_items.result (λ e. e
    ∙ ap (λ ts. ts ++ items_tokens (items_outline (items_data c.in-List.trees.items))) opened
    ∙ append_assoc _ (begin_array ∷ []) _ ∙ ap (λ d. c.args.out.now.tokens ++ json_tokens (outline d)) (sym seen))
    c.write_items.ensures.tokens

pub write-returns-in_ok-begin_object-in-Object-clause-tokens :
    goal.write-returns-in_ok-begin_object-in-Object-clause-tokens
write-returns-in_ok-begin_object-in-Object-clause-tokens t c =
    let seen = ap data_of c.in-Object.is ∙ data_of_object c.in-Object.members in
    let opened : c.begin_object.new.self.tokens ≡ c.args.out.now.tokens ++ begin_object ∷ [] = search rules in
    on_ok_weaker c.write_members.result (λ e. e
    ∙ ap (λ ts. ts ++ members_tokens (members_outline (entries_data c.in-Object.members.entries))) opened
    ∙ append_assoc _ (begin_object ∷ []) _ ∙ ap (λ d. c.args.out.now.tokens ++ json_tokens (outline d)) (sym seen))
    c.write_members.ensures.tokens

pub write_members-loop-name-preserved : goal.write_members-loop-name-preserved
write_members-loop-name-preserved t c =
    let l = c.loop-name in
    let done = l.invariant.reads.0 in
    let e : Entry = (c.in-Some.name.now, c.in-Some.tree.now) in
    let left = c.next.new.self in
    let step : l.name-iterator ≡ e ∷ left = c.in-Some.ensures.steps in
    let all : c.args.members.now.entries ≡ done ++ e ∷ left = l.invariant.reads.1 ∙ ap (λ es. done ++ es) step in
    let last = put_last done e left (subst (λ es. IsStrictlySortedBy (slice_cmp nat_cmp) (keys_of es)) all
    c.iter-name-items.ensures.ordered) in
    let named : c.key.new.self.tokens ≡ l.out.tokens ++ key e.0 ∷ [] = search rules in
    record {
      before = search rules;
      tokens = rw (c.in_ok-write.ensures.tokens, named)
          (simp append_assoc (ap (λ es. l.out.tokens ++ members_tokens (members_outline (entries_data es))) (sym step)
          ∙ l.invariant.tokens));
      reads = (
        done ++ e ∷ [],
        all ∙ sym (append_assoc done (e ∷ []) left),
        λ rest. l.invariant.reads.2 (
            rw (step, c.in_ok-write.ensures.reads, last) rest),
      );
      whole = rw c.in_ok-write.ensures.whole at (rw step at l.invariant.whole);
    }
