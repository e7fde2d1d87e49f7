use Rattle.std.proofs.Common.{◌≡◌, Some, bytes_eq, codes, sym, ap, ◌∙◌, rules}
use Rattle.std.proofs.lemmas.Slice.Eq.{bytes_eq-Decides}
use Rattle.serde_json.specs.Data.{string}
use Rattle.json_tree.specs.Tree.{data_of}
use Rattle.json_patch.specs.Operations.{operation_of}
use Rattle.json_patch.proofs.operations.reading.read_op.Goals as goal

pub returns-then-eq : goal.returns-then-eq
unfolding operation_of
returns-then-eq c =
    let named : c.in-Some.name.now ≡ codes "remove" =
    (bytes_eq-Decides c.in-Some.name.now (codes "remove")).0 (sym c.eq.ensures ∙ c.if-eq.true) in
    record {
      op = c.in-Some.ensures ∙ ap (λ name. Some (string name)) named;
      path = rw c.in-Some-2.is at c.in_ok-path.ensures;
      value = tt;
    }

pub returns-then-eq-2 : goal.returns-then-eq-2
unfolding operation_of
returns-then-eq-2 c =
    let named : c.in-Some.name.now ≡ codes "add" =
    (bytes_eq-Decides c.in-Some.name.now (codes "add")).0 (sym c.eq-2.ensures ∙ c.if-eq-2.true) in
    let copied : data_of c.in_ok-value.value ≡ data_of c.in-Some-member.value.now = search rules in
    record {
      op = c.in-Some.ensures ∙ ap (λ name. Some (string name)) named;
      path = rw c.in-Some-2.is at c.in_ok-path.ensures;
      value = sym c.in-Some-member.ensures ∙ ap Some (sym copied);
    }

pub returns-then-eq-3 : goal.returns-then-eq-3
unfolding operation_of
returns-then-eq-3 c =
    let named : c.in-Some.name.now ≡ codes "replace" =
    (bytes_eq-Decides c.in-Some.name.now (codes "replace")).0 (sym c.eq-3.ensures ∙ c.if-eq-3.true) in
    let copied : data_of c.in_ok-value.value ≡ data_of c.in-Some-member.value.now = search rules in
    record {
      op = c.in-Some.ensures ∙ ap (λ name. Some (string name)) named;
      path = rw c.in-Some-2.is at c.in_ok-path.ensures;
      value = sym c.in-Some-member.ensures ∙ ap Some (sym copied);
    }
