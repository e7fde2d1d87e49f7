-- What the pieces so far hold is a beginning, whose fields are these.
use Rattle.std.proofs.Common.{◌≡◌, ◌∷◌, ◌++◌, [], length, ◌<◌, ap, sym, subst, ◌∙◌, arith}
use Rattle.std.proofs.lemmas.Result.{IfErr-weaker, err_from_is_err_and, on_ok_weaker}
use Rattle.base_code.specs.Faults.{AreBeginning, IsBeginning, beginning_pieces}
use Rattle.base_code.specs.Parts.{Denies, next_count}
use Rattle.base_code.proofs.NextLemmas.{nothing_more, receipts_add, receipts_stop, rows_add, rows_stop}
use Rattle.base_code.proofs.beginning.Beginning.add.Goals as goal

pub returns-in_err-receipts-clause-stops : goal.returns-in_err-receipts-clause-stops
returns-in_err-receipts-clause-stops c =
    let p = err_from_is_err_and c.from_residual.result c.from_residual.ensures.1 in
    let is = subst IsBeginning (sym c.self.view_is) c.requires in
    let done : c.len.result ≡ length c.self.inside.receipts.items =
    omega (arith, c.len.ensures, c.self.inside.receipts.ok) in
    rw (p.1, p.2) (subst (λ begun. Denies (AreBeginning (beginning_pieces begun ++ (c.args.piece.now ∷ [])))
    c.in_err-receipts.field-0.0) c.self.view_is
    (receipts_stop _ c.args.piece.now c.next_part-count.result c.in_err-receipts.field-0.0 is (c.next_part-count.ensures
    ∙ ap (next_count c.self.inside.b) done) c.if-count-gt0.true
    c.in_err-receipts.ensures.stops))

pub returns-then-count-gt0-clause-ok : goal.returns-then-count-gt0-clause-ok
returns-then-count-gt0-clause-ok c =
    let is = subst IsBeginning (sym c.self.view_is) c.requires in
    let done : c.len.result ≡ length c.self.inside.receipts.items =
    omega (arith, c.len.ensures, c.self.inside.receipts.ok) in
    let more = receipts_add _ c.args.piece.now c.next_part-count.result c.in_ok-receipts.receipts.items
    is (c.next_part-count.ensures ∙ ap (next_count c.self.inside.b) done) c.if-count-gt0.true
    c.in_ok-receipts.ensures.ok in
    rw c.in_ok-append.ensures.items (
      more.is,
      more.pieces
          ∙ ap (λ begun. beginning_pieces begun ++ (c.args.piece.now ∷ [])) c.self.view_is,
    )

pub returns-then-count-eq0-clause-stops : goal.returns-then-count-eq0-clause-stops
returns-then-count-eq0-clause-stops c =
    let is = subst IsBeginning (sym c.self.view_is) c.requires in
    let first : c.len.result ≡ length c.self.inside.receipts.items =
    omega (arith, c.len.ensures, c.self.inside.receipts.ok) in
    let second : c.len-2.result ≡ length c.self.inside.rows.items =
    omega (arith, c.len-2.ensures, c.self.inside.rows.ok) in
    let none : c.next_part-count.result ≡ 0 = omega (arith, c.if-count-gt0.false) in
    subst (λ begun. ¬ (AreBeginning (beginning_pieces begun ++ (c.args.piece.now ∷ [])))) c.self.view_is
    (nothing_more _ c.args.piece.now is (sym (c.next_part-count.ensures ∙ ap (next_count c.self.inside.b) first) ∙ none)
    (sym (c.next_part-count-2.ensures ∙ ap (next_count c.self.inside.count) second) ∙ c.if-count-eq0.true))

pub returns-clause-stops : goal.returns-clause-stops
returns-clause-stops c =
    let is = subst IsBeginning (sym c.self.view_is) c.requires in
    let first : c.len.result ≡ length c.self.inside.receipts.items =
    omega (arith, c.len.ensures, c.self.inside.receipts.ok) in
    let second : c.len-2.result ≡ length c.self.inside.rows.items =
    omega (arith, c.len-2.ensures, c.self.inside.rows.ok) in
    let none : c.next_part-count.result ≡ 0 = omega (arith, c.if-count-gt0.false) in
    IfErr-weaker c.read_rows.result _ _ (λ why never.
    subst (λ begun. Denies (AreBeginning (beginning_pieces begun ++ (c.args.piece.now ∷ []))) why) c.self.view_is
    (rows_stop _ c.args.piece.now c.next_part-count-2.result why
    is (sym (c.next_part-count.ensures ∙ ap (next_count c.self.inside.b) first) ∙ none)
    (c.next_part-count-2.ensures ∙ ap (next_count c.self.inside.count) second) never)) c.read_rows.ensures.stops

pub returns-clause-ok : goal.returns-clause-ok
returns-clause-ok c =
    let is = subst IsBeginning (sym c.self.view_is) c.requires in
    let first : c.len.result ≡ length c.self.inside.receipts.items =
    omega (arith, c.len.ensures, c.self.inside.receipts.ok) in
    let second : c.len-2.result ≡ length c.self.inside.rows.items =
    omega (arith, c.len-2.ensures, c.self.inside.rows.ok) in
    let none : c.next_part-count.result ≡ 0 = omega (arith, c.if-count-gt0.false) in
    let some : 0 < c.next_part-count-2.result = omega (arith, c.if-count-eq0.false) in
    on_ok_weaker c.read_rows.result (λ read.
    let more = rows_add _ c.args.piece.now c.next_part-count-2.result read.0
    is (sym (c.next_part-count.ensures ∙ ap (next_count c.self.inside.b) first) ∙ none)
    (c.next_part-count-2.ensures ∙ ap (next_count c.self.inside.count) second) some read.1 in
    rw read.2 (more.is, more.pieces ∙ ap (λ begun. beginning_pieces begun ++ (c.args.piece.now ∷ [])) c.self.view_is))
    c.read_rows.ensures.ok
