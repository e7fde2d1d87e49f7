-- What the pieces hold is a beginning, whose fields are these.
use Rattle.std.proofs.Common.{◌≡◌, length, ap, sym, subst, ◌∙◌, arith}
use Rattle.base_code.specs.Faults.{AreOfBase, BeginningData, IsBeginning, beginning_pieces}
use Rattle.base_code.proofs.BaseLemmas.{IsWhole, base_is, is_base, whole_if_base}
use Rattle.base_code.proofs.beginning.Beginning.base.Goals as goal

pub returns-then-len-self : goal.returns-then-len-self
returns-then-len-self c = λ of.
    let is = subst IsBeginning (sym c.self.view_is) c.requires in
    let all = whole_if_base _ is (subst (λ begun. AreOfBase (beginning_pieces begun)) (sym c.self.view_is) of) in
    omega (arith, all.receipts, c.if-len-self.true, c.len.ensures, c.self.inside.receipts.ok)

pub returns-then-len-self-2 : goal.returns-then-len-self-2
returns-then-len-self-2 c = λ of.
    let is = subst IsBeginning (sym c.self.view_is) c.requires in
    let all = whole_if_base _ is (subst (λ begun. AreOfBase (beginning_pieces begun)) (sym c.self.view_is) of) in
    omega (arith, all.rows, c.if-len-self-2.true, c.len-2.ensures, c.self.inside.rows.ok)

pub returns : goal.returns
returns c =
    let is = subst IsBeginning (sym c.self.view_is) c.requires in
    let receipts : length c.self.inside.receipts.items ≡ c.self.inside.b =
    omega (arith, is.first_receipts.within, c.if-len-self.false, c.len.ensures, c.self.inside.receipts.ok) in
    let rows : length c.self.inside.rows.items ≡ c.self.inside.count =
    omega (arith, is.first_rows.within, c.if-len-self-2.false, c.len-2.ensures, c.self.inside.rows.ok) in
    let inside = c.self.inside in
    let begun : BeginningData = record {
      b = inside.b;
      count = inside.count;
      receipts = inside.receipts.items;
      rows = inside.rows.items;
    } in
    let all : IsWhole begun = record { receipts = receipts; rows = rows } in
    (is_base begun is all, ap beginning_pieces (sym c.self.view_is) ∙ base_is begun is all)
