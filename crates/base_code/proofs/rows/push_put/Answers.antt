use Rattle.std.proofs.Common.{◌∷◌, ◌++◌, [], refl, subst}
use Rattle.alto_rows.specs.Rows.{AreSorted}
use Rattle.base_code.proofs.RowLemmas.{one_more}
use Rattle.base_code.proofs.rows.push_put.Goals as goal

pub returns-clause-ok : goal.returns-clause-ok
returns-clause-ok c =
    let value = c.in-Some.value in
    let sorted = subst (λ rows. AreSorted (rows ++ ((c.args.write.key, value) ∷ []))) c.deref.ensures.value
    ((c.if-not-rises.ensures value).0 refl) in
    let items = c.in_ok-push.ensures.items in (
      value,
      one_more c.args.rows.now.items c.push.new.self.items c.args.write value c.requires.rows c.requires.stored
          c.in-Some.is sorted items,
      c.in-Some.is,
      items,
    )
