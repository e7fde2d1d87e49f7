use Rattle.std.proofs.Common.{refl}
use Rattle.alto_rows.specs.Order.{key_cmp}
use Rattle.alto_desk.proofs.opening.first_rows.Goals as goal

-- two writes on no rows compute
pub returns : goal.returns
unfolding key_cmp
returns g c = rw (
  c.in_ok-with.ensures,
  c.in_ok-none.ensures,
  c.in_ok-from_str.ensures,
  c.as_str.ensures,
  c.from.ensures,
) refl
