use Rattle.std.proofs.Common.{refl, arith}
use Rattle.std.proofs.lemmas.Fmt.{decimal_digit}
use Rattle.alto_rows.specs.Order.{key_cmp, resource_cmp}
use Rattle.json_tree.specs.Document.{with_member}
use Rattle.json.specs.Print.{escape_byte}
use Rattle.alto_asks.specs.Asks.{optional_text}
use Rattle.alto_answers.specs.Opening.{opened, view_reply, held_number}
use Rattle.alto_answers.specs.Authority.{authority_of, is_authority, is_bracketed, is_named, is_name, is_address}
use Rattle.alto_answers.specs.Authority.{is_port, follows_host, follows_address}
use Rattle.worked_examples.proofs.WrittenBook.{metro_book-written}
use Rattle.worked_examples.proofs.views.a_view_tells_the_longest_edge_onward.Goals as goal

pub returns : goal.returns
unfolding key_cmp resource_cmp with_member escape_byte optional_text opened view_reply held_number authority_of
    is_authority is_bracketed is_named is_name is_address is_port follows_host follows_address
returns c = rw (
  metro_book-written 8,
  decimal_digit 1 (omega arith),
  decimal_digit 2 (omega arith),
  decimal_digit 2 (omega arith),
  decimal_digit 4 (omega arith),
) refl
