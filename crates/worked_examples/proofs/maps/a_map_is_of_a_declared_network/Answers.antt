use Rattle.std.proofs.Common.{◌≡◌, refl, arith, codes, [], ◌∷◌}
use Rattle.std.proofs.lemmas.Fmt.{decimal_digit}
use Rattle.alto_rows.specs.Order.{key_cmp, resource_cmp}
use Rattle.json_tree.specs.Document.{with_member, object_of}
use Rattle.json.specs.Print.{escape_byte}
use Rattle.percent_encoding.specs.Percent.{percent_decode}
use Rattle.serde_json.specs.Data.{string}
use Rattle.alto_book.specs.Book.{rows_of}
use Rattle.alto_maps.specs.Shape.{document}
use Rattle.net_docs.specs.NetworkMap as net
use Rattle.worked_examples.proofs.Decimals.{decimal_three}
use Rattle.worked_examples.proofs.WrittenBook.{metro_book-written, written_book}
use Rattle.worked_examples.proofs.maps.a_map_is_of_a_declared_network.Goals as goal

-- the map at the last number
last_map : net.network_map (rows_of (written_book 8)) (codes "metro")
    ≡ object_of
    ((
      codes "meta",
      object_of ((
        codes "vtag",
        object_of ((codes "resource-id", string (codes "metro"))
            ∷ (codes "tag", string (codes "e1-4")) ∷ []),
      ) ∷ []),
    )
    ∷ (
      codes "network-map",
      object_of ((codes "east", object_of []) ∷ (codes "south", object_of [])
          ∷ (codes "west", object_of []) ∷ []),
    )
    ∷ [])
unfolding key_cmp resource_cmp document
last_map = rw (decimal_digit 4 (omega arith)) refl

pub returns-clause-declared : goal.returns-clause-declared
unfolding key_cmp resource_cmp with_member escape_byte percent_decode
returns-clause-declared c = rw (metro_book-written 8, last_map) refl

pub returns-clause-unknown : goal.returns-clause-unknown
unfolding key_cmp resource_cmp with_member escape_byte percent_decode
returns-clause-unknown c = rw (metro_book-written 8, decimal_three 404 (omega arith) (omega arith)) refl
