-- The imports of a drill: a network of eight PIDs, and after that in each import a prefix, a cost and a property more.
use Rattle.std.specs.Prelude.{ℕ, ◌-◌, ◌*◌, ◌/◌, ◌%◌, ◌==◌, List, [], ◌∷◌, ◌++◌, fold, map, if◌then◌else◌, codes}
use Rattle.std.specs.Prelude.{decimal}
use Rattle.std.specs.List.{range_with_len}
use Rattle.sha2.specs.Sha256.{sha256}
use Rattle.alto_addr.specs.declared.addr.Addr.TheVariants.{V4}
use Rattle.alto_addr.specs.declared.prefix.Prefix.{Prefix}
use Rattle.alto_addr.specs.Text.{number_after}
use Rattle.alto_rows.specs.declared.entity.Entity.TheVariants as entity
use Rattle.alto_edits.specs.declared.edit.Edit.{Edit}
use Rattle.alto_edits.specs.declared.edit.Edit.TheVariants as edit
use Rattle.alto_edits.specs.declared.edit.PropValue.TheVariants as property
use Rattle.alto_book.specs.Acceptance.{accept}
use Rattle.alto_book.specs.Book.{Book, opening_book}
use Rattle.alto_book.specs.Import.{Import}
use Rattle.alto_drill.specs.Blocks.{is_block}
use Rattle.alto_drill.specs.declared.choice.Choice.{Choice}
use Rattle.alto_drill.specs.Draws.{draw, state_after}

-- the names of the network, of its metric and of the property
abbrev pub net_name : List ℕ
net_name = codes "d"

abbrev pub metric_name : List ℕ
metric_name = codes "routingcost"

abbrev pub property_name : List ℕ
property_name = codes "color"

-- the name of a PID, by its number
abbrev pub pid_name : ℕ → List ℕ
pid_name m = codes "p" ++ decimal m

-- the edits of the first import
unfoldable pub opening_edits : List Edit
opening_edits =
    edit.NetAdd net_name ∷ (map (λ m. edit.PidAdd net_name (pid_name m)) (range_with_len 0 8)
    ++ edit.MetricAdd net_name metric_name ∷ [])

-- what an import chooses by six draws from a state, in this order
unfoldable pub choice_from : ℕ → Choice
choice_from x = record {
  owner = draw x 1 % 8;
  source = draw x 2 % 8;
  destination = draw x 3 % 8;
  cost = draw x 4 % 1000;
  holder = draw x 5 % 8;
  color = draw x 6 % 1000;
}

-- each fifth import withdraws a PID and declares it again
abbrev pub renewal_edits : ℕ → List Edit
renewal_edits k =
    let pid = pid_name (k / 5 % 8) in
    if k % 5 == 0 then edit.PidDrop net_name pid ∷ edit.PidAdd net_name pid ∷ [] else []

-- the prefix of import k: 10.<k / 256>.<k mod 256>.0/24
unfoldable pub prefix_of : ℕ → Prefix
prefix_of k = record {
  addr = V4 (number_after 256 0 (10 ∷ k / 256 ∷ k % 256 ∷ 0 ∷ []));
  len = 24;
  is_prefix = is_block (number_after 256 0 (10 ∷ k / 256 ∷ k % 256 ∷ []));
}

-- the edits of import k, from the second on
unfoldable pub later_edits : ℕ → Choice → List Edit
later_edits k choice =
    renewal_edits k
    ++ edit.PrefixPut net_name (pid_name choice.owner) (prefix_of k)
    ∷ edit.CostPut net_name metric_name (pid_name choice.source) (pid_name choice.destination) choice.cost
    ∷ edit.PropPut net_name (entity.Pid (pid_name choice.holder)) property_name (property.Number choice.color)
    ∷ []

-- the edits of import k, where the generator stands at a state before it
unfoldable pub edits_from : ℕ → ℕ → List Edit
edits_from x k = if k == 1 then opening_edits else later_edits k (choice_from x)

-- the id of import k
abbrev pub import_id : ℕ → List ℕ
import_id k = codes "drill-" ++ decimal k

-- import k, where the generator stands at a state before it
unfoldable pub import_from : ℕ → ℕ → Import
import_from x k = record { id = import_id k; digest = sha256 (import_id k); edits = edits_from x k }

-- import k of the drill of a number: the second takes the first six draws, each later one the next six
unfoldable pub drill_import : ℕ → ℕ → Import
drill_import number k = import_from (state_after number (6 * (k - 2))) k

-- a book after imports that came at moment 0
abbrev pub book_after : Book → List Import → Book
book_after book imports = fold (λ book import. (accept book import 0).book) book imports

-- the book of a drill
unfoldable pub drill_book : ℕ → ℕ → Book
drill_book number batches =
    book_after (opening_book (codes "drill") 8) (map (drill_import number) (range_with_len 1 batches))
