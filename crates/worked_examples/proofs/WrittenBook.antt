-- The book after the story, written out.
use Rattle.std.proofs.Common.{◌≡◌, ℕ, List, [], ◌∷◌, Some, codes, refl}
use Rattle.alto_rows.specs.declared.key.Key.{Key}
use Rattle.alto_rows.specs.declared.key.Key.TheVariants as key
use Rattle.alto_rows.specs.declared.resource.Resource.TheVariants as resource
use Rattle.alto_rows.specs.declared.value.Value.TheVariants as value
use Rattle.alto_rows.specs.declared.write.Write.{Write}
use Rattle.alto_rows.specs.Accepted.{Accepted}
use Rattle.alto_rows.specs.Order.{key_cmp, resource_cmp}
use Rattle.alto_edits.specs.Rules.{broken_rule}
use Rattle.alto_book.specs.Acceptance.{accept}
use Rattle.alto_book.specs.Book.{Book, opening_rows}
use Rattle.worked_examples.specs.Story.{metro_book}

-- the writes of the edit that declares a key, and the numbers that it gives the network's resources
abbrev written : Key → ℕ → List Write
written declared number =
    record { key = declared; value = Some value.Unit }
    ∷ record { key = key.Seq (resource.Net (codes "metro")); value = Some (value.Num number) }
    ∷ record { key = key.Seq (resource.Prop (codes "metro")); value = Some (value.Num number) }
    ∷ []

-- the batch of an import that came at the moment 100
abbrev batch : List ℕ → List ℕ → List Write → Accepted
batch id digest writes = record { id = id; digest = digest; moment = 100; writes = writes }

-- the batches of the story
abbrev batches : List Accepted
batches =
    batch (codes "i1") (codes "digest 1") (written (key.Net (codes "metro")) 1)
    ∷ batch (codes "i2") (codes "digest of i2") (written (key.Pid (codes "metro") (codes "east")) 2)
    ∷ batch (codes "i3") (codes "digest of i3") (written (key.Pid (codes "metro") (codes "west")) 3)
    ∷ batch (codes "i4") (codes "digest of i4") (written (key.Pid (codes "metro") (codes "south")) 4)
    ∷ []

-- the book with these
abbrev pub written_book : ℕ → Book
written_book window = record { base = opening_rows (codes "e1") window; receipts = []; batches = batches }

pub metro_book-written : (window : ℕ) → metro_book window ≡ written_book window
unfolding metro_book accept broken_rule key_cmp resource_cmp
metro_book-written window = refl
