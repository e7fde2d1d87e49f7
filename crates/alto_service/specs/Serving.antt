-- `serve`: the connections of a store's two sides are served.
use Rattle.std.specs.Prelude.{◌≡◌, ◌⊎◌, ℕ, ◌+◌, List, Option}
use Rattle.alto_book.specs.Book.{Book}
use Rattle.alto_desk.specs.Records.{Backs}
use Rattle.alto_http.specs.Link.{one_more}
use Rattle.alto_keeper.specs.Stored.{StoredData, Stays}
use Rattle.alto_serve.specs.Events.{IsGrown}
use Rattle.alto_commands.specs.Stores.{Finds, IsUnopened}
use Rattle.alto_doors.specs.Door.{risen}
use Rattle.alto_doors.specs.declared.counts.DoorCounts.{DoorCounts}

-- as many doors more were served to their ends
abbrev pub AllServed : ℕ → DoorCounts → DoorCounts → Type 0
AllServed count counts counts' = counts'.served ≡ risen counts.served count

-- what becomes of a book that is served through so many doors. 0 or 6: each was served to its end.
-- 1: out of memory. Nothing else
abbrev pub EndsDoors : ℕ → ℕ → DoorCounts → DoorCounts → Type 0
EndsDoors count result counts counts' = (((result ≡ 0) ⊎ (result ≡ 6)) × AllServed count counts counts') ⊎ (result ≡ 1)

-- what becomes of a book that is served by so many workers for each side: so, or a door couldn't be opened, 6
abbrev pub EndsServing : ℕ → ℕ → DoorCounts → DoorCounts → Type 0
EndsServing workers result counts counts' =
    EndsDoors (workers + workers) result counts counts'
    ⊎ ((result ≡ 6) × (counts'.failed_opens ≡ one_more counts.failed_opens))

-- what is held stands for a book to which imports have led from this one
unfoldable pub BacksLater : (StoredData → Type 0) → Book → Type 0
BacksLater held book = (later : Book) × IsGrown later book × Backs held later

-- a book is found and served, and what is held then stands for one to which imports have led from it
pub record IsServed (clean : Type 0) (workers result : ℕ) (held held' : StoredData → Type 0)
    (counts counts' : DoorCounts) : Type 0 where
  pub book : Book
  pub found : Finds clean held book
  pub ends : EndsServing workers result counts counts'
  pub kept : clean → (stored : StoredData) → held stored → BacksLater held' book

-- memory ran out before the first connection was served
pub record IsGivenUp (clean : Type 0) (result : ℕ) (held held' : StoredData → Type 0) : Type 0 where
  pub status : result ≡ 1
  pub stays : clean → Stays held held'

-- what `serve` comes to, by what was held at the store and is, by the counts of doors, and by the bytes that a console
-- has out
unfoldable pub ServesStore : Type 0 → ℕ → ℕ → (StoredData → Type 0) → (StoredData → Type 0) → DoorCounts → DoorCounts
    → Option (List ℕ) → Option (List ℕ) → Type 0
ServesStore clean workers result held held' counts counts' out out' =
    (IsServed clean workers result held held' counts counts' × (out' ≡ out))
    ⊎ (IsGivenUp clean result held held' × (out' ≡ out))
    ⊎ (IsUnopened clean held result out out' × (clean → Stays held held') × (counts' ≡ counts))
