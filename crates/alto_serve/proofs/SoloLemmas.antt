-- The office over one desk.
use Rattle.std.proofs.Common.{◌≡◌, ◌≢◌, ℕ, true, [], ◌∷◌, Result, Ok, Err, IfOk, IfErr, OnOk, OnErr, refl, sym, ◌∙◌}
use Rattle.std.proofs.Common.{inl, inr, All}
use Rattle.alto_edits.specs.Edits.{IsEdit}
use Rattle.alto_book.specs.Acceptance.{accept}
use Rattle.alto_book.specs.Book.{Book}
use Rattle.alto_book.specs.Import.{Import}
use Rattle.alto_book.specs.Legal.{IsLegal}
use Rattle.alto_book.specs.declared.command.Receipt.{Receipt}
use Rattle.alto_book.specs.declared.fault.EditFault.{EditFault}
use Rattle.alto_book.specs.declared.fault.EditFault.TheVariants as fault
use Rattle.alto_book.proofs.AcceptanceLemmas.{accept_legal, refused_leaves}
use Rattle.alto_desk.specs.Counts.{after_edit}
use Rattle.alto_http.specs.Link.{one_more}
use Rattle.alto_serve.proofs.EventLemmas.{grown_itself}
use Rattle.alto_serve.specs.Events.{entered, looked, submitted, Known, IsLook, Emits, IsSubmitted, OneLook, PrefixOf}
use Rattle.alto_serve.specs.Events.{Submits}

abbrev pub solo_known : Book → ℕ → ℕ → ℕ → Known
solo_known book looks waits faults =
    record { seen = book; looks = looks; waits = waits; faults = faults; looked_at = [] }

-- nobody else changes the book
look_same : (book look : Book) → IsLegal book → look ≡ book → IsLook true book look
look_same book look legal same =
    record { legal = rw same legal; grown = rw same (grown_itself book); same = λ is. same }

module _ (book later : Book) (import : Import) (moment looks waits faults after counted : ℕ) (legal : IsLegal book)
    (more : after ≡ one_more looks) where
  -- an import is accepted or refused
  decided : (r : Result Receipt EditFault) → All IsEdit import.edits → counted ≡ after_edit r faults
      → (accept book import moment).answer ≡ r → later ≡ (accept book import moment).book
      → Emits true (Submits import moment r) (solo_known book looks waits faults) (solo_known later after waits counted)
  decided r edits count answered same =
      let look = look_same _ later (accept_legal book import moment legal edits) same in (
        entered book ∷ submitted import moment r later ∷ [],
        (look_same book book legal refl, (inl (edits, answered, look), tt)),
        rw (more, count) refl,
        (book, later, refl),
      )

  -- or its batch couldn't be kept
  pub solo_submits : (r : Result Receipt EditFault) → All IsEdit import.edits → counted ≡ after_edit r faults
      → IfOk r (λ receipt. (accept book import moment).answer ≡ Ok receipt)
      → OnOk r (later ≡ (accept book import moment).book)
      → IfErr r (λ why. why ≢ fault.Memory → why ≢ fault.Keeper → (accept book import moment).answer ≡ Err why)
      → OnErr r (later ≡ book) → r ≢ Err fault.Memory
      → Emits true (Submits import moment r) (solo_known book looks waits faults) (solo_known later after waits counted)
  solo_submits (Ok receipt) edits count told gained refused stayed known = decided (Ok receipt) edits count told gained
  solo_submits (Err fault.Keeper) edits count told gained refused stayed known = (
    entered book ∷ submitted import moment (Err fault.Keeper) later ∷ [],
    (look_same book book legal refl, (inr (refl, look_same book later legal stayed), tt)),
    rw (more, count) refl,
    (book, later, refl),
  )
  solo_submits (Err fault.Memory) edits count told gained refused stayed known = absurd (known refl)
  solo_submits (Err why) edits count told gained refused stayed known =
      let answered = refused (λ is. cc) (λ is. cc) in
      decided (Err why) edits count answered (stayed ∙ sym (refused_leaves book import moment why answered))

  pub solo_lost : (r : Result Receipt EditFault) → counted ≡ after_edit r faults → OnErr r (later ≡ book)
      → r ≡ Err fault.Memory
      → Emits true (PrefixOf (IsSubmitted import moment)) (solo_known book looks waits faults)
      (solo_known later after waits counted)
  solo_lost (Err fault.Memory) count stayed is = (
    entered book ∷ [],
    (look_same book book legal refl, tt),
    rw (stayed, more, count) refl,
    (submitted import moment (Err fault.Keeper) book ∷ [], (Err fault.Keeper, (book, book, refl))),
  )
  solo_lost _ count stayed is = cc

-- it has looked, and memory ran out
pub solo_look_lost : (book : Book) (looks waits faults after : ℕ) → IsLegal book → after ≡ one_more looks
    → Emits true (PrefixOf (OneLook book)) (solo_known book looks waits faults) (solo_known book after waits faults)
solo_look_lost book looks waits faults after legal more =
    (looked book ∷ [], (look_same book book legal refl, tt), rw more refl, ([], refl))
