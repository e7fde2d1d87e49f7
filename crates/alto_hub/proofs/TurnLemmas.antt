-- What places and the publisher do keeps the rule of what is published.
use Rattle.std.proofs.Common.{◌≡◌, ◌≢◌, ℕ, List, [], ◌∷◌, ◌++◌, set, refl, sym, subst, ⊎_elim}
use mathlib.Core.Option.{some}
use mathlib.Core.List.{IsPrefix}
use lib.ListN.{get_elem?}
use Rattle.atomic_table.proofs.Lists.{at_set, at_snoc}
use Rattle.logbook.specs.Pages.{Book as Name}
use Rattle.alto_book.specs.Book.{Book}
use Rattle.alto_versions.specs.Front.{Version}
use Rattle.alto_hub.specs.History.{Submitted, Reached, IsLog}
use Rattle.alto_hub.specs.Seen.{AreKept, Sees, newcomer}
use Rattle.alto_hub.specs.Versions.{IsShown}
use Rattle.alto_hub.specs.declared.view.View.{View}
use Rattle.alto_hub.proofs.PrefixLemmas.{prefix_itself, prefix_on}

kept_set : (seat : ℕ) (w : View) (log : List Submitted) (views : List View) → AreKept log views → IsPrefix w.seen log
    → AreKept log (set views seat w)
unfolding AreKept
kept_set seat w log views kept begins =
    λ j u e. ⊎_elim (λ (t : (j ≡ seat) × (w ≡ u)). subst (λ (z : View). IsPrefix z.seen log) t.1 begins)
    (λ (t : (j ≢ seat) × (get_elem? views j ≡ some u)). kept j u t.1) (at_set views seat j w u e)

kept_on : (now next : List Submitted) (views : List View) → AreKept now views → IsPrefix now next → AreKept next views
unfolding AreKept
kept_on now next views kept on = λ j u e. prefix_on u.seen now next (kept j u e) on

kept_at : (log : List Submitted) (views : List View) (seat : ℕ) (v : View) → AreKept log views
    → get_elem? views seat ≡ some v → IsPrefix v.seen log
unfolding AreKept
kept_at log views seat v kept at = kept seat v at

-- a place that looks, enters or learns sees what is published
pub turns : {Shown : Type 0} (opening : Book) (after : View → List Submitted → View)
    → ((v : View) (log : List Submitted) → (after v log).seen ≡ log)
    → (seat : ℕ) (v : View) (log : List Submitted) (views : List View) → IsLog opening log → Shown × AreKept log views
    → get_elem? views seat ≡ some v
    → (w : View) × (Shown × AreKept log (set views seat w)) × (Shown × Sees opening after v log w)
turns opening after sees seat v log views led held at = (
  after v log,
  (
    held.0,
    kept_set seat (after v log) log views
        held.1 (subst (λ (l : List Submitted). IsPrefix l log) (sym (sees v log)) (prefix_itself log)),
  ),
  (held.0, record { led = led; begins = kept_at log views seat v held.1 at; known = refl }),
)

-- a publish leaves what places have seen
pub publishes : {Shown : Type 0} (name : Name) (opening : Book) (seat : ℕ) (v : View) (now : List Submitted)
    (due next : Version × Reached) (views : List View)
    → next ≡ due → IsShown name opening due → IsPrefix now due.1.log → Shown × AreKept now views
    → get_elem? views seat ≡ some v
    → (w : View) × (IsShown name opening next × AreKept next.1.log (set views seat w)) × (w ≡ v)
publishes name opening seat v now due next views is stands on held at =
    let kept : AreKept next.1.log views =
    kept_on now next.1.log views held.1 (subst (λ (s : Version × Reached). IsPrefix now s.1.log) (sym is) on) in
    let shown : IsShown name opening next = subst (λ (s : Version × Reached). IsShown name opening s) (sym is) stands in
    (v, (shown, kept_set seat v next.1.log views kept (kept_at next.1.log views seat v kept at)), refl)

-- a new place has seen nothing
pub admits : (log : List Submitted) (views : List View) → AreKept log views → AreKept log (views ++ newcomer ∷ [])
unfolding AreKept
admits log views kept = λ seat v at.
    ⊎_elim (kept seat v) (λ (e : newcomer ≡ v). subst (λ (z : View). IsPrefix z.seen log) e (log, refl))
    (at_snoc views newcomer v seat at)

none_kept : (log : List Submitted) → AreKept log []
unfolding AreKept
none_kept log = λ seat v at. absurd cc

pub first_kept : (log : List Submitted) → AreKept log (newcomer ∷ [])
first_kept log = admits log [] (none_kept log)
