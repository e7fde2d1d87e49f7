-- The edits of a drill's imports may stand in imports.
use Rattle.std.proofs.Common.{◌≡◌, ℕ, zero, suc, ◌+◌, ◌-◌, ◌/◌, ◌%◌, ◌^◌, ◌<◌, ◌≤◌, ◌==◌, Bool, true, false, List, []}
use Rattle.std.proofs.Common.{◌∷◌, ◌++◌, map, if◌then◌else◌, refl, sym, subst, arith}
use Rattle.std.specs.Prelude.{All}
use Rattle.std.specs.List.{AllByRecursion, range_with_len}
use Rattle.std.proofs.lemmas.List.Elements.{All-from_recursion}
use Rattle.std.proofs.lemmas.Nat.{mod_below}
use Rattle.alto_addr.specs.Bits.{HasBits}
use Rattle.alto_names.specs.Name.{IsPidName}
use Rattle.alto_edits.specs.declared.edit.Edit.{Edit}
use Rattle.alto_edits.specs.declared.edit.Edit.TheVariants as edit
use Rattle.alto_edits.specs.Edits.{IsEdit}
use Rattle.alto_drill.specs.Draws.{draw}
use Rattle.alto_book.specs.Import.{Import}
use Rattle.alto_drill.specs.Imports.{choice_from, edits_from, import_from, later_edits, metric_name, net_name}
use Rattle.alto_drill.specs.Imports.{opening_edits, pid_name, prefix_of, renewal_edits}
use Rattle.alto_drill.proofs.NameLemmas.{pid_named}

abbrev AreEdits : List Edit → Type 0
AreEdits edits = AllByRecursion IsEdit edits

edits_append : (first second : List Edit) → AreEdits first → AreEdits second → AreEdits (first ++ second)
edits_append [] second a b = b
edits_append (edit ∷ first) second a b = (a.0, edits_append first second a.1 b)

-- a remainder is a number of 64 bits
low : (n m : ℕ) → 0 < m → m ≤ 1000 → n % m < 2 ^ 64
low n m some few = let below = mod_below n m some in omega (arith, below)

pid_added : (m : ℕ) → m < 2 ^ 64 → IsEdit (edit.PidAdd net_name (pid_name m))
pid_added m small = (refl, pid_named m small)

pids_added : (m n : ℕ) → m + n < 2 ^ 64 → AreEdits (map (λ m. edit.PidAdd net_name (pid_name m)) (range_with_len m n))
pids_added m zero small = tt
pids_added m (suc n) small = (pid_added m (omega arith), pids_added (m + 1) n (omega arith))

opening_fit : AreEdits opening_edits
unfolding opening_edits
opening_fit = (
  refl,
  edits_append (map (λ m. edit.PidAdd net_name (pid_name m)) (range_with_len 0 8))
      (edit.MetricAdd net_name metric_name ∷ []) (pids_added 0 8 (omega arith)) ((refl, refl), tt),
)

renewal_fit : (k : ℕ) → AreEdits (renewal_edits k)
renewal_fit k = by (k % 5 == 0) refl
  where
    pid : IsEdit (edit.PidAdd net_name (pid_name (k / 5 % 8)))
    pid = pid_added (k / 5 % 8) (low (k / 5) 8 (omega arith) (omega arith))

    by : (b : Bool) → (k % 5 == 0) ≡ b
        → AreEdits (if b then edit.PidDrop net_name (pid_name (k / 5 % 8))
        ∷ edit.PidAdd net_name (pid_name (k / 5 % 8)) ∷ [] else [])
    by true e = (pid, (pid, tt))
    by false e = tt

prefix_fits : (k : ℕ) → k ≤ 1000 → HasBits (prefix_of k).addr
unfolding prefix_of
prefix_fits k few = omega arith

later_fit : (x k : ℕ) → k ≤ 1000 → AreEdits (later_edits k (choice_from x))
unfolding later_edits choice_from
later_fit x k few =
    edits_append (renewal_edits k) _ (renewal_fit k) (
      (refl, of_draw 1, prefix_fits k few),
      (((refl, refl, of_draw 2, of_draw 3), cost), (((refl, of_draw 5, refl), color), tt)),
    )
  where
    of_draw : (n : ℕ) → IsPidName (pid_name (draw x n % 8))
    of_draw n = pid_named (draw x n % 8) (low (draw x n) 8 (omega arith) (omega arith))

    cost : draw x 4 % 1000 ≤ 2 ^ 53 - 1
    cost = let below = mod_below (draw x 4) 1000 (omega arith) in omega (arith, below)

    color : draw x 6 % 1000 ≤ 2 ^ 53 - 1
    color = let below = mod_below (draw x 6) 1000 (omega arith) in omega (arith, below)

-- those of each import
edits_fit : (x k : ℕ) → k ≤ 1000 → All IsEdit (edits_from x k)
unfolding edits_from
edits_fit x k few = All-from_recursion IsEdit (edits_from x k) (by (k == 1) refl)
  where
    by : (b : Bool) → (k == 1) ≡ b → AreEdits (if b then opening_edits else later_edits k (choice_from x))
    by true e = opening_fit
    by false e = later_fit x k few

-- so they may be asked to be accepted
pub import_fits : (import : Import) (x k : ℕ) → k ≤ 1000 → import ≡ import_from x k → All IsEdit import.edits
unfolding import_from
import_fits import x k few is = subst (λ (i : Import). All IsEdit i.edits) (sym is) (edits_fit x k few)
