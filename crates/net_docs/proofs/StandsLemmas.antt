-- Which groups stand in a network map: those of the PIDs that have rows, and each PID with a prefix is one.
use Rattle.std.proofs.Common.{◌≡◌, refl, ap, sym, ◌∙◌}
use Rattle.std.proofs.lemmas.List.Elements.{recursion_from_All}
use Rattle.std.specs.Cmp.Lexicographic.{same_text}
use Rattle.std.specs.Prelude.{Bool, true, false, ◌&&◌, [], ◌∷◌, Some, is_some}
use Rattle.std.specs.BTreeMap.{is_at}
use Rattle.std.specs.List.{list_any}
use Rattle.std.specs.Map.{lookup}
use Rattle.alto_addr.specs.declared.prefix.Prefix.{Prefix}
use Rattle.alto_rows.specs.declared.key.Key.{Key}
use Rattle.alto_rows.specs.declared.key.Key.TheVariants as key
use Rattle.alto_rows.specs.declared.value.Value.{Value}
use Rattle.alto_rows.specs.Good.{AreGood, needs}
use Rattle.alto_rows.specs.Order.{key_cmp, name_cmp, same_name}
use Rattle.alto_rows.specs.Rows.{Rows, has_row, value_of}
use Rattle.alto_rows.proofs.RowsLemmas.{IsRow, value_of_row}
use Rattle.alto_rows.proofs.TouchesLemmas.{both_ties, same_name_ties}
use Rattle.alto_maps.specs.Shape.{Name}
use Rattle.net_docs.specs.NetworkMap.{is_empty, pids_of, prefixes_of}

-- ---- the groups that stand

-- the key of a PID of a network
abbrev is_pid_key : Name → Name → Key → Bool
is_pid_key net pid (key.Pid of other) = same_name net of && same_name pid other
is_pid_key net pid _ = false

-- it is the one that is looked for
pid_key : (net pid : Name) (at : Key) → is_at (key_cmp (key.Pid net pid)) at ≡ is_pid_key net pid at
unfolding key_cmp
pid_key net pid (key.Pid of other) = both_ties (name_cmp net of) (name_cmp pid other)
    ∙ rw (same_name_ties net of, same_name_ties pid other) refl
pid_key net pid _ = refl

-- a group stands where its PID has a row
pub stands_where : (net pid : Name) (rows : Rows)
    → list_any (same_name pid) (pids_of rows net) ≡ has_row rows (key.Pid net pid)
stands_where net pid rows = among rows ∙ ap (λ test. is_some (lookup test rows)) (λ i at. sym (pid_key net pid at) i)
  where
    among : (rows : Rows) → list_any (same_name pid) (pids_of rows net) ≡ is_some (lookup (is_pid_key net pid) rows)
    among [] = refl
    among ((key.Pid of other, v) ∷ rows) = by (same_name net of) (same_name pid other) refl refl (among rows)
      where
        by : (a b : Bool) → same_name net of ≡ a → same_name pid other ≡ b
            → list_any (same_name pid) (pids_of rows net) ≡ is_some (lookup (is_pid_key net pid) rows)
            → list_any (same_name pid) (pids_of ((key.Pid of other, v) ∷ rows) net)
            ≡ is_some (lookup (is_pid_key net pid) ((key.Pid of other, v) ∷ rows))
        by true true e f below = rw (e, f) refl
        by true false e f below = rw (e, f) below
        by false b e f below = rw e below
    among (_ ∷ rows) = among rows

-- ---- a PID with a prefix

-- a row gives a PID a prefix
record HasPrefix (net pid : Name) (rows : Rows) : Type 0 where
  prefix : Prefix
  value : Value
  row : IsRow rows (key.Prefix net pid prefix) value

-- so does a row of more rows
with_prefix_more : (net pid : Name) (first : Key × Value) (rows : Rows) → HasPrefix net pid rows
    → HasPrefix net pid (first ∷ rows)
with_prefix_more net pid first rows it =
    record {
      prefix = it.prefix;
      value = it.value;
      row = record {
        front = first ∷ it.row.front;
        back = it.row.back;
        whole = ap (λ (more : Rows). first ∷ more) it.row.whole;
      };
    }

-- what is listed has its row
prefix_row : (net pid kind : Name) (rows : Rows) → is_empty (prefixes_of rows net pid kind) ≡ false
    → HasPrefix net pid rows
prefix_row net pid kind [] some = cc
prefix_row net pid kind ((key.Prefix of owner prefix, v) ∷ rows) some =
    by (same_name net of) (same_name pid owner) refl refl (prefix_row net pid kind rows)
  where
    by : (a b : Bool) → same_name net of ≡ a → same_name pid owner ≡ b
        → (is_empty (prefixes_of rows net pid kind) ≡ false → HasPrefix net pid rows)
        → HasPrefix net pid ((key.Prefix of owner prefix, v) ∷ rows)
    by true true e f below =
        rw (same_text net of (sym e), same_text pid owner (sym f)) record {
          prefix = prefix;
          value = v;
          row = record { front = []; back = rows; whole = refl };
        }
    by true false e f below = with_prefix_more net pid (key.Prefix of owner prefix, v) rows (below (rw (e, f) at some))
    by false b e f below = with_prefix_more net pid (key.Prefix of owner prefix, v) rows (below (rw e at some))
prefix_row net pid kind (first ∷ rows) some = with_prefix_more net pid first rows (prefix_row net pid kind rows some)

-- in good rows the PID of a prefix that is listed stands
pub listed_stands : (net pid kind : Name) (rows : Rows) → AreGood rows
    → is_empty (prefixes_of rows net pid kind) ≡ false
    → list_any (same_name pid) (pids_of rows net) ≡ true
listed_stands net pid kind rows good some =
    let it = prefix_row net pid kind rows some in
    let at = key.Prefix net pid it.prefix in
    let is : value_of rows at ≡ Some it.value = value_of_row rows at it.value good.sorted it.row in
    stands_where net pid rows
    ∙ (recursion_from_All (λ (need : Key). has_row rows need ≡ true) (needs at it.value)
    (good.declared at it.value is)).1.0
