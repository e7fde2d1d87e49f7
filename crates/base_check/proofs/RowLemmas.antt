-- Rows that stand behind others: how they are put there, and that they fit.
use Rattle.std.proofs.Common.{◌≡◌, refl, ap, sym, ◌∙◌, subst}
use Rattle.std.proofs.lemmas.List.{append-nil, append_assoc}
use Rattle.std.proofs.lemmas.List.Elements.{recursion_from_All}
use Rattle.std.specs.Prelude.{Bool, true, false, cond, List, [], ◌∷◌, ◌++◌, map, All, Option, Some, None, IfSome}
use Rattle.std.specs.Prelude.{is_some}
use Rattle.std.specs.List.{AllByRecursion}
use Rattle.std.specs.Option.{option_or}
use Rattle.std.specs.Ordering.{is_eq}
use Rattle.alto_rows.specs.declared.key.Key.{Key}
use Rattle.alto_rows.specs.declared.key.Key.TheVariants as key
use Rattle.alto_rows.specs.declared.value.Value.{Value}
use Rattle.alto_rows.specs.declared.write.Write.{Write}
use Rattle.alto_rows.specs.Good.{AreGood, Fits, Takes}
use Rattle.alto_rows.specs.Order.{key_cmp}
use Rattle.alto_rows.specs.Rows.{Rows, AreSorted, value_of, has_row, with_value, after}
use Rattle.alto_rows.proofs.OrderLemmas.{one_key}
use Rattle.alto_rows.proofs.RowsLemmas.{AreBefore, before_middle}
use Rattle.base_code.specs.Bases.{write_of}
use Rattle.batch_code.specs.Storable.{IsStored, TakesChange}
use Rattle.base_check.specs.Fit.{AreFit}

-- ---- puts

-- a row that is behind the others is put at the end
put_last : (front : Rows) (at : Key) (v : Value) → AreBefore at front
    → with_value front at (Some v) ≡ front ++ (at, v) ∷ []
put_last [] at v before = refl
put_last (row ∷ front) at v before = rw before.0 (ap (λ (more : Rows). row ∷ more) (put_last front at v before.1))

-- rows that are put behind others stand behind them
put_behind : (front rows : Rows) → AreSorted (front ++ rows) → after front (map write_of rows) ≡ front ++ rows
put_behind front [] s = sym (append-nil front)
put_behind front (row ∷ rows) s =
    ap (λ (all : Rows). after all (map write_of rows)) (put_last front row.0 row.1 (before_middle front row rows s))
    ∙ (put_behind (front ++ row ∷ []) rows (subst AreSorted (sym (append_assoc front (row ∷ []) rows)) s)
    ∙ append_assoc front (row ∷ []) rows)

-- so they are the rows after these writes
pub whole_is : (front rows whole : Rows) (puts writes : List Write) → AreSorted (front ++ rows)
    → puts ≡ map write_of rows → writes ≡ puts
    → whole ≡ after front writes → whole ≡ front ++ rows
whole_is front rows whole puts writes s are same is =
    is ∙ (ap (λ (all : List Write). after front all) (same ∙ are) ∙ put_behind front rows s)

-- ---- values

-- the value at a key of rows in two parts
value_of-append : (front rows : Rows) (at : Key)
    → value_of (front ++ rows) at ≡ option_or (value_of front at) (value_of rows at)
value_of-append [] rows at = refl
value_of-append (row ∷ front) rows at = by (is_eq (key_cmp at row.0)) (value_of-append front rows at)
  where
    by : (b : Bool) → value_of (front ++ rows) at ≡ option_or (value_of front at) (value_of rows at)
        → cond b (Some row.1) (value_of (front ++ rows) at) ≡ option_or (cond b (Some row.1) (value_of front at))
        (value_of rows at)
    by true more = refl
    by false more = more

-- a key that has a row among the first has one
has_row-front : (front rows : Rows) (at : Key) → has_row front at ≡ true → has_row (front ++ rows) at ≡ true
has_row-front front rows at h = ap is_some (value_of-append front rows at) ∙ by (value_of front at) h
  where
    by : (o : Option Value) → is_some o ≡ true → is_some (option_or o (value_of rows at)) ≡ true
    by None e = cc
    by (Some v) e = refl

-- what a row that can be stored has fits
takes_of : (at : Key) (v : Value) → TakesChange at (Some v) → Takes at v
takes_of (key.Seq of) v h = h
takes_of _ v h = h

-- so do the values at the keys of such rows
fit_of : (rows : Rows) (at : Key) → AllByRecursion (λ row. IsStored (write_of row)) rows
    → IfSome (value_of rows at) (Fits at)
fit_of [] at all = tt
fit_of (row ∷ rows) at all = by (is_eq (key_cmp at row.0)) refl (fit_of rows at all.1)
  where
    by : (b : Bool) → is_eq (key_cmp at row.0) ≡ b → IfSome (value_of rows at) (Fits at)
        → IfSome (cond b (Some row.1) (value_of rows at)) (Fits at)
    by true e more = rw (one_key at row.0 e) ((all.0.is_key, takes_of row.0 row.1 all.0.takes))
    by false e more = more

-- and those of rows in two parts
fit_behind : (front rows : Rows) → ((at : Key) → IfSome (value_of front at) (Fits at))
    → All (λ row. IsStored (write_of row)) rows
    → (at : Key) → IfSome (value_of (front ++ rows) at) (Fits at)
fit_behind front rows fit stored at =
    subst (λ (o : Option Value). IfSome o (Fits at)) (sym (value_of-append front rows at))
    (by (value_of front at) (fit at)
    (fit_of rows at (recursion_from_All (λ (row : Key × Value). IsStored (write_of row)) rows stored)))
  where
    by : (o : Option Value) → IfSome o (Fits at) → IfSome (value_of rows at) (Fits at)
        → IfSome (option_or o (value_of rows at)) (Fits at)
    by None f g = g
    by (Some v) f g = f

-- so rows behind good ones fit
pub behind_fit : (front rows : Rows) → AreGood front → AreSorted (front ++ rows)
    → All (λ row. IsStored (write_of row)) rows → AreFit (front ++ rows)
behind_fit front rows good s stored = record {
  sorted = s;
  fit = fit_behind front rows good.fit stored;
  epoch = has_row-front front rows key.Epoch good.epoch;
  window = has_row-front front rows key.Window good.window;
}
