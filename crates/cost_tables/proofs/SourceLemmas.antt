-- Sets of sources: one source more, and the sources of rows that a walk has left.
use Rattle.std.proofs.Common.{◌≡◌, Bor, refl, ap, sym, ◌∙◌}
use Rattle.std.proofs.Math.Bool.{or_assoc, or_comm, or_self_left}
use Rattle.std.specs.Prelude.{Bool, true, false, ◌||◌, IsTrue, List, [], ◌∷◌, Option, Some, None, IfSome}
use Rattle.std.specs.BTreeMap.{is_at}
use Rattle.std.specs.BTreeSet.{insert_key}
use Rattle.std.specs.List.{list_any}
use Rattle.std.specs.Map.{keys_of}
use Rattle.std.specs.Option.{option_eq}
use Rattle.std.specs.Ordering.{match_ordering}
use Rattle.std.specs.declared.cmp.Ordering.{Ordering}
use Rattle.std.specs.declared.cmp.Ordering.TheVariants.{Less, Equal, Greater}
use Rattle.alto_rows.specs.declared.key.Key.{Key}
use Rattle.alto_rows.specs.declared.key.Key.TheVariants as key
use Rattle.alto_rows.specs.declared.span.Span.TheVariants as span
use Rattle.alto_rows.specs.Order.{name_cmp, same_name}
use Rattle.alto_rows.specs.Rows.{Rows}
use Rattle.alto_rows.specs.Span.{rows_in}
use Rattle.alto_rows.proofs.OrderLemmas.{name_cmp_exact}
use Rattle.alto_rows.proofs.TouchesLemmas.{one_name, same_name_ties}
use Rattle.cost_tables.specs.Tables.{Name, sources_of}

-- a name is among these
abbrev pub is_among : Name → List Name → Bool
is_among name names = list_any (same_name name) names

-- ---- one name more

or_swap : (a b c : Bool) → (a || (b || c)) ≡ (b || (a || c))
or_swap a b c = sym (or_assoc a b c) ∙ (ap (λ x. x || c) (or_comm a b) ∙ or_assoc b a c)

-- a set that a name is put in has it and those it had
pub among-insert_key : (name source : Name) (names : List Name)
    → is_among name (insert_key name_cmp names source) ≡ (same_name name source || is_among name names)
among-insert_key name source [] = refl
among-insert_key name source (first ∷ names) = by (name_cmp source first) refl (among-insert_key name source names)
  where
    by : (o : Ordering) → name_cmp source first ≡ o
        → is_among name (insert_key name_cmp names source) ≡ (same_name name source || is_among name names)
        → is_among name (match_ordering o (source ∷ first ∷ names) (first ∷ names)
        (first ∷ insert_key name_cmp names source))
        ≡ (same_name name source || (same_name name first || is_among name names))
    by Less is rest = refl
    by Equal is rest =
        let one : source ≡ first = name_cmp_exact source first is in
        rw one (sym (or_self_left (same_name name first) (is_among name names)))
    by Greater is rest = rw rest (or_swap (same_name name first) (same_name name source) (is_among name names))

-- a name that is in a set already adds none
pub among-member : (name source : Name) (names : List Name) → list_any (is_at (name_cmp source)) names ≡ true
    → is_among name names ≡ (same_name name source || is_among name names)
among-member name source names there = by (same_name name source) refl
  where
    by : (b : Bool) → same_name name source ≡ b → is_among name names ≡ (b || is_among name names)
    by true same =
        let one : name ≡ source = one_name name source same in
        rw one (ap (λ test. list_any test names) (λ i at. same_name_ties source at i) ∙ there)
    by false same = refl

-- the last of a set is in it
pub last_among : (names : List Name) (last : Option (Bor Name)) (source : Bor Name)
    → option_eq (λ a b. same_name a.now b.now) last (Some source) ≡ true
    → IfSome last (λ name. IsTrue (list_any (is_at (name_cmp name.now)) names))
    → list_any (is_at (name_cmp source.now)) names ≡ true
last_among names None source same there = cc
last_among names (Some name) source same there =
    let one : name.now ≡ source.now = one_name name.now source.now same in
    rw (← one) there

-- ---- the sources of keys that are left

-- names that are there and the sources of keys that are left are all
abbrev pub AreWith : Name → Name → List Key → List Name → List Key → Type 0
AreWith net metric all names left =
    (name : Name) → (is_among name names || is_among name (sources_of net metric left))
    ≡ is_among name (sources_of net metric all)

-- with none left the names are all
pub with_all : (net metric : Name) (all : List Key) (names : List Name) → AreWith net metric all names []
    → (name : Name) → is_among name names ≡ is_among name (sources_of net metric all)
with_all net metric all names told name = or_comm false (is_among name names) ∙ told name

-- ---- the rows of a metric

-- the sources of a metric are those of its rows
pub sources_in_span : (net metric : Name) (rows : Rows)
    → sources_of net metric (keys_of (rows_in rows (span.CostsIn net metric))) ≡ sources_of net metric (keys_of rows)
sources_in_span net metric [] = refl
sources_in_span net metric ((key.Cost of kind src dst, v) ∷ rows) =
    by (same_name net of) (same_name metric kind) refl refl (sources_in_span net metric rows)
  where
    by : (a b : Bool) → same_name net of ≡ a → same_name metric kind ≡ b
        → sources_of net metric (keys_of (rows_in rows (span.CostsIn net metric)))
        ≡ sources_of net metric (keys_of rows)
        → sources_of net metric (keys_of (rows_in ((key.Cost of kind src dst, v) ∷ rows) (span.CostsIn net metric)))
        ≡ sources_of net metric (keys_of ((key.Cost of kind src dst, v) ∷ rows))
    by true true e f below = rw (e, f) (rw (e, f) (ap (λ (more : List Name). src ∷ more) below))
    by true false e f below = rw (e, f) below
    by false b e f below = rw e below
sources_in_span net metric (_ ∷ rows) = sources_in_span net metric rows
