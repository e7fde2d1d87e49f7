-- The range tables of a book become those of the book with one batch more.
use Rattle.std.proofs.Common.{◌≡◌, refl, ap, sym, ◌∙◌, length, arith}
use Rattle.std.proofs.lemmas.List.{append-nil}
use Rattle.std.specs.Prelude.{ℕ, Bool, true, false, List, [], ◌∷◌, ◌++◌, map, Option, Some, None, if◌then◌else◌}
use Rattle.std.specs.Ordering.{is_eq}
use Rattle.alto_rows.specs.declared.key.Key.TheVariants as key
use Rattle.alto_rows.specs.declared.write.Write.{Write}
use Rattle.alto_rows.specs.Order.{key_cmp, name_cmp, same_name}
use Rattle.alto_rows.specs.Prefixes.{prefixes_in}
use Rattle.alto_rows.specs.Rows.{Rows, after, has_row}
use Rattle.alto_rows.specs.Versions.{nets_of}
use Rattle.alto_rows.proofs.TouchesLemmas.{one_name, same_name_ties}
use Rattle.alto_versions.specs.Front.{NetTable, table_in, tables_in}
use Rattle.alto_versions.specs.Tables.{table_after, tables_after, writes_prefix}
use Rattle.alto_versions.proofs.PrefixLemmas.{prefixes_stay}
use Rattle.pid_prefix.specs.Longest.{Row}

-- among tables that are made for the networks of rows, a network's is found where it is declared
found_in : (made : List ℕ → List Row) (rows : Rows) (net : List ℕ)
    → table_in (map (λ one. (one, made one)) (nets_of rows)) net
    ≡ (if has_row rows (key.Net net) then Some (made net) else None)
unfolding key_cmp
found_in made [] net = refl
found_in made ((key.Net other, v) ∷ rows) net = by (same_name net other) refl (found_in made rows net)
  where
    by : (b : Bool) → same_name net other ≡ b
        → table_in (map (λ one. (one, made one)) (nets_of rows)) net
        ≡ (if has_row rows (key.Net net) then Some (made net) else None)
        → table_in (map (λ one. (one, made one)) (nets_of ((key.Net other, v) ∷ rows))) net
        ≡ (if has_row ((key.Net other, v) ∷ rows) (key.Net net) then Some (made net) else None)
    by true e below =
        let tie : is_eq (name_cmp net other) ≡ true = sym (same_name_ties net other) ∙ e in
        rw (e, tie) (ap (λ (n : List ℕ). Some (made n)) (sym (one_name net other e)))
    by false e below =
        let tie : is_eq (name_cmp net other) ≡ false = sym (same_name_ties net other) ∙ e in
        rw (e, tie) below
found_in made ((_, v) ∷ rows) net = found_in made rows net

-- the table of a declared network is that of its prefixes, and no other network has one
pub table_found : (rows : Rows) (net : List ℕ)
    → table_in (tables_in rows) net ≡ (if has_row rows (key.Net net) then Some (prefixes_in rows net) else None)
table_found rows net = found_in (prefixes_in rows) rows net

-- a network's table after writes
table_grown : (before : Rows) (writes : List Write) (net : List ℕ)
    → table_after (table_in (tables_in before) net) net (after before writes) writes
    ≡ prefixes_in (after before writes) net
table_grown before writes net =
    ap (λ (table : Option (List Row)). table_after table net (after before writes) writes) (table_found before net)
    ∙ by (has_row before (key.Net net)) (writes_prefix net writes) refl
  where
    by : (declared written : Bool) → writes_prefix net writes ≡ written
        → table_after (if declared then Some (prefixes_in before net) else None) net (after before writes) writes
        ≡ prefixes_in (after before writes) net
    by true true e = rw e refl
    by true false e = rw e (sym (prefixes_stay before net writes e))
    by false written e = refl

-- those of all these networks
tables_grown : (before : Rows) (writes : List Write) (nets : List (List ℕ))
    → tables_after (tables_in before) nets (after before writes) writes
    ≡ map (λ net. (net, prefixes_in (after before writes) net)) nets
tables_grown before writes [] = refl
tables_grown before writes (net ∷ nets) = rw (table_grown before writes net, tables_grown before writes nets) refl

-- once each network has its table, they are those of the rows that the writes led to
pub tables_made : (before rows : Rows) (writes : List Write) (tables done : List NetTable) (left : List (List ℕ))
    → rows ≡ after before writes → tables ≡ tables_in before → length left ≡ 0
    → done ++ tables_after tables left rows writes ≡ tables_after tables (nets_of rows) rows writes
    → done ≡ tables_in rows
tables_made before rows writes tables done [] led had none whole =
    sym (append-nil done) ∙ (whole ∙ rw (led, had) (tables_grown before writes (nets_of (after before writes))))
tables_made before rows writes tables done (net ∷ left) led had none whole = absurd (omega arith)
