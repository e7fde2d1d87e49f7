-- Rows stay within the limits: an edit that would lead past one breaks a rule.
use Rattle.std.proofs.Common.{◌≡◌, refl, ap, sym, ◌∙◌, subst, arith}
use Rattle.std.proofs.lemmas.Bool.{and_parts, leb-false, ltb-false}
use Rattle.std.specs.Prelude.{Bool, true, false, cond, not, ◌&&◌, ◌||◌, ℕ, ◌+◌, ◌≤◌, ◌<◌, nat_le, nat_lt, List, [], ◌∷◌}
use Rattle.std.specs.Prelude.{◌++◌, length, map, filter, Option, Some, None, Result, Ok, Err, All, IfSome, is_some}
use Rattle.std.specs.List.{AllByRecursion, list_any}
use Rattle.alto_addr.specs.declared.prefix.Prefix.{Prefix}
use Rattle.alto_rows.specs.declared.key.Key.{Key}
use Rattle.alto_rows.specs.declared.key.Key.TheVariants as key
use Rattle.alto_rows.specs.declared.resource.Resource.{Resource}
use Rattle.alto_rows.specs.declared.span.Span.{Span}
use Rattle.alto_rows.specs.declared.span.Span.TheVariants as span
use Rattle.alto_rows.specs.declared.value.Value.{Value}
use Rattle.alto_rows.specs.declared.value.Value.TheVariants as value
use Rattle.alto_rows.specs.declared.write.Write.{Write}
use Rattle.alto_rows.specs.Order.{same_name}
use Rattle.alto_rows.specs.Rows.{Rows, AreSorted, value_of, has_row, with_value, after}
use Rattle.alto_rows.specs.Span.{is_in, count_in}
use Rattle.alto_rows.specs.Versions.{resources_of, version_of}
use Rattle.alto_rows.proofs.OrderLemmas.{one_key}
use Rattle.alto_rows.proofs.TouchesLemmas.{one_name, same_name_itself}
use Rattle.alto_rows.proofs.WriteLemmas.{after-append, after-push, sorted_after, sorted_with_value, value_of-delete}
use Rattle.alto_rows.proofs.DeletionLemmas.{deletion, each_row, value_of-deletions}
use Rattle.alto_rows.proofs.SoundLemmas.{left_of}
use Rattle.alto_edits.proofs.ClosedLemmas.{is_elsewhere, taking-elsewhere}
use Rattle.alto_edits.proofs.CountLemmas.{one, AreAmong, count_put, count_among, count_fewer}
use Rattle.alto_edits.proofs.EditLemmas.{NoneBroken, none_broken, unbroken}
use Rattle.alto_edits.specs.declared.edit.Edit.{Edit}
use Rattle.alto_edits.specs.declared.edit.Edit.TheVariants as edit
use Rattle.alto_edits.specs.declared.rule.CompileFault.{CompileFault}
use Rattle.alto_edits.specs.declared.rule.Past.{Past}
use Rattle.alto_edits.specs.declared.rule.Rule.{Rule}
use Rattle.alto_edits.specs.Compiled.{before, unless_broken, edits_writes, broken_by_batch, batch_checks, whole_batch}
use Rattle.alto_edits.specs.Compiled.{compiled}
use Rattle.alto_edits.specs.Edits.{IsEdit}
use Rattle.alto_edits.specs.Laws.{MakeBatch, CompiledRowsAreWithin}
use Rattle.alto_edits.specs.Limits.{most_in, AreWithin}
use Rattle.alto_edits.specs.Rules.{checks, broken_rule, first_broken}
use Rattle.alto_edits.specs.Versions.{next_version, sequence_writes, is_touched}
use Rattle.alto_edits.specs.Writes.{putting, same_key, names, withdrawing, owns, is_free, taking, property_value}
use Rattle.alto_edits.specs.Writes.{writes_of}

-- ---- the span that bounds a key

-- the span whose number of rows a put of the key raises, where a rule bounds it
abbrev bounding : Key → Option Span
bounding (key.Net net) = Some span.Nets
bounding (key.Pid net pid) = Some (span.Pids net)
bounding (key.Prefix net pid prefix) = Some (span.Prefixes net)
bounding (key.Metric net metric) = Some (span.Metrics net)
bounding (key.Cost net metric source destination) = Some (span.CostsIn net metric)
bounding _ = None

-- a bounded span that has a key is the one that bounds it
bounded_by : (of : Span) (at : Key) (most : ℕ) → most_in of ≡ Some most → is_in of at ≡ true → bounding at ≡ Some of
bounded_by span.Nets (key.Net net) most h g = refl
bounded_by (span.Pids net) (key.Pid of pid) most h g = ap (λ (n : List ℕ). Some (span.Pids n)) (sym (one_name net of g))
bounded_by (span.Prefixes net) (key.Prefix of pid prefix) most h g =
    ap (λ (n : List ℕ). Some (span.Prefixes n)) (sym (one_name net of g))
bounded_by (span.Metrics net) (key.Metric of metric) most h g =
    ap (λ (n : List ℕ). Some (span.Metrics n)) (sym (one_name net of g))
bounded_by (span.CostsIn net metric) (key.Cost of other source destination) most h g =
    let both : (same_name net of ≡ true) × (same_name metric other ≡ true) =
    and_parts (same_name net of) (same_name metric other) g in
    let nets : net ≡ of = one_name net of both.0 in
    let metrics : metric ≡ other = one_name metric other both.1 in
    cc
bounded_by _ _ most h g = cc

-- ---- one write

-- the span has at most so many rows
abbrev IsWithin : Span → ℕ → Rows → Type 0
IsWithin of most rows = count_in rows of ≤ most

-- there is room for the key: where it has no row yet and the span has it, the span isn't full
abbrev HasRoom : Span → ℕ → Rows → Key → Type 0
HasRoom of most rows at = is_in of at ≡ true → has_row rows at ≡ false → count_in rows of < most

-- a put for which there is room keeps a span within its bound
put_within : (of : Span) (most : ℕ) (rows : Rows) (at : Key) (v : Value) → AreSorted rows → IsWithin of most rows
    → HasRoom of most rows at
    → IsWithin of most (with_value rows at (Some v))
put_within of most rows at v s within room = by (is_in of at) (has_row rows at) refl refl
  where
    added : count_in (with_value rows at (Some v)) of ≡ count_in rows of + one (is_in of at && not (has_row rows at))
    added = count_put (is_in of) rows at v s

    by : (b c : Bool) → is_in of at ≡ b → has_row rows at ≡ c → IsWithin of most (with_value rows at (Some v))
    by true false e f =
        let less : count_in rows of < most = room e f in
        let more : one (is_in of at && not (has_row rows at)) ≡ 1 = rw (e, f) refl in
        omega (arith, added, less, more)
    by true true e f =
        let more : one (is_in of at && not (has_row rows at)) ≡ 0 = rw (e, f) refl in
        omega (arith, added, within, more)
    by false c e f =
        let more : one (is_in of at && not (has_row rows at)) ≡ 0 = rw e refl in
        omega (arith, added, within, more)

-- a key that no rule bounds has room
no_bound : (of : Span) (most : ℕ) (rows : Rows) (at : Key) → most_in of ≡ Some most → bounding at ≡ None
    → HasRoom of most rows at
no_bound of most rows at h none e f =
    let some : bounding at ≡ Some of = bounded_by of at most h e in
    cc

-- a key has room where its rule finds the span that bounds it not full
room_by_rule : (of whole : Span) (most bound : ℕ) (rows : Rows) (at : Key) → most_in of ≡ Some most
    → bounding at ≡ Some whole → most_in whole ≡ Some bound
    → (has_row rows at ≡ false → nat_le bound (count_in rows whole) ≡ false) → HasRoom of most rows at
room_by_rule of whole most bound rows at h is b rule e f =
    let some : bounding at ≡ Some of = bounded_by of at most h e in
    let same : whole ≡ of = cc in
    let bounds : most ≡ bound = cc in
    let free : nat_le bound (count_in rows whole) ≡ false = rule f in
    let less : count_in rows whole < bound = leb-false bound (count_in rows whole) free in
    rw (← same, bounds) less

-- ---- deletions

-- what deletions leave is among the rows
deletions_among : (goes : Key × Value → Bool) (rows : Rows) → AreSorted rows
    → AreAmong (after rows (map deletion (filter goes rows))) rows
deletions_among goes rows s at h = by (value_of rows at) refl
  where
    by : (o : Option Value) → value_of rows at ≡ o → has_row rows at ≡ true
    by (Some v) e = ap is_some e
    by None e = sym (ap is_some (value_of-deletions goes rows at s ∙ ap (left_of goes at) e ∙ sym e)) ∙ h

deletions_within : (of : Span) (most : ℕ) (goes : Key × Value → Bool) (rows : Rows) → AreSorted rows
    → IsWithin of most rows
    → IsWithin of most (after rows (map deletion (filter goes rows)))
deletions_within of most goes rows s within =
    let less : count_in (after rows (map deletion (filter goes rows))) of ≤ count_in rows of =
    count_among (is_in of) (after rows (map deletion (filter goes rows)))
    rows (sorted_after rows (map deletion (filter goes rows)) s) s (deletions_among goes rows s) in
    omega (arith, less, within)

delete_within : (of : Span) (most : ℕ) (rows : Rows) (gone : Key) → AreSorted rows → IsWithin of most rows
    → IsWithin of most (with_value rows gone None)
delete_within of most rows gone s within =
    let less : count_in (with_value rows gone None) of ≤ count_in rows of =
    count_among (is_in of) (with_value rows gone None) rows (sorted_with_value rows gone None s) s among in
    omega (arith, less, within)
  where
    among : AreAmong (with_value rows gone None) rows
    among at h = by (same_key at gone) (sym (ap is_some (value_of-delete rows gone at s)) ∙ h)
      where
        by : (b : Bool) → is_some (cond b None (value_of rows at)) ≡ true → has_row rows at ≡ true
        by true g = cc
        by false g = g

-- ---- a prefix that moves

-- a row that passes a test
record Passes (test : Key × Value → Bool) (rows : Rows) : Type 0 where
  at : Key
  v : Value
  there : value_of rows at ≡ Some v
  passes : test (at, v) ≡ true

-- some row passes where any does
some_passes : (test : Key × Value → Bool) (rest rows : Rows)
    → AllByRecursion (λ row. value_of rows row.0 ≡ Some row.1) rest
    → list_any test rest ≡ true → Passes test rows
some_passes test [] rows all h = cc
some_passes test (row ∷ rest) rows all h = by (λ g. some_passes test rest rows all.1 g) (test row) refl h
  where
    by : (list_any test rest ≡ true → Passes test rows) → (b : Bool) → test row ≡ b → (b || list_any test rest) ≡ true
        → Passes test rows
    by more true e g = record { at = row.0; v = row.1; there = all.0; passes = e }
    by more false e g = more g

-- a prefix that is put into one of the PIDs of a network takes no more room than there is
prefix_within : (of : Span) (most : ℕ) (rows : Rows) (net pid : List ℕ) (prefix : Prefix) → most_in of ≡ Some most
    → AreSorted rows → IsWithin of most rows
    → (is_free rows net prefix && nat_le 16384 (count_in rows (span.Prefixes net))) ≡ false
    → IsWithin of most (after rows (taking rows net pid prefix ++ putting (key.Prefix net pid prefix) value.Unit ∷ []))
prefix_within of most rows net pid prefix h s within rule =
    rw (after-push rows (taking rows net pid prefix) (putting (key.Prefix net pid prefix) value.Unit))
    (put_within of most (after rows (taking rows net pid prefix)) (key.Prefix net pid prefix) value.Unit
    (sorted_after rows (taking rows net pid prefix) s)
    (rw (taking-elsewhere rows net pid prefix) (deletions_within of most (is_elsewhere net pid prefix) rows
    s within)) room)
  where
    left : Rows
    left = after rows (map deletion (filter (is_elsewhere net pid prefix) rows))

    sorted_left : AreSorted left
    sorted_left = sorted_after rows (map deletion (filter (is_elsewhere net pid prefix) rows)) s

    less : count_in left (span.Prefixes net) ≤ count_in rows (span.Prefixes net)
    less = count_among (is_in (span.Prefixes net)) left rows sorted_left
        s (deletions_among (is_elsewhere net pid prefix) rows s)

    -- a row that gives the prefix to some PID is one of the network's prefixes
    owned_in : (at : Key) (v : Value) → owns net prefix (at, v) ≡ true → is_in (span.Prefixes net) at ≡ true
    owned_in (key.Prefix owner other given) v e = (and_parts (same_name net owner) _ e).0
    owned_in _ v e = cc

    -- where the PID doesn't have it afterwards but some PID had it, that PID lost it
    lost : has_row left (key.Prefix net pid prefix) ≡ false → Passes (owns net prefix) rows
        → count_in left (span.Prefixes net) + 1 ≤ count_in rows (span.Prefixes net)
    lost missing p =
        count_fewer (is_in (span.Prefixes net)) left rows p.at sorted_left
        s (deletions_among (is_elsewhere net pid prefix) rows s) (ap is_some p.there)
        (by (same_key (key.Prefix net pid prefix) p.at) refl) (owned_in p.at p.v p.passes)
      where
        by : (b : Bool) → same_key (key.Prefix net pid prefix) p.at ≡ b → has_row left p.at ≡ false
        by true e = rw (← one_key (key.Prefix net pid prefix) p.at e) missing
        by false e =
            let goes : is_elsewhere net pid prefix (p.at, p.v) ≡ true = rw (p.passes, e) refl in
            ap is_some (value_of-deletions (is_elsewhere net pid prefix) rows p.at s
            ∙ ap (left_of (is_elsewhere net pid prefix) p.at) p.there
            ∙ ap (λ b. cond b None (Some p.v)) goes)

    -- so there is room for it
    room_left : count_in rows (span.Prefixes net) ≤ 16384 → has_row left (key.Prefix net pid prefix) ≡ false
        → count_in left (span.Prefixes net) < 16384
    room_left whole missing = by (list_any (owns net prefix) rows) refl
      where
        by : (b : Bool) → list_any (owns net prefix) rows ≡ b → count_in left (span.Prefixes net) < 16384
        by true e =
            let fewer : count_in left (span.Prefixes net) + 1 ≤ count_in rows (span.Prefixes net) =
            lost missing (some_passes (owns net prefix) rows rows (each_row rows rows s (λ at v g. g)) e) in
            omega (arith, fewer, whole)
        by false e =
            let free : nat_le 16384 (count_in rows (span.Prefixes net)) ≡ false = rw e at rule in
            let room : count_in rows (span.Prefixes net) < 16384 =
            leb-false 16384 (count_in rows (span.Prefixes net)) free in
            omega (arith, room, less)

    room : HasRoom of most (after rows (taking rows net pid prefix)) (key.Prefix net pid prefix)
    room e f =
        let some : Some (span.Prefixes net) ≡ Some of = bounded_by of (key.Prefix net pid prefix) most h e in
        let same : span.Prefixes net ≡ of = cc in
        let bound : most_in (span.Prefixes net) ≡ Some most =
        subst (λ (x : Span). most_in x ≡ Some most) (sym same) h in
        let bounds : 16384 ≡ most = cc in
        let whole : count_in rows (span.Prefixes net) ≤ 16384 =
        subst (λ (x : Span). count_in rows x ≤ 16384) (sym same)
        (subst (λ (m : ℕ). count_in rows of ≤ m) (sym bounds) within) in
        subst (λ (x : Span). count_in (after rows (taking rows net pid prefix)) x < most) same
        (rw (← bounds, taking-elsewhere rows net pid prefix)
        (room_left whole (rw (← taking-elsewhere rows net pid prefix) f)))

-- ---- an edit

-- an edit that breaks no rule keeps a span within its bound
pub edit_within : (of : Span) (most : ℕ) (rows : Rows) (edit : Edit) → most_in of ≡ Some most → AreSorted rows
    → broken_rule rows edit ≡ None
    → IsWithin of most rows → IsWithin of most (after rows (writes_of rows edit))
edit_within of most rows (edit.NetAdd net) h s b within =
    let passed : NoneBroken (checks rows (edit.NetAdd net)) = unbroken rows (edit.NetAdd net) b in
    put_within of most rows (key.Net net) value.Unit s within (room_by_rule of span.Nets most 8 rows (key.Net net) h
    refl refl (λ e. passed.1.0))
edit_within of most rows (edit.NetDrop net) h s b within = deletions_within of most (names (key.Net net)) rows s within
edit_within of most rows (edit.PidAdd net pid) h s b within =
    let passed : NoneBroken (checks rows (edit.PidAdd net pid)) = unbroken rows (edit.PidAdd net pid) b in
    put_within of most rows (key.Pid net pid) value.Unit s within
    (room_by_rule of (span.Pids net) most 1024 rows (key.Pid net pid) h refl refl (λ e. passed.1.1.0))
edit_within of most rows (edit.PidDrop net pid) h s b within =
    deletions_within of most (names (key.Pid net pid)) rows s within
edit_within of most rows (edit.PrefixPut net pid prefix) h s b within =
    let passed : NoneBroken (checks rows (edit.PrefixPut net pid prefix)) =
    unbroken rows (edit.PrefixPut net pid prefix) b in
    prefix_within of most rows net pid prefix h s within passed.1.1.0
edit_within of most rows (edit.PrefixDel net pid prefix) h s b within =
    delete_within of most rows (key.Prefix net pid prefix) s within
edit_within of most rows (edit.MetricAdd net metric) h s b within =
    let passed : NoneBroken (checks rows (edit.MetricAdd net metric)) = unbroken rows (edit.MetricAdd net metric) b in
    put_within of most rows (key.Metric net metric) value.Unit s within
    (room_by_rule of (span.Metrics net) most 8 rows (key.Metric net metric) h refl refl (λ e. passed.1.1.0))
edit_within of most rows (edit.MetricDrop net metric) h s b within =
    deletions_within of most (names (key.Metric net metric)) rows s within
edit_within of most rows (edit.CostPut net metric source destination cost) h s b within =
    let passed : NoneBroken (checks rows (edit.CostPut net metric source destination cost)) =
    unbroken rows (edit.CostPut net metric source destination cost) b in
    put_within of most rows (key.Cost net metric source destination) (value.Num cost) s within
    (room_by_rule of (span.CostsIn net metric) most 262144 rows (key.Cost net metric source destination) h refl refl
    (λ e. rw e at passed.1.1.1.0))
edit_within of most rows (edit.CostDel net metric source destination) h s b within =
    delete_within of most rows (key.Cost net metric source destination) s within
edit_within of most rows (edit.PropPut net entity name v) h s b within =
    put_within of most rows (key.Prop net entity name) (property_value v) s
    within (no_bound of most rows (key.Prop net entity name) h refl)
edit_within of most rows (edit.PropDel net entity name) h s b within =
    delete_within of most rows (key.Prop net entity name) s within
edit_within of most rows (edit.AneAdd net ane) h s b within =
    put_within of most rows (key.Ane net ane) value.Unit s within (no_bound of most rows (key.Ane net ane) h refl)
edit_within of most rows (edit.AneSet net ane name number) h s b within =
    put_within of most rows (key.AneProp net ane name) (value.Num number) s
    within (no_bound of most rows (key.AneProp net ane name) h refl)
edit_within of most rows (edit.PathPut net source destination anes) h s b within =
    put_within of most rows (key.Path net source destination) (value.Names anes) s
    within (no_bound of most rows (key.Path net source destination) h refl)
edit_within of most rows (edit.PathDel net source destination) h s b within =
    delete_within of most rows (key.Path net source destination) s within

-- ---- a batch

-- so do edits, one after another
edits_within : (of : Span) (most : ℕ) (edits : List Edit) (rows : Rows) (row : ℕ) (writes : List Write)
    → most_in of ≡ Some most → AreSorted rows
    → edits_writes rows row edits ≡ Ok writes → IsWithin of most rows → IsWithin of most (after rows writes)
edits_within of most [] rows row writes h s made within =
    let none : [] ≡ writes = cc in
    rw (← none) within
edits_within of most (edit ∷ edits) rows row writes h s made within =
    by (λ more e within. edits_within of most edits (after rows (writes_of rows edit)) (row + 1) more
    h (sorted_after rows (writes_of rows edit) s) e within)
    (broken_rule rows edit) refl (edits_writes (after rows (writes_of rows edit)) (row + 1) edits) refl made
  where
    by : ((more : List Write) → edits_writes (after rows (writes_of rows edit)) (row + 1) edits ≡ Ok more
        → IsWithin of most (after rows (writes_of rows edit))
        → IsWithin of most (after (after rows (writes_of rows edit)) more))
        → (broken : Option Rule) → broken_rule rows edit ≡ broken
        → (rest : Result (List Write) CompileFault)
        → edits_writes (after rows (writes_of rows edit)) (row + 1) edits ≡ rest
        → unless_broken row broken (before (writes_of rows edit) rest) ≡ Ok writes
        → IsWithin of most (after rows writes)
    by below (Some r) b rest e g = cc
    by below None b (Err fault) e g = cc
    by below None b (Ok more) e g =
        let whole : writes_of rows edit ++ more ≡ writes = cc in
        rw (← whole, after-append rows (writes_of rows edit) more)
        (below more e (edit_within of most rows edit h s b within))

-- version rows are in no bounded span
versions_within : (of : Span) (most : ℕ) (old : Rows) (ofs : List Resource) (rows : Rows) → most_in of ≡ Some most
    → AreSorted rows → IsWithin of most rows
    → IsWithin of most (after rows (map (next_version old) ofs))
versions_within of most old [] rows h s within = within
versions_within of most old (first ∷ ofs) rows h s within =
    versions_within of most old ofs (with_value rows (key.Seq first) (next_version old first).value) h
    (sorted_with_value rows (key.Seq first) (next_version old first).value s)
    (put_within of most rows (key.Seq first) (value.Num (version_of old first + 1)) s
    within (no_bound of most rows (key.Seq first) h refl))

-- rows within the limits are so after a batch, which has 16,384 writes at most
pub compiled_rows_are_within : CompiledRowsAreWithin
compiled_rows_are_within rows edits past writes make within = by (edits_writes rows 1 edits) refl make.made
  where
    span_within : (own : List Write) → edits_writes rows 1 edits ≡ Ok own → (of : Span)
        → IfSome (most_in of) (λ most. count_in (after rows (own ++ sequence_writes rows own)) of ≤ most)
    span_within own e of = each (most_in of) refl (within.spans of)
      where
        each : (o : Option ℕ) → most_in of ≡ o → IfSome o (λ most. count_in rows of ≤ most)
            → IfSome o (λ most. count_in (after rows (own ++ sequence_writes rows own)) of ≤ most)
        each None h was = tt
        each (Some most) h was =
            rw (after-append rows own (sequence_writes rows own))
            (versions_within of most rows (filter (is_touched own) (resources_of (after rows own))) (after rows own)
            h (sorted_after rows own make.good.sorted)
            (edits_within of most edits rows 1 own h make.good.sorted e was))

    whole : (own : List Write) → edits_writes rows 1 edits ≡ Ok own
        → (broken : Option Rule) → broken_by_batch rows past (own ++ sequence_writes rows own) ≡ broken
        → unless_broken 0 broken (Ok (own ++ sequence_writes rows own)) ≡ Ok writes
        → AreWithin (after rows writes) × (length writes ≤ 16384)
    whole own e (Some rule) b h = cc
    whole own e None b h =
        let is : own ++ sequence_writes rows own ≡ writes = cc in
        let passed : NoneBroken (batch_checks rows past (own ++ sequence_writes rows own)) =
        none_broken (batch_checks rows past (own ++ sequence_writes rows own)) b in
        let few : length (after rows (own ++ sequence_writes rows own)) ≤ 400000 =
        ltb-false 400000 (length (after rows (own ++ sequence_writes rows own))) passed.0 in
        let short : length (own ++ sequence_writes rows own) ≤ 16384 =
        ltb-false 16384 (length (own ++ sequence_writes rows own)) passed.1.0 in
        rw (← is) (record { spans = span_within own e; all = few }, short)

    by : (result : Result (List Write) CompileFault) → edits_writes rows 1 edits ≡ result
        → whole_batch rows past result ≡ Ok writes
        → AreWithin (after rows writes) × (length writes ≤ 16384)
    by (Err fault) e h = cc
    by (Ok own) e h = whole own e (broken_by_batch rows past (own ++ sequence_writes rows own)) refl h
