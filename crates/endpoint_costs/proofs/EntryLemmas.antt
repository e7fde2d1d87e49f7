-- What is written of endpoints in the byte order of their texts is what their addresses ask for.
use Rattle.std.proofs.Common.{◌≡◌, ◌∙◌, ◌+◌, ℕ, zero, suc, refl, ap, arith, drop, sym, subst}
use Rattle.std.proofs.lemmas.List.{drop_all}
use Rattle.std.proofs.lemmas.Bool.{or_left, or_right}
use Rattle.std.specs.Prelude.{Bool, true, false, cond, List, [], ◌∷◌, Option, Some, None, is_some, map}
use Rattle.std.specs.Prelude.{option_map}
use Rattle.std.specs.List.{AllByRecursion, cons_option, filter_map, list_any}
use Rattle.serde_json.specs.Data.{Data, object}
use Rattle.json_tree.specs.Document.{object_of}
use Rattle.json_tree.specs.Tree.{members_in_order}
use Rattle.alto_rows.specs.Entities.{WritesTypedAddr}
use Rattle.alto_rows.specs.Rows.{Rows}
use Rattle.alto_maps.specs.Places.{set_of}
use Rattle.alto_maps.specs.Shape.{Name, same_name}
use Rattle.alto_maps.proofs.SetLemmas.{any-set_of, itself, one, rise-set_of}
use Rattle.pid_prefix.specs.Longest.{Row, longest_prefix}
use Rattle.cost_filters.specs.Columns.{has_member, object_if_any, pair_value, valued}
use Rattle.cost_filters.specs.Filter.{costs_data}
use Rattle.cost_tables.specs.Tables.{IsSetOf}
use Rattle.cost_filters.specs.Between.{Found, pairs_at}
use Rattle.cost_filters.specs.Pairs.{PairsData, pair_costs, pairs_of}
use Rattle.cost_filters.specs.Text.{found_object, shown_members}
use Rattle.cost_filters.proofs.TextLemmas.{listed_valued, pair_is, set_is, set_members, set_object}
use Rattle.endpoint_costs.specs.declared.endpoint.Endpoint.{Endpoint}
use Rattle.endpoint_costs.specs.Ask.{EndAskData}
use Rattle.endpoint_costs.specs.Costs.{pairs_object, pid_ask}
use Rattle.endpoint_costs.specs.Entries.{AreOrdered, IsWritten, groups_at, pids, texts}
use Rattle.endpoint_costs.proofs.OnceLemmas.{one_typed_addr}

-- ---- a text has one PID

-- the PID of the first endpoint of a text
abbrev pid_by : List Endpoint → Name → Option Name
pid_by [] q = None
pid_by (end ∷ ends) q = cond (same_name q end.text) (Some end.pid) (pid_by ends q)

same_pid : (prefixes : List Row) (first other : Endpoint) → IsWritten prefixes first → IsWritten prefixes other
    → first.text ≡ other.text → first.pid ≡ other.pid
same_pid prefixes first other h k same =
    let addrs : h.0 ≡ k.0 = one_typed_addr other.text h.0 k.0 (subst (λ text. WritesTypedAddr text h.0) same h.1) k.1 in
    let found : Some first.pid ≡ Some other.pid = sym h.2 ∙ (ap (longest_prefix prefixes) addrs ∙ k.2) in
    cc

pid_written : (prefixes : List Row) (all : List Endpoint) (end : Endpoint) → AllByRecursion (IsWritten prefixes) all
    → IsWritten prefixes end
    → list_any (same_name end.text) (texts all) ≡ true → pid_by all end.text ≡ Some end.pid
pid_written prefixes [] end written h among = cc
pid_written prefixes (other ∷ others) end written h among =
    by (same_name end.text other.text) refl (pid_written prefixes others end written.1 h)
  where
    by : (b : Bool) → same_name end.text other.text ≡ b
        → (list_any (same_name end.text) (texts others) ≡ true → pid_by others end.text ≡ Some end.pid)
        → pid_by (other ∷ others) end.text ≡ Some end.pid
    by true e below = rw e (ap (λ (pid : Name). Some pid)
        (same_pid prefixes other end written.0 h (sym (one end.text other.text e))))
    by false e below = rw e (below (rw e at among))

each_written : (prefixes : List Row) (all ends : List Endpoint) → AllByRecursion (IsWritten prefixes) all
    → AllByRecursion (IsWritten prefixes) ends
    → ((q : Name) → list_any (same_name q) (texts ends) ≡ true → list_any (same_name q) (texts all) ≡ true)
    → AllByRecursion (λ (end : Endpoint). pid_by all end.text ≡ Some end.pid) ends
each_written prefixes all [] written h among = tt
each_written prefixes all (end ∷ ends) written h among = (
  pid_written prefixes all end written
      h.0 (among end.text (or_left (same_name end.text end.text) (list_any (same_name end.text) (texts ends))
      (itself end.text))),
  each_written prefixes all ends written
      h.1 (λ q k. among q (or_right (same_name q end.text) (list_any (same_name q) (texts ends)) k)),
)

-- ---- values by text

-- a name with its value, where there is one
abbrev pub named : Name → Option Data → Option (Name × Data)
named text found = option_map (λ value. (text, value)) found

-- the value of a PID that is there
abbrev of_pid : (Name → Option Data) → Option Name → Option Data
of_pid value (Some pid) = value pid
of_pid value None = None

-- the value of a text
abbrev by_text : (Name → Option Data) → List Endpoint → Name → Option Data
by_text value ends text = of_pid value (pid_by ends text)

ends_valued : (value : Name → Option Data) (all ends : List Endpoint)
    → AllByRecursion (λ (end : Endpoint). pid_by all end.text ≡ Some end.pid) ends
    → filter_map (λ (end : Endpoint). named end.text (value end.pid)) ends ≡ valued (by_text value all) (texts ends)
ends_valued value all [] known = refl
ends_valued value all (end ∷ ends) known = λ i. cons_option (named end.text (of_pid value (sym known.0 i)))
    (ends_valued value all ends known.1 i)

-- endpoints have the values of their texts, also in order
record ByText (value : Name → Option Data) (ends ordered : List Endpoint) : Type 0 where
  given : filter_map (λ (end : Endpoint). named end.text (value end.pid)) ends
      ≡ valued (by_text value ends) (texts ends)
  listed : filter_map (λ (end : Endpoint). named end.text (value end.pid)) ordered
      ≡ valued (by_text value ends) (set_of (texts ends))
  set : IsSetOf (set_of (texts ends)) (texts ends)

values_by_text : (value : Name → Option Data) (prefixes : List Row) (ends ordered : List Endpoint)
    → AllByRecursion (IsWritten prefixes) ends → AreOrdered ends ordered → ByText value ends ordered
values_by_text value prefixes ends ordered written are =
    let known : AllByRecursion (λ (end : Endpoint). pid_by ends end.text ≡ Some end.pid) ends =
    each_written prefixes ends ends written written (λ q h. h) in
    let among : (q : Name) → list_any (same_name q) (texts ordered) ≡ true
    → list_any (same_name q) (texts ends) ≡ true =
    λ q h. sym (any-set_of q (texts ends)) ∙ (sym (ap (list_any (same_name q)) are.set) ∙ h) in
    let in_order : AllByRecursion (λ (end : Endpoint). pid_by ends end.text ≡ Some end.pid) ordered =
    each_written prefixes ends ordered written (are.written prefixes written) among in
    record {
      given = ends_valued value ends ends known;
      listed = ends_valued value ends ordered in_order ∙ ap (valued (by_text value ends)) are.set;
      set = set_is (set_of (texts ends)) (texts ends) (texts ends) refl refl;
    }

-- the members of endpoints
abbrev members : (Name → Option Data) → List Endpoint → List (Name × Data)
members value ends = filter_map (λ (end : Endpoint). named end.text (value end.pid)) ends

-- in order they make the object of all
ordered_object : (value : Name → Option Data) (prefixes : List Row) (ends ordered : List Endpoint)
    → AllByRecursion (IsWritten prefixes) ends → AreOrdered ends ordered
    → object (members_in_order (members value ordered)) ≡ object_of (members value ends)
ordered_object value prefixes ends ordered written are =
    let by = values_by_text value prefixes ends ordered written are in
    let set = set_of (texts ends) in
    ap (λ ms. object (members_in_order ms)) by.listed
    ∙ (ap object (sym (listed_valued (by_text value ends) set (rise-set_of (texts ends)))
    ∙ set_members (by_text value ends) set (texts ends) by.set)
    ∙ ap object_of (sym by.given))

-- the same where there are any
ordered_if_any : (value : Name → Option Data) (prefixes : List Row) (ends ordered : List Endpoint)
    → AllByRecursion (IsWritten prefixes) ends → AreOrdered ends ordered
    → cond (has_member (members value ordered)) (Some (object (members_in_order (members value ordered)))) None
    ≡ object_if_any (members value ends)
ordered_if_any value prefixes ends ordered written are =
    let by = values_by_text value prefixes ends ordered written are in
    let set = set_of (texts ends) in
    (λ i. cond (has_member (by.listed i)) (Some (object (members_in_order (by.listed i)))) None)
    ∙ ((λ i. cond (has_member (valued (by_text value ends) set))
    (Some (object (sym (listed_valued (by_text value ends) set (rise-set_of (texts ends))) i))) None)
    ∙ (set_object (by_text value ends) set (texts ends) by.set ∙ ap object_if_any (sym by.given)))

-- ---- one group

-- the value of a PID by costs
abbrev told : Bool → (Name → Option (List (Option ℕ))) → Name → Option Data
told multi costs pid = option_map (costs_data multi) (costs pid)

shown_ends : (multi : Bool) (costs : Name → Option (List (Option ℕ))) (ends : List Endpoint)
    → shown_members multi (texts ends) (map costs (pids ends)) ≡ members (told multi costs) ends
shown_ends multi costs [] = refl
shown_ends multi costs (end ∷ ends) = by (costs end.pid) refl (shown_ends multi costs ends)
  where
    by : (found : Option (List (Option ℕ))) → costs end.pid ≡ found
        → shown_members multi (texts ends) (map costs (pids ends)) ≡ members (told multi costs) ends
        → shown_members multi (texts (end ∷ ends)) (map costs (pids (end ∷ ends)))
        ≡ members (told multi costs) (end ∷ ends)
    by None e below = rw e below
    by (Some found) e below =
        rw e (ap (λ (more : List (Name × Data)). (end.text, costs_data multi found) ∷ more) below)

any_ends : (multi : Bool) (costs : Name → Option (List (Option ℕ))) (ends : List Endpoint)
    → list_any (λ pair. is_some pair) (map costs (pids ends)) ≡ has_member (members (told multi costs) ends)
any_ends multi costs [] = refl
any_ends multi costs (end ∷ ends) = by (costs end.pid) refl (any_ends multi costs ends)
  where
    by : (found : Option (List (Option ℕ))) → costs end.pid ≡ found
        → list_any (λ pair. is_some pair) (map costs (pids ends)) ≡ has_member (members (told multi costs) ends)
        → list_any (λ pair. is_some pair) (map costs (pids (end ∷ ends)))
        ≡ has_member (members (told multi costs) (end ∷ ends))
    by None e below = rw e below
    by (Some found) e below = rw e refl

-- the costs of the pairs of a PID
abbrev costs_from : Rows → Name → EndAskData → Name → Name → Option (List (Option ℕ))
costs_from rows net ask src = pair_costs (pairs_of rows net (pid_ask ask)) src

group_is : (rows : Rows) (net : Name) (ask : EndAskData) (prefixes : List Row) (src : Name) (dsts to : List Endpoint)
    → AllByRecursion (IsWritten prefixes) dsts → AreOrdered dsts to
    → found_object ask.multi (texts to) (map (costs_from rows net ask src) (pids to))
    ≡ object_if_any (members (pair_value rows net (pid_ask ask) src) dsts)
group_is rows net ask prefixes src dsts to written are =
    let costs = costs_from rows net ask src in
    (λ i. cond (any_ends ask.multi costs to i)
    (Some (object (members_in_order (shown_ends ask.multi costs to i)))) None)
    ∙ ((λ i.
    cond (has_member (members (λ pid. pair_is rows net (pid_ask ask) src pid i) to))
    (Some (object (members_in_order (members (λ pid. pair_is rows net (pid_ask ask) src pid i) to)))) None)
    ∙ ordered_if_any (pair_value rows net (pid_ask ask) src) prefixes dsts to written are)

-- ---- all groups

-- what is found between endpoints
abbrev pub found_of : PairsData → List Endpoint → List Endpoint → List Found
found_of pairs srcs dsts = map (λ src. map (pair_costs pairs src) (pids dsts)) (pids srcs)

groups_by : (multi : Bool) (dsts : List Name) (row : Name → Found) (srcs : List Endpoint)
    → groups_at multi dsts srcs (map row (pids srcs)) ≡ members (λ pid. found_object multi dsts (row pid)) srcs
groups_by multi dsts row [] = refl
groups_by multi dsts row (src ∷ srcs) =
    ap (cons_option (named src.text (found_object multi dsts (row src.pid)))) (groups_by multi dsts row srcs)

-- the groups in byte order make the object of all
pub groups_are : (rows : Rows) (net : Name) (ask : EndAskData) (prefixes : List Row) (srcs dsts from to : List Endpoint)
    → AllByRecursion (IsWritten prefixes) srcs → AllByRecursion (IsWritten prefixes) dsts
    → AreOrdered srcs from → AreOrdered dsts to
    → object (members_in_order (groups_at ask.multi (texts to) from
    (found_of (pairs_of rows net (pid_ask ask)) from to)))
    ≡ pairs_object rows net ask srcs dsts
groups_are rows net ask prefixes srcs dsts from to written known are_from are_to =
    let row : Name → Found = λ src. map (costs_from rows net ask src) (pids to) in
    ap (λ ms. object (members_in_order ms))
    (groups_by ask.multi (texts to) row from
    ∙ (λ i. members (λ src. group_is rows net ask prefixes src dsts to known are_to i) from))
    ∙ ordered_object (λ src. object_if_any (members (pair_value rows net (pid_ask ask) src) dsts))
    prefixes srcs from written are_from

-- ---- a group more

none_left : (multi : Bool) (dsts : List Name) (srcs : List Endpoint) → groups_at multi dsts srcs [] ≡ []
none_left multi dsts [] = refl
none_left multi dsts (src ∷ srcs) = refl

-- the group of the next source, before those of the others
pub groups_next : (multi : Bool) (dsts : List Name) (src : Endpoint) (srcs : List Endpoint)
    (found : List Found) (at : ℕ)
    → groups_at multi dsts (src ∷ srcs) (drop at found)
    ≡ cons_option (named src.text (found_object multi dsts (pairs_at found at)))
    (groups_at multi dsts srcs (drop (at + 1) found))
groups_next multi dsts src srcs [] at =
    rw (drop_all {X = Found} at [] (omega arith), drop_all {X = Found} (at + 1) [] (omega arith))
    (sym (none_left multi dsts srcs))
groups_next multi dsts src srcs (pairs ∷ found) zero = refl
groups_next multi dsts src srcs (pairs ∷ found) (suc at) =
    let step : suc at + 1 ≡ suc (at + 1) = omega arith in
    groups_next multi dsts src srcs found at
    ∙ ap (λ n. cons_option (named src.text (found_object multi dsts (pairs_at found at)))
    (groups_at multi dsts srcs (drop n (pairs ∷ found)))) (sym step)
