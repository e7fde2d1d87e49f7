-- Ids are unambiguous, and a text that reads as the id of a declared resource names it.
use Rattle.std.proofs.Common.{◌≡◌, ◌≢◌, ℕ, Bool, true, false, List, [], ◌∷◌, ◌++◌, take, drop, get_or, Option, Some}
use Rattle.std.proofs.Common.{None, refl, sym, ap, ◌∙◌, subst, arith, append-nil, append_assoc, take-append-drop}
use Rattle.std.specs.Prelude.{◌↔◌, ◌||◌, codes, MatchOption, IfSome, is_some, cond}
use Rattle.std.specs.BTreeMap.{is_at}
use Rattle.std.specs.List.{find, list_any, AllByRecursion}
use Rattle.std.specs.Ordering.{is_eq}
use Rattle.std.proofs.lemmas.List.{append_cancel_left}
use Rattle.alto_names.specs.Name.{IsNetName, IsMetric}
use Rattle.alto_rows.specs.declared.resource.Resource.{Resource}
use Rattle.alto_rows.specs.declared.resource.Resource.TheVariants as resource
use Rattle.alto_rows.specs.declared.value.Value.{Value}
use Rattle.alto_rows.specs.Order.{net_of, resource_cmp, same_name}
use Rattle.alto_rows.specs.Rows.{Rows, value_of}
use Rattle.alto_rows.specs.Good.{AreGood, IsResource, IsKey, Fits}
use Rattle.alto_rows.specs.Versions.{declaring_key, is_declared, resources_of}
use Rattle.alto_rows.specs.Ids.{resource_id, is_id_of, resource_named}
use Rattle.alto_rows.specs.Pieces.{id_rest, IsOfRest, ReadsRest, EndsNet, IsNetEnd}
use Rattle.alto_rows.proofs.OrderLemmas.{equal_tests, resource_cmp_exact, resource_cmp_itself}
use Rattle.alto_rows.proofs.PieceLemmas.{apart, net_bytes}
use Rattle.alto_rows.proofs.ResourceLemmas.{or_true, resources_found}
use Rattle.alto_rows.proofs.TouchesLemmas.{one_name, same_name_itself}

-- ---- ids by their pieces

id_split : (of : Resource) → resource_id of ≡ net_of of ++ id_rest of
id_split (resource.Net net) = sym (append-nil net)
id_split (resource.Cost net metric) = refl
id_split (resource.Prop net) = refl

rest_ends : (of : Resource) → EndsNet (id_rest of)
rest_ends (resource.Net net) = tt
rest_ends (resource.Cost net metric) = refl
rest_ends (resource.Prop net) = refl

net_named : (of : Resource) → IsResource of → IsNetName (net_of of)
net_named (resource.Net net) h = h
net_named (resource.Cost net metric) h = h.0
net_named (resource.Prop net) h = h

-- what stands behind the name tells the kind, and the metric
cost_is_not_prop : (metric : List ℕ) → codes ":cost:" ++ metric ≡ codes ":prop" → ⊥
cost_is_not_prop metric e = let byte : ◌≡◌ {A = ℕ} 99 112 = ap (λ t. get_or t 1 0) e in omega arith

one_rest : (one other : Resource) → net_of one ≡ net_of other → id_rest one ≡ id_rest other → one ≡ other
one_rest (resource.Net a) (resource.Net b) n e = ap (λ net. resource.Net net) n
one_rest (resource.Net a) (resource.Cost b m) n e = cc
one_rest (resource.Net a) (resource.Prop b) n e = cc
one_rest (resource.Cost a m) (resource.Net b) n e = cc
one_rest (resource.Cost a m) (resource.Cost b k) n e =
    let metrics : m ≡ k = append_cancel_left (codes ":cost:") m k e in
    cc
one_rest (resource.Cost a m) (resource.Prop b) n e = absurd (cost_is_not_prop m e)
one_rest (resource.Prop a) (resource.Net b) n e = cc
one_rest (resource.Prop a) (resource.Cost b m) n e = absurd (cost_is_not_prop m (sym e))
one_rest (resource.Prop a) (resource.Prop b) n e = ap (λ net. resource.Prop net) n

-- two resources with one id are one
pub unambiguous : (one other : Resource) → IsResource one → IsResource other
    → resource_id one ≡ resource_id other → one ≡ other
unambiguous one other h k e =
    let same = apart (net_of one) (net_of other) (id_rest one) (id_rest other)
    (net_bytes (net_of one) (net_named one h))
    (net_bytes (net_of other) (net_named other k)) (rest_ends one) (rest_ends other) (sym (id_split one) ∙ e
    ∙ id_split other) in
    one_rest one other same.0 same.1

-- a text that is an id is cut where the bytes of a network's name end
cut_id : (of : Resource) (text : List ℕ) (n : ℕ) → IsNetEnd text n → IsResource of → resource_id of ≡ text
    → (net_of of ≡ take n text) × (id_rest of ≡ drop n text)
cut_id of text n end h e =
    apart (net_of of) (take n text) (id_rest of) (drop n text) (net_bytes (net_of of) (net_named of h))
    end.net (rest_ends of) end.ends
    (sym (id_split of) ∙ e ∙ sym (take-append-drop n text))

-- a text whose first bytes are no name of a network is no id
pub no_net : (text : List ℕ) (n : ℕ) → IsNetEnd text n → ¬ (IsNetName (take n text)) → (of : Resource)
    → (IsResource of × (resource_id of ≡ text)) ↔ (None ≡ Some of)
no_net text n end none of =
    (λ h. absurd (none (subst IsNetName (cut_id of text n end h.0 h.1).0 (net_named of h.0))), λ e. cc)

-- a text is read by its name and what is behind it
by_rest : (text net : List ℕ) (n : ℕ) → IsNetEnd text n → net ≡ take n text → (found : Option Resource)
    → ReadsRest net (drop n text) found → (of : Resource)
    → (IsResource of × (resource_id of ≡ text)) ↔ (found ≡ Some of)
by_rest text net n end name None none of =
    (λ h. let cut = cut_id of text n end h.0 h.1 in absurd (none of (h.0, cut.0 ∙ sym name, cut.1)), λ e. cc)
by_rest text net n end name (Some one) is of =
    let whole : resource_id one ≡ text = id_split one ∙ ap (λ t. t ++ id_rest one) (is.1 ∙ name)
    ∙ ap (λ t. take n text ++ t) is.2 ∙ take-append-drop n text in (
      λ h. ap (λ (x : Resource). Some x) (unambiguous one of is.0 h.0 (whole ∙ sym h.1)),
      λ e. let same : one ≡ of = cc in
          subst (λ (x : Resource). IsResource x × (resource_id x ≡ text)) same (is.0, whole),
    )

pub by_rest_at : (text net rest : List ℕ) (n : ℕ) → IsNetEnd text n → net ≡ take n text → rest ≡ drop n text
    → (found : Option Resource) → ReadsRest net rest found
    → (of : Resource) → (IsResource of × (resource_id of ≡ text)) ↔ (found ≡ Some of)
by_rest_at text net rest n end name e found is =
    by_rest text net n end name found (subst (λ (t : List ℕ). ReadsRest net t found) e is)

-- what stands behind the name of a network where it is neither nothing, nor a property map's, nor a cost map's
pub no_rest : (net rest : List ℕ) → rest ≢ [] → rest ≢ codes ":prop"
    → ((metric : List ℕ) → rest ≢ codes ":cost:" ++ metric) → ReadsRest net rest None
no_rest net rest some prop cost (resource.Net a) h = some (sym h.2)
no_rest net rest some prop cost (resource.Cost a m) h = cost m (sym h.2)
no_rest net rest some prop cost (resource.Prop a) h = prop (sym h.2)

-- and where it is a cost map's, but with no metric
no_metric : (net rest metric : List ℕ) → rest ≡ codes ":cost:" ++ metric → ¬ (IsMetric metric) → ReadsRest net rest None
no_metric net rest metric e none (resource.Net a) h = let bad : [] ≡ codes ":cost:" ++ metric = h.2 ∙ e in cc
no_metric net rest metric e none (resource.Cost a m) h =
    none (subst IsMetric (append_cancel_left (codes ":cost:") m metric (h.2 ∙ e)) h.0.1)
no_metric net rest metric e none (resource.Prop a) h = cost_is_not_prop metric (sym (h.2 ∙ e))

pub cost_rest : (net rest metric : List ℕ) → IsNetName net → rest ≡ codes ":cost:" ++ metric → (found : Option Resource)
    → MatchOption found (¬ (IsMetric metric)) (λ of. (of ≡ resource.Cost net metric) × IsMetric metric)
    → ReadsRest net rest found
cost_rest net rest metric h e None none = no_metric net rest metric e none
cost_rest net rest metric h e (Some of) is =
    subst (λ (x : Resource). IsOfRest net rest x) (sym is.0) ((h, is.1), refl, sym e)

-- ---- the declared resources

-- the names of a resource are those of the key that declares it
names_of_key : (of : Resource) → IsKey (declaring_key of) → IsResource of
names_of_key (resource.Net net) h = h
names_of_key (resource.Cost net metric) h = h
names_of_key (resource.Prop net) h = h

-- so those of a declared resource of good rows are of their alphabets
declared_named : (rows : Rows) (of : Resource) → AreGood rows → is_declared rows of ≡ true → IsResource of
declared_named rows of good h = by (value_of rows (declaring_key of)) (good.fit (declaring_key of)) h
  where
    by : (o : Option Value) → IfSome o (Fits (declaring_key of)) → is_some o ≡ true → IsResource of
    by None f k = cc
    by (Some v) f k = names_of_key of f.0

-- all resources of a list are declared
abbrev AreDeclared : Rows → List Resource → Type 0
AreDeclared rows all = AllByRecursion (λ of. is_declared rows of ≡ true) all

-- the last resources of rows are declared
each_declared : (rows : Rows) (front back : List Resource) → resources_of rows ≡ front ++ back → AreDeclared rows back
each_declared rows front [] e = tt
each_declared rows front (of ∷ back) e = (
  sym (resources_found rows of) ∙ ap (λ all. list_any (is_at (resource_cmp of)) all) e ∙ among front,
  each_declared rows (front ++ of ∷ []) back (e ∙ sym (append_assoc front (of ∷ []) back)),
)
  where
    among : (more : List Resource) → list_any (is_at (resource_cmp of)) (more ++ of ∷ back) ≡ true
    among [] = rw (resource_cmp_itself of) refl
    among (x ∷ more) = rw (among more) (or_true (is_eq (resource_cmp of x)))

-- ---- the resource that a text names

-- among declared resources the one with this id is found
find_one : (rows : Rows) (text : List ℕ) (of : Resource) → AreGood rows → IsResource of → resource_id of ≡ text
    → (all : List Resource) → AreDeclared rows all
    → list_any (is_at (resource_cmp of)) all ≡ true → find (λ x. is_id_of text x) all ≡ Some of
find_one rows text of good h e [] each is = cc
find_one rows text of good h e (x ∷ all) each is =
    by (λ later. find_one rows text of good h e all each.1 later) (is_id_of text x)
    refl (is_eq (resource_cmp of x)) refl is
  where
    by : (list_any (is_at (resource_cmp of)) all ≡ true → find (λ y. is_id_of text y) all ≡ Some of) → (b : Bool)
        → is_id_of text x ≡ b
        → (c : Bool) → is_eq (resource_cmp of x) ≡ c → (c || list_any (is_at (resource_cmp of)) all) ≡ true
        → cond (is_id_of text x) (Some x) (find (λ y. is_id_of text y) all) ≡ Some of
    by below true k c tie any =
        rw k (ap (λ (y : Resource). Some y)
        (unambiguous x of (declared_named rows x good each.0) h (one_name (resource_id x) text k ∙ sym e)))
    by below false k true tie any =
        let same : of ≡ x = resource_cmp_exact of x (equal_tests (resource_cmp of x) tie) in
        let named : is_id_of text x ≡ true = ap (is_id_of text) (sym same) ∙ ap (λ t. same_name t text) e
        ∙ same_name_itself text in
        cc
    by below false k false tie later = rw k (below later)

-- and none where none has it
find_none : (rows : Rows) (text : List ℕ) (all : List Resource) → AreDeclared rows all
    → ((x : Resource) → is_declared rows x ≡ true → resource_id x ≢ text)
    → find (λ x. is_id_of text x) all ≡ None
find_none rows text [] each none = refl
find_none rows text (x ∷ all) each none = by (find_none rows text all each.1 none) (is_id_of text x) refl
  where
    by : find (λ y. is_id_of text y) all ≡ None → (b : Bool) → is_id_of text x ≡ b
        → cond (is_id_of text x) (Some x) (find (λ y. is_id_of text y) all) ≡ None
    by below true k = absurd (none x each.0 (one_name (resource_id x) text k))
    by below false k = rw k below

-- a text that is the id of no resource names none
pub names_none : (rows : Rows) (text : List ℕ) → AreGood rows
    → ((of : Resource) → (IsResource of × (resource_id of ≡ text)) ↔ (None ≡ Some of))
    → None ≡ resource_named rows text
names_none rows text good reads =
    sym (find_none rows text (resources_of rows) (each_declared rows [] (resources_of rows) refl) (λ x is e.
    let no : None ≡ Some x = (reads x).0 (declared_named rows x good is, e) in
    cc))

-- the id of a resource names it where it is declared
pub names_if_declared : (rows : Rows) (text : List ℕ) (of : Resource) → AreGood rows
    → ((x : Resource) → (IsResource x × (resource_id x ≡ text)) ↔ (Some of ≡ Some x))
    → cond (is_declared rows of) (Some of) None ≡ resource_named rows text
names_if_declared rows text of good reads = by (is_declared rows of) refl
  where
    each : AreDeclared rows (resources_of rows)
    each = each_declared rows [] (resources_of rows) refl

    by : (b : Bool) → is_declared rows of ≡ b → cond b (Some of) None ≡ resource_named rows text
    by true e =
        let is : IsResource of × (resource_id of ≡ text) = (reads of).1 refl in
        sym (find_one rows text of good is.0 is.1 (resources_of rows) each (resources_found rows of ∙ e))
    by false e =
        sym (find_none rows text (resources_of rows) each (λ x is k.
        let same : Some of ≡ Some x = (reads x).0 (declared_named rows x good is, k) in
        let one : of ≡ x = cc in
        let both : true ≡ false = sym is ∙ ap (is_declared rows) (sym one) ∙ e in
        cc))
