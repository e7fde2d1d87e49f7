-- Single operations, as they are written.
use Rattle.std.proofs.Common.{◌≡◌, ℕ, refl, ap, sym, ◌∙◌, append_assoc, append-nil}
use Rattle.std.specs.Prelude.{Bool, true, false, List, [], ◌∷◌, ◌++◌, Option, Some, None, is_some, map, codes}
use Rattle.std.specs.List.{list_any}
use Rattle.json.specs.Token.{Token, begin_object, end_object, key, string}
use Rattle.json.specs.Tree.{json_tokens}
use Rattle.json.specs.Written.{Written}
use Rattle.serde_json.specs.Data.{Data, number, unsigned}
use Rattle.serde_json.specs.Data.{string as text}
use Rattle.serde_json.specs.Written.{outline}
use Rattle.json_tree.specs.Document.{with_member}
use Rattle.json_tree.specs.Pointer.{pointer_text}
use Rattle.json_patch.specs.Operations.{add, remove, replace}
use Rattle.json_patch.specs.OperationList.{operation_data}
use Rattle.alto_rows.specs.declared.key.Key.{Key}
use Rattle.alto_rows.specs.Good.{AreGood}
use Rattle.alto_rows.specs.Rows.{Rows}
use Rattle.alto_maps.specs.OperationForm.{on_meta, under}
use Rattle.alto_maps.specs.Shape.{Name, Face, group_object}
use Rattle.alto_maps.specs.Writing.{AddsMember, AddsValue}
use Rattle.net_docs.specs.NetworkMap.{dependent_tags}
use Rattle.alto_rows.specs.Costs.{cost_of}
use Rattle.cost_docs.specs.CostMap.{cost_face, cost_shape}
use Rattle.cost_docs.specs.Writing.{AddsTokens}
use Rattle.edge_text.specs.Operations.{addition_tokens, are_both, on_change, on_cost, on_whole, removal_tokens}
use Rattle.edge_text.specs.Operations.{tokens_of}
use Rattle.edge_text.specs.Pairs.{is_version_of}
use Rattle.edge_text.proofs.OperationLemmas.{cost_changed}
use Rattle.edge_text.proofs.PlaceLemmas.{places_of, version_touched}

-- ---- additions and removals

-- an operation that adds a value
added_told : (path : List Name) (d : Data)
    → json_tokens (outline (operation_data (record { path = path; action = add d })))
    ≡ addition_tokens (pointer_text path) ++ (json_tokens (outline d) ++ end_object ∷ [])
unfolding with_member
added_told path d = refl

pub addition_written : (path : List Name) (d : Data) (old begun mid new : Written)
    → AddsTokens (addition_tokens (pointer_text path)) old begun → AddsValue d begun mid
    → new.tokens ≡ mid.tokens ++ end_object ∷ [] → new.before ≡ mid.before
    → AddsTokens (tokens_of (record { path = path; action = add d } ∷ [])) old new
addition_written path d old begun mid new addition value closed stays =
    record {
      added =
          closed
          ∙ (ap (λ ts. ts ++ end_object ∷ []) (value.tokens ∙ ap (λ ts. ts ++ json_tokens (outline d)) addition.added)
          ∙ (append_assoc (old.tokens ++ addition_tokens (pointer_text path)) (json_tokens (outline d))
          (end_object ∷ [])
          ∙ (append_assoc old.tokens (addition_tokens (pointer_text path)) (json_tokens (outline d) ++ end_object ∷ [])
          ∙ ap (λ ts. old.tokens ++ ts) (sym (added_told path d)
          ∙ sym (append-nil (json_tokens (outline (operation_data (record { path = path; action = add d })))))))));
      before = stays ∙ (value.before ∙ addition.before);
    }

-- one that removes what is there
pub removed_told : (path : List Name)
    → tokens_of (record { path = path; action = remove } ∷ []) ≡ removal_tokens (pointer_text path)
unfolding with_member
removed_told path = refl

-- an addition up to its value
pub addition_begun : (path : List ℕ) (old begun op at new : Written) → begun.tokens ≡ old.tokens ++ begin_object ∷ []
    → begun.before ≡ old.before
    → AddsMember (codes "op") (text (codes "add")) begun op → AddsMember (codes "path") (text path) op at
    → new.tokens ≡ at.tokens ++ key (codes "value") ∷ [] → new.before ≡ at.before
    → AddsTokens (addition_tokens path) old new
addition_begun path old begun op at new opened same first second keyed stays =
    record {
      added =
          keyed
          ∙ (ap (λ ts. ts ++ key (codes "value") ∷ []) (second.tokens
          ∙ ap (λ ts. ts ++ there) (first.tokens ∙ ap (λ ts. ts ++ named) opened))
          ∙ five old.tokens (begin_object ∷ []) named there (key (codes "value") ∷ []));
      before = stays ∙ (second.before ∙ (first.before ∙ same));
    }
  where
    named : List Token
    named = key (codes "op") ∷ string (codes "add") ∷ []

    there : List Token
    there = key (codes "path") ∷ string path ∷ []

    five : (a b c d e : List Token) → (((a ++ b) ++ c) ++ d) ++ e ≡ a ++ (b ++ (c ++ (d ++ e)))
    five a b c d e = append_assoc ((a ++ b) ++ c) d e
        ∙ (append_assoc (a ++ b) c (d ++ e) ∙ append_assoc a b (c ++ (d ++ e)))

-- ---- on groups and costs

-- a group that stood alone is removed, and one that stands alone is added
pub whole_removed : (s : Name) (after : Face) (src : Name) (b a : Bool) → b ≡ true → a ≡ false
    → map (under s) (on_whole after src (b, a)) ≡ record { path = s ∷ src ∷ []; action = remove } ∷ []
whole_removed s after src b a e f = rw (e, f) refl

pub whole_added : (s : Name) (after : Face) (src : Name) (b a : Bool) → b ≡ false → a ≡ true
    → map (under s) (on_whole after src (b, a))
    ≡ record { path = s ∷ src ∷ []; action = add (group_object after src) } ∷ []
whole_added s after src b a e f = rw (e, f) refl

-- and so is a cost
pub cost_added : (s src dst : Name) (old new : Option ℕ) (n : ℕ) → new ≡ Some n
    → map (under s) (map (under src) (on_cost dst old new))
    ≡ record { path = s ∷ src ∷ dst ∷ []; action = add (number (unsigned n)) } ∷ []
cost_added s src dst old new n e = rw e refl

pub cost_removed : (s src dst : Name) (old new : Option ℕ) → new ≡ None → is_some old ≡ true
    → map (under s) (map (under src) (on_cost dst old new)) ≡ record { path = s ∷ src ∷ dst ∷ []; action = remove } ∷ []
cost_removed s src dst None new e some = cc
cost_removed s src dst (Some n) new e some = rw e refl

-- of a group that stood and stands the operation on a pair is that on its cost
pub change_is : (net metric src dst : Name) (before after : Rows) (both : Bool × Bool) (old new : Option ℕ)
    → AreGood before → AreGood after → are_both both ≡ true
    → old ≡ cost_of before net metric src dst → new ≡ cost_of after net metric src dst
    → on_change (cost_face net metric before) (cost_face net metric after) both src dst
    ≡ map (under src) (on_cost dst old new)
change_is net metric src dst before after both old new good good' together e f =
    rw (together, e, f) (ap (map (under src)) (cost_changed net metric before after src dst good good'))

-- ---- on the version

-- the one that replaces the version
version_told : (d : Data)
    → tokens_of (record { path = codes "meta" ∷ codes "dependent-vtags" ∷ []; action = replace d } ∷ [])
    ≡ begin_object ∷ ((key (codes "op") ∷ string (codes "replace") ∷ [])
    ++ ((key (codes "path") ∷ string (codes "/meta/dependent-vtags") ∷ [])
    ++ (key (codes "value") ∷ (json_tokens (outline d) ++ end_object ∷ []))))
unfolding with_member
version_told d = ap (λ ts. begin_object ∷ key (codes "op") ∷ string (codes "replace") ∷ key (codes "path")
    ∷ string (codes "/meta/dependent-vtags") ∷ key (codes "value") ∷ ts)
    (append-nil (json_tokens (outline d) ++ end_object ∷ []))

pub no_version : (net metric : Name) (after : Face) (keys : List Key) → list_any (is_version_of net) keys ≡ false
    → on_meta cost_shape after (places_of net metric keys) ≡ []
no_version net metric after keys none = rw (version_touched net metric keys, none) refl

some_version : (net metric : Name) (after : Rows) (keys : List Key) → list_any (is_version_of net) keys ≡ true
    → on_meta cost_shape (cost_face net metric after) (places_of net metric keys)
    ≡ record { path = codes "meta" ∷ codes "dependent-vtags" ∷ []; action = replace (dependent_tags after net) }
    ∷ []
some_version net metric after keys some = rw (version_touched net metric keys, some) refl

pub version_written : (net metric : Name) (after : Rows) (keys : List Key) (old begun op path named mid new : Written)
    → list_any (is_version_of net) keys ≡ true
    → begun.tokens ≡ old.tokens ++ begin_object ∷ [] → begun.before ≡ old.before
    → AddsMember (codes "op") (text (codes "replace")) begun op
    → AddsMember (codes "path") (text (codes "/meta/dependent-vtags")) op path
    → named.tokens ≡ path.tokens ++ key (codes "value") ∷ [] → named.before ≡ path.before
    → AddsValue (dependent_tags after net) named mid
    → new.tokens ≡ mid.tokens ++ end_object ∷ [] → new.before ≡ mid.before
    → AddsTokens (tokens_of (on_meta cost_shape (cost_face net metric after) (places_of net metric keys))) old new
version_written net metric after keys old begun op path named mid new some opened same first second keyed same'
    value closed stays =
    record {
      added =
          closed
          ∙ (ap (λ ts. ts ++ end_object ∷ [])
          (value.tokens ∙ ap (λ ts. ts ++ tags)
          (keyed ∙ ap (λ ts. ts ++ key (codes "value") ∷ []) (second.tokens
          ∙ ap (λ ts. ts ++ at) (first.tokens ∙ ap (λ ts. ts ++ named_op) opened))))
          ∙ (seven old.tokens (begin_object ∷ []) named_op at (key (codes "value") ∷ []) tags (end_object ∷ [])
          ∙ ap (λ ts. old.tokens ++ ts) (sym (version_told (dependent_tags after net))
          ∙ ap tokens_of (sym (some_version net metric after keys some)))));
      before = stays ∙ (value.before ∙ (same' ∙ (second.before ∙ (first.before ∙ same))));
    }
  where
    tags : List Token
    tags = json_tokens (outline (dependent_tags after net))

    named_op : List Token
    named_op = key (codes "op") ∷ string (codes "replace") ∷ []

    at : List Token
    at = key (codes "path") ∷ string (codes "/meta/dependent-vtags") ∷ []

    seven : (a b c d e f g : List Token)
        → (((((a ++ b) ++ c) ++ d) ++ e) ++ f) ++ g ≡ a ++ (b ++ (c ++ (d ++ (e ++ (f ++ g)))))
    seven a b c d e f g =
        append_assoc ((((a ++ b) ++ c) ++ d) ++ e) f g
        ∙ (append_assoc (((a ++ b) ++ c) ++ d) e (f ++ g)
        ∙ (append_assoc ((a ++ b) ++ c) d (e ++ (f ++ g))
        ∙ (append_assoc (a ++ b) c (d ++ (e ++ (f ++ g))) ∙ append_assoc a b (c ++ (d ++ (e ++ (f ++ g)))))))
