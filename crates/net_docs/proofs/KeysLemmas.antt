-- A network map is read from the epoch and from the keys that touch it.
use Rattle.std.proofs.Common.{◌≡◌, ℕ, refl}
use Rattle.std.specs.Cmp.Lexicographic.{nat_list_eq_equiv}
use Rattle.std.specs.Prelude.{Bool, true, false, ◌++◌, List, [], ◌∷◌, filter, not, None, codes, decimal}
use Rattle.serde_json.specs.Data.{Data, string}
use Rattle.json_tree.specs.Document.{array_of, object_of}
use Rattle.alto_rows.specs.declared.key.Key.{Key}
use Rattle.alto_rows.specs.declared.value.Value.{Value}
use Rattle.alto_rows.specs.declared.key.Key.TheVariants as key
use Rattle.alto_rows.specs.declared.resource.Resource.TheVariants as resource
use Rattle.alto_rows.specs.Order.{same_name}
use Rattle.alto_rows.specs.Rows.{value_of}
use Rattle.alto_rows.specs.Touches.{touches}
use Rattle.alto_rows.specs.Versions.{tag_of, text_in, number_in}
use Rattle.alto_maps.specs.Shape.{Name, Face, document}
use Rattle.net_docs.specs.Laws.{MapIsOfItsKeys}
use Rattle.net_docs.specs.NetworkMap.{families, is_empty, net_shape, pid_declared, pids_of, prefix_listed, prefixes_of}
use Rattle.net_docs.proofs.ListedLemmas.{same_listed}

-- a row that doesn't touch the map declares no PID of its network
pub no_pid : (net : Name) (row : Key × Value) → touches (resource.Net net) row.0 ≡ false → pid_declared net row ≡ None
no_pid net (key.Pid of pid, v) none = by (same_name net of) refl
  where
    by : (b : Bool) → same_name net of ≡ b → pid_declared net (key.Pid of pid, v) ≡ None
    by true e = let touched : touches (resource.Net net) (key.Pid of pid) ≡ true = rw e refl in cc
    by false e = rw e refl
no_pid net _ none = refl

-- nor lists it a prefix
pub no_prefix : (net pid kind : Name) (row : Key × Value) → touches (resource.Net net) row.0 ≡ false
    → prefix_listed net pid kind row ≡ None
no_prefix net pid kind (key.Prefix of owner prefix, v) none = by (same_name net of) refl
  where
    by : (b : Bool) → same_name net of ≡ b → prefix_listed net pid kind (key.Prefix of owner prefix, v) ≡ None
    by true e = let touched : touches (resource.Net net) (key.Prefix of owner prefix) ≡ true = rw e refl in cc
    by false e = rw e refl
no_prefix net pid kind _ none = refl

-- a network map with this tag, these PIDs and these texts of each family
abbrev face_with : Name → List ℕ → List Name → (Name → Name → List Data) → Face
face_with net tag pids texts = record {
  meta = object_of ((codes "vtag", object_of ((codes "resource-id", string net) ∷ (codes "tag", string tag) ∷ []))
      ∷ []);
  version = string tag;
  groups = pids;
  members = λ pid. filter (λ kind. not (is_empty (texts pid kind))) families;
  value = λ pid kind. array_of (texts pid kind);
}

-- a network map is read from the epoch and from the keys that touch it
pub same_map : MapIsOfItsKeys
same_map rows others net s t epoch same =
    λ i. document net_shape (face_with net (tag i) (pids i) (λ pid kind. texts pid kind i))
  where
    version : value_of rows (key.Seq (resource.Net net)) ≡ value_of others (key.Seq (resource.Net net))
    version = same (key.Seq (resource.Net net)) (nat_list_eq_equiv.refl net)

    tag : tag_of rows (resource.Net net) ≡ tag_of others (resource.Net net)
    tag = λ i. text_in (epoch i) ++ codes "-" ++ decimal (number_in (version i))

    pids : pids_of rows net ≡ pids_of others net
    pids = same_listed (pid_declared net) (touches (resource.Net net)) (no_pid net) rows others s t same

    texts : (pid kind : Name) → prefixes_of rows net pid kind ≡ prefixes_of others net pid kind
    texts pid kind = same_listed (prefix_listed net pid kind) (touches (resource.Net net)) (no_prefix net pid kind)
        rows others s t same
