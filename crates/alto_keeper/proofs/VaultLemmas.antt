-- What a vault in memory holds after one of its paths was changed.
use Rattle.std.proofs.Common.{◌≡◌, ◌≢◌, ℕ, Bool, true, false, List, Option, Some, None, IsTrue, is_some, unwrap_or}
use Rattle.std.proofs.Common.{cond, String, string_bytes, bytes_eq, refl, sym, ap, subst, ◌∙◌}
use Rattle.std.specs.BTreeMap.{BTreeMap, UpdatesBy, get_by_text}
use Rattle.std.specs.Cmp.Lexicographic.{slice_cmp}
use Rattle.std.specs.Ordering.{nat_cmp}
use Rattle.std.specs.String.{string_cmp}
use Rattle.std.specs.declared.alloc.Global.{Global}
use Rattle.std.proofs.lemmas.Map.Text.{btree_map_updates_text}
use Rattle.std.proofs.lemmas.Slice.Eq.{bytes_eq-Decides}
use Rattle.alto_keeper.specs.Stored.{StoredData, nothing}

abbrev Places : Type 0
Places = BTreeMap (String Global) StoredData

abbrev pub Puts : List ℕ → Places → Places → StoredData → Type 0
Puts path old new stored = UpdatesBy string_cmp (λ key. slice_cmp nat_cmp path (string_bytes key)) old new (Some stored)

still_there : (b : Bool) (stored : StoredData) (there : Option StoredData) → IsTrue (is_some there)
    → IsTrue (is_some (cond b (Some stored) there))
still_there true stored there h = refl
still_there false stored there h = h

-- a path that is known stays so
pub remembered : (path : List ℕ) (old new : Places) (stored : StoredData) → Puts path old new stored → (other : List ℕ)
    → IsTrue (is_some (get_by_text old other)) → IsTrue (is_some (get_by_text new other))
remembered path old new stored puts other known =
    subst (λ (it : Option StoredData). IsTrue (is_some it))
    (sym (btree_map_updates_text path old new (Some stored) puts other))
    (still_there (bytes_eq path other) stored _ known)

none_there : (there : Option StoredData) → is_some there ≡ false → there ≡ None
none_there None h = refl
none_there (Some stored) h = absurd cc

by_test : (b : Bool) (stored : StoredData) (there : Option StoredData) → (b ≡ true → unwrap_or there nothing ≡ stored)
    → unwrap_or (cond b (Some stored) there) nothing ≡ unwrap_or there nothing
by_test true stored there same = sym (same refl)
by_test false stored there same = refl

-- nothing under a new path leaves what is held
pub learned : (path : List ℕ) (old new : Places) → is_some (get_by_text old path) ≡ false → Puts path old new nothing
    → (other : List ℕ) → unwrap_or (get_by_text new other) nothing ≡ unwrap_or (get_by_text old other) nothing
learned path old new absent puts other =
    ap (λ (it : Option StoredData). unwrap_or it nothing)
    (btree_map_updates_text path old new (Some nothing) puts other)
    ∙ by_test (bytes_eq path other) nothing _ (λ same.
    let one : path ≡ other = (bytes_eq-Decides path other).0 same in
    ap (λ (it : Option StoredData). unwrap_or it nothing)
    (none_there _ (subst (λ (at : List ℕ). is_some (get_by_text old at) ≡ false) one absent)))

-- records under a path leave what is held under others
pub apart : (path : List ℕ) (old new : Places) (stored : StoredData) → Puts path old new stored → (other : List ℕ)
    → other ≢ path
    → unwrap_or (get_by_text new other) nothing ≡ unwrap_or (get_by_text old other) nothing
apart path old new stored puts other differs =
    ap (λ (it : Option StoredData). unwrap_or it nothing) (btree_map_updates_text path old new (Some stored) puts other)
    ∙ by_test (bytes_eq path other) stored _ (λ same. absurd (differs (sym ((bytes_eq-Decides path other).0 same))))
