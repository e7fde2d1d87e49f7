-- PIDs and none, kept as names and whether each is a PID.
use Rattle.std.proofs.Common.{◌≡◌, ℕ, ◌+◌, ◌<◌, ap, sym, ◌∙◌, arith, get_or, take}
use Rattle.std.specs.Prelude.{List, [], ◌∷◌, ◌++◌, length, map, Option, Some, None, Bool, option_copied}
use Rattle.std.proofs.Common.{Bor}
use Rattle.std.specs.Option.{is_some, unwrap_or}
use Rattle.std.specs.List.{zip}
use Rattle.std.proofs.lemmas.List.{get_or-map, length-map, length_push, map_push, take_more}
use Rattle.std.proofs.lemmas.Slice.Zip.{firsts-zip, get_or-zip}
use Rattle.pid_prefix.specs.Pids.{pid_if}
use Rattle.pid_prefix.proofs.RangesLemmas.{zip-push}

-- what these names and signs tell is the PIDs
abbrev pub Packs : List (Option (List ℕ)) → List Bool → List (List ℕ) → Type 0
Packs pids signs names = (length signs ≡ length names) × (map pid_if (zip signs names) ≡ pids)

-- one more
pub packs_more : (pids : List (Option (List ℕ))) (i : ℕ) (d : Option (List ℕ)) (signs later : List Bool) (sign : Bool)
    (names more : List (List ℕ)) (name : List ℕ) → i < length pids → pid_if (sign, name) ≡ get_or pids i d
    → later ≡ signs ++ sign ∷ [] → more ≡ names ++ name ∷ []
    → Packs (take i pids) signs names → Packs (take (i + 1) pids) later more
packs_more pids i d signs later sign names more name low own is_later is_more kept = (
  omega (arith, ap length is_later, ap length is_more, length_push signs sign, length_push names name, kept.0),
  ap (λ all. map pid_if (zip all more)) is_later
      ∙ (ap (λ all. map pid_if (zip (signs ++ sign ∷ []) all)) is_more
      ∙ (ap (map pid_if) (zip-push signs names sign name kept.0)
      ∙ (map_push pid_if (zip signs names) (sign, name)
      ∙ (ap (λ all. all ++ pid_if (sign, name) ∷ []) kept.1
      ∙ (ap (λ last. take i pids ++ last ∷ []) own ∙ sym (take_more pids i d low)))))),
)

-- as many as names
pub length_packed : (signs : List Bool) (names : List (List ℕ)) (pids : List (Option (List ℕ)))
    → Packs pids signs names → length pids ≡ length names
length_packed signs names pids packs =
    omega (
      arith,
      packs.0,
      ap length packs.1,
      length-map (zip signs names) pid_if,
      length-map (zip signs names) (λ name. name.0),
      ap length (firsts-zip signs names (sym packs.0)),
    )

-- the one at a place
pub packed_at : (signs : List Bool) (names : List (List ℕ)) (pids : List (Option (List ℕ))) (place : ℕ) (sign : Bool)
    (name : List ℕ) → Packs pids signs names → place < length pids → sign ≡ get_or signs place sign
    → name ≡ get_or names place name → pid_if (sign, name) ≡ get_or pids place None
packed_at signs names pids place sign name packs low own is =
    let many : length pids ≡ length names = length_packed signs names pids packs in
    let all : length pids ≡ length (zip signs names) =
    sym (sym (length-map (zip signs names) pid_if) ∙ ap length packs.1) in
    ap pid_if (sym (get_or-zip signs names place (sign, name)
    (omega (arith, packs.0, many, low)) (omega (arith, many, low))
    ∙ (ap (λ (t : Bool). (t, get_or names place name)) (sym own) ∙ ap (λ (n : List ℕ). (sign, n)) (sym is))))
    ∙ (sym (get_or-map pid_if (zip signs names) place (sign, name) None (omega (arith, all, low)))
    ∙ ap (λ all. get_or all place None) packs.1)

-- a PID, or none and another name
pub pid_or : (pid : Option (List ℕ)) (found : Option (Bor (List ℕ))) (least name : Bor (List ℕ)) (sign : Bool)
    → option_copied found ≡ pid → name ≡ unwrap_or found least → sign ≡ is_some pid → pid_if (sign, name.now) ≡ pid
pid_or pid None least name sign is named signed =
    ap (λ (t : Bool). pid_if (t, name.now)) (signed ∙ ap is_some (sym is)) ∙ is
pid_or pid (Some other) least name sign is named signed =
    ap (λ (t : Bool). pid_if (t, name.now)) (signed ∙ ap is_some (sym is))
    ∙ (ap (λ (n : Bor (List ℕ)). Some n.now) named ∙ is)
