-- The texts of documents of good rows become those of the rows after writes.
use Rattle.std.proofs.Common.{◌≡◌, refl, ap, sym, ◌∙◌, length, subst, arith}
use Rattle.std.proofs.lemmas.List.{append-nil, append_assoc}
use Rattle.std.specs.Prelude.{Bool, true, false, ◌||◌, List, [], ◌∷◌, ◌++◌, map, Option, Some, None, IfSome}
use Rattle.std.specs.Prelude.{option_map}
use Rattle.std.specs.BTreeMap.{is_at}
use Rattle.std.specs.List.{list_any}
use Rattle.std.specs.Ordering.{is_eq}
use Rattle.serde_json.specs.Written.{compact_text}
use Rattle.doc_pieces.proofs.RenewedLemmas.{pieces_stay}
use Rattle.doc_pieces.proofs.TextLemmas.{document_text}
use Rattle.alto_maps.specs.Differ.{DifferAt}
use Rattle.alto_maps.specs.Shape.{Face}
use Rattle.alto_maps.specs.declared.place.Place.{Place}
use Rattle.doc_pieces.specs.Pieces.{Pieces, pieces_of, text_of}
use Rattle.edge_patch.proofs.KindLemmas.{differ_at}
use Rattle.edge_patch.specs.Documents.{document, face_of, place_of, shape_of}
use Rattle.net_docs.specs.Differ.{DifferBy}
use Rattle.alto_rows.specs.declared.key.Key.{Key}
use Rattle.alto_rows.specs.declared.key.Key.TheVariants as key
use Rattle.alto_rows.specs.declared.resource.Resource.{Resource}
use Rattle.alto_rows.specs.declared.write.Write.{Write}
use Rattle.alto_rows.specs.Good.{AreGood}
use Rattle.alto_rows.specs.Order.{key_cmp, resource_cmp}
use Rattle.alto_rows.specs.Rows.{Rows, after, value_of}
use Rattle.alto_rows.specs.Touches.{touches}
use Rattle.alto_rows.specs.Versions.{is_declared, resources_of}
use Rattle.alto_rows.proofs.OrderLemmas.{equal_tests, one_key, resource_cmp_exact}
use Rattle.alto_rows.proofs.ResourceLemmas.{resources_found}
use Rattle.alto_rows.proofs.WriteLemmas.{NoneWrites, value_of-after-none}
use Rattle.alto_book.specs.Numbers.{touching}
use Rattle.alto_versions.specs.Texts.{AreTextsOf, IsTextOf, MapText, declared_text, is_epoch, map_pieces, text_in}
use Rattle.alto_versions.specs.Texts.{texts_in, writes_epoch}

-- ---- the text of a document

pub map_text : (rows : Rows) (of : Resource) → text_of (map_pieces rows of) ≡ compact_text (document of rows)
unfolding map_pieces
map_text rows of = sym (document_text (shape_of of) (face_of of rows))

-- ---- rows that writes led to

none_epoch : (writes : List Write) → writes_epoch writes ≡ false → NoneWrites key.Epoch writes
none_epoch [] none = tt
none_epoch (write ∷ writes) none = by (is_eq (key_cmp key.Epoch write.key)) refl (is_epoch write.key) refl
    none (none_epoch writes)
  where
    by : (b : Bool) → is_eq (key_cmp key.Epoch write.key) ≡ b → (c : Bool) → is_epoch write.key ≡ c
        → (c || writes_epoch writes) ≡ false
        → (writes_epoch writes ≡ false → NoneWrites key.Epoch writes) → NoneWrites key.Epoch (write ∷ writes)
    by b e true f none below = cc
    by true e false f none below = let other : true ≡ false = ap is_epoch (one_key key.Epoch write.key e) ∙ f in cc
    by false e false f none below = (e, below none)

-- a key that touches a resource and isn't among those that were written
none_writes : (of : Resource) (at : Key) (writes : List Write) → touches of at ≡ true
    → list_any (is_at (key_cmp at)) (touching of writes) ≡ false → NoneWrites at writes
none_writes of at [] touched none = tt
none_writes of at (write ∷ writes) touched none =
    by (is_eq (key_cmp at write.key)) refl (touches of write.key) refl none (none_writes of at writes touched)
  where
    by : (b : Bool) → is_eq (key_cmp at write.key) ≡ b → (c : Bool) → touches of write.key ≡ c
        → list_any (is_at (key_cmp at)) (touching of (write ∷ writes)) ≡ false
        → (list_any (is_at (key_cmp at)) (touching of writes) ≡ false → NoneWrites at writes)
        → NoneWrites at (write ∷ writes)
    by true e true f none below = let both : true ≡ false = rw (f, e) at none in cc
    by true e false f none below = let other : true ≡ false =
        sym touched ∙ (ap (touches of) (one_key at write.key e) ∙ f) in cc
    by false e true f none below = (e, below (rw (f, e) at none))
    by false e false f none below = (e, below (rw f at none))

-- differ by the keys that were written alone
pub differ_written : (before rows : Rows) (writes : List Write) (of : Resource) (text : Pieces)
    → rows ≡ after before writes → AreGood rows → is_declared rows of ≡ true
    → writes_epoch writes ≡ false → IsTextOf before of text → DifferBy (touching of writes) before rows of
differ_written before rows writes of text led good declared no_epoch had = record {
  good = had.good;
  good_behind = good;
  epoch = sym (ap (λ rows. value_of rows key.Epoch) led
      ∙ value_of-after-none before writes key.Epoch had.good.sorted (none_epoch writes no_epoch));
  same = λ at touched other.
      sym (ap (λ rows. value_of rows at) led
      ∙ value_of-after-none before writes at had.good.sorted (none_writes of at writes touched other));
  before = had.declared;
  behind = declared;
}

-- pieces stay where no key is written
pub stays : (of : Resource) (before rows : Rows) (keys : List Key) → keys ≡ [] → DifferBy keys before rows of
    → map_pieces before of ≡ map_pieces rows of
unfolding map_pieces
stays of before rows [] none differ = pieces_stay (shape_of of) (face_of of before) (face_of of rows) []
    (differ_at of before rows [] differ) refl
stays of before rows (at ∷ keys) none differ = cc

-- pieces of a kind of map that are renewed at the places of keys
pub pieces_led : (of kind : Resource) (rows : Rows) (keys : List Key) (places : List Place) (face : Face)
    (text later : Pieces) → of ≡ kind → places ≡ map (place_of kind) keys
    → face ≡ face_of kind rows
    → ((earlier : Face) → text ≡ pieces_of (shape_of kind) earlier → DifferAt (shape_of kind) places earlier face
    → later ≡ pieces_of (shape_of kind) face)
    → (before : Rows) → DifferBy keys before rows of → text ≡ map_pieces before of → later ≡ map_pieces rows of
unfolding map_pieces
pieces_led of kind rows keys places face text later is at shown gives before differ had =
    let same_kind : DifferBy keys before rows kind =
    subst (λ (one : Resource). DifferBy keys before rows one) is differ in
    let differ_there : DifferAt (shape_of kind) places (face_of kind before) face =
    subst (λ (shown : Face). DifferAt (shape_of kind) places (face_of kind before) shown) (sym shown)
    (subst (λ (at : List Place). DifferAt (shape_of kind) at (face_of kind before) (face_of kind rows)) (sym at)
    (differ_at kind before rows keys same_kind)) in
    gives (face_of kind before) (had ∙ ap (λ (one : Resource). pieces_of (shape_of one) (face_of one before))
    is) differ_there
    ∙ (ap (pieces_of (shape_of kind)) shown
    ∙ sym (ap (λ (one : Resource). pieces_of (shape_of one) (face_of one rows)) is))

-- ---- texts by their resources

-- among texts that are made for resources, that of a resource is its own
told : (made : Resource → Pieces) (ofs : List Resource) (of : Resource) (text : Pieces)
    → text_in (map {B = MapText} (λ one. (one, made one)) ofs) of ≡ Some text
    → (list_any (is_at (resource_cmp of)) ofs ≡ true) × (text ≡ made of)
told made [] of text is = cc
told made (one ∷ ofs) of text is = by (is_at (resource_cmp of) one) refl is (told made ofs of text)
  where
    by : (b : Bool) → is_at (resource_cmp of) one ≡ b
        → text_in (map {B = MapText} (λ one. (one, made one)) (one ∷ ofs)) of ≡ Some text
        → (text_in (map {B = MapText} (λ one. (one, made one)) ofs) of ≡ Some text
        → (list_any (is_at (resource_cmp of)) ofs ≡ true) × (text ≡ made of))
        → (list_any (is_at (resource_cmp of)) (one ∷ ofs) ≡ true) × (text ≡ made of)
    by true e is below = let here : made one ≡ text = cc in
        (rw e refl, sym here ∙ ap made (sym (resource_cmp_exact of one (equal_tests (resource_cmp of one) e))))
    by false e is below = let rest = below (rw e at is) in (rw e rest.0, rest.1)

pub text_told : (rows : Rows) (of : Resource) (texts : List MapText) (found : Option Pieces) → AreTextsOf rows texts
    → found ≡ text_in texts of → IfSome found (IsTextOf rows of)
text_told rows of texts None had is = tt
text_told rows of texts (Some text) had is =
    let own = told (map_pieces rows) (resources_of rows) of
    text (ap (λ texts. text_in texts of) (sym had.whole) ∙ sym is) in
    record { good = had.good; declared = sym (resources_found rows of) ∙ own.0; whole = own.1 }

none_told : (made : Resource → Pieces) (ofs : List Resource) (of : Resource)
    → text_in (map {B = MapText} (λ one. (one, made one)) ofs) of ≡ None
    → list_any (is_at (resource_cmp of)) ofs ≡ false
none_told made [] of is = refl
none_told made (one ∷ ofs) of is = by (is_at (resource_cmp of) one) refl is (none_told made ofs of)
  where
    by : (b : Bool) → is_at (resource_cmp of) one ≡ b
        → text_in (map {B = MapText} (λ one. (one, made one)) (one ∷ ofs)) of ≡ None
        → (text_in (map {B = MapText} (λ one. (one, made one)) ofs) of ≡ None
        → list_any (is_at (resource_cmp of)) ofs ≡ false)
        → list_any (is_at (resource_cmp of)) (one ∷ ofs) ≡ false
    by true e is below = let here : Some (made one) ≡ None = rw e at is in cc
    by false e is below = rw e (below (rw e at is))

-- what is found is the text of a declared resource's document
pub text_found : (rows : Rows) (of : Resource) (texts : List MapText) (text : Pieces) → AreTextsOf rows texts
    → Some text ≡ text_in texts of → Some (text_of text) ≡ declared_text rows of
text_found rows of texts text had is =
    let own = text_told rows of texts (Some text) had is in
    rw own.declared (ap Some (ap text_of own.whole ∙ map_text rows of))

-- and a declared resource's is found
pub none_found : (rows : Rows) (of : Resource) (texts : List MapText) → AreTextsOf rows texts
    → None ≡ text_in texts of → None ≡ declared_text rows of
none_found rows of texts had is =
    let not_declared : is_declared rows of ≡ false =
    sym (resources_found rows of)
    ∙ none_told (map_pieces rows) (resources_of rows) of (ap (λ texts. text_in texts of) (sym had.whole) ∙ sym is) in
    rw not_declared refl

-- so what is found, whatever has the pieces, is the text of a declared resource's document
pub found_told : {A : Type 0} (rows : Rows) (of : Resource) (texts : List MapText) (pieces : A → Pieces)
    (found : Option A) → AreTextsOf rows texts → option_map pieces found ≡ text_in texts of
    → option_map (λ at. text_of (pieces at)) found ≡ declared_text rows of
found_told rows of texts pieces None had is = none_found rows of texts had is
found_told rows of texts pieces (Some at) had is = text_found rows of texts (pieces at) had is

-- one resource more has its text
pub text_step : (rows : Rows) (done more : List MapText) (ofs rest : List Resource) (of : Resource) (text : Pieces)
    → ofs ≡ of ∷ rest → more ≡ done ++ (of, text) ∷ [] → text ≡ map_pieces rows of
    → done ++ map {B = MapText} (λ of. (of, map_pieces rows of)) ofs ≡ texts_in rows
    → more ++ map {B = MapText} (λ of. (of, map_pieces rows of)) rest ≡ texts_in rows
text_step rows done more ofs rest of text front added made whole =
    rw (added, made)
    (append_assoc done ((of, map_pieces rows of) ∷ []) (map {B = MapText} (λ of. (of, map_pieces rows of)) rest)
    ∙ (rw front at whole))

-- once each resource has its text, they are those of the rows
pub texts_made : (rows : Rows) (done : List MapText) (left : List Resource) → AreGood rows → length left ≡ 0
    → done ++ map {B = MapText} (λ of. (of, map_pieces rows of)) left ≡ texts_in rows → AreTextsOf rows done
texts_made rows done [] good none whole = record { good = good; whole = sym (append-nil done) ∙ whole }
texts_made rows done (of ∷ left) good none whole = absurd (omega arith)
