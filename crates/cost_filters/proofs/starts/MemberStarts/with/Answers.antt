-- The text lies behind the others.
use Rattle.std.proofs.Common.{◌≡◌, ◌∙◌, ◌++◌, ◌∷◌, [], ap, length, subst, sym}
use Rattle.std.specs.Prelude.{ℕ, List}
use Rattle.cost_filters.specs.Starts.{AreWithin, texts_at}
use Rattle.cost_filters.specs.Text.{member_start}
use Rattle.cost_filters.proofs.StartsLemmas.{texts_more, within_more}
use Rattle.cost_filters.proofs.starts.MemberStarts.with.Goals as goal

pub returns : goal.returns
returns c =
    let bytes = c.self.inside.bytes in
    let places = c.self.inside.places.items in
    let more = member_start c.args.name.now in
    let put : c.put_start.new.out ≡ bytes ++ more = c.in_ok-place.ensures.text in
    let place : c.in_ok-place.place ≡ (length bytes, length (bytes ++ more)) =
    c.in_ok-place.ensures.place ∙ ap (λ (now : List ℕ). (length bytes, length now)) put in
    (λ i. texts_at (put i) (c.in_ok-push.ensures.items i))
    ∙ ((λ i. texts_at (bytes ++ more) (places ++ place i ∷ []))
    ∙ (texts_more bytes more places c.self.invariant
    ∙ ap (λ (texts : List (List ℕ)). texts ++ more ∷ []) c.self.view_is))

pub invariant_of-result : goal.invariant_of-result
invariant_of-result c =
    let bytes = c.self.inside.bytes in
    let places = c.self.inside.places.items in
    let more = member_start c.args.name.now in
    let put : c.put_start.new.out ≡ bytes ++ more = c.in_ok-place.ensures.text in
    let place : c.in_ok-place.place ≡ (length bytes, length (bytes ++ more)) =
    c.in_ok-place.ensures.place ∙ ap (λ (now : List ℕ). (length bytes, length now)) put in
    let all : c.push.new.self.items ≡ places ++ (length bytes, length (bytes ++ more)) ∷ [] =
    c.in_ok-push.ensures.items ∙ (λ i. places ++ place i ∷ []) in
    subst (AreWithin c.put_start.new.out) (sym all)
    (subst (λ (now : List ℕ). AreWithin now (places ++ (length bytes, length (bytes ++ more)) ∷ [])) (sym put)
    (within_more bytes more places c.self.invariant))
