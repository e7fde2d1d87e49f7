-- Items in order are known by what each name has.
use Rattle.std.proofs.Common.{◌≡◌, ◌∙◌, refl, ap, ap₂, subst, sym}
use Rattle.std.proofs.lemmas.Cmp.{nat_list_cmp_total, tied_itself}
use Rattle.std.proofs.lemmas.Map.Lookups.{exact_bytes}
use Rattle.std.specs.Prelude.{List, [], ◌∷◌, Option, Some, None}
use Rattle.std.specs.declared.cmp.Ordering.{Ordering}
use Rattle.std.specs.declared.cmp.Ordering.TheVariants.{Less, Equal, Greater}
use Rattle.shared_list.specs.Order.{Name, name_cmp, InOrder, item_of}
use Rattle.shared_list.proofs.FindLemmas.{none_above}
use Rattle.shared_list.proofs.OrderLemmas.{above_first, above_lesser, greater_back, rest_in_order}

module _ {X : Type 0} (name : X → Name) where
  abbrev none : Option X
  none = None

  abbrev Same : List X → List X → Type 0
  Same items others = (q : Name) → item_of name items q ≡ item_of name others q

  at_first : (item : X) (items : List X) → item_of name (item ∷ items) (name item) ≡ Some item
  at_first item items = rw (tied_itself nat_list_cmp_total (name item)) refl

  -- none has the name of an item that is less than the first
  before_first : (item other : X) (others : List X) → InOrder name (other ∷ others)
      → name_cmp (name item) (name other) ≡ Less → item_of name (other ∷ others) (name item) ≡ None
  before_first item other others s less =
      none_above name (name item) (other ∷ others)
      (less, above_lesser name (name item) (name other) others less (above_first name other others s))

  -- behind the first items that are the same
  same_rest : (item : X) (items others : List X) → InOrder name (item ∷ items) → InOrder name (item ∷ others)
      → Same (item ∷ items) (item ∷ others) → Same items others
  same_rest item items others s s' same q = by (name_cmp q (name item)) refl (same q)
    where
      gone : (rest : List X) → InOrder name (item ∷ rest) → name_cmp q (name item) ≡ Equal → item_of name rest q ≡ None
      gone rest order e =
          let is : q ≡ name item = exact_bytes q (name item) e in
          none_above name q rest (rw is (above_first name item rest order))

      by : (o : Ordering) → name_cmp q (name item) ≡ o
          → item_of name (item ∷ items) q ≡ item_of name (item ∷ others) q
          → item_of name items q ≡ item_of name others q
      by Less e h = rw e at h
      by Equal e h = gone items s e ∙ sym (gone others s' e)
      by Greater e h = rw e at h

  pub same_items : (items others : List X) → InOrder name items → InOrder name others → Same items others
      → items ≡ others
  same_items [] [] s s' same = refl
  same_items [] (other ∷ others) s s' same =
      let other_one : none ≡ Some other = same (name other) ∙ at_first other others in cc
  same_items (item ∷ items) [] s s' same =
      let one_other : Some item ≡ None = sym (at_first item items) ∙ same (name item) in cc
  same_items (item ∷ items) (other ∷ others) s s' same =
      by (name_cmp (name item) (name other)) refl
      (λ is. let rest : Same items others = same_rest item items others s (rw is s')
      (subst (λ first. Same (item ∷ items) (first ∷ others)) (sym is) same) in
      ap₂ (λ first more. first ∷ more) is
      (same_items items others (rest_in_order name item items s) (rest_in_order name other others s') rest))
    where
      by : (o : Ordering) → name_cmp (name item) (name other) ≡ o
          → (item ≡ other → item ∷ items ≡ other ∷ others) → item ∷ items ≡ other ∷ others
      by Less e later =
          let one_other : Some item ≡ None =
          sym (at_first item items) ∙ (same (name item) ∙ before_first item other others s' e) in
          cc
      by Equal e later =
          let names : name item ≡ name other = exact_bytes (name item) (name other) e in
          let both : Some item ≡ Some other =
          sym (at_first item items) ∙ (same (name item)
          ∙ (ap (item_of name (other ∷ others)) names ∙ at_first other others)) in
          later cc
      by Greater e later =
          let other_one : none ≡ Some other =
          sym (before_first other item items s (greater_back (name item) (name other) e))
          ∙ (same (name other) ∙ at_first other others) in
          cc
