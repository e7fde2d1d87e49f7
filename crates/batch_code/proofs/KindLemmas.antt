-- The numbers of kinds of keys.
use Rattle.std.proofs.Common.{◌≡◌, ℕ, ◌≤◌, refl, sym, ap, ◌∙◌, arith}
use Rattle.std.specs.Prelude.{◌==◌, if◌then◌else◌}
use Rattle.batch_code.specs.Grammar.{key_number}
use Rattle.batch_code.specs.declared.kinds.KeyKind.{KeyKind}
use Rattle.batch_code.specs.declared.kinds.KeyKind.TheVariants as kind

-- the kind with a number, so that no lemma tries all pairs of kinds, each of which costs a search
abbrev kind_back : ℕ → KeyKind
kind_back n =
    if n == 3 then kind.Net
    else if n == 4 then kind.Pid
    else if n == 5 then kind.Prefix
    else if n == 6 then kind.Metric
    else if n == 7 then kind.Cost
    else if n == 8 then kind.Prop
    else if n == 9 then kind.Ane
    else if n == 10 then kind.AneProp
    else if n == 11 then kind.Path
    else kind.Seq

back : (at : KeyKind) → kind_back (key_number at) ≡ at
back kind.Net = refl
back kind.Pid = refl
back kind.Prefix = refl
back kind.Metric = refl
back kind.Cost = refl
back kind.Prop = refl
back kind.Ane = refl
back kind.AneProp = refl
back kind.Path = refl
back kind.Seq = refl

pub kind_once : (a b : KeyKind) → key_number a ≡ key_number b → a ≡ b
kind_once a b e = sym (back a) ∙ (ap kind_back e ∙ back b)

pub stored_kind : (at : KeyKind) → 3 ≤ key_number at
stored_kind kind.Net = omega arith
stored_kind kind.Pid = omega arith
stored_kind kind.Prefix = omega arith
stored_kind kind.Metric = omega arith
stored_kind kind.Cost = omega arith
stored_kind kind.Prop = omega arith
stored_kind kind.Ane = omega arith
stored_kind kind.AneProp = omega arith
stored_kind kind.Path = omega arith
stored_kind kind.Seq = omega arith
