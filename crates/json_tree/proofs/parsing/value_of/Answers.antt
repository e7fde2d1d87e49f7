use Rattle.std.proofs.Common.{◌≡◌, List, ℕ, Bool, true, false, Option, None, if◌then◌else◌, true≢false, refl, sym, ◌∙◌}
use Rattle.std.proofs.lemmas.Str.{IsUtf8-from_is_utf8}
use Rattle.std.specs.Str.{is_utf8, IsUtf8}
use Rattle.serde_json.specs.Data.{Data}
use Rattle.serde_json.specs.Read.{read}
use Rattle.json_tree.specs.Whole.{value_of}
use Rattle.json_tree.proofs.TextLemmas.{value_of_text}
use Rattle.json_tree.proofs.parsing.value_of.Goals as goal
use Rattle.json_tree.proofs.parsing.value_of.Goals.{then-is_memory, else-is_memory}

none_if : (b : Bool) (r : Option Data) → (b ≡ true → r ≡ None) → (if b then r else None) ≡ None
none_if true r none = none refl
none_if false r none = refl

value_of_none : (bytes : List ℕ) → (IsUtf8 bytes → read bytes ≡ None) → value_of bytes ≡ None
unfolding value_of
value_of_none bytes none = none_if (is_utf8 bytes) (read bytes) (λ e. none (IsUtf8-from_is_utf8 bytes e))

pub returns-in-Ok-clause-ok : goal.returns-in-Ok-clause-ok
returns-in-Ok-clause-ok c = rw (value_of_text c.args.bytes.now c.in-Ok.ensures.ok.0) c.in-Ok.ensures.ok.1

pub returns-after-is_memory-clause-err : goal.returns-after-is_memory-clause-err
returns-after-is_memory-clause-err c =
    elim c.if-is_memory.branch [
      | then-is_memory w ↦ λ other. absurd (other w.result-is)
      | else-is_memory w ↦ λ other. (
        w.result-is,
        value_of_none c.args.bytes.now
            (c.in-Err.ensures.err (λ memory. true≢false (sym (c.is_memory.ensures.1 memory) ∙ w.if-is_memory.false))),
      )
    ]
