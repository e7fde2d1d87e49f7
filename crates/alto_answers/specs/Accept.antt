-- In which form a client takes patches, by its Accept field (RFC 9110, section 12.5.1).
use Rattle.std.specs.Prelude.{ℕ, Bool, ◌&&◌, not, List, Option, Some, None, if◌then◌else◌, ◌==◌}
use Rattle.std.specs.List.{before_first, list_any, slice_split}
use Rattle.httparse.specs.Ascii.{comma}
use Rattle.httparse.specs.Grammar.{trim_ows}
use Rattle.alto_rows.specs.Order.{same_name}
use Rattle.edge_patch.specs.declared.form.PatchForm.{PatchForm}
use Rattle.edge_patch.specs.declared.form.PatchForm.TheVariants as form
use Rattle.alto_answers.specs.Forms.{semicolon}
use Rattle.alto_answers.specs.Types.{json_patch_type, merge_patch_type}

-- an item is this media type, as it is written: without its parameters and the blanks around it
abbrev pub is_type : List ℕ → List ℕ → Bool
is_type wanted item = same_name (trim_ows (before_first (λ b. b == semicolon) item)) wanted

-- some item of a value that is cut at commas is this media type
abbrev pub lists_type : List ℕ → List ℕ → Bool
lists_type wanted value = list_any (is_type wanted) (slice_split (λ b. b == comma) value)

-- operations, where they are listed and merge patches aren't; else a merge patch
abbrev pub patch_form : Option (List ℕ) → PatchForm
patch_form None = form.Merge
patch_form (Some value) =
    if lists_type json_patch_type value && not (lists_type merge_patch_type value) then form.Operations else form.Merge
