-- The forms in which an import comes, by its content type (RFC 9110, section 8.3).
use Rattle.std.specs.Prelude.{ℕ, Bool, false, List, Option, Some, None, if◌then◌else◌, codes, ◌==◌}
use Rattle.std.specs.List.{before_first}
use Rattle.std.specs.Str.{str_to_ascii_lowercase}
use Rattle.httparse.specs.Grammar.{trim_ows}
use Rattle.alto_rows.specs.Order.{same_name}
use Rattle.edit_forms.specs.declared.form.Form.{Form}
use Rattle.edit_forms.specs.declared.form.Form.TheVariants as form

-- the code of a semicolon
abbrev pub semicolon : ℕ
semicolon = 59

-- a content type without its parameters and the blanks around it, in lower case
abbrev pub media_type : List ℕ → List ℕ
media_type value = str_to_ascii_lowercase (trim_ows (before_first (λ b. b == semicolon) value))

-- there is a content type, and it is this one
abbrev pub has_type : List ℕ → Option (List ℕ) → Bool
has_type wanted None = false
has_type wanted (Some value) = same_name (media_type value) wanted

-- the form that a content type names, if it names one
abbrev pub form_of : Option (List ℕ) → Option Form
form_of content_type =
    if has_type (codes "text/csv") content_type then Some form.Csv
    else if has_type (codes "application/json") content_type then Some form.Json
    else None
