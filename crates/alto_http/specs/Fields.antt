-- What the fields of a head say (RFC 9110, sections 5 and 7.6.1; RFC 9112, section 6). A field is its
-- name, and its value without the white space around it.
use Rattle.std.specs.Prelude.{ℕ, Bool, ◌||◌, ◌&&◌, nat_le, nat_lt, ◌==◌, if◌then◌else◌, List, [], ◌∷◌, length, Option}
use Rattle.std.specs.Prelude.{Some, None, Result, Ok, Err, codes}
use Rattle.std.specs.Char.{is_ascii_digit}
use Rattle.std.specs.List.{list_any, list_all, slice_split}
use Rattle.std.specs.Str.{str_eq_ignore_ascii_case}
use Rattle.std.specs.Str.Parse.{digits_value}
use Rattle.httparse.specs.Ascii.{comma}
use Rattle.httparse.specs.Grammar.{trim_ows}
use Rattle.alto_http.specs.declared.fault.HeadFault.{HeadFault}
use Rattle.alto_http.specs.declared.fault.HeadFault.TheVariants.{BadHead, NoLength, BodyTooLarge}

-- the field has this name, without regard to case
abbrev pub is_named : List ℕ → List ℕ × List ℕ → Bool
is_named name field = str_eq_ignore_ascii_case field.0 name

-- the values of the fields of this name, in their order
abbrev pub values_of : List ℕ → List (List ℕ × List ℕ) → List (List ℕ)
values_of name [] = []
values_of name (field ∷ fields) = if is_named name field then field.1 ∷ values_of name fields else values_of name fields

-- the first of some values
abbrev pub first : List (List ℕ) → Option (List ℕ)
first [] = None
first (value ∷ values) = Some value

-- the item, without the white space around it, is the word `close`
abbrev pub is_close : List ℕ → Bool
is_close item = str_eq_ignore_ascii_case (trim_ows item) (codes "close")

-- some item of a value that is cut at commas is the word `close`
abbrev pub lists_close : List ℕ → Bool
lists_close value = list_any is_close (slice_split (λ b. b == comma) value)

-- the connection closes after the answer: HTTP/1.0, or some Connection field lists `close`
abbrev pub closes : ℕ → List (List ℕ × List ℕ) → Bool
closes minor fields = minor == 0 || list_any lists_close (values_of (codes "connection") fields)

-- the longest body that is taken
abbrev pub body_limit : ℕ
body_limit = 4194304

-- one digit or more, and nothing else
abbrev pub is_decimal : List ℕ → Bool
is_decimal value = nat_lt 0 (length value) && list_all is_ascii_digit value

-- the length that a Content-Length says
abbrev pub length_said : List ℕ → Result ℕ HeadFault
length_said value =
    if is_decimal value
    then (if nat_le (digits_value 10 value) body_limit then Ok (digits_value 10 value) else Err BodyTooLarge)
    else Err BadHead

-- the length of the body where these are the values of Content-Length: a POST has one
abbrev pub length_of_body : Bool → List (List ℕ) → Result ℕ HeadFault
length_of_body is_post [] = if is_post then Err NoLength else Ok 0
length_of_body is_post (value ∷ []) = length_said value
length_of_body is_post (value ∷ other ∷ more) = Err BadHead
