-- Bytes that come, piece by piece.
use Rattle.std.proofs.Common.{◌≡◌, ◌≢◌, ◌≤◌, ℕ, length, List, ◌++◌, Option, Some, None, refl, sym, ◌∙◌, ap}
use Rattle.std.proofs.Common.{append_assoc}
use Rattle.alto_http.specs.Link.{followed_by}
use Rattle.alto_commands.specs.Bodies.{Came, IsNoBody}
use Rattle.alto_commands.specs.declared.fault.BodyFault.{BodyFault}
use Rattle.alto_commands.specs.declared.fault.BodyFault.TheVariants as fault

-- bytes that follow others
followed_by-followed_by : (a b : List ℕ) (left : Option (List ℕ))
    → followed_by a (followed_by b left) ≡ followed_by (a ++ b) left
followed_by-followed_by a b None = refl
followed_by-followed_by a b (Some left) = ap Some (sym (append_assoc a b left))

-- bytes came, and then more
pub came_more : (a b whole : List ℕ) (first before after : Option (List ℕ)) → whole ≡ a ++ b
    → Came a first before → Came b before after → Came whole first after
came_more a b whole first before after joined had more =
    had ∙ (ap (followed_by a) more ∙
    (followed_by-followed_by a b after ∙ ap (λ (bytes : List ℕ). followed_by bytes after) (sym joined)))

-- no body is read, since a read failed or memory ran out behind what came so far
pub no_body : (why : BodyFault) (body : List ℕ) (first before after : Option (List ℕ)) → Came body first before
    → length body ≤ 4194304 → (why ≡ fault.Memory → (bytes : List ℕ) × Came bytes before after)
    → (why ≡ fault.ReadFault → after ≡ before) → why ≢ fault.TooLarge → IsNoBody why first after
no_body fault.TooLarge body first before after came within lost failed own = absurd (own refl)
no_body fault.ReadFault body first before after came within lost failed own = (body, rw (failed refl) came, within)
no_body fault.Memory body first before after came within lost failed own =
    let more = lost refl in
    (body ++ more.0, came_more body more.0 (body ++ more.0) first before after refl came more.1)
