-- The reply to what opening a view came to.
use Rattle.std.proofs.Common.{◌≡◌, ◌≢◌, ℕ, List, Result, Ok, Err, IfOk, IfErr, ap, sym, ◌∙◌}
use Rattle.alto_asks.specs.declared.fault.AskFault.{AskFault}
use Rattle.alto_asks.specs.declared.fault.AskFault.TheVariants as fault
use Rattle.alto_replies.specs.Errors.{reply_or_error}
use Rattle.alto_replies.specs.Reply.{ReplyData}

-- two facts of a value, and what follows from both
pub if_ok_both : {T E : Type 0} {P Q R : T → Type 0} (r : Result T E) → ((x : T) → P x → Q x → R x) → IfOk r P
    → IfOk r Q → IfOk r R
if_ok_both (Ok x) both p q = both x p q
if_ok_both (Err e) both p q = tt

-- the reply to what opening a view came to
pub view_told : (outcome defined : Result ReplyData AskFault) (reply : ReplyData)
    → reply ≡ reply_or_error outcome → outcome ≢ Err fault.Memory
    → IfOk outcome (λ view. defined ≡ Ok view) → IfErr outcome (λ why. why ≢ fault.Memory → defined ≡ Err why)
    → reply ≡ reply_or_error defined
view_told (Ok view) defined reply made known ok err = made ∙ ap reply_or_error (sym ok)
view_told (Err why) defined reply made known ok err = made ∙ ap reply_or_error (sym (err (λ e. known (ap Err e))))
