use Rattle.std.proofs.Common.{◌≡◌, ◌∙◌, rules, nat_eq}
use Rattle.std.specs.Prelude.{codes}
use Rattle.std.specs.Cmp.Lexicographic.{pointwise}
use Rattle.prop_filters.proofs.PidLemmas.{other_name, pid_name}
use Rattle.prop_filters.proofs.values.is_pid_property.Goals as goal

pub returns-in-Some : goal.returns-in-Some
returns-in-Some c =
    let tested : c.eq.result ≡ pointwise nat_eq c.in-Some.rest.now (codes ".pid") = search rules in
    tested
    ∙ pid_name c.args.name.now c.args.net.now c.as_bytes.result.now c.as_bytes-2.result.now c.in-Some.rest.now
    (c.as_bytes.ensures.value ∙ c.as_str.ensures.value)
    c.as_bytes-2.ensures.bytes c.in-Some.ensures.cases.0 c.in-Some.ensures.cases.1

pub returns-in-None : goal.returns-in-None
returns-in-None c =
    other_name c.args.name.now c.args.net.now c.as_bytes.result.now c.as_bytes-2.result.now (c.as_bytes.ensures.value
    ∙ c.as_str.ensures.value) c.as_bytes-2.ensures.bytes
    c.in-None.ensures.cases
