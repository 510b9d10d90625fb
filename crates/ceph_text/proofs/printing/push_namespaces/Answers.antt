use Rattle.std.proofs.Common.{◌++◌, codes, ap, sym, ◌∙◌, append_assoc, string_bytes}
use Rattle.ceph_text.specs.Printed.{printed_namespace, printed_namespaces}
use Rattle.ceph_text.proofs.printing.push_namespaces.Goals as goal

pub returns-in_ok-push_namespace : goal.returns-in_ok-push_namespace
returns-in_ok-push_namespace c =
    let old = string_bytes c.args.text.now in
    let name = printed_namespace c.in-Some.namespace in
    c.in_ok-push_namespace.ensures ∙ ap (λ t. t ++ name) c.in_ok-push_str.ensures.bytes ∙ append_assoc old (codes " namespace=") name ∙ sym (ap (λ o. old ++ printed_namespaces o) c.in-Some.is)
