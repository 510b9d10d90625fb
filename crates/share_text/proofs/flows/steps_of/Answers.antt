use Rattle.std.proofs.Common.{◌≡◌, ◌∷◌, [], ap, ◌∙◌, sym, subst, arith, option_copied, length, map, ℕ}
use Rattle.std.proofs.lemmas.List.{map-append}
use Rattle.share_text.specs.Flows.{grants_at}
use Rattle.share_text.specs.Kinds.{ShareWithin}
use Rattle.share_text.specs.declared.kind.Kind.TheVariants.{WritesReads}
use Rattle.share_text.specs.declared.tenants.Tenant.{Tenant}
use Rattle.share_text.proofs.Reaching.{AreLists, ListsBelow, no_lists, one_list_more, seen_at, steps_are}
use Rattle.share_text.proofs.flows.steps_of.Goals as goal

pub loop-writer-init : goal.loop-writer-init
loop-writer-init c =
    let WritesFor = λ (writer reader : ℕ). ShareWithin (option_copied c.args.pools) WritesReads (grants_at c.args.tenants.now writer) (grants_at c.args.tenants.now reader) in
    subst (λ l. AreLists WritesFor (length c.args.tenants.now) (map (λ readers. readers.items) l) 0) (sym c.new-steps.ensures.items) (no_lists WritesFor (length c.args.tenants.now))

pub loop-writer-preserved : goal.loop-writer-preserved
loop-writer-preserved c =
    let tenants = c.args.tenants.now in
    let writer = c.loop-writer.writer-index in
    let WritesFor = λ (writer reader : ℕ). ShareWithin (option_copied c.args.pools) WritesReads (grants_at tenants writer) (grants_at tenants reader) in
    one_list_more WritesFor (length tenants) (map (λ readers. readers.items) c.loop-writer.steps.items) (map (λ readers. readers.items) c.push.new.self.items) writer
    c.in_ok-readers.readers.items
    (ap (map (λ readers. readers.items)) c.in_ok-push.ensures.items ∙ map-append (λ readers. readers.items) c.loop-writer.steps.items (c.in_ok-readers.readers ∷ []))
    (subst (λ grants. ListsBelow (λ reader. ShareWithin (option_copied c.args.pools) WritesReads grants (grants_at tenants reader)) c.in_ok-readers.readers.items (length tenants))
    (sym (seen_at (λ (tenant : Tenant). tenant.ticket.now.grants) tenants writer c.writer-item.result [] c.loop-writer-test.true c.writer-item.is)) c.in_ok-readers.ensures)
    c.loop-writer.invariant

pub returns : goal.returns
returns c =
    let WritesFor = λ (writer reader : ℕ). ShareWithin (option_copied c.args.pools) WritesReads (grants_at c.args.tenants.now writer) (grants_at c.args.tenants.now reader) in
    let n = length c.args.tenants.now in
    let lists = map (λ readers. readers.items) c.loop-writer.steps.items in
    let all : c.loop-writer.writer-index ≡ n = omega arith in
    let are : AreLists WritesFor n lists n = subst (AreLists WritesFor n lists) all c.loop-writer.invariant in
    record { size = are.size; each = steps_are WritesFor n lists are }
