use Rattle.std.proofs.Common.{◌≡◌, ◌+◌, ◌∷◌, ◌++◌, ap, ◌∙◌, sym, subst, option_copied, slice_index, take, ℕ, []}
use Rattle.std.proofs.lemmas.Bool.{both_ways}
use Rattle.std.proofs.lemmas.List.{take_all, take_more}
use Rattle.share_text.specs.Flows.{grants_at}
use Rattle.share_text.specs.Kinds.{ShareWithin}
use Rattle.share_text.specs.declared.kind.Kind.TheVariants.{WritesReads}
use Rattle.share_text.proofs.Reaching.{Keeps, all_readers, grants_near, keeps_none, keeps_one, keeps_without}
use Rattle.share_text.proofs.flows.readers_of.Goals as goal
use Rattle.share_text.proofs.flows.readers_of.Goals.{then-share_within+in_ok-push, else-share_within}

pub loop-place-init : goal.loop-place-init
loop-place-init c =
    let Reads = λ (reader : ℕ). ShareWithin (option_copied c.args.pools) WritesReads c.args.writer.now.grants (grants_at c.args.tenants.now reader) in
    subst (Keeps Reads []) (sym c.new-readers.ensures.items) (keeps_none Reads)

pub loop-place-preserved : goal.loop-place-preserved
loop-place-preserved c =
    let i = c.loop-place.place-index in
    let place = slice_index c.args.near.now i in
    let Reads = λ (reader : ℕ). ShareWithin (option_copied c.args.pools) WritesReads c.args.writer.now.grants (grants_at c.args.tenants.now reader) in
    let more : take (i + 1) c.args.near.now ≡ take i c.args.near.now ++ place ∷ [] = take_more c.args.near.now i 0 c.loop-place-test.true in
    let grants =
    grants_near c.args.writer.now.grants c.args.tenants.now c.args.near.now i c.index-tenants-place.result c.requires c.loop-place-test.true c.index-tenants-place.is in
    elim c.if-share_within.branch [
      | then-share_within+in_ok-push w ↦
          keeps_one Reads (take i c.args.near.now) (take (i + 1) c.args.near.now) c.loop-place.readers.items c.if-share_within.readers.items place more
          (ap (λ v. v.items) w.readers-is ∙ w.in_ok-push.ensures.items)
          (subst (λ g. ShareWithin (option_copied c.args.pools) WritesReads c.args.writer.now.grants g) (sym grants) (c.share_within.ensures.0 w.if-share_within.true)) c.loop-place.invariant
      | else-share_within w ↦
          subst (Keeps Reads (take (i + 1) c.args.near.now)) (sym (ap (λ v. v.items) w.readers-is))
          (keeps_without Reads (take i c.args.near.now) (take (i + 1) c.args.near.now) c.loop-place.readers.items place more
          (λ h.
          both_ways c.share_within.result w.if-share_within.false
          (c.share_within.ensures.1 (subst (λ g. ShareWithin (option_copied c.args.pools) WritesReads c.args.writer.now.grants g) grants h)))
          c.loop-place.invariant)
    ]

pub returns : goal.returns
returns c =
    let Reads = λ (reader : ℕ). ShareWithin (option_copied c.args.pools) WritesReads c.args.writer.now.grants (grants_at c.args.tenants.now reader) in
    all_readers (option_copied c.args.pools) c.args.writer.now.grants c.args.tenants.now c.args.near.now c.loop-place.readers.items c.requires
    (subst (λ l. Keeps Reads l c.loop-place.readers.items) (take_all c.loop-place.place-index c.args.near.now c.loop-place-test.false) c.loop-place.invariant)
