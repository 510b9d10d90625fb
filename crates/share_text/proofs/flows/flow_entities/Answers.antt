use Rattle.std.proofs.Common.{option_copied, string_bytes, ap, map, subst, sym, ◌∙◌, All}
use Rattle.verdict_text.proofs.Results.{ok_also}
use Rattle.share_text.specs.Live.{IsLiveOf}
use Rattle.share_text.specs.Tenants.{AreTenants}
use Rattle.share_text.specs.declared.tenants.Live.{Live}
use Rattle.share_text.proofs.FoundTold.{slices_told}
use Rattle.share_text.proofs.flows.flow_entities.Goals as goal

pub tenants_of-requires : goal.tenants_of-requires
tenants_of-requires c = subst (All (λ (live : Live). IsLiveOf live.entity live.ticket live.everywhere)) (sym c.as_slice.ensures.value) c.in_ok-lives.ensures.live

pub returns : goal.returns
returns c =
    ok_also c.told_writers.result
    (λ printed h. (
      c.in_ok-tenants.tenants.items,
      subst (λ entities. AreTenants entities c.in_ok-tenants.tenants.items) (ap (map (λ (live : Live). live.entity)) c.as_slice.ensures.value ∙ c.in_ok-lives.ensures.entities)
          c.in_ok-tenants.ensures,
      slices_told (λ readers. readers.items) c.args.detail (option_copied c.args.pools) c.args.check c.in_ok-tenants.tenants.items c.as_slice-2.result.now c.as_slice-3.result.now c.in_ok-steps.steps.items
          c.as_slice-4.result.now (string_bytes printed.text) printed.fails c.as_slice-2.ensures.value c.as_slice-3.ensures.value c.as_slice-4.ensures.value c.in_ok-steps.ensures h,
    ))
    c.told_writers.ensures
