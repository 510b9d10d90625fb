-- Verdicts of requests without calls, grant by grant.
use Rattle.std.proofs.Common.{◌≡◌, ℕ, Bool, true, false, not, ◌&&◌, ◌||◌, Option, None, refl, ap, ◌∙◌, List, [], ◌∷◌}
use Rattle.std.specs.List.{list_any}
use Rattle.std.specs.Option.{is_none, is_some}
use Rattle.cap_grants.specs.declared.grant.AllowGrant.{AllowGrant}
use Rattle.network_core.specs.declared.address.Address.{Address}
use Rattle.request_types.specs.declared.request.Condition.{Condition}
use Rattle.request_types.specs.declared.request.Condition.TheVariants as why
use Rattle.request_types.specs.declared.request.Needs.{Needs}
use Rattle.request_types.specs.Target.{Target}
use Rattle.rights_core.specs.Rights.{NetworkGrant, grants_at, is_for}
use Rattle.verdict_core.specs.Verdict.{first_failure, grants_allow, is_usable, unless, uncovered_from, names, matches_namespace, matches_tag, matches_prefix, can_read, can_write}

-- the first failing of six conditions is `None` where all hold
six : (a b c d e f : Bool) → is_none (unless a why.Pool (unless b why.Namespace (unless c why.Tag (unless d why.Prefix (unless e why.Read (unless f why.Write None)))))) ≡ ((a && b && c && d) && e && f)
six false b c d e f = refl
six true false c d e f = refl
six true true false d e f = refl
six true true true false e f = refl
six true true true true false f = refl
six true true true true true false = refl
six true true true true true true = refl

-- without calls a grant fails nothing where it is usable
pub usable : (g : AllowGrant) (target : Target) (needs : Needs) → needs.calls ≡ [] → is_none (first_failure false g target needs) ≡ is_usable g target needs
usable g target needs none =
    let calls : uncovered_from 1 g.access needs.calls ≡ None = ap (uncovered_from 1 g.access) none in
    rw calls (six (names g.pool target.pool) (matches_namespace g.namespace target.namespace) (matches_tag g.tag target.tags) (matches_prefix g.prefix target.object) (not needs.reads || can_read g.access) (not needs.writes || can_write g.access))

flip : (x b : Bool) → x ≡ not b → b ≡ not x
flip true true h = cc
flip true false h = refl
flip false true h = refl
flip false false h = cc

-- the same of a failure that is found or not
pub usable_is : (found : Option Condition) (b : Bool) (g : AllowGrant) (target : Target) (needs : Needs) → needs.calls ≡ [] → found ≡ first_failure false g target needs → is_some found ≡ not b → b ≡ is_usable g target needs
usable_is found b g target needs none e is = flip (is_some found) b is ∙ (ap (λ o. not (is_some o)) e ∙ usable g target needs none)

-- what grants allow at an address
abbrev Allow : List NetworkGrant → Address → Target → Needs → Bool
Allow es a target needs = grants_allow (grants_at es a) target needs

any_usable : (gs : List (List ℕ × AllowGrant)) (target : Target) (needs : Needs) → needs.calls ≡ [] → grants_allow gs target needs ≡ list_any (λ entry. is_usable entry.1 target needs) gs
any_usable gs target needs none = rw none (and_true (list_any (λ entry. is_usable entry.1 target needs) gs))
  where
    and_true : (b : Bool) → (b && true) ≡ b
    and_true true = refl
    and_true false = refl

pub allow_none : (es : List NetworkGrant) (a : Address) (target : Target) (needs : Needs) → es ≡ [] → Allow es a target needs ≡ false
allow_none es a target needs e = rw e refl

step : (e : NetworkGrant) (rest : List NetworkGrant) (a : Address) (target : Target) (needs : Needs) (reached : Bool) → needs.calls ≡ [] → is_for e.network a ≡ reached
    → Allow (e ∷ rest) a target needs ≡ ((reached && is_usable e.grant target needs) || Allow rest a target needs)
step e rest a target needs true none is = rw (is, any_usable ((e.path, e.grant) ∷ grants_at rest a) target needs none, any_usable (grants_at rest a) target needs none) (refl)
step e rest a target needs false none is = rw is refl

-- one more grant
pub allow_step : (es rest : List NetworkGrant) (e : NetworkGrant) (a : Address) (target : Target) (needs : Needs) → needs.calls ≡ [] → es ≡ e ∷ rest
    → Allow es a target needs ≡ ((is_for e.network a && is_usable e.grant target needs) || Allow rest a target needs)
allow_step es rest e a target needs none is = rw is (step e rest a target needs (is_for e.network a) none refl)
