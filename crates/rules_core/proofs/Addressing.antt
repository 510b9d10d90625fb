-- What holds at samples, or at every address, says that a demand is obeyed or broken.
use Rattle.std.proofs.Common.{◌≡◌, List, [], ◌∷◌, false, Option, None, Some, is_some, refl, sym, ap, subst, inl, inr, arith}
use Rattle.std.specs.List.{Contains}
use Rattle.std.proofs.lemmas.Bool.{false≢true}
use Rattle.std.proofs.lemmas.List.Elements.{All-contains}
use Rattle.grant_core.specs.Flat.{Flat}
use Rattle.network_core.specs.Address.{IsAddress}
use Rattle.network_core.specs.declared.address.Address.{Address}
use Rattle.rights_core.specs.Rights.{NetworkGrant, Rights, grants_at, ticket_at}
use Rattle.rights_core.specs.Samples.{DecideFor}
use Rattle.verdict_core.specs.Ticket.{Ticket}
use Rattle.compare_core.specs.declared.comparing.Example.{Example}
use Rattle.compare_core.proofs.Bools.{fails, true_or_false}
use Rattle.share_core.specs.declared.pools.Pool.{Pool}
use Rattle.rules_core.specs.Broken.{IsBreach, IsBreachOrNone, IsBroken}
use Rattle.rules_core.specs.Breaking.{IsBrokenBy, addressed}
use Rattle.rules_core.specs.Demands.{Obeys, allow}
use Rattle.rules_core.specs.declared.demand.Demand.{Demand}
use Rattle.rules_core.specs.declared.demand.Demand.TheVariants.{Never, Always}
use Rattle.rules_core.proofs.SoFar.{Each, each_has}

-- no request breaks the demand at the address
abbrev pub NoneAt : Demand → Option (List Pool) → List NetworkGrant → List NetworkGrant → Address → Type 0
NoneAt demand pools region entity a = IsBrokenBy demand pools (grants_at region a) (grants_at entity a) None

pub obeys : (demand : Demand) (pools : Option (List Pool)) (region entity : List NetworkGrant) → ((a : Address) → IsAddress a → NoneAt demand pools region entity a) → Obeys demand pools region entity
obeys Never pools region entity none = λ a target needs is can allowed. fails (allow (grants_at entity a) target needs) (λ given. none a is target needs (can, allowed, given))
obeys Always pools region entity none =
    λ a target needs is can allowed. elim (true_or_false (allow (grants_at entity a) target needs)) [ inl given ↦ given | inr denied ↦ absurd (none a is target needs (can, allowed, denied)) ]

grants_same : (rights : Rights) (a b : Address) → ticket_at rights a ≡ ticket_at rights b → grants_at rights.grants a ≡ grants_at rights.grants b
grants_same rights a b same = ap (λ (t : Ticket). t.grants) same

-- the second of two
second : (x y : Rights) → Contains (x ∷ y ∷ []) y
second x y = (1, omega arith, refl)

first : (x y : Rights) → Contains (x ∷ y ∷ []) x
first x y = (0, omega arith, refl)

-- what two have at an address they have at a sample
pub record Sample (one other : Rights) (samples : List Address) (a : Address) : Type 0 where
  pub at : Address
  pub among : Contains samples at
  pub mine : grants_at one.grants at ≡ grants_at one.grants a
  pub theirs : grants_at other.grants at ≡ grants_at other.grants a

pub sample_for : (one other : Rights) (samples : List Address) (a : Address) → DecideFor (one ∷ other ∷ []) samples → IsAddress a → Sample one other samples a
sample_for one other samples a decide is =
    let found = decide.stand a is in
    record {
      at = found.0;
      among = found.1;
      mine = grants_same one found.0 a (All-contains (λ (rights : Rights). ticket_at rights found.0 ≡ ticket_at rights a) (one ∷ other ∷ []) one found.2 (first one other));
      theirs = grants_same other found.0 a (All-contains (λ (rights : Rights). ticket_at rights found.0 ≡ ticket_at rights a) (one ∷ other ∷ []) other found.2 (second one other));
    }

pub none_anywhere : (demand : Demand) (pools : Option (List Pool)) (region entity : Rights) (samples : List Address) → DecideFor (region ∷ entity ∷ []) samples
    → Each (NoneAt demand pools region.grants entity.grants) samples → Obeys demand pools region.grants entity.grants
none_anywhere demand pools region entity samples decide none = obeys demand pools region.grants entity.grants at
  where
    at : (a : Address) → IsAddress a → NoneAt demand pools region.grants entity.grants a
    at a is =
        let s = sample_for region entity samples a decide is in
        subst (λ l. IsBrokenBy demand pools l (grants_at entity.grants a) None) s.mine
        (subst (λ l. IsBrokenBy demand pools (grants_at region.grants s.at) l None) s.theirs (each_has (NoneAt demand pools region.grants entity.grants) samples s.at none s.among))

pub along_both : (demand : Demand) (pools : Option (List Pool)) (one other ours yours : Flat) (found : Option Example) → one ≡ ours → other ≡ yours → IsBrokenBy demand pools one other found → IsBrokenBy demand pools ours yours found
along_both demand pools one other ours yours found p q h =
    subst (λ l. IsBrokenBy demand pools l yours found) p (subst (λ l. IsBrokenBy demand pools one l found) q h)

-- a request that breaks the demand at an address
pub breach_at : (demand : Demand) (pools : Option (List Pool)) (region entity : Rights) (here there : Ticket) (a : Address) (example : Example) → IsAddress a → here ≡ ticket_at region a → there ≡ ticket_at entity a
    → IsBroken demand pools here.grants there.grants example → IsBreach demand pools region.grants entity.grants (record { from = Some a; example = example })
breach_at demand pools region entity here there a example is p q broken =
    (is, along_both demand pools here.grants there.grants (grants_at region.grants a) (grants_at entity.grants a) (Some example) (ap (λ (t : Ticket). t.grants) p) (ap (λ (t : Ticket). t.grants) q) broken)

-- what holds of tickets that every address has
pub everywhere : (demand : Demand) (pools : Option (List Pool)) (region entity : Rights) (here there : Ticket) (found : Option Example) → ((a : Address) → here ≡ ticket_at region a) → ((a : Address) → there ≡ ticket_at entity a)
    → IsBrokenBy demand pools here.grants there.grants found → IsBreachOrNone demand pools region.grants entity.grants (addressed found None)
everywhere demand pools region entity here there None p q none =
    obeys demand pools region.grants entity.grants
    (λ a is. along_both demand pools here.grants there.grants (grants_at region.grants a) (grants_at entity.grants a) None (ap (λ (t : Ticket). t.grants) (p a)) (ap (λ (t : Ticket). t.grants) (q a)) none)
everywhere demand pools region entity here there (Some example) p q broken =
    λ a is. along_both demand pools here.grants there.grants (grants_at region.grants a) (grants_at entity.grants a) (Some example) (ap (λ (t : Ticket). t.grants) (p a)) (ap (λ (t : Ticket). t.grants) (q a)) broken

pub none_there : (demand : Demand) (pools : Option (List Pool)) (region entity : Rights) (here there : Ticket) (a : Address) (found : Option Example) → here ≡ ticket_at region a → there ≡ ticket_at entity a → is_some found ≡ false
    → IsBrokenBy demand pools here.grants there.grants found → NoneAt demand pools region.grants entity.grants a
none_there demand pools region entity here there a None p q none h =
    along_both demand pools here.grants there.grants (grants_at region.grants a) (grants_at entity.grants a) None (ap (λ (t : Ticket). t.grants) p) (ap (λ (t : Ticket). t.grants) q) h
none_there demand pools region entity here there a (Some example) p q none h = absurd (false≢true (sym none))
