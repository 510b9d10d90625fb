-- What holds at each sample holds at each address.
use Rattle.std.proofs.Common.{◌≡◌, ℕ, ◌+◌, ◌<◌, Bool, true, false, not, refl, sym, ap, ◌∙◌, List, [], ◌∷◌, length, get_or, take, All, arith}
use Rattle.std.specs.Bool.{beq}
use Rattle.std.proofs.lemmas.List.Elements.{All-head, All-contains, All-more}
use Rattle.network_core.specs.declared.address.Address.{Address}
use Rattle.network_core.specs.Address.{IsAddress}
use Rattle.request_types.specs.declared.request.Needs.{Needs}
use Rattle.request_types.specs.Target.{Target}
use Rattle.verdict_core.specs.Ticket.{Ticket}
use Rattle.verdict_core.specs.Verdict.{is_allowed}
use Rattle.rights_core.specs.Rights.{Rights, ticket_at}
use Rattle.rights_core.specs.Samples.{DecideFor}
use Rattle.rights_core.specs.Verdicts.{allowed_at}

-- one more address with this verdict
pub sampled_more : (r : Rights) (t : Target) (n : Needs) (k : ℕ) (b : Bool) (samples : List Address) (i : ℕ) (a : Address) (here : Bool) → i < length samples → a ≡ get_or samples i a → here ≡ allowed_at r t n k a → here ≡ b → All (λ (a : Address). allowed_at r t n k a ≡ b) (take i samples) → All (λ (a : Address). allowed_at r t n k a ≡ b) (take (i + 1) samples)
sampled_more r t n k b samples i a here within is same yields before =
    All-more (λ (a : Address). allowed_at r t n k a ≡ b) samples i a within before (rw (← is) (sym same ∙ yields))

pub other_verdict : (a b : Bool) → beq a b ≡ false → a ≡ not b
other_verdict true true differ = cc
other_verdict true false differ = refl
other_verdict false true differ = refl
other_verdict false false differ = cc

pub at_each : (r : Rights) (t : Target) (n : Needs) (k : ℕ) (b : Bool) (samples : List Address) → DecideFor (r ∷ []) samples → All (λ a. allowed_at r t n k a ≡ b) samples → (a : Address) → IsAddress a → allowed_at r t n k a ≡ b
at_each r t n k b samples decides same a is_address =
    let sample = decides.stand a is_address in
    let alike : ticket_at r sample.0 ≡ ticket_at r a = All-head (λ rights. ticket_at rights sample.0 ≡ ticket_at rights a) r [] sample.2 in
    let here : allowed_at r t n k sample.0 ≡ b = All-contains (λ a. allowed_at r t n k a ≡ b) samples sample.0 same sample.1 in
    sym (ap (λ ticket. is_allowed ticket t n k) alike) ∙ here

-- a ticket that is that of every address
pub at_all : (r : Rights) (t : Target) (n : Needs) (k : ℕ) (b : Bool) (ticket : Ticket) → ((a : Address) → ticket ≡ ticket_at r a) → is_allowed ticket t n k ≡ b → (a : Address) → IsAddress a → allowed_at r t n k a ≡ b
at_all r t n k b ticket same here a is_address = sym (ap (λ x. is_allowed x t n k) (same a)) ∙ here
