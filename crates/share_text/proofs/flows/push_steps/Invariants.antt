use Rattle.std.proofs.Common.{◌≡◌, ◌++◌, drop, string_bytes}
use Rattle.std.specs.List.{flat_map}
use Rattle.share_text.specs.Flows.{step_to}
use Rattle.share_text.proofs.flows.push_steps.Given as goal

-- what is written, and what the rest gives, is the whole
abbrev pub invariant-loop-place : goal.invariant-loop-place
invariant-loop-place l =
    string_bytes l.text ++ flat_map (step_to l.tenants) (drop l.place-index l.between) ≡ string_bytes l.initial.text ++ flat_map (step_to l.tenants) l.between
