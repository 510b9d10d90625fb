-- Refinement: only contracts inside the crate use it.
-- How the stage that a text has reached is kept: what may come next, and a sheet.
use Rattle.std.specs.Prelude.{List, [], Result, Ok, Err}
use Rattle.cap_grants.specs.declared.fault_kind.FaultKind.{FaultKind}
use Rattle.cap_grants.specs.declared.grant.Grant.{Grant}
use Rattle.cap_text.specs.Stage.{Stage, State}
use Rattle.cap_text.specs.Stage as stages
use Rattle.cap_text.specs.declared.stage.Next.{Next}
use Rattle.cap_text.specs.declared.stage.Next.TheVariants as nexts
use Rattle.cap_text.specs.GrantBuilder.{Page}
use Rattle.cap_grants.specs.Gives.{Gives}

-- the stage with what was read
abbrev pub stage_at : Next → Page → Stage
stage_at nexts.Start p = stages.Start
stage_at nexts.Separator p = stages.Separator
stage_at nexts.Clauses p = stages.Clauses p.may p.draft
stage_at nexts.Letters p = stages.Letters p.flags p.may p.draft
stage_at nexts.ClassRead p = stages.ClassRead p.flags p.may p.draft
stage_at nexts.Method p = stages.Method p.word p.may p.draft
stage_at nexts.Assigned p = stages.Assigned p.slot p.may p.draft
stage_at nexts.Value p = stages.Value p.slot p.may p.draft
stage_at nexts.Namespace p = stages.Namespace p.may p.draft
stage_at nexts.NamespaceEquals p = stages.NamespaceEquals p.may p.draft
stage_at nexts.NamespaceWord p = stages.NamespaceWord p.word p.may p.draft
stage_at nexts.Key p = stages.Key p.word p.draft
stage_at nexts.KeyEquals p = stages.KeyEquals p.word p.key p.draft
stage_at nexts.KeyValue p = stages.KeyValue p.word p.key p.draft

abbrev pub put : Result Next FaultKind → Page → Result Stage FaultKind
put (Ok n) p = Ok (stage_at n p)
put (Err k) p = Err k

-- what the code gives, with the page that it leaves, is this, unless memory ran out
abbrev pub GivesAt : Result Next FaultKind → Page → Result Stage FaultKind → Type 0
GivesAt r p e = Gives (put r p) e

abbrev pub state_of : List Grant → Page → Next → State
state_of done p n = record { done = done; stage = stage_at n p }

abbrev pub nothing_read : State
nothing_read = record { done = []; stage = stages.Start }
