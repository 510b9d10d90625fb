-- Refinement: only contracts inside the crate use it.
-- What `osdgate check` prints of rules, and whether it fails (this project's profile).
use Rattle.std.specs.Prelude.{ℕ, ◌≡◌, List, Bool, map, Option, string_bytes}
use Rattle.std.specs.List.{list_any}
use Rattle.share_core.specs.declared.pools.Pool.{Pool}
use Rattle.verdict_text.specs.declared.entity.ReadEntity.{ReadEntity}
use Rattle.verdict_text.specs.declared.printed.Printed.{Printed}
use Rattle.rules_text.specs.Checked.{AreChecked, fails, subject_of}
use Rattle.rules_text.specs.Json as json
use Rattle.rules_text.specs.Junit as junit
use Rattle.rules_text.specs.Report.{report}
use Rattle.rules_text.specs.declared.checked.CheckedRule.{CheckedRule}
use Rattle.rules_text.specs.declared.file.RuleLine.{RuleLine}
use Rattle.check_commands.specs.declared.arguments.CheckArguments.{CheckArguments}
use Rattle.check_commands.specs.declared.arguments.CheckFormat.{CheckFormat}
use Rattle.check_commands.specs.declared.arguments.CheckFormat.TheVariants.{Text, Json, Junit}

-- in the form that is asked for
abbrev pub rendered_as : CheckFormat → CheckArguments → List ReadEntity → List CheckedRule → List ℕ
rendered_as Text arguments entities all = report entities arguments.quiet all
rendered_as Json arguments entities all = json.document entities all
rendered_as Junit arguments entities all = junit.document arguments.by entities all

abbrev pub rendered : CheckArguments → List ReadEntity → List CheckedRule → List ℕ
rendered arguments entities all = rendered_as arguments.format arguments entities all

-- each rule is checked over the entities; that is printed, and it fails where a rule does not hold or names nobody
abbrev pub AreJudged : CheckArguments → Option (List Pool) → List RuleLine → List ReadEntity → Printed → Type 0
AreJudged arguments pools rules entities printed =
    (all : List CheckedRule) × AreChecked pools (map subject_of entities) rules all × (string_bytes printed.text ≡ rendered arguments entities all) × (printed.fails ≡ list_any fails all)
