-- Statement: contracts of public calls use it.
-- The printed texts: this project's profile.
use Rattle.std.specs.Prelude.{ℕ, List, ◌++◌, codes, decimal, flat_map}
use Rattle.grant_core.specs.Text.{printed_path}
use Rattle.request_types.specs.declared.request.Condition.{Condition}
use Rattle.request_types.specs.declared.request.Condition.TheVariants.{Expired, Network, Pool, Namespace, Tag, Prefix, Read, Write, Call}

-- a condition's word, and the number of the call
abbrev pub condition_text : Condition → List ℕ
condition_text Expired = codes "expired"
condition_text Network = codes "network"
condition_text Pool = codes "pool"
condition_text Namespace = codes "namespace"
condition_text Tag = codes "tag"
condition_text Prefix = codes "prefix"
condition_text Read = codes "read"
condition_text Write = codes "write"
condition_text (Call number) = codes "call " ++ decimal number

-- a grant's path and the condition that the request fails
abbrev pub report_line : List ℕ × Condition → List ℕ
report_line line = printed_path line.0 ++ (codes " " ++ (condition_text line.1 ++ codes "\n"))

-- a line for each grant
abbrev pub report_text : List (List ℕ × Condition) → List ℕ
report_text lines = flat_map report_line lines
