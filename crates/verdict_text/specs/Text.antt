-- Statement: contracts of public calls use it.
-- The texts that the program prints (this project's profile). Every line ends with byte 10.
use Rattle.std.specs.Prelude.{ℕ, List, ◌++◌, codes, Result, Ok, Err}
use Rattle.object_core.specs.Faults as vectors
use Rattle.network_core.specs.Address.{address_text}
use Rattle.request_types.specs.Text.{report_text}
use Rattle.verdict_text.specs.Reading as reading
use Rattle.verdict_text.specs.declared.verdict.Verdict.{Verdict}
use Rattle.verdict_text.specs.declared.verdict.Verdict.TheVariants.{Allowed, Denied, Depends}
use Rattle.verdict_text.specs.declared.verdict.VerdictFault.{VerdictFault}
use Rattle.verdict_text.specs.declared.verdict.VerdictFault.TheVariants.{Text, Calls}

-- allow, or deny with a line for each grant, or an address of each kind
abbrev pub verdict_text : Verdict → List ℕ
verdict_text Allowed = codes "allow\n"
verdict_text (Denied report) = codes "deny\n" ++ report_text report
verdict_text (Depends allowed denied) = codes "depends\nallow --from " ++ (address_text allowed ++ (codes "\ndeny --from " ++ (address_text denied ++ codes "\n")))

-- the word alone
abbrev pub verdict_word : Verdict → List ℕ
verdict_word Allowed = codes "allow"
verdict_word (Denied report) = codes "deny"
verdict_word (Depends allowed denied) = codes "depends"

-- the fault's own printed form
abbrev pub fault_text : VerdictFault → List ℕ
fault_text (Text fault) = reading.fault_text fault
fault_text (Calls fault) = vectors.text_of fault

-- the line of a refusal
abbrev pub refused_text : List ℕ → List ℕ
refused_text fault = codes "refused " ++ (fault ++ codes "\n")

-- the whole text of an answer
abbrev pub answer_text : Result Verdict VerdictFault → List ℕ
answer_text (Ok verdict) = verdict_text verdict
answer_text (Err fault) = refused_text (fault_text fault)
