-- Statement: contracts of public calls use it.
-- The member that says by whose rules a document holds (this project's profile).
use Rattle.std.specs.Prelude.{ℕ, List, [], ◌∷◌, ◌++◌, ◌==◌, codes, if◌then◌else◌}
use Rattle.verdict_text.specs.declared.reading.Rules.{Rules}
use Rattle.verdict_text.specs.declared.reading.Rules.TheVariants.{Project, Ceph}

abbrev pub rules_word : Rules → List ℕ
rules_word Project = codes "project"
rules_word Ceph = codes "ceph"

-- a line without the brace that begins it
abbrev pub without_brace : List ℕ → List ℕ
without_brace [] = []
without_brace (byte ∷ bytes) = if byte == 123 then bytes else byte ∷ bytes

-- the line of the document with one member more, the first
abbrev pub with_rules : Rules → List ℕ → List ℕ
with_rules rules line = codes "{\"rules\":\"" ++ (rules_word rules ++ (codes "\"," ++ without_brace line))
