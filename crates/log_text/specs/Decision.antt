-- Statement: contracts of public calls use it.
-- A decision as Ceph 16.2.15 logs it (source: PG::op_has_sufficient_caps), behind its session.
use Rattle.std.specs.Prelude.{ℕ, List, ◌++◌, Bool, codes, flat_map, if◌then◌else◌}
use Rattle.common_types.specs.declared.tags.AppTags.{AppTags}
use Rattle.request_types.specs.declared.request.ClassCall.{ClassCall}
use Rattle.request_types.specs.declared.request.Needs.{Needs}
use Rattle.request_types.specs.Target.{Target}
use Rattle.verdict_text.specs.Documents.{without_comma}
use Rattle.log_text.specs.declared.decided.Decided.{Decided}

abbrev pub bit : Bool → List ℕ
bit set = if set then codes "1" else codes "0"

-- ---- lists, whose items have commas between them: each piece has a comma in front, and the first comma is left out

abbrev pub pair_piece : List ℕ × List ℕ → List ℕ
pair_piece pair = codes "," ++ (pair.0 ++ (codes "=" ++ pair.1))

abbrev pub app_piece : AppTags → List ℕ
app_piece app = codes "," ++ (app.application ++ (codes "={" ++ (without_comma (flat_map pair_piece app.pairs) ++ codes "}")))

abbrev pub tags_text : List AppTags → List ℕ
tags_text tags = codes "{" ++ (without_comma (flat_map app_piece tags) ++ codes "}")

abbrev pub marked : List ℕ → Bool → List ℕ
marked words set = words ++ bit set

abbrev pub call_bits : ClassCall → List ℕ
call_bits call = marked (codes " rd ") call.class_reads ++ (marked (codes " wr ") call.class_writes ++ marked (codes " allowed ") call.listed)

abbrev pub call_piece : ClassCall → List ℕ
call_piece call = codes ",class " ++ (call.class ++ (codes " method " ++ (call.method ++ call_bits call)))

abbrev pub classes_text : List ClassCall → List ℕ
classes_text calls = codes " classes=[" ++ (without_comma (flat_map call_piece calls) ++ codes "]")

abbrev pub needs_text : Needs → List ℕ
needs_text needs = marked (codes " need_read_cap=") needs.reads ++ (marked (codes " need_write_cap=") needs.writes ++ classes_text needs.calls)

abbrev pub number_text : List ℕ → List ℕ
number_text number = codes "pool=" ++ number

abbrev pub names_text : Target → List ℕ
names_text target = codes " (" ++ (target.pool ++ (codes " " ++ target.namespace))

abbrev pub tagged_text : List AppTags → List ℕ
tagged_text tags = codes ") pool_app_metadata=" ++ tags_text tags

abbrev pub place_text : List ℕ → Target → List ℕ
place_text number target = number_text number ++ (names_text target ++ tagged_text target.tags)

abbrev pub word : Bool → List ℕ
word allowed = if allowed then codes "yes" else codes "NO"

-- what is logged of a request in the pool of a number, and of what was decided
abbrev pub decision_text : List ℕ → Decided → List ℕ
decision_text number decided = place_text number decided.target ++ (needs_text decided.needs ++ (codes " -> " ++ word decided.allowed))
