-- Statement: contracts of public calls use it.
-- Requests as the words of a shell that `osdgate verdict` takes (this project's profile; quotes as POSIX shells read them).
use Rattle.std.specs.Prelude.{ℕ, List, [], ◌∷◌, ◌++◌, ◌==◌, ◌&&◌, not, Option, None, Some, codes, if◌then◌else◌, length}
use Rattle.std.specs.List.{flat_map, list_all}
use Rattle.common_types.specs.WordBytes.{is_word_byte}
use Rattle.common_types.specs.declared.tags.AppTags.{AppTags}
use Rattle.grant_core.specs.Text.{printed_path}
use Rattle.request_types.specs.declared.request.Needs.{Needs}
use Rattle.request_types.specs.Target.{Target}
use Rattle.compare_core.specs.declared.comparing.Example.{Example}
use Rattle.network_core.specs.Address.{address_text}
use Rattle.network_core.specs.declared.address.Address.{Address}
use Rattle.compare_text.specs.Calls.{call_words, quoted_class}
use Rattle.compare_text.specs.Words.{flag_words, shell_word}
use Rattle.compare_text.specs.declared.widening.AddressedExample.{AddressedExample}

-- A name of a tag. Where it is empty or has a byte that words lack, it is between quotes as in a capability text, and all that
-- between a shell's. So `:` and `=` inside of it end no part of the option.
abbrev pub tag_part : List ℕ → List ℕ
tag_part name = if not (length name == 0) && list_all is_word_byte name then name else quoted_class name

-- the option of a pair of an application
abbrev pub pair_words : List ℕ → List ℕ × List ℕ → List ℕ
pair_words application pair =
    (codes " --tag " ++ tag_part application) ++ ((codes ":" ++ tag_part pair.0) ++ (codes "=" ++ tag_part pair.1))

-- an option takes one pair, so each has its own; an application without pairs has one too
abbrev pub tag_words : AppTags → List ℕ
tag_words app =
    if length app.pairs == 0 then codes " --tag " ++ tag_part app.application else flat_map (pair_words app.application) app.pairs

-- none for the empty namespace, which is the one where none is given
abbrev pub namespace_words : List ℕ → List ℕ
namespace_words [] = []
namespace_words (b ∷ bs) = codes " --namespace " ++ shell_word (b ∷ bs)

abbrev pub target_words : Target → List ℕ
target_words target =
    codes "--pool " ++ (shell_word target.pool ++ (namespace_words target.namespace ++ (codes " --object " ++ (shell_word target.object ++ flat_map tag_words target.tags))))

abbrev pub needs_words : Needs → List ℕ
needs_words needs = flag_words needs.reads (codes " --read") ++ (flag_words needs.writes (codes " --write") ++ flat_map call_words needs.calls)

-- the option of an address, if there is one
abbrev pub from_words : Option Address → List ℕ
from_words None = []
from_words (Some address) = codes " --from " ++ address_text address

-- where the request goes and what it asks for
abbrev pub request_words : Example → List ℕ
request_words example = target_words example.target ++ needs_words example.needs

-- and where it comes from
abbrev pub addressed_words : AddressedExample → List ℕ
addressed_words found = request_words found.example ++ from_words found.from

-- a sign, the grant's path, and the request
abbrev pub example_line : List ℕ → AddressedExample → List ℕ
example_line sign found = sign ++ (printed_path found.example.path ++ (codes " " ++ (addressed_words found ++ codes "\n")))

-- the examples of what only the new grants allow, and of what only the old ones did
abbrev pub example_lines : List AddressedExample → List AddressedExample → List ℕ
example_lines gained lost = flat_map (example_line (codes "+ ")) gained ++ flat_map (example_line (codes "- ")) lost

-- with two blanks before each
abbrev pub indented_lines : List AddressedExample → List AddressedExample → List ℕ
indented_lines gained lost = flat_map (example_line (codes "  + ")) gained ++ flat_map (example_line (codes "  - ")) lost
