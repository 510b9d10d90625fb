-- Statement: contracts of public calls use it.
-- Calls as the words of a shell that `osdgate verdict` takes (this project's profile).
use Rattle.std.specs.Prelude.{ℕ, Bool, true, false, List, ◌++◌, ◌==◌, ◌&&◌, not, length, codes, if◌then◌else◌}
use Rattle.std.specs.List.{list_all, list_any}
use Rattle.std.specs.Option.{option_map_or}
use Rattle.cap_text.specs.Printed as cap
use Rattle.common_types.specs.WordBytes.{is_word_byte}
use Rattle.object_core.specs.Needs.{method_of, registered}
use Rattle.request_types.specs.declared.request.ClassCall.{ClassCall}
use Rattle.compare_text.specs.Words.{flag_words, quoted, shell_word}

abbrev pub agree : Bool → Bool → Bool
agree true b = b
agree false b = not b

-- two calls read, write and are listed alike
abbrev pub are_alike : ClassCall → ClassCall → Bool
are_alike a b = agree a.class_reads b.class_reads && agree a.class_writes b.class_writes && agree a.listed b.listed

-- the class registry has the call's method, and says of it what the call does
abbrev pub is_known : ClassCall → Bool
is_known call = option_map_or (λ method. are_alike (registered call.class call.method method) call) (method_of call.class call.method) false

abbrev pub known_words : ClassCall → List ℕ
known_words call = codes " " ++ (shell_word call.class ++ (codes "." ++ shell_word call.method))

-- a class is written without quotes if it is not empty and has only word bytes other than the full stop
abbrev pub is_bare : List ℕ → Bool
is_bare class = not (length class == 0) && list_all is_word_byte class && not (list_any (λ byte. byte == 46) class)

-- a class between quotes as in a capability text, and all that between a shell's
abbrev pub quoted_class : List ℕ → List ℕ
quoted_class class = quoted (cap.quoted class)

abbrev pub class_words : List ℕ → List ℕ
class_words class = if is_bare class then class else quoted_class class

-- r, w or both, and whether the class is on the default list
abbrev pub kind_words : ClassCall → List ℕ
kind_words call = codes ":" ++ (flag_words call.class_reads (codes "r") ++ (flag_words call.class_writes (codes "w") ++ flag_words call.listed (codes ":listed")))

-- the option that says what a method does
abbrev pub stated_words : ClassCall → List ℕ
stated_words call = codes " --call " ++ (class_words call.class ++ (codes "." ++ (shell_word call.method ++ kind_words call)))

-- by its names where the class registry has it so, and else by that option
abbrev pub call_words : ClassCall → List ℕ
call_words call = if is_known call then known_words call else stated_words call
