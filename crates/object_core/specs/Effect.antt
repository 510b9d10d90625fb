-- Statement: contracts of public calls use it.
-- What operations do to an object, one after another. Source: Ceph's object operations and the numbers of its
-- errors; classes and limits are this project's profile.
use Rattle.std.specs.Prelude.{ℕ, ◌+◌, ◌^◌, List, [], ◌∷◌, ◌++◌, if◌then◌else◌, Option, None, Some, Result, Ok, Err, length, nat_lt, codes}
use Rattle.std.specs.Fmt.{decimal}
use Rattle.object_core.specs.Bytes.{part_of, resized, overwritten}
use Rattle.object_core.specs.Content.{Content, bytes_of, attributes_of, value_of}
use Rattle.object_core.specs.Number.{number_of}
use Rattle.object_core.specs.Operations.{Answer, Changed, Run, found, put, or_no_data, or_invalid, created, attribute_set, attribute_removed}
use Rattle.object_core.specs.declared.op.Op.{Op}
use Rattle.object_core.specs.declared.op.Op.TheVariants.{Read, Stat, Write, WriteFull, Append, Truncate, Remove, Create, GetAttribute, SetAttribute, RemoveAttribute, Call}
use Rattle.object_core.specs.Needs.{method_of}
use Rattle.object_core.specs.declared.class.Method.{Method}
use Rattle.object_core.specs.declared.class.Method.TheVariants.{CounterGet, CounterAdd, VaultPeek}

-- an output and the object after it, or the number of the fault
abbrev pub Effect : Type 0
Effect = Result (List ℕ × Option Content) ℕ

-- the number that a counter shows: a missing one counts as 0
abbrev pub count_of : Option Content → Option ℕ
count_of None = Some 0
count_of (Some o) = number_of o.bytes

-- EINVAL where a number is missing, ERANGE where the sum is over 64 bits; the sum is the output and the new bytes
abbrev pub added : Option Content → Option ℕ → Option ℕ → Effect
added object None more = Err 22
added object (Some count) None = Err 22
added object (Some count) (Some more) =
    if nat_lt (count + more) (2 ^ 64) then Ok (decimal (count + more), Some (record { bytes = decimal (count + more); attributes = attributes_of object }))
    else Err 34

-- what only looks leaves the object as it is
abbrev pub looks : Option Content → Answer → Effect
looks object (Ok output) = Ok (output, object)
looks object (Err number) = Err number

-- what only changes has the empty output
abbrev pub changes : Changed → Effect
changes (Ok object) = Ok ([], object)
changes (Err number) = Err number

-- the methods of classes; EOPNOTSUPP for an unknown one
abbrev pub effect_of_method : Option Method → Option Content → List ℕ → Effect
effect_of_method None object input = Err 95
effect_of_method (Some CounterGet) object input = looks object (found object (λ o. or_invalid o.bytes (number_of o.bytes)))
effect_of_method (Some CounterAdd) object input = added object (count_of object) (number_of input)
effect_of_method (Some VaultPeek) object input = looks object (found object (λ o. or_no_data (value_of (codes "secret") o.attributes)))

-- one operation
abbrev pub effect_of : Option Content → Op → Effect
effect_of object (Read offset count) = looks object (found object (λ o. Ok (part_of o.bytes offset count)))
effect_of object Stat = looks object (found object (λ o. Ok (decimal (length o.bytes))))
effect_of object (Write offset bytes) = changes (put object (overwritten (bytes_of object) offset bytes))
effect_of object (WriteFull bytes) = changes (put object bytes)
effect_of object (Append bytes) = changes (put object (bytes_of object ++ bytes))
effect_of object (Truncate size) = changes (found object (λ o. put object (resized size o.bytes)))
effect_of object Remove = changes (found object (λ o. Ok None))
effect_of object (Create exclusive) = changes (created object exclusive)
effect_of object (GetAttribute name) = looks object (found object (λ o. or_no_data (value_of name o.attributes)))
effect_of object (SetAttribute name value) = changes (attribute_set object name value)
effect_of object (RemoveAttribute name) = changes (found object (λ o. attribute_removed o name))
effect_of object (Call class method input) = effect_of_method (method_of class method) object input

abbrev pub with_output : List ℕ → Run → Run
with_output output (Err fault) = Err fault
with_output output (Ok rest) = Ok (output ∷ rest.0, rest.1)

abbrev pub go_on : ℕ → Effect → (Option Content → Run) → Run
go_on place (Err number) rest = Err (place, number)
go_on place (Ok step) rest = with_output step.0 (rest step.1)

-- operations from left to right, the first at this place, each on what the ones before it left
abbrev pub run_from : ℕ → Option Content → List Op → Run
run_from place object [] = Ok ([], object)
run_from place object (op ∷ ops) = go_on place (effect_of object op) (λ next. run_from (place + 1) next ops)

-- what a vector of operations does
abbrev pub effect : Option Content → List Op → Run
effect object ops = run_from 1 object ops
