-- Statement: contracts of public calls use it.
-- What single operations do to an object, and what a run of them leaves. Source: Ceph's object operations and
-- the numbers of its errors; limits are this project's profile.
use Rattle.std.specs.Prelude.{ℕ, List, Bool, ◌==◌, ◌||◌, if◌then◌else◌, Option, None, Some, is_none, not, Result, Ok, Err, length, nat_lt}
use Rattle.object_core.specs.Content.{Content, empty, bytes_of, attributes_of, place_of, has_room, with_attribute, without_attribute}

-- the output of what only looks, or the number of its fault
abbrev pub Answer : Type 0
Answer = Result (List ℕ) ℕ

-- the object after a change without an output, or the number of its fault
abbrev pub Changed : Type 0
Changed = Result (Option Content) ℕ

-- ENOENT where the object is missing
abbrev pub found : {T : Type 0} → Option Content → (Content → Result T ℕ) → Result T ℕ
found None next = Err 2
found (Some o) next = next o

-- EFBIG where the bytes would be over the limit; the attributes stay, and a missing object is made
abbrev pub put : Option Content → List ℕ → Changed
put object bytes = if nat_lt 65536 (length bytes) then Err 27 else Ok (Some (record { bytes = bytes; attributes = attributes_of object }))

-- ENODATA where there is no such attribute
abbrev pub or_no_data : Option (List ℕ) → Answer
or_no_data None = Err 61
or_no_data (Some value) = Ok value

-- EINVAL where the bytes are no number
abbrev pub or_invalid : List ℕ → Option ℕ → Answer
or_invalid bytes None = Err 22
or_invalid bytes (Some number) = Ok bytes

-- EEXIST where it is there and exclusive was asked
abbrev pub created : Option Content → Bool → Changed
created None exclusive = Ok (Some empty)
created (Some o) exclusive = if exclusive then Err 17 else Ok (Some o)

-- EINVAL for the empty name; ERANGE for a long name, a long value, or one attribute too many
abbrev pub attribute_set : Option Content → List ℕ → List ℕ → Changed
attribute_set object name value =
    if length name == 0 then Err 22
    else if nat_lt 64 (length name) || nat_lt 1024 (length value) || not (has_room name (attributes_of object)) then Err 34
    else Ok (Some (record { bytes = bytes_of object; attributes = with_attribute name value (attributes_of object) }))

abbrev pub attribute_removed : Content → List ℕ → Changed
attribute_removed o name = if is_none (place_of name o.attributes) then Err 61 else Ok (Some (record { bytes = o.bytes; attributes = without_attribute name o.attributes }))

-- outputs and the object after them, or the place and the number of the first fault
abbrev pub Run : Type 0
Run = Result (List (List ℕ) × Option Content) (ℕ × ℕ)

-- the object after a run of one: a failure leaves it as it was
abbrev pub left_by : Option Content → Run → Option Content
left_by object (Ok done) = done.1
left_by object (Err fault) = object
