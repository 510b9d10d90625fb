-- Statement: contracts of public calls use it.
-- The names of users: TYPE.ID, as in Ceph User Management. The types and the limit are this project's profile.
use Rattle.std.specs.Prelude.{ℕ, List, Bool, ◌&&◌, ◌||◌, nat_le, length, take, drop, codes}
use Rattle.std.specs.List.{list_all}
use Rattle.std.specs.Str.{bytes_eq}
use Rattle.common_types.specs.WordBytes.{is_word_byte}

-- 1 to 64 word bytes
abbrev pub is_id : List ℕ → Bool
is_id id = nat_le 1 (length id) && (nat_le (length id) 64 && list_all is_word_byte id)

-- the type with its dot, and an ID behind it
abbrev pub is_of_type : List ℕ → List ℕ → Bool
is_of_type name type = bytes_eq (take (length type) name) type && is_id (drop (length type) name)

abbrev pub is_user_name : List ℕ → Bool
is_user_name name =
    is_of_type name (codes "client.")
    || (is_of_type name (codes "osd.")
    || (is_of_type name (codes "mon.")
    || (is_of_type name (codes "mgr.")
    || is_of_type name (codes "mds."))))
