-- Statement: contracts of public calls use it.
-- What a table says of a method, and which classes are listed.
-- Source: measured on Ceph 16.2.15.
use Rattle.std.specs.Prelude.{ℕ, List, [], ◌∷◌, Bool, false, ◌&&◌, ◌||◌, Option, None, Some, if◌then◌else◌}
use Rattle.std.specs.Str.{bytes_eq}
use Rattle.class_table.specs.declared.flags.ClassMethod.{ClassMethod}
use Rattle.class_table.specs.declared.flags.MethodFlags.{MethodFlags}

-- whether an entry is of this class and method
abbrev pub is_method : List ℕ → List ℕ → ClassMethod → Bool
is_method class method entry = bytes_eq entry.0.now class && bytes_eq entry.1.now method

-- the flags of the first entry with these names
abbrev pub flags_in : List ClassMethod → List ℕ → List ℕ → Option MethodFlags
flags_in [] class method = None
flags_in (entry ∷ entries) class method = if is_method class method entry then Some entry.2 else flags_in entries class method

-- whether a class is among the names
abbrev pub is_listed : List ℕ → List (List ℕ) → Bool
is_listed class [] = false
is_listed class (name ∷ names) = bytes_eq name class || is_listed class names
