-- Statement: contracts of public calls use it.
-- What a vector of operations asks for, and when it is refused. Source: Ceph User Management's r, w and
-- x for reads, writes and class methods; the class registry is this project's profile.
use Rattle.std.specs.Prelude.{◌≡◌, ℕ, List, [], ◌∷◌, Bool, true, false, ◌&&◌, ◌==◌, if◌then◌else◌, Option, None, Some, is_none, length, nat_lt, codes}
use Rattle.std.specs.Option.{option_map}
use Rattle.std.specs.List.{list_any, filter_map}
use Rattle.std.specs.Str.{bytes_eq}
use Rattle.request_types.specs.declared.request.Needs.{Needs}
use Rattle.request_types.specs.declared.request.ClassCall.{ClassCall}
use Rattle.object_core.specs.declared.class.Method.{Method}
use Rattle.object_core.specs.declared.class.Method.TheVariants.{CounterGet, CounterAdd, VaultPeek}
use Rattle.object_core.specs.declared.op.Op.{Op}
use Rattle.object_core.specs.declared.op.Op.TheVariants.{Read, Stat, Write, WriteFull, Append, Truncate, Remove, Create, GetAttribute, SetAttribute, RemoveAttribute, Call}
use Rattle.object_core.specs.declared.needs.NeedsFault.{NeedsFault}
use Rattle.object_core.specs.declared.needs.NeedsFault.TheVariants.{EmptyVector, TooManyOps, NoMethod}

-- the class registry: counter with get and add, vault with peek
abbrev pub method_of : List ℕ → List ℕ → Option Method
method_of class method =
    if bytes_eq class (codes "counter") && bytes_eq method (codes "get") then Some CounterGet
    else if bytes_eq class (codes "counter") && bytes_eq method (codes "add") then Some CounterAdd
    else if bytes_eq class (codes "vault") && bytes_eq method (codes "peek") then Some VaultPeek
    else None

-- what the registry says of a method: get and peek read, add reads and writes, and only counter is listed
abbrev pub registered : List ℕ → List ℕ → Method → ClassCall
registered class method CounterGet = record { class = class; method = method; class_reads = true; class_writes = false; listed = true }
registered class method CounterAdd = record { class = class; method = method; class_reads = true; class_writes = true; listed = true }
registered class method VaultPeek = record { class = class; method = method; class_reads = true; class_writes = false; listed = false }

-- the class registry has the method, and says this of it
abbrev pub IsRegistered : ClassCall → Type 0
IsRegistered call = option_map (registered call.class call.method) (method_of call.class call.method) ≡ Some call

-- the calls of all methods of the registry
abbrev pub registry : List ClassCall
registry =
    registered (codes "counter") (codes "get") CounterGet
    ∷ registered (codes "counter") (codes "add") CounterAdd
    ∷ registered (codes "vault") (codes "peek") VaultPeek
    ∷ []

-- whether an operation has the need read
abbrev pub is_read : Op → Bool
is_read (Read offset count) = true
is_read Stat = true
is_read (GetAttribute name) = true
is_read _ = false

-- whether an operation has the need write
abbrev pub is_write : Op → Bool
is_write (Write offset bytes) = true
is_write (WriteFull bytes) = true
is_write (Append bytes) = true
is_write (Truncate size) = true
is_write Remove = true
is_write (Create exclusive) = true
is_write (SetAttribute name value) = true
is_write (RemoveAttribute name) = true
is_write _ = false

-- the call that an operation is, where its method is known
abbrev pub call_of : Op → Option ClassCall
call_of (Call class method input) = option_map (registered class method) (method_of class method)
call_of _ = None

-- whether an operation is a call of a method that the registry has not
abbrev pub is_unknown : Op → Bool
is_unknown (Call class method input) = is_none (method_of class method)
is_unknown _ = false

-- what a vector asks for: some operation reads, some writes, and the calls in order
abbrev pub needs_of : List Op → Needs
needs_of ops = record { reads = list_any is_read ops; writes = list_any is_write ops; calls = filter_map call_of ops }

-- why a vector is refused, in the order in which the conditions are looked at
abbrev pub needs_fault : List Op → Option NeedsFault
needs_fault ops =
    if length ops == 0 then Some EmptyVector
    else if nat_lt 16 (length ops) then Some TooManyOps
    else if list_any is_unknown ops then Some NoMethod
    else None

-- whether a method only looks at its object; an unknown one does nothing
abbrev pub is_look : Option Method → Bool
is_look None = true
is_look (Some CounterGet) = true
is_look (Some CounterAdd) = false
is_look (Some VaultPeek) = true

-- whether an operation only looks at the object
abbrev pub only_looks : Op → Bool
only_looks (Call class method input) = is_look (method_of class method)
only_looks (Read offset count) = true
only_looks Stat = true
only_looks (GetAttribute name) = true
only_looks _ = false
