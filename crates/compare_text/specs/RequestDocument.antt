-- Statement: contracts of public calls use it.
-- Requests as JSON objects (this project's profile): their parts, and `command`, the words of a shell that `osdgate verdict` takes. The
-- members are in the order of their names.
use Rattle.std.specs.Prelude.{ℕ, List, Option, None, Some, codes, map}
use Rattle.serde_json.specs.Data.{Data, array, boolean, null, object, string, member, no_members}
use Rattle.serde_json.specs.View.{items_of}
use Rattle.common_types.specs.declared.tags.AppTags.{AppTags}
use Rattle.network_core.specs.Address.{address_text}
use Rattle.network_core.specs.declared.address.Address.{Address}
use Rattle.request_types.specs.Target.{Target}
use Rattle.request_types.specs.declared.request.ClassCall.{ClassCall}
use Rattle.request_types.specs.declared.request.Needs.{Needs}
use Rattle.compare_text.specs.Request.{addressed_words, target_words}
use Rattle.compare_text.specs.declared.widening.AddressedExample.{AddressedExample}

abbrev pub key_document : List ℕ × List ℕ → Data
key_document pair = object (member (codes "key") (string pair.0) (member (codes "value") (string pair.1) no_members))

-- an application of a pool, and its pairs
abbrev pub tag_document : AppTags → Data
tag_document app =
    object (member (codes "application") (string app.application) (member (codes "pairs") (array (items_of (map key_document app.pairs))) no_members))

-- a call of a class's method: what the class registry says of it, and whether its class is on the default list
abbrev pub call_document : ClassCall → Data
call_document call =
    object
    (member (codes "class") (string call.class) (member (codes "listed") (boolean call.listed) (member (codes "method") (string call.method)
    (member (codes "read") (boolean call.class_reads) (member (codes "write") (boolean call.class_writes) no_members)))))

-- where a request goes
abbrev pub target_document : Target → Data
target_document target =
    object
    (member (codes "namespace") (string target.namespace) (member (codes "object") (string target.object)
    (member (codes "pool") (string target.pool) (member (codes "tags") (array (items_of (map tag_document target.tags))) no_members))))

-- what a request asks for
abbrev pub needs_document : Needs → Data
needs_document needs =
    object
    (member (codes "calls") (array (items_of (map call_document needs.calls))) (member (codes "read") (boolean needs.reads) (member (codes "write") (boolean needs.writes) no_members)))

-- a target of which it does not matter what is asked for
abbrev pub target_example : Target → Data
target_example target = object (member (codes "command") (string (target_words target)) (member (codes "target") (target_document target) no_members))

-- an address, or null
abbrev pub from_document : Option Address → Data
from_document None = null
from_document (Some address) = string (address_text address)

-- a request, and where it comes from
abbrev pub addressed_document : AddressedExample → Data
addressed_document found =
    object
    (member (codes "command") (string (addressed_words found)) (member (codes "from") (from_document found.from)
    (member (codes "needs") (needs_document found.example.needs) (member (codes "target") (target_document found.example.target) no_members))))
