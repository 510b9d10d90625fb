-- Statement: contracts of public calls use it.
-- Laws of objects.
use Rattle.std.specs.Prelude.{◌≡◌, ℕ, List, Option, Some, Ok, Err}
use Rattle.object_core.specs.Content.{Content, AreAttributes}
use Rattle.object_core.specs.Effect.{effect_of}
use Rattle.object_core.specs.declared.op.Op.TheVariants.{GetAttribute, RemoveAttribute}

-- after rmxattr of a name, getxattr of that name fails with ENODATA
abbrev pub RemovedIsGone : Type 0
RemovedIsGone = (object : Content) (name output : List ℕ) (left : Option Content) → AreAttributes object.attributes
    → effect_of (Some object) (RemoveAttribute name) ≡ Ok (output, left) → effect_of left (GetAttribute name) ≡ Err 61
