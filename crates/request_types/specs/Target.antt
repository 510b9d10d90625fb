-- Statement: contracts of public calls use it.
-- Where a request goes.
use Rattle.std.specs.Prelude.{ℕ, List}
use Rattle.common_types.specs.declared.tags.AppTags.{AppTags}

-- a pool with its application tags, a namespace, and an object's name, which a listing leaves empty
pub record Target : Type 0 where
  pub pool : List ℕ
  pub tags : List AppTags
  pub namespace : List ℕ
  pub object : List ℕ
