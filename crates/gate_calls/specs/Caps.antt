-- Statement: contracts of public calls use it.
-- What a handle holds. Source: this project's profile.
use Rattle.std.specs.Prelude.{ℕ, List}
use Rattle.rights_core.specs.Rights.{Rights}

-- A capability text that was read. By this project's rules `text` is its canonical form, by Ceph's it is the text itself.
pub record Caps : Type 0 where
  pub text : List ℕ
  pub rights : Rights
